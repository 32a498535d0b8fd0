use Rattle.set_faults.proofs.OneList.{one_rule_list}
use Rattle.set_faults.proofs.laws.one_rule_list.Goals as goal

pub returns : goal.returns
returns c = one_rule_list
