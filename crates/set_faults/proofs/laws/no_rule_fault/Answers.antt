use Rattle.set_faults.proofs.OneList.{none_is_empty}
use Rattle.set_faults.proofs.laws.no_rule_fault.Goals as goal

pub returns : goal.returns
returns c = λ set f h p. none_is_empty set h f p
