use Rattle.set_faults.proofs.SyntaxLaws.{one_syntax_list}
use Rattle.set_faults.proofs.laws.one_syntax_list.Goals as goal

pub returns : goal.returns
returns c = one_syntax_list
