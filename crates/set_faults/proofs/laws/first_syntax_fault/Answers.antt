use Rattle.set_faults.proofs.SyntaxLaws.{first_is_head}
use Rattle.set_faults.proofs.laws.first_syntax_fault.Goals as goal

pub returns : goal.returns
returns c = first_is_head
