use Rattle.code_check.proofs.SomeFault.{expr_first}
use Rattle.code_check.proofs.laws.some_expr_fault.Goals as goal

pub returns : goal.returns
returns c = expr_first
