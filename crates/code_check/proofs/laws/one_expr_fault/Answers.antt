use Rattle.code_check.proofs.OneFirst as lemmas
use Rattle.code_check.proofs.laws.one_expr_fault.Goals as goal

pub returns : goal.returns
returns c = lemmas.one_expr_fault
