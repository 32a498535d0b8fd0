use Rattle.code_check.proofs.NoteLemmas.{notes_first}
use Rattle.code_check.proofs.exprs.expr_fault.Goals as goal

pub returns : goal.returns
returns c = notes_first c.note_expr.ensures
