use Rattle.code_check.proofs.NoteLemmas.{notes_two}
use Rattle.code_check.proofs.blocks.note_statement.Goals as goal

pub returns-in-Declare : goal.returns-in-Declare
returns-in-Declare c = rw c.in-Declare.is (rw c.deref.ensures at (notes_two c.note_redeclared.ensures c.note_expr.ensures))

pub returns-in-Plain : goal.returns-in-Plain
returns-in-Plain c = rw c.in-Plain.is (notes_two c.note_in_debugvars-in-Plain.ensures c.note_expr-in-Plain.ensures)
