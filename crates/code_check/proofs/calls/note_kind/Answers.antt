use Rattle.code_check.proofs.TreeLemmas.{arg_tree-Number, arg_tree-Text}
use Rattle.code_check.proofs.calls.note_kind.Goals as goal

pub returns-in-Number : goal.returns-in-Number
returns-in-Number c = rw (c.in-Number.is, arg_tree-Number c.in-Number.at c.in-Number.field-1) c.note_text_expected.ensures

pub returns-in-Text : goal.returns-in-Text
returns-in-Text c = rw (c.in-Text.is, arg_tree-Text c.in-Text.text, ← c.deref.ensures) c.note_number_expected.ensures
