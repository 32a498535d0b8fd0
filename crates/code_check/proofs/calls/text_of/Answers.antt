use Rattle.std.proofs.Common.{refl}
use Rattle.code_check.proofs.TreeLemmas.{arg_tree-Number, arg_tree-Text}
use Rattle.code_check.proofs.calls.text_of.Goals as goal

pub returns-in-Number : goal.returns-in-Number
returns-in-Number c = rw (c.in-Number.is, arg_tree-Number c.in-Number.field-0 c.in-Number.field-1) refl

pub returns-in-Text : goal.returns-in-Text
returns-in-Text c = rw (c.in-Text.is, arg_tree-Text c.in-Text.text, ← c.deref.ensures) refl
