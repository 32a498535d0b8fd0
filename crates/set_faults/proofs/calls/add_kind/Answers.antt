use Rattle.std.proofs.lemmas.Result.{on_ok_weaker}
use Rattle.code_check.proofs.TreeLemmas.{arg_tree-Number, arg_tree-Text}
use Rattle.set_faults.proofs.AddLemmas.{adds_so}
use Rattle.set_faults.proofs.calls.add_kind.Goals as goal

pub returns-in-Number : goal.returns-in-Number
returns-in-Number c = rw (c.in-Number.is, arg_tree-Number c.in-Number.at c.in-Number.field-1) (on_ok_weaker c.add_if.result (adds_so c.takes_text.result c.takes_text.ensures) c.add_if.ensures)

pub returns-in-Text : goal.returns-in-Text
returns-in-Text c =
    rw (c.in-Text.is, arg_tree-Text c.in-Text.text, ← c.deref.ensures) (on_ok_weaker c.add_if-in-Text.result (adds_so c.takes_number.result c.takes_number.ensures) c.add_if-in-Text.ensures)
