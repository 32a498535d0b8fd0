use Rattle.std.proofs.lemmas.Result.{on_ok_weaker}
use Rattle.set_faults.proofs.TextLemmas.{added_off, added_on}
use Rattle.set_faults.proofs.texts.add_entry.Goals as goal

pub returns-then-entry : goal.returns-then-entry
returns-then-entry c = added_off c.args.entry.now c.args.found.now c.if-entry.true

pub returns : goal.returns
returns c = on_ok_weaker c.add_steps.result (added_on c.args.entry.now c.args.found.now c.add_steps.new.found c.if-entry.false) (rw (c.as_str.ensures, c.as_steps.ensures) at c.add_steps.ensures)
