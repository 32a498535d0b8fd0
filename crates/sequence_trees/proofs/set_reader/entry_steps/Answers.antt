use Rattle.sequence_trees.proofs.SetLemmas.{fault_entry}
use Rattle.sequence_trees.proofs.set_reader.entry_steps.Goals as goal

pub returns-in_ok-spot_of-in-Err-Syntax : goal.returns-in_ok-spot_of-in-Err-Syntax
returns-in_ok-spot_of-in-Err-Syntax c =
    let read = rw c.in-Err-Syntax.field-0-is at c.in-Err-Syntax.ensures in
    let faulty = rw c.as_steps.ensures at read in
    rw c.in_ok-spot_of-in-Err-Syntax.ensures (fault_entry c.args.entry.now c.in-Err-Syntax.faulty c.if-entry.false faulty)
