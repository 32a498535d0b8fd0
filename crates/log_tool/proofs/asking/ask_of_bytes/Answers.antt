use Rattle.std.proofs.Common.{refl}
use Rattle.log_tool.specs.Asked.{run}
use Rattle.log_tool.proofs.AskLemmas.{refused_asks}
use Rattle.log_tool.proofs.asking.ask_of_bytes.Goals as goal

pub returns-in_ok-log_of-in-Ok : goal.returns-in_ok-log_of-in-Ok
returns-in_ok-log_of-in-Ok c =
    run c.in-Ok.valid c.in_ok-log_of-in-Ok.field-0 (rw c.as_str-sequence.ensures at c.in-Ok.ensures.found) c.in_ok-log_of-in-Ok.ensures refl

pub returns-in-Err : goal.returns-in-Err
returns-in-Err c =
    refused_asks c.args.bytes.now c.args.asked.now c.in-Err.refusal c.refused_by.result (rw c.as_str-sequence.ensures at c.in-Err.ensures.refused) c.refused_by.ensures
