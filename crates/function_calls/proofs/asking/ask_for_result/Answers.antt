use Rattle.access_calls.specs.Reported.{world_from}
use Rattle.function_calls.specs.Held.{late_state_of}
use Rattle.function_calls.proofs.Leaves.{write_on}
use Rattle.function_calls.proofs.asking.ask_for_result.Goals as goal

pub returns-else-read : goal.returns-else-read
returns-else-read g c =
    let e = c.in_ok-value.ensures in
    record {
      gives = λ m answered written b l.
          write_on g.A.Access.cost (world_from m answered) c.args.read c.in_ok-value.value _ (late_state_of c.ask.new.held (g.A.Access.reported c.ask.new.access).asks written) c.if-read.false (e.gives m answered written b l);
      keeps = e.keeps;
      ends = record { end = e.ends.end; counted = e.ends.counted; cause = tt };
    }
