use Rattle.access_calls.specs.Reported.{world_from}
use Rattle.function_calls.specs.Held.{late_state_of}
use Rattle.function_calls.proofs.Leaves.{zero_on}
use Rattle.function_calls.proofs.asking.command_without_result.Goals as goal

pub returns : goal.returns
returns g c =
    let e = c.in_ok-command.ensures in
    record {
      gives = λ m answered written b l.
          zero_on g.A.Access.cost (world_from m answered) c.in_ok-command.field-0 _ (late_state_of c.command.new.held (g.A.Access.reported c.command.new.access).asks written) (e.gives m answered written b l);
      keeps = e.keeps;
      ends = record { end = e.ends.end; counted = e.ends.counted; cause = tt };
    }
