use Rattle.std.proofs.Common.{rules}
use Rattle.access_calls.specs.Reported.{world_from}
use Rattle.function_calls.specs.Held.{state_with}
use Rattle.function_calls.proofs.Leaves.{ends_use, leaves}
use Rattle.function_calls.proofs.uses.use_value.Goals as goal

pub returns-in-Err : goal.returns-in-Err
returns-in-Err g c = record {
  gives = λ m answered globals locals units lines steps written b l.
      rw c.in-Pending.is (ends_use g.A.Access.cost (world_from m answered) c.in-Pending.slot (state_with globals locals units lines steps (g.A.Access.reported c.args.access.now).asks written) (g.A.Access.reported c.value.new.self) c.in-Err.stop _ c.from.ensures c.in-Err.ensures.ends.end c.in-Err.ensures.calls (c.in-Err.ensures.stops m answered b l c.requires.open));
  keeps = search (rules, leaves);
  ends = search (rules, leaves);
}
