use Rattle.std.proofs.Common.{◌≡◌, true, nat_lt, refl, arith, rules}
use Rattle.access_calls.specs.Reported.{world_from}
use Rattle.function_calls.specs.Held.{late_state_of}
use Rattle.function_calls.proofs.Leaves.{counted_more, command_on, ends_command, leaves}
use Rattle.function_calls.proofs.asking.command.Goals as goal

pub returns-in-Ok : goal.returns-in-Ok
returns-in-Ok g c = record {
  gives = λ m answered written b l.
      let some : nat_lt c.args.held.now.units 1000000 ≡ true = grind arith in
      command_on g.A.Access.cost (world_from m answered) c.args.call (late_state_of c.args.held.now (g.A.Access.reported c.args.access.now).asks written) _ c.in-Ok.number some
      (c.in-Ok.ensures.value m answered b l) (c.in-Ok.ensures.needs m answered b l);
  keeps = search (rules, leaves);
  ends = record { end = c.in-Ok.ensures.ends.no_end; counted = counted_more _ _ _ _ c.requires.ready.counted c.in-Ok.ensures.calls; cause = tt };
}

pub returns-in-Err : goal.returns-in-Err
returns-in-Err g c = record {
  gives = λ m answered written b l.
      let some : nat_lt c.args.held.now.units 1000000 ≡ true = grind arith in
      ends_command g.A.Access.cost (world_from m answered) c.args.call (late_state_of c.args.held.now (g.A.Access.reported c.args.access.now).asks written) (g.A.Access.reported c.args.access.now) (g.A.Access.reported c.command.new.self) c.in-Err.stop _ c.from.ensures c.in-Err.ensures.ends.end refl some c.requires.ready.no_end
      c.in-Err.ensures.calls (c.in-Err.ensures.stops m answered b l c.requires.ready.no_end);
  keeps = search (rules, leaves);
  ends = search (rules, leaves);
}
