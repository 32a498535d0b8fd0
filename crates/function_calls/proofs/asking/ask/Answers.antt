use Rattle.std.proofs.Common.{◌≡◌, true, nat_lt, refl, arith, rules}
use Rattle.access_calls.specs.Reported.{world_from}
use Rattle.function_calls.specs.Held.{late_state_of}
use Rattle.function_calls.proofs.Leaves.{counted_more, ask_slot, ask_small, ends_ask, leaves}
use Rattle.function_calls.proofs.asking.ask.Goals as goal

pub returns-in-Ok-Slot : goal.returns-in-Ok-Slot
returns-in-Ok-Slot g c = record {
  gives = λ m answered written b l.
      let some : nat_lt c.args.held.now.units 1000000 ≡ true = grind arith in
      ask_slot g.A.Access.cost (world_from m answered) c.args.unit c.args.forgive (late_state_of c.args.held.now (g.A.Access.reported c.args.access.now).asks written) _ c.in-Ok-Slot.slot some
      (rw c.in-Ok-Slot.field-0-is at (c.in-Ok-Slot.ensures.small m answered b l)) (rw c.in-Ok-Slot.field-0-is at c.in-Ok-Slot.ensures.slot) (c.in-Ok-Slot.ensures.needs m answered b l);
  keeps = search (rules, leaves);
  ends = record { end = c.in-Ok-Slot.ensures.ends.no_end; counted = counted_more _ _ _ _ c.requires.ready.counted c.in-Ok-Slot.ensures.calls; cause = tt };
}

pub returns-in-Ok-Small : goal.returns-in-Ok-Small
returns-in-Ok-Small g c = record {
  gives = λ m answered written b l.
      let some : nat_lt c.args.held.now.units 1000000 ≡ true = grind arith in
      ask_small g.A.Access.cost (world_from m answered) c.args.unit c.args.forgive (late_state_of c.args.held.now (g.A.Access.reported c.args.access.now).asks written) _ some
      (rw c.in-Ok-Small.field-0-is at (c.in-Ok-Small.ensures.small m answered b l)) (c.in-Ok-Small.ensures.needs m answered b l);
  keeps = search (rules, leaves);
  ends = record { end = c.in-Ok-Small.ensures.ends.no_end; counted = counted_more _ _ _ _ c.requires.ready.counted c.in-Ok-Small.ensures.calls; cause = tt };
}

pub returns-in-Err : goal.returns-in-Err
returns-in-Err g c = record {
  gives = λ m answered written b l.
      let some : nat_lt c.args.held.now.units 1000000 ≡ true = grind arith in
      ends_ask g.A.Access.cost (world_from m answered) c.args.unit c.args.forgive (late_state_of c.args.held.now (g.A.Access.reported c.args.access.now).asks written) (g.A.Access.reported c.args.access.now) (g.A.Access.reported c.ask.new.self) c.in-Err.stop _ c.from.ensures c.in-Err.ensures.ends.end refl some c.requires.ready.no_end
      c.in-Err.ensures.calls (c.in-Err.ensures.stops m answered b l c.requires.ready.no_end);
  keeps = search (rules, leaves);
  ends = search (rules, leaves);
}
