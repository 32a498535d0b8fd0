-- A write of ABORT after a fault, by what every command of the probe does.
use Rattle.std.proofs.Common.{◌≡◌, inl, inr, ℕ, ◌+◌, ◌^◌, ◌<◌, Bool, true, false, cond, ◌&&◌, Option, Result, Ok, Err, IfOk, IfErr, refl, sym, subst}
use Rattle.target_machine.specs.Attempt.{Attempt, attempt, done_attempt, is_free}
use Rattle.target_machine.specs.Plain.{Commands, action_attempt, forgives, given_number}
use Rattle.target_machine.specs.State.{TargetState}
use Rattle.target_machine.specs.declared.unit.ProbeCall.{ProbeCall}
use Rattle.probe_core.specs.Bench.{BenchState, StepsTo}
use Rattle.probe_core.specs.Probe.{target_of, work_of}
use Rattle.batch_packer.specs.declared.ends.FlightEnd.{FlightEnd}
use Rattle.batch_packer.specs.declared.ends.FlightEnd.TheVariants as ends
use Rattle.bench_flights.specs.Clearing.{CanClear, ClearedOff}
use Rattle.bench_flights.specs.Flown.{CanCommand, HasDoneWhole, LeftActionOff}
use Rattle.bench_flights.specs.Wires.{IsNoCut}
use Rattle.bench_flights.proofs.WireLemmas.{steps_map}

may_clear : (call : ProbeCall) (m : BenchState) → call ≡ forgives → CanClear m → CanCommand call m
may_clear call m same can = subst (λ (c : ProbeCall). CanCommand c m) (sym same) (inr (record { clears_it = refl; mask = can.mask; matches = can.matches; dpidr = can.dpidr; in_range = can.in_range }))

pub clear_dones : (x y : Option BenchState) (call : ProbeCall) (r : Result ℕ FlightEnd) → IfOk r (λ word. StepsTo (λ m o. CanCommand call m → HasDoneWhole (Commands call) word m o) x y) → call ≡ forgives
    → IfOk r (λ word. StepsTo (λ m o. CanClear m → work_of m.probe + 1 < 2 ^ 64 → HasDoneWhole (Commands call) word m o) x y)
clear_dones x y call (Ok word) h same = steps_map _ _ (λ m o f can counts. f (may_clear call m same can)) x y h
clear_dones x y call (Err end) h same = tt

none_either : (b : Bool) (x y : Attempt) → given_number y.outcome ≡ 0 → given_number (cond (b && false) x y).outcome ≡ 0
none_either true x y h = h
none_either false x y h = h

none_given : (t : TargetState) → given_number (action_attempt t (Commands forgives)).outcome ≡ 0
unfolding attempt is_free
none_given t = none_either t.sticky _ (done_attempt (record t { sticky = false })) refl

left_cleared : (call : ProbeCall) (m o : BenchState) → call ≡ forgives → LeftActionOff (Commands call) ends.BenchFault m o → ClearedOff ends.BenchFault m o
left_cleared call m o same h = by_left (subst (λ (c : ProbeCall). LeftActionOff (Commands c) ends.BenchFault m o) same h)
  where
    by_left : LeftActionOff (Commands forgives) ends.BenchFault m o → ClearedOff ends.BenchFault m o
    by_left (inl done) = inl (subst (λ (n : ℕ). HasDoneWhole (Commands forgives) n m o) (none_given (target_of m.probe)) done)
    by_left (inr less) = inr less

pub clear_lefts : (x y : Option BenchState) (call : ProbeCall) (r : Result ℕ FlightEnd) → IfErr r (λ end. StepsTo (λ m o. CanCommand call m → LeftActionOff (Commands call) end m o) x y) → IfErr r IsNoCut → call ≡ forgives
    → IfErr r (λ end. StepsTo (λ m o. CanClear m → work_of m.probe + 1 < 2 ^ 64 → ClearedOff end m o) x y)
clear_lefts x y call (Ok word) h none same = tt
clear_lefts x y call (Err (ends.Cut cut)) h none same = absurd none
clear_lefts x y call (Err ends.BenchFault) h none same = steps_map _ _ (λ m o f can counts. left_cleared call m o same (f (may_clear call m same can))) x y h
clear_lefts x y call (Err ends.ReplyBad) h none same = steps_map _ _ (λ m o f can counts. f (may_clear call m same can)) x y h
