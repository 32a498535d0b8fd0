-- How many starting packets the flights of a unit that is made alone are.
use Rattle.std.proofs.Common.{◌≡◌, ℕ, ◌+◌, ◌≤◌, List, Option, Some, None, Result, Ok, Err, IfOk, OnOk, subst, arith}
use Rattle.target_machine.specs.InRange.{IsInRange}
use Rattle.target_machine.specs.declared.access.RegAccess.{RegAccess}
use Rattle.probe_core.specs.Bench.{BenchState, StepsTo}
use Rattle.probe_core.specs.Probe.{target_of}
use Rattle.batch_packer.specs.Flying.{CanFly}
use Rattle.bench_flights.specs.Clearing.{CanClear}
use Rattle.bench_flights.specs.Flown.{HasCome, SendsFew}
use Rattle.bench_flights.proofs.PacketLemmas.{few_joined, few_most, few_then}
use Rattle.bench_flights.proofs.WireLemmas.{steps_map}
use Rattle.packed_access.specs.Sparing.{WentFew}

pub went_few : (x x' y : Option BenchState) (accesses : List RegAccess) (values : List (Option ℕ)) (v : ℕ) → x' ≡ x → StepsTo (λ m o. CanFly m → HasCome accesses values m o) x' y → StepsTo (λ m o. CanFly m → WentFew (Some v) m o) x y
went_few x x' y accesses values v same h =
    subst (λ (w : Option BenchState). StepsTo (λ m o. CanFly m → WentFew (Some v) m o) w y) same (steps_map _ _ (λ m o f flies. let c = f flies in (c.starting, c.next)) x' y h)

-- a fault, and then ABORT
pub cleared_few : (x x' y y' z : Option BenchState) → x' ≡ x → y' ≡ y → StepsTo (λ m o. CanFly m → SendsFew 1 m o) x' y → StepsTo (λ m o. CanFly m → CanClear o) x' y → StepsTo (λ m o. IsInRange (target_of m.probe) → SendsFew 1 m o) y' z →
    StepsTo (λ m o. CanFly m → SendsFew 2 m o) x z
cleared_few x x' y y' z same same' h k d =
    subst (λ (w : Option BenchState). StepsTo (λ m o. CanFly m → SendsFew 2 m o) w z) same (by_states x' y z h k (subst (λ (w : Option BenchState). StepsTo (λ m o. IsInRange (target_of m.probe) → SendsFew 1 m o) w z) same' d))
  where
    by_states : (a b c : Option BenchState) → StepsTo (λ m o. CanFly m → SendsFew 1 m o) a b → StepsTo (λ m o. CanFly m → CanClear o) a b → StepsTo (λ m o. IsInRange (target_of m.probe) → SendsFew 1 m o) b c → StepsTo (λ m o. CanFly m → SendsFew 2 m o) a c
    by_states None None None p q r = r
    by_states None None (Some o) p q r = r
    by_states None (Some k) c p q r = absurd p
    by_states (Some m) None c p q r = absurd p
    by_states (Some m) (Some k) None p q r = r
    by_states (Some m) (Some k) (Some o) p q r = λ flies. few_joined 1 1 m k o (p flies) (r (q flies).in_range)

went_two : (w : Option ℕ) (m o : BenchState) → WentFew w m o → SendsFew 2 m o
went_two (Some v) m o h = few_most 1 2 m o (omega arith) h.0
went_two None m o h = h

pub went_most : (x y : Option BenchState) (w : Option ℕ) (b : ℕ) → 2 ≤ b → StepsTo (λ m o. CanFly m → WentFew w m o) x y → StepsTo (λ m o. CanFly m → SendsFew b m o) x y
went_most x y w b le h = steps_map _ _ (λ m o f flies. few_most 2 b m o le (went_two w m o (f flies))) x y h

pub flies_most : (x y : Option BenchState) (a b : ℕ) → a ≤ b → StepsTo (λ m o. CanFly m → SendsFew a m o) x y → StepsTo (λ m o. CanFly m → SendsFew b m o) x y
flies_most x y a b le h = steps_map _ _ (λ m o f flies. few_most a b m o le (f flies)) x y h

-- a flight that came, and then so many packets
pub went_then : (x y z : Option BenchState) (w : Option ℕ) (v b : ℕ) → w ≡ Some v → StepsTo (λ m o. CanFly m → WentFew w m o) x y → StepsTo (λ m o. CanFly m → SendsFew b m o) y z → StepsTo (λ m o. CanFly m → SendsFew (1 + b) m o) x z
went_then x y z w v b is h d =
    let there : StepsTo (λ m o. CanFly m → WentFew (Some v) m o) x y = subst (λ (u : Option ℕ). StepsTo (λ m o. CanFly m → WentFew u m o) x y) is h in
    few_then (λ m. CanFly m) (λ m o. CanFly m → WentFew (Some v) m o) (λ m k f flies. (f flies).1) x y z 1 b there (steps_map _ _ (λ m o f flies. (f flies).0) x y there) d

-- by what it answers
pub went_thens : {E : Type 0} (x y z : Option BenchState) (w : Option ℕ) (v : ℕ) (result : Result (Option ℕ) E) → w ≡ Some v → StepsTo (λ m o. CanFly m → WentFew w m o) x y → IfOk result (λ u. StepsTo (λ m o. CanFly m → WentFew u m o) y z) →
    OnOk result (StepsTo (λ m o. CanFly m → SendsFew 3 m o) x z)
went_thens x y z w v (Err e) is h d = tt
went_thens x y z w v (Ok u) is h d = went_then x y z w v 2 is h (went_most y z u 2 (omega arith) d)
