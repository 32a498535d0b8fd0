-- Few starting packets are sent.
use Rattle.std.proofs.Common.{◌≡◌, ◌∙◌, ℕ, zero, suc, ◌+◌, ◌-◌, ◌*◌, ◌^◌, ◌<◌, ◌≤◌, Bool, true, List, [], ◌∷◌, ◌++◌, length, min, take, Option, Some, None, Result, Ok, Err, OnOk, refl, sym, ap, subst, arith, append-nil, append_assoc, length-append}
use Rattle.std.proofs.Math.Seq.{take-append_seam}
use Rattle.std.specs.Prelude.{IfSome}
use Rattle.target_machine.specs.InRange.{IsInRange}
use Rattle.target_machine.specs.declared.unit.ProbeCall.{ProbeCall}
use Rattle.target_machine.specs.declared.unit.ProbeCall.TheVariants as probe
use Rattle.access_regs.specs.Costs.{command_cost, portions}
use Rattle.target_machine.specs.Plain.{Makes}
use Rattle.target_machine.specs.declared.access.RegAccess.{RegAccess}
use Rattle.probe_core.specs.Bench.{BenchState, StepsTo}
use Rattle.probe_core.specs.Bench.{Reported as BenchReported}
use Rattle.probe_core.specs.Reports.{AgreesWith}
use Rattle.probe_core.specs.Probe.{target_of}
use Rattle.probe_core.specs.Ranges.{AreLimits}
use Rattle.probe_core.specs.declared.job.Limits.{Limits}
use Rattle.target_calls.specs.Journal.{Entry}
use Rattle.target_calls.specs.Weights.{registers_in, registers_of}
use Rattle.target_calls.specs.declared.calls.Ask.{Ask}
use Rattle.target_calls.proofs.EntryLemmas.{registers_append}
use Rattle.access_regs.specs.Journal.{issued_entries}
use Rattle.access_calls.specs.Bounds.{flight_capacity}
use Rattle.access_calls.specs.Standing.{WhereObservable}
use Rattle.batch_packer.specs.Flying.{CanFly}
use Rattle.packed_access.specs.Begun.{HasIssued, IsIssuing}
use Rattle.bench_flights.specs.Full.{IsFull}
use Rattle.bench_flights.specs.Flown.{CanMatch, HasCome, SendsFew}
use Rattle.packed_access.specs.Forgiving.{log_after_answer}
use Rattle.packed_access.specs.Logs.{IsFurther, LogState, nothing_logged, with_needs}
use Rattle.access_calls.specs.Opening.{HasOpened, MayBegin, opened_bench}
use Rattle.probe_core.specs.declared.job.Config.{Config as OpenConfig}
use Rattle.packed_access.specs.Sparing.{HasPaid, HasSpared, IsSpared, managed_points}
use Rattle.packed_access.proofs.BlockLemmas.{blocks_full, blocks_grown, sum_longer, sum_upto}
use Rattle.bench_flights.proofs.WireLemmas.{steps_map}
use Rattle.access_regs.specs.declared.planner.Planner.{Planner}
use Rattle.access_regs.specs.declared.planner.Planner.TheVariants.{Managed, Plain}
use Rattle.flight_laws.proofs.ActionLemmas.{flight_registers}
use Rattle.bench_flights.proofs.PacketLemmas.{none_sent}
use Rattle.target_machine.specs.Lines.{grown_counter}

-- ---- register accesses of entries

-- more entries have no fewer
pub registers_upto : (n k : ℕ) (es : List Entry) → n ≤ k → registers_in (take n es) ≤ registers_in (take k es)
registers_upto n k es le = sum_upto (λ e. registers_of e.action) n k es le

-- and so has a longer list
pub registers_longer : (n : ℕ) (xs ys : List Entry) → registers_in (take n xs) ≤ registers_in (take n (xs ++ ys))
registers_longer n xs ys = sum_longer (λ e. registers_of e.action) n xs ys

-- those that are confirmed once the flight came
flight_adds : (p : Planner) (log : LogState) (accesses : List RegAccess) (rest : List Entry) (m0 m : BenchState) → IsIssuing p log accesses rest m0 m →
    registers_in (take (length log.entries) (issued_entries p (target_of m0.probe) log.calls)) ≡ registers_in (take log.confirmed (issued_entries p (target_of m0.probe) log.calls)) + length accesses
flight_adds p log accesses rest m0 m h =
    let made : List Entry = h.sending.made in
    let are : issued_entries p (target_of m0.probe) log.calls ≡ made ++ (h.flying ++ rest) = h.sending.on.are in
    let all : issued_entries p (target_of m0.probe) log.calls ≡ (made ++ h.flying) ++ rest = are ∙ sym (append_assoc made h.flying rest) in
    let count : length log.entries ≡ length (made ++ h.flying) = (let c = h.count in let k = h.sending.confirmed_is in let l = length-append made h.flying in omega (arith, c, k, l)) in
    let front : take log.confirmed (issued_entries p (target_of m0.probe) log.calls) ≡ made = (λ j. take (sym h.sending.confirmed_is j) (are j)) ∙ take-append_seam made (h.flying ++ rest) in
    let whole : take (length log.entries) (issued_entries p (target_of m0.probe) log.calls) ≡ made ++ h.flying = (λ j. take (count j) (all j)) ∙ take-append_seam (made ++ h.flying) rest in
    let a = ap registers_in front in
    let b = ap registers_in whole in
    let c = registers_append made h.flying in
    let d = flight_registers h.flying accesses h.sending.on.flight in
    omega (arith, a, b, c, d)

-- ---- packets that were sent

-- some packets came, and entries were confirmed
pub grown_spared : (p : Planner) (limits given limits' given' : Limits) (log new : LogState) (points extra : ℕ) (m0 m o : BenchState) → IsSpared p limits given log points m0 m → SendsFew extra m o → new.calls ≡ log.calls → log.confirmed ≤ new.confirmed → limits' ≡ limits → given' ≡ given →
    IsSpared p limits' given' new (points + extra) m0 o
grown_spared p limits given limits' given' log new points extra m0 m o h sent calls more same there = record {
  full = h.full;
  few = (let f = h.few in let s = sent.few in omega (arith, f, s));
  filled = (let f = h.filled in
      let u = registers_upto log.confirmed new.confirmed (issued_entries p (target_of m0.probe) log.calls) more in
      let c = ap (λ (l : List Ask). registers_in (take new.confirmed (issued_entries p (target_of m0.probe) l))) calls in
      let k = ap (λ (l : Limits). h.full * flight_capacity l) same in
      omega (arith, f, u, c, k));
  counts = sent.counts h.counts;
  limits_are = same ∙ h.limits_are ∙ sym there;
  fits = subst AreLimits (sym same) h.fits;
  blocks = blocks_grown h.full limits limits' (issued_entries p (target_of m0.probe) log.calls) (issued_entries p (target_of m0.probe) new.calls) [] log.confirmed new.confirmed h.blocks same
      (ap (issued_entries p (target_of m0.probe)) calls ∙ sym (append-nil (issued_entries p (target_of m0.probe) log.calls))) more;
}

-- a flight was sent for which there was no room for one access more
pub full_spared : (p : Planner) (limits given limits' given' : Limits) (log new : LogState) (accesses : List RegAccess) (e : Entry) (next : RegAccess) (rest : List Entry) (points : ℕ) (m0 m o : BenchState) → IsIssuing p log accesses (e ∷ rest) m0 m → e.action ≡ Makes next → IsSpared p limits given log points m0 m → SendsFew 1 m o →
    IsFull limits accesses next → new.calls ≡ log.calls → new.confirmed ≡ length log.entries → limits' ≡ limits → given' ≡ given → IsSpared p limits' given' new points m0 o
full_spared p limits given limits' given' log new accesses e next rest points m0 m o i makes h sent is_full calls all same there = record {
  full = h.full + 1;
  few = (let f = h.few in let s = sent.few in omega (arith, f, s));
  filled = (let f = h.filled in
      let u = flight_adds p log accesses (e ∷ rest) m0 m i in
      let c : registers_in (take new.confirmed (issued_entries p (target_of m0.probe) new.calls)) ≡ registers_in (take (length log.entries) (issued_entries p (target_of m0.probe) log.calls)) = (λ j. registers_in (take (all j) (issued_entries p (target_of m0.probe) (calls j)))) in
      let k = ap (λ (l : Limits). (h.full + 1) * flight_capacity l) same in
      let d : (h.full + 1) * flight_capacity limits ≡ h.full * flight_capacity limits + flight_capacity limits = omega arith in
      let many = is_full.many in
      omega (arith, f, u, c, k, d, many));
  counts = sent.counts h.counts;
  limits_are = same ∙ h.limits_are ∙ sym there;
  fits = subst AreLimits (sym same) h.fits;
  blocks = blocks_full h.full limits limits' i.sending.made i.flying rest (issued_entries p (target_of m0.probe) log.calls) (issued_entries p (target_of m0.probe) new.calls) e next accesses log.confirmed new.confirmed h.blocks i.sending.on.are i.sending.confirmed_is
      i.sending.on.flight makes is_full same (ap (issued_entries p (target_of m0.probe)) calls) (all ∙ sym i.count);
}

grown_where : (p : Planner) (x y : Option BenchState) (limits given limits' given' : Limits) (log new : LogState) (accesses : List RegAccess) (rest : List Entry) (points extra : ℕ) (m0 : BenchState) → WhereObservable x (λ m. IsIssuing p log accesses rest m0 m) → WhereObservable x (λ m. IsSpared p limits given log points m0 m) →
    StepsTo (λ m o. CanFly m → SendsFew extra m o) x y → new.calls ≡ log.calls → log.confirmed ≤ new.confirmed → limits' ≡ limits → given' ≡ given → WhereObservable y (λ m. IsSpared p limits' given' new (points + extra) m0 m)
grown_where p None y limits given limits' given' log new accesses rest points extra m0 i h sent calls more same there = absurd h
grown_where p (Some m) None limits given limits' given' log new accesses rest points extra m0 i h sent calls more same there = absurd sent
grown_where p (Some m) (Some o) limits given limits' given' log new accesses rest points extra m0 i h sent calls more same there = grown_spared p limits given limits' given' log new points extra m0 m o h (sent i.flies) calls more same there

full_where : (p : Planner) (x y : Option BenchState) (limits given limits' given' : Limits) (log new : LogState) (accesses : List RegAccess) (e : Entry) (next : RegAccess) (rest : List Entry) (points : ℕ) (m0 : BenchState) → WhereObservable x (λ m. IsIssuing p log accesses (e ∷ rest) m0 m) → e.action ≡ Makes next → WhereObservable x (λ m. IsSpared p limits given log points m0 m) →
    StepsTo (λ m o. CanFly m → SendsFew 1 m o) x y → IsFull limits accesses next → new.calls ≡ log.calls → new.confirmed ≡ length log.entries → limits' ≡ limits → given' ≡ given → WhereObservable y (λ m. IsSpared p limits' given' new points m0 m)
full_where p None y limits given limits' given' log new accesses e next rest points m0 i makes h sent is_full calls all same there = absurd h
full_where p (Some m) None limits given limits' given' log new accesses e next rest points m0 i makes h sent is_full calls all same there = absurd sent
full_where p (Some m) (Some o) limits given limits' given' log new accesses e next rest points m0 i makes h sent is_full calls all same there = full_spared p limits given limits' given' log new accesses e next rest points m0 m o i makes h (sent i.flies) is_full calls all same there

-- where the bench is observable
pub has_grown : (p : Planner) (x y : Option BenchState) (limits given limits' given' : Limits) (log new : LogState) (accesses : List RegAccess) (rest : List Entry) (points extra : ℕ) (m0 : BenchState) → HasIssued p x log accesses rest m0 → HasSpared p limits given x log points m0 →
    (p ≡ Managed → StepsTo (λ m o. CanFly m → SendsFew extra m o) x y) → new.calls ≡ log.calls → log.confirmed ≤ new.confirmed → limits' ≡ limits → given' ≡ given → HasSpared p limits' given' y new (points + extra) m0
has_grown p x y limits given limits' given' log new accesses rest points extra m0 i h sent calls more same there =
    record { so = λ managed. grown_where p x y limits given limits' given' log new accesses rest points extra m0 i.so (h.so managed) (sent managed) calls more same there }

pub has_sent : (p : Planner) (x y : Option BenchState) (limits given limits' given' : Limits) (log new : LogState) (accesses : List RegAccess) (rest : List Entry) (values : List (Option ℕ)) (points : ℕ) (m0 : BenchState) → HasIssued p x log accesses rest m0 → HasSpared p limits given x log points m0 →
    StepsTo (λ m o. CanFly m → HasCome accesses values m o) x y → new.calls ≡ log.calls → log.confirmed ≤ new.confirmed → limits' ≡ limits → given' ≡ given → HasSpared p limits' given' y new (points + 1) m0
has_sent p x y limits given limits' given' log new accesses rest values points m0 i h sent calls more same there =
    has_grown p x y limits given limits' given' log new accesses rest points 1 m0 i h (λ managed. steps_map _ _ (λ m o f flies. (f flies).starting) x y sent) calls more same there

pub has_filled : (p : Planner) (x y : Option BenchState) (limits given limits' given' : Limits) (log new : LogState) (accesses : List RegAccess) (e : Entry) (next : RegAccess) (rest : List Entry) (values : List (Option ℕ)) (points : ℕ) (m0 : BenchState) → HasIssued p x log accesses (e ∷ rest) m0 → e.action ≡ Makes next → HasSpared p limits given x log points m0 →
    StepsTo (λ m o. CanFly m → HasCome accesses values m o) x y → (p ≡ Managed → IsFull limits accesses next) → new.calls ≡ log.calls → new.confirmed ≡ length log.entries → limits' ≡ limits → given' ≡ given → HasSpared p limits' given' y new points m0
has_filled p x y limits given limits' given' log new accesses e next rest values points m0 i makes h sent is_full calls all same there =
    record { so = λ managed. full_where p x y limits given limits' given' log new accesses e next rest points m0 i.so makes (h.so managed) (steps_map _ _ (λ m o f flies. (f flies).starting) x y sent) (is_full managed) calls all same there }

-- where nothing was sent and nothing confirmed
pub has_same : (p : Planner) (x x' : Option BenchState) (limits given limits' given' : Limits) (log new : LogState) (points : ℕ) (m0 : BenchState) → HasSpared p limits given x log points m0 → x' ≡ x → new.calls ≡ log.calls → new.confirmed ≡ log.confirmed → limits' ≡ limits → given' ≡ given →
    HasSpared p limits' given' x' new points m0
has_same p x x' limits given limits' given' log new points m0 h state calls confirmed same there =
    subst (λ (s : Option BenchState). HasSpared p limits' given' s new points m0) (sym state) (record { so = λ managed. by_state x (h.so managed) })
  where
    by_state : (y : Option BenchState) → WhereObservable y (λ m. IsSpared p limits given log points m0 m) → WhereObservable y (λ m. IsSpared p limits' given' new points m0 m)
    by_state None k = k
    by_state (Some m) k = record {
      full = k.full;
      few = k.few;
      filled = (let f = k.filled in
          let c : registers_in (take new.confirmed (issued_entries p (target_of m0.probe) new.calls)) ≡ registers_in (take log.confirmed (issued_entries p (target_of m0.probe) log.calls)) = (λ j. registers_in (take (confirmed j) (issued_entries p (target_of m0.probe) (calls j)))) in
          let l = ap (λ (a : Limits). k.full * flight_capacity a) same in
          omega (arith, f, c, l));
      counts = k.counts;
      limits_are = same ∙ k.limits_are ∙ sym there;
      fits = subst AreLimits (sym same) k.fits;
      blocks = blocks_grown k.full limits limits' (issued_entries p (target_of m0.probe) log.calls) (issued_entries p (target_of m0.probe) new.calls) [] log.confirmed new.confirmed k.blocks same
          (ap (issued_entries p (target_of m0.probe)) calls ∙ sym (append-nil (issued_entries p (target_of m0.probe) log.calls))) (omega (arith, confirmed));
    }

-- where more entries were asked
pub has_grows : (p : Planner) (x : Option BenchState) (limits given : Limits) (log new : LogState) (points : ℕ) (m0 : BenchState) (more : List Entry) → HasSpared p limits given x log points m0 → issued_entries p (target_of m0.probe) new.calls ≡ issued_entries p (target_of m0.probe) log.calls ++ more →
    new.confirmed ≡ log.confirmed → HasSpared p limits given x new points m0
has_grows p x limits given log new points m0 more h longer same = record { so = λ managed. by_state x (h.so managed) }
  where
    by_state : (y : Option BenchState) → WhereObservable y (λ m. IsSpared p limits given log points m0 m) → WhereObservable y (λ m. IsSpared p limits given new points m0 m)
    by_state None k = k
    by_state (Some m) k = record {
      full = k.full;
      few = k.few;
      filled = (let f = k.filled in
          let l = registers_longer log.confirmed (issued_entries p (target_of m0.probe) log.calls) more in
          let c : registers_in (take new.confirmed (issued_entries p (target_of m0.probe) new.calls)) ≡ registers_in (take log.confirmed (issued_entries p (target_of m0.probe) log.calls ++ more)) = (λ j. registers_in (take (same j) (longer j))) in
          omega (arith, f, l, c));
      counts = k.counts;
      limits_are = k.limits_are;
      fits = k.fits;
      blocks = blocks_grown k.full limits limits (issued_entries p (target_of m0.probe) log.calls) (issued_entries p (target_of m0.probe) new.calls) more log.confirmed new.confirmed k.blocks refl longer (omega (arith, same));
    }

-- ---- need points that come after what they pay for

-- where more entries are confirmed, whatever is paid
pub has_later : (p : Planner) (x : Option BenchState) (limits given : Limits) (log new : LogState) (points more : ℕ) (m0 : BenchState) → HasSpared p limits given x log points m0 → new.calls ≡ log.calls → log.confirmed ≤ new.confirmed → points ≤ more → HasSpared p limits given x new more m0
has_later p x limits given log new points more m0 h calls later le = record { so = λ managed. by_state x (h.so managed) }
  where
    by_state : (y : Option BenchState) → WhereObservable y (λ m. IsSpared p limits given log points m0 m) → WhereObservable y (λ m. IsSpared p limits given new more m0 m)
    by_state None k = k
    by_state (Some m) k =
        let s : IsSpared p limits given new (points + 0) m0 m = grown_spared p limits given limits given log new points 0 m0 m m k (none_sent m) calls later refl refl in
        record { full = s.full; few = (let f = s.few in omega (arith, f, le)); filled = s.filled; counts = s.counts; limits_are = s.limits_are; fits = s.fits; blocks = s.blocks }

needs_cover : (log : LogState) (points count : ℕ) → (grown_counter log.needs points ≤ (with_needs log points count).needs) × (((with_needs log points count).calls ≡ log.calls) × ((with_needs log points count).confirmed ≡ log.confirmed))
needs_cover log zero count = (omega arith, (refl, refl))
needs_cover log (suc points) count = (omega arith, (refl, refl))

covers_more : (paid left needs points now : ℕ) → min (paid + left) (2 ^ 64 - 1) ≤ needs → min (needs + points) (2 ^ 64 - 1) ≤ now → min ((paid + points) + left) (2 ^ 64 - 1) ≤ now
covers_more paid left needs points now before after = omega (arith, before, after)

-- the need points come
pub has_paid : (p : Planner) (x : Option BenchState) (limits given : Limits) (log new : LogState) (needs paid points count left : ℕ) (m0 : BenchState) → HasSpared p limits given x log (paid + points) m0 → (p ≡ Managed → grown_counter paid left ≤ needs) → log.needs ≡ needs → new ≡ with_needs log points count → HasPaid p limits given x new left m0
has_paid p x limits given log new needs paid points count left m0 h covers same is =
    let c = needs_cover log points count in
    record {
      paid = paid + points;
      spared = has_later p x limits given log new (paid + points) (paid + points) m0 h (ap (λ (l : LogState). l.calls) is ∙ c.1.0) (let k = ap (λ (l : LogState). l.confirmed) is ∙ c.1.1 in omega (arith, k)) (omega arith);
      covers = λ managed. (let n = subst (λ (l : LogState). grown_counter needs points ≤ l.needs) (sym is) (subst (λ (n : ℕ). grown_counter n points ≤ (with_needs log points count).needs) same c.0) in covers_more paid left needs points new.needs (covers managed) n);
    }

-- where none came the need points are the same
pub spared_further : (p : Planner) → {A E : Type 0} (x : Option BenchState) (limits given : Limits) (log new : LogState) (paid left : ℕ) (result : Result A E) (m0 : BenchState) → (p ≡ Managed → grown_counter paid left ≤ log.needs) → OnOk result (IsFurther log new) → OnOk result (HasSpared p limits given x new paid m0) →
    OnOk result (HasPaid p limits given x new left m0)
spared_further p x limits given log new paid left (Err e) m0 covers further h = tt
spared_further p x limits given log new paid left (Ok v) m0 covers further h = record { paid = paid; spared = h; covers = λ managed. subst (λ (n : ℕ). grown_counter paid left ≤ n) (sym further.needs) (covers managed) }

pub spared_same : (p : Planner) (x : Option BenchState) (limits given : Limits) (log new : LogState) (paid left : ℕ) (m0 : BenchState) → (p ≡ Managed → grown_counter paid left ≤ log.needs) → IsFurther log new → HasSpared p limits given x new paid m0 → HasPaid p limits given x new left m0
spared_same p x limits given log new paid left m0 covers further h = record { paid = paid; spared = h; covers = λ managed. subst (λ (n : ℕ). grown_counter paid left ≤ n) (sym further.needs) (covers managed) }

-- by the managed planner all of them are counted
pub all_counted : (p : Planner) (n : ℕ) → p ≡ Managed → managed_points p n ≡ n
all_counted Managed n managed = refl
all_counted Plain n managed = absurd (cc)

pub counted_spared : (p : Planner) (x : Option BenchState) (limits given : Limits) (log : LogState) (paid n points : ℕ) (m0 : BenchState) → HasSpared p limits given x log (paid + n) m0 → points ≡ managed_points p n → HasSpared p limits given x log (paid + points) m0
counted_spared p x limits given log paid n points m0 h is = record { so = λ managed. subst (λ (k : ℕ). WhereObservable x (λ m. IsSpared p limits given log (paid + k) m0 m)) (sym (is ∙ all_counted p n managed)) (h.so managed) }

-- where more entries are confirmed
pub has_more : (p : Planner) (x : Option BenchState) (limits given : Limits) (log new : LogState) (left : ℕ) (m0 : BenchState) → HasPaid p limits given x log left m0 → new.calls ≡ log.calls → log.confirmed ≤ new.confirmed → new.needs ≡ log.needs → HasPaid p limits given x new left m0
has_more p x limits given log new left m0 h calls more same = record {
  paid = h.paid;
  spared = has_later p x limits given log new h.paid h.paid m0 h.spared calls more (omega arith);
  covers = λ managed. subst (λ (n : ℕ). grown_counter h.paid left ≤ n) (sym same) (h.covers managed);
}

-- ---- polls and commands

-- a call that costs so many need points, one of which is for the send before it
pub has_cost : (p : Planner) (x y : Option BenchState) (limits given limits' given' : Limits) (log new : LogState) (accesses : List RegAccess) (rest : List Entry) (paid points : ℕ) (m0 : BenchState) → HasIssued p x log accesses rest m0 → HasSpared p limits given x log (paid + 1) m0 → 1 ≤ points →
    StepsTo (λ m o. CanFly m → SendsFew (points - 1) m o) x y → new.calls ≡ log.calls → log.confirmed ≤ new.confirmed → limits' ≡ limits → given' ≡ given → HasSpared p limits' given' y new (paid + points) m0
has_cost p x y limits given limits' given' log new accesses rest paid points m0 i h some sent calls more same there =
    let sum : (paid + 1) + (points - 1) ≡ paid + points = omega (arith, some) in
    subst (λ (n : ℕ). HasSpared p limits' given' y new n m0) sum (has_grown p x y limits given limits' given' log new accesses rest (paid + 1) (points - 1) m0 i h (λ managed. sent) calls more same there)

command_some : (call : ProbeCall) → 1 ≤ command_cost call
command_some (probe.Delay micros) = omega arith
command_some other = omega arith

pub has_commanded : (p : Planner) (x y : Option BenchState) (limits given limits' given' : Limits) (log new : LogState) (accesses : List RegAccess) (rest : List Entry) (call : ProbeCall) (points : ℕ) (m0 : BenchState) → HasIssued p x log accesses rest m0 → HasSpared p limits given x log (points + 1) m0 →
    StepsTo (λ m o. IsInRange (target_of m.probe) → SendsFew (command_cost call - 1) m o) x y → new.calls ≡ log.calls → log.confirmed ≤ new.confirmed → limits' ≡ limits → given' ≡ given → HasSpared p limits' given' y new (points + command_cost call) m0
has_commanded p x y limits given limits' given' log new accesses rest call points m0 i h sent calls more same there =
    has_cost p x y limits given limits' given' log new accesses rest points (command_cost call) m0 i h (command_some call) (steps_map _ _ (λ m o f flies. f flies.in_range) x y sent) calls more same there

-- a poll by value matches
pub polled_few : (x y : Option BenchState) (idle retry : ℕ) (zero_is : Bool) (turns points : ℕ) → zero_is ≡ true → points ≡ 1 + portions turns → StepsTo (λ m o. CanFly m → CanMatch idle retry m → SendsFew (portions turns) m o) x y →
    StepsTo (λ m o. CanFly m → (zero_is ≡ true → CanMatch idle retry m) → SendsFew (points - 1) m o) x y
polled_few x y idle retry zero_is turns points zeroed is h =
    let less : portions turns ≡ points - 1 = omega (arith, is) in
    steps_map _ _ (λ m o f flies zeros. subst (λ (n : ℕ). SendsFew n m o) less (f flies (zeros zeroed))) x y h

pub polled_by_matches : (P : BenchState → BenchState → Type 0) (x y : Option BenchState) (idle retry : ℕ) (zero_is : Bool) → zero_is ≡ true → StepsTo (λ m o. CanFly m → CanMatch idle retry m → P m o) x y →
    StepsTo (λ m o. CanFly m → (zero_is ≡ true → CanMatch idle retry m) → P m o) x y
polled_by_matches P x y idle retry zero_is zeroed h = steps_map _ _ (λ m o f flies zeros. f flies (zeros zeroed)) x y h

-- ---- units that are made alone

closed_confirmed : (w : Option ℕ) (log : LogState) → ((log_after_answer w log).confirmed ≡ length log.entries) × ((log_after_answer w log).calls ≡ log.calls)
closed_confirmed None log = (refl, refl)
closed_confirmed (Some v) log = (refl, refl)

pub spared_closed : (p : Planner) (x : Option BenchState) (limits given : Limits) (w : Option ℕ) (log new : LogState) (points more : ℕ) (m0 : BenchState) → HasSpared p limits given x log points m0 → new ≡ log_after_answer w log → log.confirmed ≤ length log.entries → points ≤ more → HasSpared p limits given x new more m0
spared_closed p x limits given w log new points more m0 h is within le =
    has_later p x limits given log new points more m0 h (ap (λ (l : LogState). l.calls) is ∙ (closed_confirmed w log).1) (let k = ap (λ (l : LogState). l.confirmed) is in let c = (closed_confirmed w log).0 in omega (arith, k, c, within)) le

-- ---- where the access begins

begun_spared : (p : Planner) (limits given : Limits) (m o : BenchState) → o.starting ≡ min (m.starting + 3) (2 ^ 64 - 1) → limits ≡ given → AreLimits limits → IsSpared p limits given nothing_logged 0 m o
begun_spared p limits given m o count same fits = record { full = 0; few = omega (arith, count); filled = omega arith; counts = omega (arith, count); limits_are = same; fits = fits; blocks = record { blocks = 0; mixed = 0; bare = 0; all = omega arith; written = omega arith; changing = omega arith; others = omega arith; sizes = omega arith } }

paid_where : (p : Planner) (x y : Option BenchState) (config : OpenConfig) (reported : BenchReported) (limits given job : Limits) → AreLimits limits → given ≡ job → reported.limits ≡ job → IfSome x (AgreesWith reported) → StepsTo (λ m o. IsInRange (target_of m.probe) → HasOpened config m o) x y →
    StepsTo (λ m o. IsInRange (target_of m.probe) → m.probe.executor.limits ≡ job → limits ≡ job) x y → StepsTo (λ m o. MayBegin m → HasPaid p limits given y nothing_logged 0 (opened_bench config m)) x y
paid_where p None None config reported limits given job fits same is agrees h l = tt
paid_where p None (Some o) config reported limits given job fits same is agrees h l = absurd h
paid_where p (Some m) None config reported limits given job fits same is agrees h l = absurd h
paid_where p (Some m) (Some o) config reported limits given job fits same is agrees h l = λ b. record {
  paid = 0;
  spared = record { so = λ managed. begun_spared p limits given (opened_bench config m) o (h b.in_range).starting (l b.in_range (sym agrees.limits ∙ is) ∙ sym same) fits };
  covers = λ managed. omega arith;
}

pub has_paid_none : (p : Planner) (x y : Option BenchState) (config : OpenConfig) (reported : BenchReported) (limits given job : Limits) (log : LogState) → AreLimits limits → log ≡ nothing_logged → given ≡ job → reported.limits ≡ job → IfSome x (AgreesWith reported) → StepsTo (λ m o. IsInRange (target_of m.probe) → HasOpened config m o) x y →
    StepsTo (λ m o. IsInRange (target_of m.probe) → m.probe.executor.limits ≡ job → limits ≡ job) x y → StepsTo (λ m o. MayBegin m → HasPaid p limits given y log 0 (opened_bench config m)) x y
has_paid_none p x y config reported limits given job log fits none same is agrees h l =
    subst (λ (k : LogState). StepsTo (λ m o. MayBegin m → HasPaid p limits given y k 0 (opened_bench config m)) x y) (sym none) (paid_where p x y config reported limits given job fits same is agrees h l)

-- ---- the last need point came where all calls before it had come, or one is left

-- where no need point comes and results do not go, one is left only where it was
pub still_past : {A E : Type 0} (log new : LogState) (result : Result A E) → OnOk result (IsFurther log new) → log.known ≤ new.known → OnOk result (new.known < new.fence → log.known < log.fence)
still_past log new (Err e) further known = tt
still_past log new (Ok v) further known = λ past. (let f = further.fence in omega (arith, f, known, past))

-- none is left where it came after all calls before it
pub never_past : {A E : Type 0} (P : Type 0) (log new : LogState) (result : Result A E) → OnOk result (IsFurther log new) → log.known ≤ new.known → log.fence ≤ log.known → OnOk result (new.known < new.fence → P)
never_past P log new (Err e) further known none = tt
never_past P log new (Ok v) further known none = λ past. absurd (let f = further.fence in omega (arith, f, known, past, none))

pub past_before : {A E : Type 0} (log mid new : LogState) (result : Result A E) → IsFurther log mid → log.known ≤ mid.known → OnOk result (new.known < new.fence → mid.known < mid.fence) → OnOk result (new.known < new.fence → log.known < log.fence)
past_before log mid new (Err e) further known h = tt
past_before log mid new (Ok v) further known h = λ past. (let p = h past in let f = further.fence in omega (arith, f, known, p))
