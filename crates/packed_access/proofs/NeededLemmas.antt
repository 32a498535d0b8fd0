-- The need points of the first call and of each `finish` came.
use Rattle.std.proofs.Common.{◌≡◌, ◌∙◌, ℕ, zero, suc, ◌+◌, ◌-◌, ◌^◌, ◌≤◌, min, Bool, true, false, cond, List, [], ◌∷◌, ◌++◌, refl, sym, ap, subst, arith}
use Rattle.std.proofs.lemmas.List.Sums.{sum_by-append, sum_by-cons}
use Rattle.std.specs.Prelude.{nat_lt}
use Rattle.target_machine.specs.State.{TargetState}
use Rattle.target_machine.specs.declared.unit.Call.TheVariants.{Probe}
use Rattle.target_machine.specs.declared.unit.ProbeCall.{ProbeCall}
use Rattle.target_calls.specs.Asks.{probe_ask, settled_last}
use Rattle.target_machine.specs.Counts.{one_if}
use Rattle.target_calls.specs.NeedPoints.{Asks, Cost, asks_with_call, asks_at_need, needed_more, asks_at_use, with_call}
use Rattle.target_calls.specs.declared.calls.Ask.{Ask}
use Rattle.target_calls.specs.declared.calls.Slot.{Slot}
use Rattle.target_calls.proofs.NeedLemmas.{needed_calls}
use Rattle.access_regs.specs.Costs.{cost_by}
use Rattle.packed_access.specs.Logs.{LogState, asks_of, with_asks, with_needs}
use Rattle.flight_laws.specs.Changes.{marks_in}
use Rattle.packed_access.specs.Sparing.{AreNeeded, first_cost}
use Rattle.access_regs.specs.declared.planner.Planner.{Planner}
use Rattle.access_regs.specs.declared.planner.Planner.TheVariants.{Managed, Plain}
use Rattle.target_machine.specs.Lines.{grown_counter}

-- ---- the calls

marks_upto : (calls : List Ask) → marks_in (settled_last calls) ≤ marks_in calls + 1
marks_upto [] = omega arith
marks_upto (c ∷ []) = omega arith
marks_upto (c ∷ d ∷ cs) =
    let r = marks_upto (d ∷ cs) in
    let a = sum_by-cons (λ (x : Ask). one_if x.settled) c (settled_last (d ∷ cs)) in
    let b = sum_by-cons (λ (x : Ask). one_if x.settled) c (d ∷ cs) in
    omega (arith, r, a, b)

marks_more : (calls : List Ask) (ask : Ask) → ask.settled ≡ false → marks_in (calls ++ ask ∷ []) ≡ marks_in calls
marks_more calls ask unmarked =
    let a = sum_by-append (λ (x : Ask). one_if x.settled) calls (ask ∷ []) in
    let b = ap one_if unmarked in
    omega (arith, a, b)

first_marked : (p : Planner) (t : TargetState) (calls : List Ask) → first_cost p t (settled_last calls) ≡ first_cost p t calls
first_marked p t [] = refl
first_marked Managed t (c ∷ []) = refl
first_marked Plain t (c ∷ []) = refl
first_marked p t (c ∷ d ∷ cs) = refl

-- ---- need points

most_needs : (n : ℕ) (a : Asks) → min (a.needs + n) (2 ^ 64 - 1) ≤ (needed_more n a).needs
most_needs zero a = omega arith
most_needs (suc n) a = omega arith

covers_same : (x needs needs' : ℕ) → min x (2 ^ 64 - 1) ≤ needs → min needs (2 ^ 64 - 1) ≤ needs' → min x (2 ^ 64 - 1) ≤ needs'
covers_same x needs needs' h le = omega (arith, h, le)

-- the calls stay, and need points may come
pub needed_same : (p : Planner) (t : TargetState) (a b : Asks) → AreNeeded p t a → b.calls ≡ a.calls → min a.needs (2 ^ 64 - 1) ≤ b.needs → AreNeeded p t b
needed_same p t a b h calls le =
    record { so = subst (λ (l : List Ask). grown_counter (first_cost p t l) (marks_in l) ≤ b.needs) (sym calls) (covers_same (first_cost p t a.calls + marks_in a.calls) a.needs b.needs h.so le) }

-- a call is asked
pub needed_asked : (p : Planner) (t : TargetState) (a b : Asks) (ask : Ask) → AreNeeded p t a → ask.settled ≡ false → b.calls ≡ a.calls ++ ask ∷ [] → min (a.needs + (cost_by p t a.calls ask).before) (2 ^ 64 - 1) ≤ b.needs → AreNeeded p t b
needed_asked p t a b ask h unmarked calls le =
    record { so = subst (λ (l : List Ask). grown_counter (first_cost p t l) (marks_in l) ≤ b.needs) (sym calls) (by_calls a.calls h.so le) }
  where
    by_calls : (l : List Ask) → grown_counter (first_cost p t l) (marks_in l) ≤ a.needs → min (a.needs + (cost_by p t l ask).before) (2 ^ 64 - 1) ≤ b.needs → grown_counter (first_cost p t (l ++ ask ∷ [])) (marks_in (l ++ ask ∷ [])) ≤ b.needs
    by_calls [] k le = (let m = marks_more [] ask unmarked in omega (arith, k, le, m))
    by_calls (c ∷ cs) k le = (let m = marks_more (c ∷ cs) ask unmarked in omega (arith, k, le, m))

-- by the need points that it makes
pub needed_by : (p : Planner) (t : TargetState) (a b : Asks) (ask : Ask) → AreNeeded p t a → ask.settled ≡ false → b ≡ asks_with_call (cost_by p t a.calls ask) ask a → AreNeeded p t b
needed_by p t a b ask h unmarked is = subst (λ (x : Asks). AreNeeded p t x) (sym is) (by_cost (cost_by p t a.calls ask) refl)
  where
    by_cost : (c : Cost) → c ≡ cost_by p t a.calls ask → AreNeeded p t (asks_with_call c ask a)
    by_cost c same =
        let mid : Asks = with_call ask (needed_more c.before a) in
        needed_asked p t a (asks_with_call c ask a) ask h unmarked (needed_calls c.after mid ∙ ap (λ (l : List Ask). l ++ ask ∷ []) (needed_calls c.before a))
        (let x = most_needs c.before a in let y = most_needs c.after mid in let z = ap (λ (k : Cost). k.before) same in omega (arith, x, y, z))

-- a command makes none before it counts as asked
none_before : (p : Planner) (t : TargetState) (calls : List Ask) (call : ProbeCall) → (cost_by p t calls (probe_ask call)).before ≡ 0
none_before Managed t calls call = refl
none_before Plain t calls call = refl

-- a command
pub needed_command : (p : Planner) (t : TargetState) (a : Asks) (log new : LogState) (call : ProbeCall) (points count : ℕ) → AreNeeded p t a → log.calls ≡ a.calls ++ probe_ask call ∷ [] → log.needs ≡ a.needs → new ≡ with_needs log points count → AreNeeded p t (asks_of new)
needed_command p t a log new call points count h calls needs is =
    subst (λ (l : LogState). AreNeeded p t (asks_of l)) (sym is) (by_points points)
  where
    by_points : (n : ℕ) → AreNeeded p t (asks_of (with_needs log n count))
    by_points zero = needed_asked p t a (asks_of log) (probe_ask call) h refl calls (let none = none_before p t a.calls call in omega (arith, needs, none))
    by_points (suc n) = needed_asked p t a (asks_of (with_needs log (suc n) count)) (probe_ask call) h refl calls (let none = none_before p t a.calls call in omega (arith, needs, none))

-- need points at a flight that was sent
pub needed_points : (p : Planner) (t : TargetState) (a : Asks) (log new : LogState) (points count : ℕ) → AreNeeded p t a → log.calls ≡ a.calls → log.needs ≡ a.needs → new ≡ with_needs log points count → AreNeeded p t (asks_of new)
needed_points p t a log new points count h calls needs is =
    subst (λ (l : LogState). AreNeeded p t (asks_of l)) (sym is) (by_points points)
  where
    by_points : (n : ℕ) → AreNeeded p t (asks_of (with_needs log n count))
    by_points zero = needed_same p t a (asks_of log) h calls (omega (arith, needs))
    by_points (suc n) = needed_same p t a (asks_of (with_needs log (suc n) count)) h calls (omega (arith, needs))

-- a `finish` is made after the last call
pub needed_finished : (p : Planner) (t : TargetState) (a : Asks) (log new : LogState) (count : ℕ) → AreNeeded p t a → log.calls ≡ settled_last a.calls → log.needs ≡ a.needs → new ≡ with_needs log 1 count → AreNeeded p t (asks_of new)
needed_finished p t a log new count h calls needs is =
    subst (λ (l : LogState). AreNeeded p t (asks_of l)) (sym is)
    (record { so = subst (λ (l : List Ask). grown_counter (first_cost p t l) (marks_in l) ≤ min (log.needs + 1) (2 ^ 64 - 1)) (sym calls) (let k = h.so in let f = first_marked p t a.calls in let m = marks_upto a.calls in omega (arith, k, f, m, needs)) })

-- a slot is used
pub needed_used : (p : Planner) (t : TargetState) (a : Asks) (log new : LogState) (slot : Slot) → AreNeeded p t a → log.calls ≡ a.calls → log.needs ≡ a.needs → new ≡ with_asks log (asks_at_use slot (asks_of log)) → AreNeeded p t (asks_of new)
needed_used p t a log new slot h calls needs is =
    subst (λ (l : LogState). AreNeeded p t (asks_of l)) (sym is) (by_fence (nat_lt slot.index log.fence))
  where
    by_fence : (b : Bool) → AreNeeded p t (asks_of (with_asks log (cond b (asks_of log) (asks_at_need (asks_of log)))))
    by_fence true = needed_same p t a (asks_of log) h calls (omega (arith, needs))
    by_fence false = needed_same p t a (asks_at_need (asks_of log)) h calls (omega (arith, needs))
