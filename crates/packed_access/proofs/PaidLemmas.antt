-- The starting packets of an access are paid for between its calls.
use Rattle.std.proofs.Common.{◌≡◌, ◌⊎◌, inl, inr, ◌∙◌, ℕ, zero, suc, ◌+◌, ◌-◌, ◌^◌, ◌<◌, ◌≤◌, min, Bool, true, false, cond, List, [], ◌∷◌, ◌++◌, length, take, Option, Some, None, refl, sym, ap, subst, arith, append-nil}
use Rattle.std.proofs.lemmas.Bool.{cases_lt, lt-ltb, le-ltb}
use Rattle.std.specs.Prelude.{nat_lt}
use Rattle.target_machine.specs.InRange.{IsInRange}
use Rattle.target_machine.specs.declared.access.RegAccess.{RegAccess}
use Rattle.probe_core.specs.Bench.{BenchState, StepsTo}
use Rattle.probe_core.specs.Bench.{Reported as BenchReported}
use Rattle.probe_core.specs.Probe.{target_of}
use Rattle.probe_core.specs.declared.job.Limits.{Limits}
use Rattle.target_calls.specs.Asks.{settled_last}
use Rattle.target_machine.specs.Counts.{one_if}
use Rattle.target_calls.specs.Journal.{Entry}
use Rattle.target_calls.specs.NeedPoints.{Asks, asks_at_need, asks_at_use}
use Rattle.target_calls.specs.declared.calls.Ask.{Ask}
use Rattle.target_calls.specs.declared.calls.Slot.{Slot}
use Rattle.access_regs.specs.Journal.{issued_entries}
use Rattle.access_regs.specs.Kept.{Kept, nothing_kept}
use Rattle.access_regs.proofs.EntryLemmas.{journal_marks}
use Rattle.access_regs.proofs.Joins.{journal_joins}
use Rattle.access_calls.specs.declared.stop.Stop.{Stop}
use Rattle.packed_access.specs.Begun.{HasBegun, LogHasEnded}
use Rattle.packed_access.specs.Logs.{LogState, all_confirmed, all_taken, asks_of, log_with_call, nothing_logged, reported_by, with_asks, with_needs}
use Rattle.access_calls.specs.Opening.{MayBegin, opened_bench}
use Rattle.probe_core.specs.declared.job.Config.{Config}
use Rattle.packed_access.specs.Sparing.{AreNeeded, HasBegunSet, HasBegunSparing, HasPaid, HasSpared, points_left}
use Rattle.packed_access.proofs.BegunLemmas.{ended_begun}
use Rattle.packed_access.proofs.NeedLemmas.{begun_needs, refused_new}
use Rattle.packed_access.proofs.NeededLemmas.{needed_same}
use Rattle.packed_access.proofs.SparingLemmas.{has_grows, has_later, has_paid, has_same}
use Rattle.access_regs.specs.declared.planner.Planner.{Planner}
use Rattle.access_regs.specs.declared.planner.Planner.TheVariants.{Managed}
use Rattle.target_machine.proofs.CountLemmas.{one_most}

-- ---- how many are left

left_at : (known fence known' fence' : ℕ) → (known' < fence' → known < fence) → one_if (nat_lt known' fence') ≤ one_if (nat_lt known fence)
left_at known fence known' fence' past = by_cases (cases_lt known' fence')
  where
    by_cases : (known' < fence') ⊎ (fence' ≤ known') → one_if (nat_lt known' fence') ≤ one_if (nat_lt known fence)
    by_cases (inl less) =
        let a : nat_lt known' fence' ≡ true = grind (arith, less) in
        let far : known < fence = past less in
        let b : nat_lt known fence ≡ true = grind (arith, far) in
        let x = ap one_if a in let y = ap one_if b in omega (arith, x, y)
    by_cases (inr ge) = (let a : nat_lt known' fence' ≡ false = grind (arith, ge) in let x = ap one_if a in omega (arith, x))

left_none : (known fence : ℕ) → fence ≤ known → one_if (nat_lt known fence) ≡ 0
left_none known fence ge = (let a : nat_lt known fence ≡ false = grind (arith, ge) in ap one_if a)

left_one : (known fence : ℕ) → known < fence → one_if (nat_lt known fence) ≡ 1
left_one known fence less = (let a : nat_lt known fence ≡ true = grind (arith, less) in ap one_if a)

left_most : (known fence : ℕ) → one_if (nat_lt known fence) ≤ 1
left_most known fence = one_most (nat_lt known fence)

covers_less : (paid left less needs : ℕ) → less ≤ left → min (paid + left) (2 ^ 64 - 1) ≤ needs → min (paid + less) (2 ^ 64 - 1) ≤ needs
covers_less paid left less needs le covers = omega (arith, le, covers)

-- fewer are left
pub paid_less : (p : Planner) (x : Option BenchState) (limits given : Limits) (log : LogState) (left less : ℕ) (m0 : BenchState) → less ≤ left → HasPaid p limits given x log left m0 → HasPaid p limits given x log less m0
paid_less p x limits given log left less m0 le h = record { paid = h.paid; spared = h.spared; covers = λ managed. covers_less h.paid left less log.needs le (h.covers managed) }

-- ---- calls that are asked or marked

pub paid_asked : (p : Planner) (x : Option BenchState) (limits given : Limits) (log new : LogState) (ask : Ask) (left : ℕ) (m0 : BenchState) → HasPaid p limits given x log left m0 → new ≡ log_with_call log ask new.room → HasPaid p limits given x new left m0
paid_asked p x limits given log new ask left m0 h is =
    subst (λ (l : LogState). HasPaid p limits given x l left m0) (sym is)
    (record { paid = h.paid; spared = has_grows p x limits given log (log_with_call log ask new.room) h.paid m0 _ h.spared (journal_joins p 0 nothing_kept (target_of m0.probe) log.calls (ask ∷ [])) refl; covers = h.covers })

pub paid_marked : (p : Planner) (x : Option BenchState) (limits given : Limits) (log new : LogState) (left : ℕ) (m0 : BenchState) → HasPaid p limits given x log left m0 → new ≡ record log { calls = settled_last log.calls } → HasPaid p limits given x new left m0
paid_marked p x limits given log new left m0 h is =
    subst (λ (l : LogState). HasPaid p limits given x l left m0) (sym is)
    (record { paid = h.paid; spared = has_grows p x limits given log (record log { calls = settled_last log.calls }) h.paid m0 _ h.spared (journal_marks p (target_of m0.probe) log.calls).0 refl; covers = h.covers })

-- where the room alone changed
pub paid_refused : (p : Planner) (x : Option BenchState) (limits given : Limits) (log new : LogState) (m0 : BenchState) → HasPaid p limits given x log (points_left log) m0 → new ≡ record log { room = new.room } → HasPaid p limits given x new (points_left new) m0
paid_refused p x limits given log new m0 h is =
    subst (λ (l : LogState). HasPaid p limits given x l (points_left l) m0) (sym is)
    (record { paid = h.paid; spared = has_same p x x limits given limits given log (record log { room = new.room }) h.paid m0 h.spared refl refl refl refl refl; covers = h.covers })

-- ---- a value that is used

covers_need : (paid left more needs : ℕ) → more ≤ left + 1 → min (paid + left) (2 ^ 64 - 1) ≤ needs → min (paid + more) (2 ^ 64 - 1) ≤ min (needs + 1) (2 ^ 64 - 1)
covers_need paid left more needs le covers = omega (arith, le, covers)

-- one need point, for as many more
need_paid : (p : Planner) (x : Option BenchState) (limits given : Limits) (log : LogState) (paid left more : ℕ) (m0 : BenchState) → HasSpared p limits given x log paid m0 → (p ≡ Managed → min (paid + left) (2 ^ 64 - 1) ≤ log.needs) → more ≤ left + 1 → HasPaid p limits given x (with_asks log (asks_at_need (asks_of log))) more m0
need_paid p x limits given log paid left more m0 h covers le =
    record { paid = paid; spared = has_same p x x limits given limits given log (with_asks log (asks_at_need (asks_of log))) paid m0 h refl refl refl refl refl; covers = λ managed. covers_need paid left more log.needs le (covers managed) }

-- what the test of a slot says
pub is_under : (i known : ℕ) (b : Bool) → b ≡ nat_lt i known → b ≡ true → i < known
is_under i known b is true_ = grind (arith, sym is ∙ true_)

pub is_past : (i known : ℕ) (b : Bool) → b ≡ nat_lt i known → b ≡ false → known ≤ i
is_past i known b is false_ = grind (arith, sym is ∙ false_)

-- it is known: where it was asked after the last need point, all that was known then came
pub paid_known : (p : Planner) (x : Option BenchState) (limits given : Limits) (log new : LogState) (slot : Slot) (m0 : BenchState) → HasPaid p limits given x log (points_left log) m0 → new ≡ with_asks log (asks_at_use slot (asks_of log)) → slot.index < log.known → HasPaid p limits given x new (points_left new) m0
paid_known p x limits given log new slot m0 h is known = subst (λ (l : LogState). HasPaid p limits given x l (points_left l) m0) (sym is) (by_fence (cases_lt slot.index log.fence))
  where
    by_fence : (slot.index < log.fence) ⊎ (log.fence ≤ slot.index) → HasPaid p limits given x (with_asks log (asks_at_use slot (asks_of log))) (points_left (with_asks log (asks_at_use slot (asks_of log)))) m0
    by_fence (inl less) = subst (λ (b : Bool). HasPaid p limits given x (with_asks log (cond b (asks_of log) (asks_at_need (asks_of log)))) (points_left (with_asks log (cond b (asks_of log) (asks_at_need (asks_of log))))) m0) (sym (lt-ltb slot.index log.fence less)) h
    by_fence (inr ge) =
        subst (λ (b : Bool). HasPaid p limits given x (with_asks log (cond b (asks_of log) (asks_at_need (asks_of log)))) (points_left (with_asks log (cond b (asks_of log) (asks_at_need (asks_of log))))) m0) (sym (le-ltb slot.index log.fence ge))
        (need_paid p x limits given log h.paid (points_left log) (one_if (nat_lt log.known (length log.calls))) m0 h.spared h.covers (let a = left_most log.known (length log.calls) in omega (arith, a)))

-- it came with a flight that was sent for it
pub paid_sent : (p : Planner) (x y : Option BenchState) (limits given limits' given' : Limits) (log mid new : LogState) (values : List (Option ℕ)) (slot : Slot) (m0 : BenchState) → HasPaid p limits given x log (points_left log) m0 →
    ((points : ℕ) → HasSpared p limits given x log points m0 → HasSpared p limits' given' y mid (points + 1) m0) → mid ≡ all_confirmed (all_taken values log) → log.whole ≡ length log.calls → log.fence ≤ length log.calls → log.known ≤ slot.index →
    new ≡ with_asks mid (asks_at_use slot (asks_of mid)) → HasPaid p limits' given' y new (points_left new) m0
paid_sent p x y limits given limits' given' log mid new values slot m0 h sent mid_is whole within not is =
    subst (λ (l : LogState). HasPaid p limits' given' y l (points_left l) m0) (sym is) (by_fence (cases_lt slot.index mid.fence))
  where
    known : mid.known ≡ length log.calls
    known = ap (λ (l : LogState). l.known) mid_is ∙ whole

    fence : mid.fence ≡ log.fence
    fence = ap (λ (l : LogState). l.fence) mid_is

    needs : mid.needs ≡ log.needs
    needs = ap (λ (l : LogState). l.needs) mid_is

    calls : length mid.calls ≡ length log.calls
    calls = ap (λ (l : LogState). length l.calls) mid_is

    by_fence : (slot.index < mid.fence) ⊎ (mid.fence ≤ slot.index) → HasPaid p limits' given' y (with_asks mid (asks_at_use slot (asks_of mid))) (points_left (with_asks mid (asks_at_use slot (asks_of mid)))) m0
    by_fence (inl less) =
        subst (λ (b : Bool). HasPaid p limits' given' y (with_asks mid (cond b (asks_of mid) (asks_at_need (asks_of mid)))) (points_left (with_asks mid (cond b (asks_of mid) (asks_at_need (asks_of mid))))) m0) (sym (lt-ltb slot.index mid.fence less))
        (let one = left_one log.known log.fence (omega (arith, less, fence, not)) in
        let none = left_none mid.known mid.fence (omega (arith, known, fence, within)) in
        record { paid = h.paid + 1; spared = sent h.paid h.spared; covers = λ managed. (let c = h.covers managed in omega (arith, c, one, none, needs)) })
    by_fence (inr ge) =
        subst (λ (b : Bool). HasPaid p limits' given' y (with_asks mid (cond b (asks_of mid) (asks_at_need (asks_of mid)))) (points_left (with_asks mid (cond b (asks_of mid) (asks_at_need (asks_of mid))))) m0) (sym (le-ltb slot.index mid.fence ge))
        (record {
          paid = h.paid + 1;
          spared = has_same p y y limits' given' limits' given' mid (with_asks mid (asks_at_need (asks_of mid))) (h.paid + 1) m0 (sent h.paid h.spared) refl refl refl refl refl;
          covers = λ managed. (let c = h.covers managed in let none = left_none mid.known (length mid.calls) (omega (arith, known, calls)) in omega (arith, c, none, needs));
        })

-- ---- a flight that was sent at a need point

-- so many need points, after which none is left
pub paid_flushed : (p : Planner) (x : Option BenchState) (limits given : Limits) (log new : LogState) (needs paid points count left : ℕ) (m0 : BenchState) → HasSpared p limits given x log (paid + points) m0 → (p ≡ Managed → min (paid + left) (2 ^ 64 - 1) ≤ needs) → log.needs ≡ needs → new ≡ with_needs log points count →
    log.known ≡ length new.calls → new.fence ≤ length new.calls → new.known ≡ log.known → HasPaid p limits given x new (points_left new) m0
paid_flushed p x limits given log new needs paid points count left m0 h covers same is known within still =
    paid_less p x limits given new left (points_left new) m0 (let n = left_none new.known new.fence (omega (arith, known, within, still)) in omega (arith, n)) (has_paid p x limits given log new needs paid points count left m0 h covers same is)

-- ---- a call that was issued

pub paid_upto : (p : Planner) (x : Option BenchState) (limits given : Limits) (log new : LogState) (m0 : BenchState) → HasPaid p limits given x new (points_left log) m0 → (new.known < new.fence → log.known < log.fence) → HasPaid p limits given x new (points_left new) m0
paid_upto p x limits given log new m0 h past = paid_less p x limits given new (points_left log) (points_left new) m0 (left_at log.known log.fence new.known new.fence past) h

-- ---- an access that ended, or did not go on

pub sparing_ended : (p : Planner) (limits : Limits) (bench : BenchReported) (state : Option BenchState) (log : LogState) (sent got : List ℕ) (kept : Kept) (accesses : List RegAccess) (m0 : BenchState) (s : Stop) → LogHasEnded p s (reported_by bench state log sent got) log m0 → log.end ≡ Some s →
    HasBegunSparing p limits bench state log sent got kept accesses m0
sparing_ended p limits bench state log sent got kept accesses m0 s h is = record {
  begun = ended_begun p bench state log sent got kept accesses m0 s h is;
  paid = λ none. absurd (let e : Some s ≡ None = sym is ∙ none in cc);
  needed = λ none. absurd (let e : Some s ≡ None = sym is ∙ none in cc);
}

pub sparing_refused : (p : Planner) (limits : Limits) (bench : BenchReported) (state : Option BenchState) (log new : LogState) (sent got : List ℕ) (kept : Kept) (accesses : List RegAccess) (m0 : BenchState) → HasBegunSparing p limits bench state log sent got kept accesses m0 → new ≡ record log { room = new.room } →
    HasBegunSparing p limits bench state new sent got kept accesses m0
sparing_refused p limits bench state log new sent got kept accesses m0 h is = record {
  begun = begun_needs p bench state log new sent got sent got kept accesses m0 h.begun refl refl (refused_new log new is);
  paid = λ none. paid_refused p state limits bench.limits log new m0 (h.paid (ap (λ (l : LogState). l.end) (sym is) ∙ none)) is;
  needed = λ none. needed_same p (target_of m0.probe) (asks_of log) (asks_of new) (h.needed (ap (λ (l : LogState). l.end) (sym is) ∙ none)) (ap (λ (l : LogState). l.calls) is) (let n = ap (λ (l : LogState). l.needs) is in omega (arith, n));
}

-- ---- where the access begins

pub sparing_begins : (p : Planner) (config : Config) (x y : Option BenchState) (limits : Limits) (bench : BenchReported) (log : LogState) (sent got : List ℕ) (kept : Kept) (accesses : List RegAccess) → log ≡ nothing_logged → StepsTo (λ m o. MayBegin m → HasBegun p bench y log sent got kept accesses (opened_bench config m)) x y →
    StepsTo (λ m o. MayBegin m → HasPaid p limits bench.limits y log 0 (opened_bench config m)) x y → StepsTo (λ m o. MayBegin m → HasBegunSet config.idle config.retry p limits bench y log sent got kept accesses (opened_bench config m)) x y
sparing_begins p config x y limits bench log sent got kept accesses none h part_is = by_states x y h part_is
  where
    zero_left : points_left log ≡ 0
    zero_left = ap points_left none

    by_states : (a b : Option BenchState) → StepsTo (λ m o. MayBegin m → HasBegun p bench y log sent got kept accesses (opened_bench config m)) a b → StepsTo (λ m o. MayBegin m → HasPaid p limits bench.limits y log 0 (opened_bench config m)) a b → StepsTo (λ m o. MayBegin m → HasBegunSet config.idle config.retry p limits bench y log sent got kept accesses (opened_bench config m)) a b
    by_states None None h part_is = tt
    by_states None (Some o) h part_is = absurd h
    by_states (Some m) None h part_is = absurd h
    by_states (Some m) (Some o) h part_is = λ may. record {
      sparing = record {
        begun = h may;
        paid = λ open_. subst (λ (n : ℕ). HasPaid p limits bench.limits y log n (opened_bench config m)) (sym zero_left) (part_is may);
        needed = λ open_. subst (λ (l : LogState). AreNeeded p (target_of m.probe) (asks_of l)) (sym none) (record { so = omega arith });
      };
      set = record { idle_is = refl; retry_is = refl };
    }
