-- The access after a unit that forgives a fault.
use Rattle.std.proofs.Common.{◌≡◌, inl, inr, ◌∙◌, ℕ, zero, suc, ◌+◌, ◌-◌, ◌^◌, min, Bool, true, false, cond, List, [], ◌∷◌, ◌++◌, length, Option, Some, None, refl, sym, ap, subst, arith, append-nil}
use Rattle.std.specs.Option.{unwrap_or}
use Rattle.target_machine.specs.Lists.{after}
use Rattle.target_machine.specs.Plain.{Makes, action_attempt, from_lanes, is_fault, may_forgive, result_of}
use Rattle.target_machine.specs.State.{TargetState}
use Rattle.target_machine.specs.declared.access.RegAccess.{RegAccess}
use Rattle.target_machine.specs.declared.unit.Call.TheVariants.{Access}
use Rattle.target_machine.specs.declared.unit.Unit.{Unit as AccessUnit}
use Rattle.target_machine.specs.declared.unit.Unit.TheVariants as unit
use Rattle.probe_core.specs.Bench.{BenchState}
use Rattle.probe_core.specs.Bench.{Reported as BenchReported}
use Rattle.probe_core.specs.Probe.{target_of}
use Rattle.target_calls.specs.Asks.{unit_ask}
use Rattle.target_calls.specs.NeedPoints.{Asks, asks_with_call, needed_more, with_call}
use Rattle.target_calls.specs.World.{World, results, skips, small_now, start_world}
use Rattle.target_calls.specs.declared.calls.Ask.{Ask}
use Rattle.access_regs.specs.Costs.{cost_by, leading_reads}
use Rattle.access_regs.specs.Entries.{NoneFault, kept_by, target_by}
use Rattle.access_regs.specs.Journal.{Issue, Step, alone_at, issue_of, making, numbered_entries, port_of}
use Rattle.access_regs.specs.Kept.{Kept, forget}
use Rattle.access_regs.specs.Plan.{settle, kept_after_settling}
use Rattle.access_regs.proofs.EntryLemmas.{journal_grows}
use Rattle.flight_laws.specs.Forgiving.{abort_after, steps_of_unit}
use Rattle.packed_access.specs.Begun.{HasBegun, HasIssued, IsIssuing}
use Rattle.packed_access.specs.Forgiving.{EndsTo, HasForgiven, IsDoneBy, IsForgiven, IsSmallBy, IsTrying, LogHasTried}
use Rattle.packed_access.specs.Logs.{LogState, asks_of, with_needs}
use Rattle.packed_access.proofs.BegunLemmas.{fact_of, issued_begun, where_same}
use Rattle.packed_access.proofs.NeedLemmas.{needs_more}
use Rattle.packed_access.proofs.TryBeginLemmas.{IsBefore, alone_issue, issue_is, target_settled}
use Rattle.packed_access.proofs.TryCloseLemmas.{skipped_by}
use Rattle.packed_access.proofs.TryOutcomeLemmas.{no_reads, pass_results, pass_skips, skip_not_small, skip_outcome, small_outcome, small_shown, small_unread}
use Rattle.access_regs.specs.declared.planner.Planner.{Planner}
use Rattle.packed_access.specs.Sparing.{managed_points}
use Rattle.access_regs.specs.declared.planner.Planner.TheVariants.{Managed, Plain}
use Rattle.access_regs.specs.Journal.{is_alone}

-- ---- what is so where the unit ended

-- all its steps are those that were made
record IsWhole (forgive : Bool) (asked : AccessUnit) (k : Kept) (t : TargetState) (made : List RegAccess) : Type 0 where
  steps : (alone_at forgive asked t k).steps ≡ steps_of_unit asked made
  good : NoneFault t made

whole_of : (p : Planner) (forgive : Bool) (x : Option BenchState) (log : LogState) (asked : AccessUnit) (k : Kept) (t : TargetState) (made : List RegAccess) (m0 : BenchState) → LogHasTried p forgive x log asked k t made [] m0 → IsWhole forgive asked k t made
whole_of p forgive x log asked k t made m0 h =
    fact_of x (λ m. IsTrying p forgive log asked k t made [] m0 m) _ (λ m i. record { steps = i.steps ∙ ap (λ (l : List Step). steps_of_unit asked made ++ l) (i.end refl) ∙ append-nil (steps_of_unit asked made); good = i.good }) h.so

whole_issued : (p : Planner) (forgive : Bool) (x : Option BenchState) (log : LogState) (asked : AccessUnit) (k : Kept) (t : TargetState) (made : List RegAccess) (m0 : BenchState) → LogHasTried p forgive x log asked k t made [] m0 → HasIssued p x log [] [] m0
whole_issued p forgive x log asked k t made m0 h =
    record { so = where_same x (λ m. IsTrying p forgive log asked k t made [] m0 m) (λ m. IsIssuing p log [] [] m0 m) (λ m i. subst (λ (l : List Step). IsIssuing p log [] (numbered_entries (length log.calls - 1) forgive l) m0 m) (i.end refl) i.issuing) h.so }

record IsCut (forgive : Bool) (asked : AccessUnit) (k : Kept) (t : TargetState) (made : List RegAccess) (last : RegAccess) : Type 0 where
  forgives : forgive ≡ true
  steps : (alone_at forgive asked t k).steps ≡ steps_of_unit asked (made ++ last ∷ []) ++ abort_after asked (made ++ last ∷ []) ∷ []
  good : NoneFault t made
  bad : is_fault (action_attempt (after t (making made)) (Makes last)).outcome ≡ true

cut_of : (p : Planner) (forgive : Bool) (x : Option BenchState) (log : LogState) (asked : AccessUnit) (k : Kept) (t : TargetState) (made : List RegAccess) (last : RegAccess) (m0 : BenchState) → HasForgiven p forgive x log asked k t made last m0 → IsCut forgive asked k t made last
cut_of p forgive x log asked k t made last m0 h = fact_of x (λ m. IsForgiven p forgive log asked k t made last m0 m) _ (λ m i. record { forgives = i.forgives; steps = i.steps; good = i.good; bad = i.bad }) h.so

cut_issued : (p : Planner) (forgive : Bool) (x : Option BenchState) (log : LogState) (asked : AccessUnit) (k : Kept) (t : TargetState) (made : List RegAccess) (last : RegAccess) (m0 : BenchState) → HasForgiven p forgive x log asked k t made last m0 → HasIssued p x log [] [] m0
cut_issued p forgive x log asked k t made last m0 h = record { so = where_same x (λ m. IsForgiven p forgive log asked k t made last m0 m) (λ m. IsIssuing p log [] [] m0 m) (λ m i. i.issuing) h.so }

-- a word of 0 is a result of 0
zero_lanes : (size address : ℕ) → from_lanes size address 0 ≡ 0
zero_lanes size address = grind arith

result_zero : (asked : AccessUnit) → result_of (Access asked) 0 ≡ 0
result_zero (unit.Memory size true n address value) = zero_lanes size address
result_zero (unit.Memory size false n address value) = refl
result_zero (unit.Ap read n addr value) = refl
result_zero (unit.Dp read addr value) = refl
result_zero (unit.Poll mask value turns) = refl

-- ---- what the call came to

pub record UnitOutcome (p : Planner) (forgive : Bool) (small : Bool) (w : Option ℕ) (x : Option BenchState) (log : LogState) (calls : List Ask) (asked : AccessUnit) (m0 : BenchState) : Type 0 where
  pub issuing : HasIssued p x log [] [] m0
  pub results_are : results (start_world (target_of m0.probe) None) (calls ++ unit_ask asked forgive ∷ []) ≡ results (start_world (target_of m0.probe) None) calls ++ result_of (Access asked) (unwrap_or w 0) ∷ []
  pub skips_are : skips (start_world (target_of m0.probe) None) (calls ++ unit_ask asked forgive ∷ []) ≡ skips (start_world (target_of m0.probe) None) calls + skipped_by w
  pub small_is : small ≡ small_now (start_world (target_of m0.probe) None) calls (unit_ask asked forgive)

module _ (p : Planner) (forgive : Bool) (x : Option BenchState) (log : LogState) (calls : List Ask) (asked : AccessUnit) (m0 : BenchState) (alone : is_alone p forgive ≡ true) (may : may_forgive (Access asked) ≡ true) (b : IsBefore (target_of m0.probe) calls (unit_ask asked forgive)) where
  abbrev t0 : TargetState
  t0 = target_of m0.probe

  abbrev k : Kept
  k = kept_by p t0 calls

  abbrev u : TargetState
  u = target_settled p t0 calls k

  abbrev w0 : World
  w0 = start_world t0 None

  not_small : (v : ℕ) → IsSmallBy false (Some v) asked (kept_after_settling k) u → small_now w0 calls (unit_ask asked forgive) ≡ false
  not_small v (inl none) = small_unread p forgive t0 calls asked b none
  not_small v (inr shows) = small_shown p forgive t0 calls asked b true shows.0 shows.1

  by_end : (small : Bool) (w : Option ℕ) → EndsTo p forgive small w x log asked (kept_after_settling k) u m0 → IsSmallBy small w asked (kept_after_settling k) u → UnitOutcome p forgive small w x log calls asked m0
  by_end true w ends shows =
      let now : small_now w0 calls (unit_ask asked forgive) ≡ true = small_shown p forgive t0 calls asked b false shows.0 shows.1 in
      let o = small_outcome forgive t0 calls asked b now in
      record {
        issuing = whole_issued p forgive x log asked (kept_after_settling k) u ends.1.made m0 ends.1.tried;
        results_are = o.1 ∙ ap (λ (n : ℕ). results w0 calls ++ n ∷ []) (sym (ap (λ (v : Option ℕ). result_of (Access asked) (unwrap_or v 0)) ends.0 ∙ result_zero asked));
        skips_are = (let s = o.0 in let z : skipped_by w ≡ 0 = ap skipped_by ends.0 in omega (arith, s, z));
        small_is = sym now;
      }
  by_end false (Some v) ends shows =
      let i : IsWhole forgive asked (kept_after_settling k) u (ends.made ++ ends.last ∷ []) = whole_of p forgive x log asked (kept_after_settling k) u (ends.made ++ ends.last ∷ []) m0 ends.tried in
      let now : small_now w0 calls (unit_ask asked forgive) ≡ false = not_small v shows in
      record {
        issuing = whole_issued p forgive x log asked (kept_after_settling k) u (ends.made ++ ends.last ∷ []) m0 ends.tried;
        results_are = pass_results p forgive t0 calls asked alone may b ends.made ends.last i.steps i.good now ∙ ap (λ (n : ℕ). results w0 calls ++ result_of (Access asked) n ∷ []) (sym ends.value);
        skips_are = (let s = pass_skips p forgive t0 calls asked alone may b ends.made ends.last i.steps i.good in omega (arith, s));
        small_is = sym now;
      }
  by_end false None ends shows =
      let i : IsCut forgive asked (kept_after_settling k) u ends.made ends.last = cut_of p forgive x log asked (kept_after_settling k) u ends.made ends.last m0 ends.forgiven in
      let o = skip_outcome p forgive t0 calls asked alone may b ends.made ends.last i.forgives i.steps i.good i.bad in
      record {
        issuing = cut_issued p forgive x log asked (kept_after_settling k) u ends.made ends.last m0 ends.forgiven;
        results_are = o.1 ∙ ap (λ (n : ℕ). results w0 calls ++ n ∷ []) (sym (result_zero asked));
        skips_are = o.0;
        small_is = sym (skip_not_small p forgive t0 calls asked alone may b ends.made ends.last i.forgives i.steps i.good i.bad);
      }

pub unit_outcome : (p : Planner) (forgive : Bool) (x : Option BenchState) (log : LogState) (kept : Kept) (calls : List Ask) (asked : AccessUnit) (small : Bool) (w : Option ℕ) (reads : ℕ) (noted : Kept) (m0 : BenchState) → kept_by p (target_of m0.probe) calls ≡ kept → is_alone p forgive ≡ true → may_forgive (Access asked) ≡ true →
    IsBefore (target_of m0.probe) calls (unit_ask asked forgive) → IsDoneBy p forgive small w reads noted x log asked (kept_after_settling kept) (target_settled p (target_of m0.probe) calls kept) m0 → UnitOutcome p forgive small w x log calls asked m0
unit_outcome p forgive x log kept calls asked small w reads noted m0 kept_is alone may b =
    subst (λ (q : Kept). IsDoneBy p forgive small w reads noted x log asked (kept_after_settling q) (target_settled p (target_of m0.probe) calls q) m0 → UnitOutcome p forgive small w x log calls asked m0) kept_is
    (λ d. by_end p forgive x log calls asked m0 alone may b small w d.came d.small_is)

-- ---- the access goes on

-- what is known of the registers
pub unit_kept : (p : Planner) (forgive : Bool) (t : TargetState) (kept : Kept) (calls : List Ask) (asked : AccessUnit) (noted : Kept) → kept_by p t calls ≡ kept → is_alone p forgive ≡ true → may_forgive (Access asked) ≡ true → forget noted (port_of asked) ≡ (alone_issue p forgive t calls kept asked).kept →
    kept_by p t (calls ++ unit_ask asked forgive ∷ []) ≡ forget noted (port_of asked)
unit_kept p forgive t kept calls asked noted kept_is alone may is =
    (journal_grows p t calls (unit_ask asked forgive) refl).1 ∙ ap (λ (i : Issue). i.kept) (issue_is p forgive t calls (kept_by p t calls) asked alone may) ∙ ap (λ (q : Kept). (alone_issue p forgive t calls q asked).kept) kept_is ∙ sym is

pub unit_begun : (p : Planner) (forgive : Bool) (bench : BenchReported) (state : Option BenchState) (log : LogState) (sent got : List ℕ) (kept : Kept) (accesses : List RegAccess) (calls : List Ask) (asked : AccessUnit) (m0 : BenchState) → HasIssued p state log [] [] m0 → log.end ≡ None → log.whole ≡ length log.calls → log.came ≡ length log.calls →
    log.calls ≡ calls ++ unit_ask asked forgive ∷ [] → kept_by p (target_of m0.probe) (calls ++ unit_ask asked forgive ∷ []) ≡ kept → accesses ≡ [] → HasBegun p bench state log sent got kept accesses m0
unit_begun p forgive bench state log sent got kept accesses calls asked m0 h none whole came are kept_is empty =
    subst (λ (xs : List RegAccess). HasBegun p bench state log sent got kept xs m0) (sym empty)
    (issued_begun p bench state log sent got kept [] m0 h none whole (ap (kept_by p (target_of m0.probe)) are ∙ kept_is) (λ settled. (came, refl)))

-- ---- need points

more_both : (r : ℕ) (a : Asks) (ask : Ask) → needed_more (5 + r) (with_call ask a) ≡ needed_more 5 (with_call ask (needed_more r a))
more_both zero a ask = refl
more_both (suc r) a ask =
    let sum : 5 + suc r ≡ suc (5 + r) = omega arith in
    let capped : min (a.needs + suc (5 + r)) (2 ^ 64 - 1) ≡ min (min (a.needs + suc r) (2 ^ 64 - 1) + 5) (2 ^ 64 - 1) = grind arith in
    ap (λ (n : ℕ). needed_more n (with_call ask a)) sum
    ∙ (λ j. record { calls = a.calls ++ ask ∷ []; needs = capped j; fence = length (a.calls ++ ask ∷ []) })

pub unit_needs : (p : Planner) (forgive : Bool) (t : TargetState) (kept : Kept) (calls : List Ask) (asked' : AccessUnit) (reads needs fence : ℕ) (log new : LogState) (points count : ℕ) → is_alone p forgive ≡ true → kept_by p t calls ≡ kept → may_forgive (Access asked') ≡ true →
    reads ≡ leading_reads (alone_issue p forgive t calls kept asked').steps → new ≡ with_needs log points count → points ≡ managed_points p (5 + reads) → count ≡ length log.calls → asks_of log ≡ record { calls = calls ++ unit_ask asked' forgive ∷ []; needs = needs; fence = fence } →
    asks_of new ≡ asks_with_call (cost_by p t calls (unit_ask asked' forgive)) (unit_ask asked' forgive) (record { calls = calls; needs = needs; fence = fence })
unit_needs Plain forgive t kept calls asked' reads needs fence log new points count alone kept_is may reads_are is points_are at asks =
    ap asks_of is ∙ (λ j. asks_of (with_needs log (points_are j) (at j))) ∙ needs_more log 0 ∙ asks
unit_needs Managed false t kept calls asked' reads needs fence log new points count alone kept_is may reads_are is points_are at asks = absurd (let x : ◌≡◌ {A = Bool} false true = alone in cc)
unit_needs Managed true t kept calls asked' reads needs fence log new points count alone kept_is may reads_are is points_are at asks =
    let a : Asks = record { calls = calls; needs = needs; fence = fence } in
    let ask : Ask = unit_ask asked' true in
    let before : reads ≡ leading_reads (issue_of Managed (target_by Managed t calls) (kept_by Managed t calls) (unit_ask asked' true)).steps =
    reads_are ∙ sym (ap (λ (i : Issue). leading_reads i.steps) (issue_is Managed true t calls (kept_by Managed t calls) asked' alone may) ∙ no_reads (settle (kept_by Managed t calls)) (alone_issue Managed true t calls (kept_by Managed t calls) asked').steps
    ∙ ap (λ (q : Kept). leading_reads (alone_issue Managed true t calls q asked').steps) kept_is) in
    ap asks_of is ∙ (λ j. asks_of (with_needs log (points_are j) (at j))) ∙ needs_more log (5 + reads)
    ∙ ap (needed_more (5 + reads)) asks
    ∙ more_both reads a ask
    ∙ (λ j. needed_more (cond (sym may j) 5 0) (with_call ask (needed_more (before j) a)))
    ∙ cost_same t calls asked' may a
  where
    cost_same : (t : TargetState) (calls : List Ask) (asked' : AccessUnit) → may_forgive (Access asked') ≡ true → (a : Asks) →
        needed_more (cond (may_forgive (Access asked')) 5 0) (with_call (unit_ask asked' true) (needed_more (leading_reads (issue_of Managed (target_by Managed t calls) (kept_by Managed t calls) (unit_ask asked' true)).steps) a)) ≡ asks_with_call (cost_by Managed t calls (unit_ask asked' true)) (unit_ask asked' true) a
    cost_same t calls asked' may a = rw may refl
