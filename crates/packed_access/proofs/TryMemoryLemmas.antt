-- The flights of a memory access that forgives a fault.
use Rattle.std.proofs.Common.{◌≡◌, ◌∙◌, ℕ, ◌/◌, ◌%◌, ◌^◌, ◌<◌, Bool, true, false, not, ◌||◌, if◌then◌else◌, List, [], ◌∷◌, ◌++◌, Option, Some, None, Result, Ok, Err, refl, sym, ap, subst, arith, append_assoc}
use Rattle.std.specs.Prelude.{IfErr, IfOk}
use Rattle.std.specs.List.{list_any}
use Rattle.std.proofs.lemmas.List.Folds.{list_any-append}
use Rattle.target_machine.specs.Attempt.{attempt}
use Rattle.target_machine.specs.Lists.{after}
use Rattle.target_machine.specs.Plain.{Action, Makes, action_attempt, ap_access_of, csw_actions, csw_for, drw_of, given_number, in_order, memory_actions, select_of, transfer_actions}
use Rattle.target_machine.specs.Registers.{csw_register, tar_high_register, tar_register}
use Rattle.target_machine.specs.State.{TargetState}
use Rattle.target_machine.specs.declared.access.RegAccess.{RegAccess}
use Rattle.target_machine.specs.declared.unit.Unit.{Unit as AccessUnit}
use Rattle.target_machine.specs.declared.unit.Unit.TheVariants as unit
use Rattle.probe_core.specs.Bench.{BenchState}
use Rattle.target_calls.specs.declared.calls.Ask.{Ask}
use Rattle.access_regs.specs.Entries.{NoneFault}
use Rattle.access_regs.specs.Journal.{is_early, is_end, making}
use Rattle.access_regs.specs.Kept.{Kept}
use Rattle.access_regs.proofs.LeadLemmas.{leads_are_good, select_is_good}
use Rattle.access_regs.proofs.Select.{making_append}
use Rattle.access_calls.specs.Reported.{AccessView}
use Rattle.access_calls.specs.declared.stop.Stop.{Stop}
use Rattle.flight_laws.proofs.PushLemmas.{plan_gives}
use Rattle.packed_access.specs.Forgiving.{AreNextAccesses, CameTo, IsTrying, LogHasTried, LogIsBroken, WentTo}
use Rattle.packed_access.specs.Logs.{LogState}
use Rattle.packed_access.proofs.BegunLemmas.{fact_of}
use Rattle.packed_access.proofs.TryStepLemmas.{after_making}
use Rattle.access_regs.specs.declared.planner.Planner.{Planner}

-- STICKYERR is clear, and none of the accesses faulted
pub tried_clear : (p : Planner) (forgive : Bool) (x : Option BenchState) (log : LogState) (asked : AccessUnit) (k : Kept) (t : TargetState) (made : List RegAccess) (rest : List Action) (m0 : BenchState) → LogHasTried p forgive x log asked k t made rest m0 → (after t (making made)).sticky ≡ false
tried_clear p forgive x log asked k t made rest m0 h = fact_of x (λ m. IsTrying p forgive log asked k t made rest m0 m) _ (λ m i. ap (λ (u : TargetState). u.sticky) (sym i.target) ∙ i.issuing.sending.on.clear) h.so

pub tried_good : (p : Planner) (forgive : Bool) (x : Option BenchState) (log : LogState) (asked : AccessUnit) (k : Kept) (t : TargetState) (made : List RegAccess) (rest : List Action) (m0 : BenchState) → LogHasTried p forgive x log asked k t made rest m0 → NoneFault t made
tried_good p forgive x log asked k t made rest m0 h = fact_of x (λ m. IsTrying p forgive log asked k t made rest m0 m) _ (λ m i. i.good) h.so

none_rest : (u : TargetState) (xs ys : List RegAccess) → NoneFault u (xs ++ ys) → NoneFault (after u (making xs)) ys
none_rest u [] ys h = h
none_rest u (x ∷ xs) ys h = none_rest (action_attempt u (Makes x)).next xs ys h.1

-- ---- whether the access that a unit is for is among these

pub any_at : (asked : AccessUnit) (made ys : List RegAccess) (b : Bool) → list_any (is_end asked) (making made) ≡ false → list_any (is_end asked) (making ys) ≡ b → list_any (is_end asked) (making (made ++ ys)) ≡ b
any_at asked made ys b quiet here =
    ap (list_any (is_end asked)) (making_append made ys) ∙ list_any-append (is_end asked) (making made) (making ys) ∙ ap (λ (c : Bool). c || list_any (is_end asked) (making ys)) quiet ∙ here

pub early_at : (asked : AccessUnit) (made ys : List RegAccess) (b : Bool) → list_any (is_end asked) (making made) ≡ false → list_any (is_end asked) (making ys) ≡ b → is_early asked (making (made ++ ys)) ≡ not b
early_at asked made ys b quiet here = ap not (any_at asked made ys b quiet here)

-- ---- the read of CSW

-- SELECT, and the read
abbrev pub csw_flight : ℕ → List RegAccess
csw_flight n = select_of n 0 ∷ ap_access_of true csw_register 0 ∷ []

-- the writes that come before DRW
abbrev pub memory_leads : Bool → ℕ → ℕ → ℕ → List RegAccess
memory_leads large size address csw =
    ap_access_of false csw_register (csw_for csw size) ∷ (if large then ap_access_of false tar_high_register (address / 2 ^ 32) ∷ [] else []) ++ ap_access_of false tar_register (address % 2 ^ 32) ∷ []

-- CSW as it is read
abbrev pub csw_read : TargetState → ℕ → ℕ
csw_read u n = given_number (in_order u (csw_actions n)).outcome

module _ (p : Planner) (forgive : Bool) (x : Option BenchState) (log : LogState) (k : Kept) (t : TargetState) (made : List RegAccess) (rest : List Action) (m0 : BenchState) (large : Bool) (size : ℕ) (read : Bool) (n address value : ℕ)
    (h : LogHasTried p forgive x log (unit.Memory size read n address value) k t made rest m0) (lt : n < 256) (quiet : list_any (is_end (unit.Memory size read n address value)) (making made) ≡ false) (is : rest ≡ memory_actions (after t (making made)) large size read n address value) where
  abbrev pub unit_is : AccessUnit
  unit_is = unit.Memory size read n address value

  abbrev pub u : TargetState
  u = after t (making made)

  clear : u.sticky ≡ false
  clear = tried_clear p forgive x log unit_is k t made rest m0 h

  none_select : NoneFault u (select_of n 0 ∷ [])
  none_select = select_is_good u n 0 lt (omega arith) clear

  pub csw_next : AreNextAccesses unit_is t made (select_of n 0 ∷ []) (ap_access_of true 0 0) false rest (transfer_actions large size read address value (csw_read u n))
  csw_next = record {
    may = refl;
    first = ap not quiet;
    are = is;
    parts = refl;
    early = early_at unit_is made (csw_flight n) false quiet refl;
    good = none_select;
  }

  pub csw_given : given_number (action_attempt (after t (making (made ++ select_of n 0 ∷ []))) (Makes (ap_access_of true 0 0))).outcome ≡ csw_read u n
  csw_given =
      ap (λ (v : TargetState). given_number (action_attempt v (Makes (ap_access_of true 0 0))).outcome) (after_making t made (select_of n 0 ∷ []))
      ∙ sym (plan_gives u (select_of n 0 ∷ []) (ap_access_of true csw_register 0) none_select)

  -- ---- the transfer

  module _ (y : Option BenchState) (log2 : LogState) (csw : ℕ) (h2 : LogHasTried p forgive y log2 unit_is k t (made ++ (select_of n 0 ∷ [] ++ ap_access_of true 0 0 ∷ [])) (transfer_actions large size read address value (csw_read u n)) m0) (csw_is : csw ≡ csw_read u n) where
    abbrev pub made2 : List RegAccess
    made2 = made ++ (select_of n 0 ∷ [] ++ ap_access_of true 0 0 ∷ [])

    none_csw : NoneFault u (csw_flight n)
    none_csw = none_rest t made (csw_flight n) (tried_good p forgive y log2 unit_is k t made2 (transfer_actions large size read address value (csw_read u n)) m0 h2)

    there : after t (making made2) ≡ (attempt (attempt u (select_of n 0)).next (ap_access_of true csw_register 0)).next
    there = after_making t made (csw_flight n)

    quiet2 : list_any (is_end unit_is) (making made2) ≡ false
    quiet2 = any_at unit_is made (csw_flight n) false quiet refl

    pub drw_next : (b : Bool) → large ≡ b → AreNextAccesses unit_is t made2 (memory_leads b size address csw) (drw_of read address value) true (transfer_actions large size read address value (csw_read u n)) []
    drw_next true e = record {
      may = refl;
      first = ap not quiet2;
      are = (λ j. transfer_actions (e j) size read address value (sym csw_is j));
      parts = refl;
      early = early_at unit_is made2 (memory_leads true size address csw ++ drw_of read address value ∷ []) true quiet2 refl;
      good = subst (λ (v : TargetState). NoneFault v (memory_leads true size address csw)) (sym there) (leads_are_good u n (csw_for csw size) address true lt clear none_csw.1.0);
    }
    drw_next false e = record {
      may = refl;
      first = ap not quiet2;
      are = (λ j. transfer_actions (e j) size read address value (sym csw_is j));
      parts = refl;
      early = early_at unit_is made2 (memory_leads false size address csw ++ drw_of read address value ∷ []) true quiet2 refl;
      good = subst (λ (v : TargetState). NoneFault v (memory_leads false size address csw)) (sym there) (leads_are_good u n (csw_for csw size) address false lt clear none_csw.1.0);
    }

-- ---- what it came to

pub went_came : (p : Planner) (forgive : Bool) (w : Option ℕ) (x : Option BenchState) (log : LogState) (asked : AccessUnit) (k : Kept) (t : TargetState) (made leads : List RegAccess) (last : RegAccess) (m0 : BenchState) → WentTo p forgive w x log asked k t made leads last [] m0 → CameTo p forgive w x log asked k t m0
went_came p forgive None x log asked k t made leads last m0 h = record { made = made ++ leads; last = last; forgiven = h }
went_came p forgive (Some v) x log asked k t made leads last m0 h = record {
  made = made ++ leads;
  last = last;
  tried = subst (λ (l : List RegAccess). LogHasTried p forgive x log asked k t l [] m0) (sym (append_assoc made leads (last ∷ []))) h.0;
  value = h.1;
}

pub went_skipped : (p : Planner) (forgive : Bool) (w : Option ℕ) (x : Option BenchState) (log : LogState) (asked : AccessUnit) (k : Kept) (t : TargetState) (made leads : List RegAccess) (last : RegAccess) (more : List Action) (m0 : BenchState) → w ≡ None → WentTo p forgive w x log asked k t made leads last more m0 → CameTo p forgive None x log asked k t m0
went_skipped p forgive w x log asked k t made leads last more m0 is h =
    record { made = made ++ leads; last = last; forgiven = subst (λ (v : Option ℕ). WentTo p forgive v x log asked k t made leads last more m0) is h }

pub on_ok : {A E : Type 0} → (r : Result A E) (P Q : A → Type 0) → ((a : A) → P a → Q a) → IfOk r P → IfOk r Q
on_ok (Ok a) P Q f h = f a h
on_ok (Err e) P Q f h = tt

pub on_err : {A E : Type 0} → (r : Result A E) (P Q : E → Type 0) → ((e : E) → P e → Q e) → IfErr r P → IfErr r Q
on_err (Ok a) P Q f h = tt
on_err (Err e) P Q f h = f e h

-- the calls by another name
pub broken_calls : (p : Planner) (s : Stop) (a : AccessView) (log : LogState) (calls calls' : List Ask) (m0 : BenchState) → calls ≡ calls' → LogIsBroken p s a log calls m0 → LogIsBroken p s a log calls' m0
broken_calls p s a log calls calls' m0 same h = subst (λ (l : List Ask). LogIsBroken p s a log l m0) same h
