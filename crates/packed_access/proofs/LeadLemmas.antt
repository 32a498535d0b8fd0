-- The accesses that lead to the one that a unit is for, each in a flight of its own.
use Rattle.std.proofs.Common.{◌≡◌, ◌∙◌, ℕ, Bool, true, false, not, cond, List, [], ◌∷◌, ◌++◌, Option, Some, None, refl, sym, ap, subst, append-nil, append_assoc}
use Rattle.std.specs.Prelude.{◌||◌}
use Rattle.std.specs.List.{list_any}
use Rattle.std.proofs.lemmas.Bool.{or_parts, not-true, both_ways}
use Rattle.target_machine.specs.Lists.{after}
use Rattle.target_machine.specs.Plain.{Action, Makes, action_attempt, given_number, is_fault}
use Rattle.target_machine.specs.State.{TargetState}
use Rattle.target_machine.specs.declared.access.RegAccess.{RegAccess}
use Rattle.target_machine.specs.declared.unit.Unit.{Unit as AccessUnit}
use Rattle.probe_core.specs.Bench.{BenchState}
use Rattle.target_calls.specs.declared.journal.Part.TheVariants.{Ends, Leads}
use Rattle.access_regs.specs.Entries.{NoneFault}
use Rattle.access_regs.specs.Journal.{Step, is_early, is_end, is_last, making, steps_of}
use Rattle.access_regs.specs.Kept.{Kept}
use Rattle.access_regs.specs.declared.planner.Planner.{Planner}
use Rattle.flight_laws.specs.Forgiving.{steps_of_unit}
use Rattle.packed_access.specs.Forgiving.{AreNextAccesses, HasForgiven, IsForgiven, LogHasTried, WentTo}
use Rattle.packed_access.specs.Logs.{LogState}
use Rattle.packed_access.proofs.BegunLemmas.{where_same}
use Rattle.packed_access.proofs.TryMemoryLemmas.{early_at}
use Rattle.packed_access.proofs.TryStepLemmas.{after_making}

-- ---- none of them is the access that the unit is for

not_ends : (b : Bool) → cond b Ends Leads ≡ Leads → b ≡ false
not_ends true e = absurd (cc)
not_ends false e = refl

quiet_leads : (asked : AccessUnit) (leads : List RegAccess) (last : RegAccess) (s : Step) → steps_of_unit asked (leads ++ last ∷ []) ≡ steps_of Leads leads ++ s ∷ [] → list_any (is_end asked) (making leads) ≡ false
quiet_leads asked [] last s e = refl
quiet_leads asked (x ∷ leads) last s e =
    let first : ◌≡◌ {A = Step} (record { part = cond (is_last asked x) Ends Leads; action = Makes x }) (record { part = Leads; action = Makes x }) = cc in
    let rest : steps_of_unit asked (leads ++ last ∷ []) ≡ steps_of Leads leads ++ s ∷ [] = cc in
    (λ j. not_ends (is_last asked x) (ap (λ (t : Step). t.part) first) j || quiet_leads asked leads last s rest j)

quiet_front : (asked : AccessUnit) (front back : List RegAccess) → list_any (is_end asked) (making (front ++ back)) ≡ false → list_any (is_end asked) (making front) ≡ false
quiet_front asked [] back e = refl
quiet_front asked (x ∷ front) back e =
    let both = or_parts (is_last asked x) (list_any (is_end asked) (making (front ++ back))) e in
    (λ j. both.0 j || quiet_front asked front back both.1 j)

quiet_mid : (asked : AccessUnit) (front : List RegAccess) (lead : RegAccess) (back : List RegAccess) → list_any (is_end asked) (making (front ++ lead ∷ back)) ≡ false → is_last asked lead ≡ false
quiet_mid asked [] lead back e = (or_parts (is_last asked lead) (list_any (is_end asked) (making back)) e).0
quiet_mid asked (x ∷ front) lead back e = quiet_mid asked front lead back (or_parts (is_last asked x) (list_any (is_end asked) (making (front ++ lead ∷ back))) e).1

last_parts : (asked : AccessUnit) (leads : List RegAccess) (last : RegAccess) (s : Step) → steps_of_unit asked (leads ++ last ∷ []) ≡ steps_of Leads leads ++ s ∷ [] → steps_of_unit asked (last ∷ []) ≡ s ∷ []
last_parts asked [] last s e = e
last_parts asked (x ∷ leads) last s e = last_parts asked leads last s (let rest : steps_of_unit asked (leads ++ last ∷ []) ≡ steps_of Leads leads ++ s ∷ [] = cc in rest)

none_mid : (u : TargetState) (front : List RegAccess) (lead : RegAccess) (back : List RegAccess) → NoneFault u (front ++ lead ∷ back) → is_fault (action_attempt (after u (making front)) (Makes lead)).outcome ≡ false
none_mid u [] lead back h = h.0
none_mid u (x ∷ front) lead back h = none_mid (action_attempt u (Makes x)).next front lead back h.1

-- ---- one by one

module _ (asked : AccessUnit) (t : TargetState) (made leads : List RegAccess) (last : RegAccess) (ends : Bool) (rest more : List Action) (n : AreNextAccesses asked t made leads last ends rest more) where
  quiet_made : list_any (is_end asked) (making made) ≡ false
  quiet_made = not-true (list_any (is_end asked) (making made)) n.first

  quiet_all : list_any (is_end asked) (making leads) ≡ false
  quiet_all = quiet_leads asked leads last _ n.parts

  -- the next of them
  module _ (front : List RegAccess) (lead : RegAccess) (back : List RegAccess) (are : leads ≡ front ++ lead ∷ back) where
    quiet_here : list_any (is_end asked) (making (front ++ lead ∷ back)) ≡ false
    quiet_here = subst (λ (l : List RegAccess). list_any (is_end asked) (making l) ≡ false) are quiet_all

    lead_not : is_last asked lead ≡ false
    lead_not = quiet_mid asked front lead back quiet_here

    early_now : is_early asked (making (made ++ front)) ≡ true
    early_now = early_at asked made front false quiet_made (quiet_front asked front (lead ∷ back) quiet_here)

    pub lead_next : AreNextAccesses asked t (made ++ front) [] lead false (making ((lead ∷ back) ++ last ∷ []) ++ more) (making (back ++ last ∷ []) ++ more)
    lead_next = record {
      may = n.may;
      first = early_now;
      are = refl;
      parts = ap (λ (b : Bool). record { part = cond b Ends Leads; action = Makes lead } ∷ []) lead_not;
      early = early_at asked (made ++ front) (lead ∷ []) false (not-true (list_any (is_end asked) (making (made ++ front))) early_now) (ap (λ (b : Bool). b || false) lead_not);
      good = tt;
    }

    lead_good : is_fault (action_attempt (after t (making (made ++ front))) (Makes lead)).outcome ≡ false
    lead_good =
        ap (λ (u : TargetState). is_fault (action_attempt u (Makes lead)).outcome) (after_making t made front)
        ∙ none_mid (after t (making made)) front lead back (subst (NoneFault (after t (making made))) are n.good)

    -- it does not fault
    pub lead_stays : (p : Planner) (forgive : Bool) (x : Option BenchState) (log : LogState) (k : Kept) (m0 : BenchState) → HasForgiven p forgive x log asked k t ((made ++ front) ++ []) lead m0 → HasForgiven p forgive x log asked k t (made ++ leads) last m0
    lead_stays p forgive x log k m0 h = record {
      so = where_same x (λ m. IsForgiven p forgive log asked k t ((made ++ front) ++ []) lead m0 m) (λ m. IsForgiven p forgive log asked k t (made ++ leads) last m0 m)
          (λ m i. absurd (both_ways (is_fault (action_attempt (after t (making (made ++ front))) (Makes lead)).outcome) lead_good (ap (λ (l : List RegAccess). is_fault (action_attempt (after t (making l)) (Makes lead)).outcome) (sym (append-nil (made ++ front))) ∙ i.bad))) h.so;
    }

  -- the last of all
  pub last_next : AreNextAccesses asked t (made ++ leads) [] last ends (Makes last ∷ more) more
  last_next = record {
    may = n.may;
    first = early_at asked made leads false quiet_made quiet_all;
    are = refl;
    parts = last_parts asked leads last _ n.parts;
    early = ap (λ (l : List RegAccess). is_early asked (making l)) (append_assoc made leads (last ∷ [])) ∙ n.early;
    good = tt;
  }

-- ---- what they came to

-- one more came
pub lead_came : (p : Planner) (forgive : Bool) (x : Option BenchState) (log : LogState) (asked : AccessUnit) (k : Kept) (t : TargetState) (made front : List RegAccess) (lead : RegAccess) (more : List Action) (m0 : BenchState) → LogHasTried p forgive x log asked k t ((made ++ front) ++ ([] ++ lead ∷ [])) more m0 →
    LogHasTried p forgive x log asked k t (made ++ (front ++ lead ∷ [])) more m0
lead_came p forgive x log asked k t made front lead more m0 h = subst (λ (l : List RegAccess). LogHasTried p forgive x log asked k t l more m0) (append_assoc made front (lead ∷ [])) h

-- all of them, and then the last
pub all_went : (p : Planner) (forgive : Bool) (w : Option ℕ) (x : Option BenchState) (log : LogState) (asked : AccessUnit) (k : Kept) (t : TargetState) (made leads : List RegAccess) (last : RegAccess) (more : List Action) (m0 : BenchState) → WentTo p forgive w x log asked k t (made ++ leads) [] last more m0 →
    WentTo p forgive w x log asked k t made leads last more m0
all_went p forgive None x log asked k t made leads last more m0 h = subst (λ (l : List RegAccess). HasForgiven p forgive x log asked k t l last m0) (append-nil (made ++ leads)) h
all_went p forgive (Some v) x log asked k t made leads last more m0 h = (
  subst (λ (l : List RegAccess). LogHasTried p forgive x log asked k t l more m0) (append_assoc made leads (last ∷ [])) h.0,
  h.1 ∙ ap (λ (l : List RegAccess). given_number (action_attempt (after t (making l)) (Makes last)).outcome) (append-nil (made ++ leads)),
)
