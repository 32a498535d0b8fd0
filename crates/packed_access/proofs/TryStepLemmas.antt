-- The steps of a unit made alone, flight by flight.
use Rattle.std.proofs.Common.{◌≡◌, ◌∙◌, ℕ, ◌+◌, Bool, true, false, List, [], ◌∷◌, ◌++◌, map, refl, sym, ap, subst, append_assoc}
use Rattle.std.proofs.lemmas.List.{map-append}
use Rattle.std.proofs.lemmas.Bool.{both_ways}
use Rattle.target_machine.specs.Attempt.{attempt}
use Rattle.target_machine.specs.Lists.{after}
use Rattle.target_machine.specs.Plain.{Action, Makes, action_attempt, call_actions, is_fault}
use Rattle.target_machine.specs.State.{TargetState}
use Rattle.target_machine.specs.declared.access.RegAccess.{RegAccess}
use Rattle.target_machine.specs.declared.unit.Call.TheVariants.{Access}
use Rattle.target_machine.specs.declared.unit.Unit.{Unit as AccessUnit}
use Rattle.flight_forms.specs.Flights.{AreClear}
use Rattle.target_calls.specs.Journal.{Entry, actions_in}
use Rattle.target_calls.specs.declared.journal.Part.TheVariants.{Leads}
use Rattle.access_regs.specs.Entries.{NoneFault}
use Rattle.access_regs.specs.Journal.{Step, alone_at, is_last, large_of, making, numbered_entries, steps_of}
use Rattle.access_regs.specs.Kept.{Kept}
use Rattle.access_regs.proofs.Select.{making_append}
use Rattle.access_regs.proofs.Lists.{numbered_append}
use Rattle.access_calls.specs.Issued.{kept_of}
use Rattle.access_calls.specs.declared.issued.Issued.{Issued}
use Rattle.flight_laws.specs.Actions.{AreForgiving}
use Rattle.flight_laws.specs.Forgiving.{BeginsWithAccesses, abort_after, steps_of_unit}
use Rattle.flight_laws.proofs.FlightLemmas.{clear_good, clear_head, head_makes}
use Rattle.flight_laws.proofs.ForgivingLemmas.{alone_flight}
use Rattle.packed_access.specs.Forgiving.{AreNextAccesses, last_part}
use Rattle.flight_laws.specs.Flights.{AreStrict}
use Rattle.flight_laws.specs.Forgiving.{after_fault}

-- ---- accesses that do not fault

pub none_both : (u : TargetState) (xs ys : List RegAccess) → NoneFault u xs → NoneFault (after u (making xs)) ys → NoneFault u (xs ++ ys)
none_both u [] ys h k = k
none_both u (x ∷ xs) ys h k = (h.0, none_both (action_attempt u (Makes x)).next xs ys h.1 k)

pub none_clear : (t : TargetState) (accesses : List RegAccess) → AreClear t accesses → NoneFault t accesses
none_clear t [] h = tt
none_clear t (a ∷ accesses) h = (clear_good t a (clear_head (attempt t a).next accesses h.1), none_clear (attempt t a).next accesses h.1)

pub none_last : (u : TargetState) (xs : List RegAccess) (a : RegAccess) → NoneFault u (xs ++ a ∷ []) → is_fault (action_attempt (after u (making xs)) (Makes a)).outcome ≡ false
none_last u [] a h = h.0
none_last u (x ∷ xs) a h = none_last (action_attempt u (Makes x)).next xs a h.1

pub none_with : (u : TargetState) (xs : List RegAccess) (a : RegAccess) → NoneFault u xs → is_fault (action_attempt (after u (making xs)) (Makes a)).outcome ≡ false → NoneFault u (xs ++ a ∷ [])
none_with u [] a h good = (good, tt)
none_with u (x ∷ xs) a h good = (h.0, none_with (action_attempt u (Makes x)).next xs a h.1 good)

pub none_at : (u : TargetState) (front : List Entry) (e : Entry) (back : List Entry) (accesses : List RegAccess) → NoneFault u accesses → actions_in (front ++ e ∷ back) ≡ making accesses → is_fault (action_attempt (after u (actions_in front)) e.action).outcome ≡ false
none_at u [] e back [] h is = absurd (cc)
none_at u [] e back (b ∷ accesses) h is = ap (λ (x : Action). is_fault (action_attempt u x).outcome) (head_makes e.action (Makes b) (actions_in back) (making accesses) is).0 ∙ h.0
none_at u (x ∷ front) e back [] h is = absurd (cc)
none_at u (x ∷ front) e back (b ∷ accesses) h is =
    let p = head_makes x.action (Makes b) (actions_in (front ++ e ∷ back)) (making accesses) is in
    none_at (action_attempt u x.action).next front e back accesses (subst (λ (y : Action). NoneFault (action_attempt u y).next accesses) (sym p.0) h.1) p.1

pub after_making : (u : TargetState) (xs ys : List RegAccess) → after u (making (xs ++ ys)) ≡ after (after u (making xs)) (making ys)
after_making u [] ys = refl
after_making u (x ∷ xs) ys = after_making (action_attempt u (Makes x)).next xs ys

-- ---- steps as entries

pub steps_both : (asked : AccessUnit) (xs ys : List RegAccess) → steps_of_unit asked (xs ++ ys) ≡ steps_of_unit asked xs ++ steps_of_unit asked ys
steps_both asked xs ys = map-append _ xs ys

pub cancel : {A : Type 0} → (xs ys zs : List A) → xs ++ ys ≡ xs ++ zs → ys ≡ zs
cancel [] ys zs e = e
cancel (x ∷ xs) ys zs e = cancel xs ys zs (let r : xs ++ ys ≡ xs ++ zs = cc in r)

pub unit_actions_in : (forgive : Bool) (n : ℕ) (asked : AccessUnit) (xs : List RegAccess) → actions_in (numbered_entries n forgive (steps_of_unit asked xs)) ≡ making xs
unit_actions_in forgive n asked [] = refl
unit_actions_in forgive n asked (x ∷ xs) = ap (λ l. Makes x ∷ l) (unit_actions_in forgive n asked xs)

never_settles : (b : Bool) (n : ℕ) (x : Action) → AreForgiving (numbered_entries n true (record { part = last_part b; action = x } ∷ []))
never_settles true n x = (refl, tt)
never_settles false n x = (refl, tt)

pub unit_forgiving : (n : ℕ) (asked : AccessUnit) (xs : List RegAccess) → AreForgiving (numbered_entries n true (steps_of_unit asked xs))
unit_forgiving n asked [] = tt
unit_forgiving n asked (x ∷ xs) = ((never_settles (is_last asked x) n (Makes x)).0, unit_forgiving n asked xs)

leads_kept : (forgive : Bool) (n : ℕ) (leads : List RegAccess) → map kept_of (numbered_entries n forgive (steps_of Leads leads)) ≡ map (λ (a : RegAccess). record { unit = n + 1; part = Leads }) leads
leads_kept forgive n [] = refl
leads_kept forgive n (x ∷ leads) = ap (λ (l : List Issued). record { unit = n + 1; part = Leads } ∷ l) (leads_kept forgive n leads)

last_kept : (forgive : Bool) (n : ℕ) (b : Bool) (last : RegAccess) → map kept_of (numbered_entries n forgive (record { part = last_part b; action = Makes last } ∷ [])) ≡ record { unit = n + 1; part = last_part b } ∷ []
last_kept forgive n true last = refl
last_kept forgive n false last = refl

pub unit_strict : (n : ℕ) (asked : AccessUnit) (xs : List RegAccess) → AreStrict (numbered_entries n false (steps_of_unit asked xs))
unit_strict n asked [] = tt
unit_strict n asked (x ∷ xs) = (refl, unit_strict n asked xs)

-- what is kept of the entries of a flight
pub flight_kept : (forgive : Bool) (n : ℕ) (asked : AccessUnit) (leads : List RegAccess) (last : RegAccess) (b : Bool) → steps_of_unit asked (leads ++ last ∷ []) ≡ steps_of Leads leads ++ record { part = last_part b; action = Makes last } ∷ [] →
    map kept_of (numbered_entries n forgive (steps_of_unit asked (leads ++ last ∷ []))) ≡ map (λ (a : RegAccess). record { unit = n + 1; part = Leads }) leads ++ record { unit = n + 1; part = last_part b } ∷ []
flight_kept forgive n asked leads last b is =
    ap (λ (l : List Step). map kept_of (numbered_entries n forgive l)) is ∙ ap (map kept_of) (numbered_append n forgive (steps_of Leads leads) (record { part = last_part b; action = Makes last } ∷ []))
    ∙ map-append kept_of (numbered_entries n forgive (steps_of Leads leads)) (numbered_entries n forgive (record { part = last_part b; action = Makes last } ∷ []))
    ∙ (λ j. leads_kept forgive n leads j ++ last_kept forgive n b last j)

-- ---- what follows a flight

-- the steps that are left begin with those of the flight; where its last access faults nothing follows but the write of ABORT, if the unit
-- forgives the fault
pub record IsSplit (forgive : Bool) (asked : AccessUnit) (t : TargetState) (made leads : List RegAccess) (last : RegAccess) (left : List Step) (more : List Action) : Type 0 where
  pub tail : List Step
  pub is : left ≡ steps_of_unit asked (leads ++ last ∷ []) ++ tail
  pub bad : is_fault (action_attempt (after t (making (made ++ leads))) (Makes last)).outcome ≡ true → tail ≡ after_fault forgive asked (made ++ (leads ++ last ∷ []))
  pub good : is_fault (action_attempt (after t (making (made ++ leads))) (Makes last)).outcome ≡ false → more ≡ [] → tail ≡ []

pub split_steps : (forgive : Bool) (asked : AccessUnit) (k : Kept) (t : TargetState) (made leads : List RegAccess) (last : RegAccess) (ends : Bool) (left : List Step) (rest more : List Action) →
    call_actions t (large_of k asked) (Access asked) ≡ making made ++ rest → (alone_at forgive asked t k).steps ≡ steps_of_unit asked made ++ left → NoneFault t made → AreNextAccesses asked t made leads last ends rest more → IsSplit forgive asked t made leads last left more
split_steps forgive asked k t made leads last ends left rest more actions steps good n = by_fault (is_fault (action_attempt (after t (making (made ++ leads))) (Makes last)).outcome) refl
  where
    joined : (made ++ leads) ++ last ∷ [] ≡ made ++ (leads ++ last ∷ [])
    joined = append_assoc made leads (last ∷ [])

    are : call_actions t (large_of k asked) (Access asked) ≡ making ((made ++ leads) ++ last ∷ []) ++ more
    are =
        actions ∙ ap (λ (l : List Action). making made ++ l) n.are ∙ sym (append_assoc (making made) (making (leads ++ last ∷ [])) more)
        ∙ ap (λ (l : List Action). l ++ more) (sym (making_append made (leads ++ last ∷ []))) ∙ ap (λ (l : List RegAccess). making l ++ more) (sym joined)

    none : NoneFault t (made ++ leads)
    none = none_both t made leads good n.good

    cut : (tail : List Step) → (alone_at forgive asked t k).steps ≡ steps_of_unit asked ((made ++ leads) ++ last ∷ []) ++ tail → left ≡ steps_of_unit asked (leads ++ last ∷ []) ++ tail
    cut tail is =
        cancel (steps_of_unit asked made) left (steps_of_unit asked (leads ++ last ∷ []) ++ tail)
        (sym steps ∙ is ∙ ap (λ (l : List RegAccess). steps_of_unit asked l ++ tail) joined ∙ ap (λ (l : List Step). l ++ tail) (steps_both asked made (leads ++ last ∷ []))
        ∙ append_assoc (steps_of_unit asked made) (steps_of_unit asked (leads ++ last ∷ [])) tail)

    by_fault : (b : Bool) → is_fault (action_attempt (after t (making (made ++ leads))) (Makes last)).outcome ≡ b → IsSplit forgive asked t made leads last left more
    by_fault true e =
        let f = alone_flight forgive asked t k (made ++ leads) last more n.may are none in
        record {
          tail = after_fault forgive asked ((made ++ leads) ++ last ∷ []);
          is = cut (after_fault forgive asked ((made ++ leads) ++ last ∷ [])) (f.0 e);
          bad = λ bad. ap (after_fault forgive asked) joined;
          good = λ fine none. absurd (both_ways (is_fault (action_attempt (after t (making (made ++ leads))) (Makes last)).outcome) fine e);
        }
    by_fault false e =
        let f = alone_flight forgive asked t k (made ++ leads) last more n.may are none in
        let b : BeginsWithAccesses (alone_at forgive asked t k).steps asked ((made ++ leads) ++ last ∷ []) more = f.1 e in
        record {
          tail = b.more;
          is = cut b.more b.is;
          bad = λ bad. absurd (both_ways (is_fault (action_attempt (after t (making (made ++ leads))) (Makes last)).outcome) e bad);
          good = λ fine none. b.end none;
        }
