-- The values of a flight that came whole: each is what its entry gives, and 0 for a write.
use Rattle.std.proofs.Common.{◌≡◌, ◌∙◌, ℕ, zero, suc, ◌+◌, ◌-◌, ◌<◌, ◌≤◌, Bool, true, false, cond, List, [], ◌∷◌, ◌++◌, length, Option, Some, None, refl, sym, ap, subst, arith, append_assoc, length-append}
use Rattle.std.specs.Option.{unwrap_or}
use Rattle.std.specs.Prelude.{slice_get}
use Rattle.dap_transfer.specs.Laws.{value_now}
use Rattle.target_machine.specs.Attempt.{attempt}
use Rattle.target_machine.specs.Lists.{after}
use Rattle.target_machine.specs.Plain.{Action, Makes, action_attempt, given_number}
use Rattle.target_machine.specs.State.{TargetState}
use Rattle.target_machine.specs.declared.access.RegAccess.{RegAccess}
use Rattle.dap_messages.specs.declared.request.Response.TheVariants.{Good}
use Rattle.flight_forms.specs.Flights.{Part, slot_values}
use Rattle.probe_core.specs.Bench.{BenchState}
use Rattle.probe_core.specs.Probe.{target_of}
use Rattle.target_calls.specs.Journal.{Entry, actions_in, target_after}
use Rattle.access_regs.specs.Journal.{making}
use Rattle.batch_packer.specs.SlotList.{slot_at, value_in}
use Rattle.batch_packer.specs.Flying.{Flies}
use Rattle.flight_laws.specs.UnderWay.{IsUnderWay}
use Rattle.flight_laws.proofs.CutLemmas.{Cutting, cut_list}
use Rattle.flight_laws.proofs.FlightLemmas.{head_makes, values_came}
use Rattle.flight_laws.proofs.PushLemmas.{same_cut, value_is_given}
use Rattle.packed_access.proofs.WriteLemmas.{write_gives}

-- the access that an entry of a flight is
record IsAccess (e : Entry) (accesses : List RegAccess) (place : ℕ) : Type 0 where
  pub access : RegAccess
  pub is : e.action ≡ Makes access
  pub slot : (t : TargetState) → access.read ≡ false → slot_at (slot_values t accesses) place ≡ None

access_of : (front : List Entry) (e : Entry) (back : List Entry) (accesses : List RegAccess) → actions_in (front ++ e ∷ back) ≡ making accesses → IsAccess e accesses (length front)
access_of [] e back [] h = absurd (cc)
access_of [] e back (b ∷ accesses) h =
    let p = head_makes e.action (Makes b) (actions_in back) (making accesses) h in
    record { access = b; is = p.0; slot = λ t write. ap (λ (x : Bool). value_in (Some (cond x (Some (value_now t b)) None))) write }
access_of (x ∷ front) e back [] h = absurd (cc)
access_of (x ∷ front) e back (b ∷ accesses) h =
    let p = head_makes x.action (Makes b) (actions_in (front ++ e ∷ back)) (making accesses) h in
    let r = access_of front e back accesses p.1 in
    record { access = r.access; is = r.is; slot = λ t write. r.slot (attempt t b).next write }

-- what the slot at a place of a whole flight has
pub slot_gives : (entries made flying rest : List Entry) (accesses : List RegAccess) (m0 m o : BenchState) (part : Part) (values : List (Option ℕ)) (front : List Entry) (e : Entry) (more : List Entry) (place : ℕ) →
    IsUnderWay entries made flying rest accesses m0 m → Flies accesses part m o → part.response ≡ Good → values ≡ part.values →
    entries ≡ front ++ e ∷ more → length front ≡ length made + place → place < length flying →
    unwrap_or (slot_at values place) 0 ≡ given_number (action_attempt (target_after (target_of m0.probe) front) e.action).outcome
slot_gives entries made flying rest accesses m0 m o part values front e more place on flies good values_are is at within =
    ap (λ (v : List (Option ℕ)). unwrap_or (slot_at v place) 0) values_are ∙ by_read (found.access.read) refl
  where
    t0 : TargetState
    t0 = target_of m0.probe

    c : Cutting place flying
    c = cut_list place flying within

    here : (made ++ c.front) ++ c.entry ∷ (c.back ++ rest) ≡ front ++ e ∷ more
    here =
        append_assoc made c.front (c.entry ∷ (c.back ++ rest)) ∙ ap (λ (l : List Entry). made ++ l) (sym (append_assoc c.front (c.entry ∷ c.back) rest))
        ∙ ap (λ (l : List Entry). made ++ (l ++ rest)) (sym c.is) ∙ sym on.are ∙ is

    same : (made ++ c.front ≡ front) × (c.entry ≡ e)
    same = same_cut (made ++ c.front) front c.entry e (c.back ++ rest) more here (length-append made c.front ∙ ap (λ (k : ℕ). length made + k) c.at ∙ sym at)

    found : IsAccess c.entry accesses (length c.front)
    found = access_of c.front c.entry c.back accesses (ap actions_in (sym c.is) ∙ on.flight)

    action : e.action ≡ Makes found.access
    action = ap (λ (x : Entry). x.action) (sym same.1) ∙ found.is

    by_read : (b : Bool) → found.access.read ≡ b → unwrap_or (slot_at part.values place) 0 ≡ given_number (action_attempt (target_after (target_of m0.probe) front) e.action).outcome
    by_read true read = ap (λ (v : Option ℕ). unwrap_or v 0) (value_is_given entries made flying rest accesses m0 m o part front e more found.access place on flies good is at within action read)
    by_read false write =
        (λ j. unwrap_or (slot_at (values_came entries made flying rest accesses m0 m o part on flies good j) (sym c.at j)) 0)
        ∙ ap (λ (v : Option ℕ). unwrap_or v 0) (found.slot (target_after (target_of m0.probe) made) write)
        ∙ sym (ap (λ (x : Action). given_number (action_attempt (target_after (target_of m0.probe) front) x).outcome) action ∙ write_gives (target_after (target_of m0.probe) front) found.access write)
