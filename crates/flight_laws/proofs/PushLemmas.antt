-- How entries come into a flight, and what its values say of them.
use Rattle.std.proofs.Common.{◌≡◌, ◌∙◌, ℕ, ◌+◌, Bool, true, cond, List, [], ◌∷◌, ◌++◌, length, Some, None, refl, sym, ap, subst, arith, append-nil, append_assoc, length-append}
use Rattle.std.proofs.lemmas.List.{map-append}
use Rattle.target_machine.specs.Attempt.{Attempt, attempt}
use Rattle.target_machine.specs.Lists.{PassTo, after}
use Rattle.target_machine.specs.Plain.{Action, Makes, action_attempt, given_number, in_order}
use Rattle.target_machine.specs.State.{TargetState}
use Rattle.target_machine.specs.declared.access.Outcome.{Outcome}
use Rattle.target_machine.specs.declared.access.Outcome.TheVariants as outcome
use Rattle.target_machine.specs.declared.access.RegAccess.{RegAccess}
use Rattle.target_machine.proofs.ActionLists.{pass_last}
use Rattle.dap_transfer.specs.Laws.{value_now}
use Rattle.dap_transfer.specs.WireTransfer.{value_of}
use Rattle.flight_forms.specs.Flights.{slot_values}
use Rattle.probe_core.specs.Probe.{target_of}
use Rattle.target_calls.specs.Journal.{Entry, actions_in}
use Rattle.target_calls.specs.Weights.{AreWeighty}
use Rattle.access_regs.specs.Entries.{NoneFault}
use Rattle.access_regs.specs.Journal.{making}
use Rattle.access_regs.proofs.EntryLemmas.{weighty_both}
use Rattle.access_regs.proofs.Lists.{actions_in_append}
use Rattle.access_regs.proofs.Seams.{after_split}
use Rattle.batch_packer.specs.SlotList.{value_in, slot_at}
use Rattle.flight_laws.specs.Pushing.{EntryPushed, JournalGrew, PlanGives, ValueGiven}
use Rattle.flight_laws.proofs.CutLemmas.{Cutting, cut_list}
use Rattle.flight_laws.proofs.FlightLemmas.{head_makes, values_came}

-- ---- entries into the flight

pub journal_grew : JournalGrew
journal_grew entries grown made flying more accesses m0 m on is weighty = record {
  are = is ∙ ap (λ (l : List Entry). l ++ more) on.are ∙ append_assoc made (flying ++ []) more ∙ ap (λ (l : List Entry). made ++ (l ++ more)) (append-nil flying);
  weighty = subst AreWeighty (sym is) (weighty_both entries more on.weighty weighty);
  flight = on.flight;
  passes = on.passes;
  target = on.target;
  clear = on.clear;
  work = on.work;
  room = on.room;
  retries = on.retries;
  few = on.few;
  setting = on.setting;
  idle_cycles = on.idle_cycles;
  number = on.number;
}

pub entry_pushed : EntryPushed
entry_pushed entries made flying e rest accesses a m0 m on is room = record {
  are = on.are ∙ ap (λ (l : List Entry). made ++ l) (sym (append_assoc flying (e ∷ []) rest));
  weighty = on.weighty;
  flight = actions_in_append flying (e ∷ []) ∙ (λ j. on.flight j ++ is j ∷ []) ∙ sym (map-append (λ (x : RegAccess). Makes x) accesses (a ∷ []));
  passes = on.passes;
  target = on.target;
  clear = on.clear;
  work = on.work;
  room = (let l = length-append flying (e ∷ []) in omega (arith, l, room));
  retries = on.retries;
  few = on.few;
  setting = on.setting;
  idle_cycles = on.idle_cycles;
  number = on.number;
}

-- ---- values

value_given : (o : Outcome) → value_of o ≡ given_number o
value_given (outcome.Value n) = refl
value_given outcome.Done = refl
value_given outcome.Fault = refl

value_there : (t : TargetState) (front : List Entry) (e : Entry) (back : List Entry) (accesses : List RegAccess) (a : RegAccess) → actions_in (front ++ e ∷ back) ≡ making accesses → e.action ≡ Makes a → a.read ≡ true →
    slot_at (slot_values t accesses) (length front) ≡ Some (given_number (action_attempt (after t (actions_in front)) e.action).outcome)
value_there t [] e back [] a h is read = absurd (cc)
value_there t [] e back (b ∷ accesses) a h is read =
    let p = head_makes e.action (Makes b) (actions_in back) (making accesses) h in
    let same : Makes b ≡ Makes a = sym p.0 ∙ is in
    let same' : b ≡ a = cc in
    let reads : b.read ≡ true = ap (λ (x : RegAccess). x.read) same' ∙ read in
    ap (λ (x : Bool). value_in (Some (cond x (Some (value_now t b)) None))) reads
    ∙ ap (λ (k : ℕ). Some k) (value_given (attempt t b).outcome ∙ ap (λ (x : Action). given_number (action_attempt t x).outcome) (sym p.0))
value_there t (x ∷ front) e back [] a h is read = absurd (cc)
value_there t (x ∷ front) e back (b ∷ accesses) a h is read =
    let p = head_makes x.action (Makes b) (actions_in (front ++ e ∷ back)) (making accesses) h in
    ap (λ (y : Action). slot_at (slot_values (action_attempt t y).next accesses) (length front)) (sym p.0)
    ∙ value_there (action_attempt t x.action).next front e back accesses a p.1 is read

pub same_cut : (xs xs' : List Entry) (e e' : Entry) (ys ys' : List Entry) → xs ++ e ∷ ys ≡ xs' ++ e' ∷ ys' → length xs ≡ length xs' → (xs ≡ xs') × (e ≡ e')
same_cut [] [] e e' ys ys' is len = (refl, cc)
same_cut [] (x' ∷ xs') e e' ys ys' is len = absurd (omega (arith, len))
same_cut (x ∷ xs) [] e e' ys ys' is len = absurd (omega (arith, len))
same_cut (x ∷ xs) (x' ∷ xs') e e' ys ys' is len =
    let head : x ≡ x' = cc in
    let tail : xs ++ e ∷ ys ≡ xs' ++ e' ∷ ys' = cc in
    let rest = same_cut xs xs' e e' ys ys' tail (omega (arith, len)) in
    ((λ j. head j ∷ rest.0 j), rest.1)

pub value_is_given : ValueGiven
value_is_given entries made flying rest accesses m0 m o part front e more a place on flies good is at within action read =
    let t0 : TargetState = target_of m0.probe in
    let c : Cutting place flying = cut_list place flying within in
    let here : (made ++ c.front) ++ c.entry ∷ (c.back ++ rest) ≡ front ++ e ∷ more =
    append_assoc made c.front (c.entry ∷ (c.back ++ rest)) ∙ ap (λ (l : List Entry). made ++ l) (sym (append_assoc c.front (c.entry ∷ c.back) rest)) ∙ ap (λ (l : List Entry). made ++ (l ++ rest)) (sym c.is) ∙ sym on.are ∙ is in
    let same = same_cut (made ++ c.front) front c.entry e (c.back ++ rest) more here (length-append made c.front ∙ ap (λ (k : ℕ). length made + k) c.at ∙ sym at) in
    let values : part.values ≡ slot_values (after t0 (actions_in made)) accesses = values_came entries made flying rest accesses m0 m o part on flies good in
    (λ j. slot_at (values j) (sym c.at j))
    ∙ value_there (after t0 (actions_in made)) c.front c.entry c.back accesses a (ap actions_in (sym c.is) ∙ on.flight) (ap (λ (x : Entry). x.action) same.1 ∙ action) read
    ∙ ap (λ (s : TargetState). Some (given_number (action_attempt s c.entry.action).outcome)) (sym (after_split t0 made c.front))
    ∙ (λ j. Some (given_number (action_attempt (after t0 (actions_in (same.0 j))) (same.1 j).action).outcome))

pub pass_makes : (u : TargetState) (lead : List RegAccess) → NoneFault u lead → PassTo u (making lead) (after u (making lead))
pass_makes u [] h = refl
pass_makes u (a ∷ lead) h = (h.0, pass_makes (action_attempt u (Makes a)).next lead h.1)

pub plan_gives : PlanGives
plan_gives u lead a none =
    ap (λ (l : List Action). given_number (in_order u l).outcome) (map-append (λ (x : RegAccess). Makes x) lead (a ∷ []))
    ∙ ap (λ (x : Attempt). given_number x.outcome) (pass_last u (after u (making lead)) (making lead) (Makes a) (pass_makes u lead none))
