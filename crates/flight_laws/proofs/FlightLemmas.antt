-- What a flight leaves of the calls whose entries lie in it.
use Rattle.std.proofs.Common.{◌≡◌, ◌∙◌, ℕ, zero, suc, ◌+◌, ◌-◌, ◌^◌, ◌≤◌, ◌<◌, min, Bool, true, false, cond, not, ◌&&◌, List, [], ◌∷◌, ◌++◌, length, take, refl, sym, ap, subst, arith, append_assoc}
use Rattle.std.proofs.lemmas.List.{take_all}
use Rattle.std.proofs.lemmas.List.Sums.{sum_by-cons}
use Rattle.std.proofs.lemmas.Bool.{both_ways}
use Rattle.target_calls.proofs.EntryLemmas.{commands_append, weight_append}
use Rattle.access_regs.proofs.Seams.{after_split, passes_both}
use Rattle.access_regs.specs.Journal.{making}
use Rattle.target_calls.specs.Journal.{Entry, Passes, actions_in, target_after}
use Rattle.target_calls.specs.Weights.{commands_in, commands_of, weight, weight_in}
use Rattle.batch_packer.specs.Flying.{Flies}
use Rattle.flight_laws.specs.UnderWay.{IsUnderWay}
use Rattle.target_machine.specs.Counts.{one_if}
use Rattle.dap_transfer.specs.Laws.{one_at_a_time}
use Rattle.dap_transfer.specs.State.{grown_work, is_wait}
use Rattle.flight_forms.specs.Flights.{AreClear, Part, slot_values}
use Rattle.flight_forms.proofs.Rows.{clear_end}
use Rattle.probe_core.specs.Bench.{BenchState}
use Rattle.probe_core.specs.Probe.{ended_retries_of, target_of, work_of}
use Rattle.target_machine.proofs.AccessLaws.{fault_sets}
use Rattle.target_machine.specs.Attempt.{attempt}
use Rattle.target_machine.specs.Lists.{after}
use Rattle.target_machine.specs.Plain.{Action, Makes, action_attempt, is_fault}
use Rattle.target_machine.specs.State.{TargetState}
use Rattle.target_machine.specs.declared.access.RegAccess.{RegAccess}
use Rattle.target_machine.specs.declared.access.Outcome.{Outcome}
use Rattle.target_machine.specs.declared.access.Outcome.TheVariants as outcome
use Rattle.dap_messages.specs.declared.request.Response.{Response}
use Rattle.dap_messages.specs.declared.request.Response.TheVariants.{Good}

-- ---- entries that are register accesses

pub head_makes : (x y : Action) (xs ys : List Action) → x ∷ xs ≡ y ∷ ys → (x ≡ y) × (xs ≡ ys)
head_makes x y xs ys e = (cc, cc)

pub flight_take : (k : ℕ) (es : List Entry) (accesses : List RegAccess) → actions_in es ≡ making accesses → actions_in (take k es) ≡ making (take k accesses)
flight_take zero es accesses e = refl
flight_take (suc k) [] [] e = refl
flight_take (suc k) [] (a ∷ accesses) e = absurd (cc)
flight_take (suc k) (x ∷ es) [] e = absurd (cc)
flight_take (suc k) (x ∷ es) (a ∷ accesses) e =
    let p = head_makes x.action (Makes a) (actions_in es) (making accesses) e in
    (λ j. p.0 j ∷ flight_take k es accesses p.1 j)

pub flight_length : (es : List Entry) (accesses : List RegAccess) → actions_in es ≡ making accesses → length es ≡ length accesses
flight_length [] [] e = refl
flight_length [] (a ∷ accesses) e = absurd (cc)
flight_length (x ∷ es) [] e = absurd (cc)
flight_length (x ∷ es) (a ∷ accesses) e = ap suc (flight_length es accesses (head_makes x.action (Makes a) (actions_in es) (making accesses) e).1)

pub makes_after : (t : TargetState) (accesses : List RegAccess) → after t (making accesses) ≡ one_at_a_time t accesses
makes_after t [] = refl
makes_after t (a ∷ accesses) = makes_after (attempt t a).next accesses

-- each weighs one
pub flight_weight : (t : TargetState) (es : List Entry) (accesses : List RegAccess) → actions_in es ≡ making accesses → weight_in t es ≡ length es
flight_weight t [] accesses e = refl
flight_weight t (x ∷ es) [] e = absurd (cc)
flight_weight t (x ∷ es) (a ∷ accesses) e =
    let p = head_makes x.action (Makes a) (actions_in es) (making accesses) e in
    let one : weight t x.action ≡ 1 = ap (weight t) p.0 in
    let rest : weight_in (action_attempt t x.action).next es ≡ length es = flight_weight (action_attempt t x.action).next es accesses p.1 in
    omega (arith, one, rest)

-- none is a command of the probe
pub flight_commands : (es : List Entry) (accesses : List RegAccess) → actions_in es ≡ making accesses → commands_in es ≡ 0
flight_commands [] accesses e = refl
flight_commands (x ∷ es) [] e = absurd (cc)
flight_commands (x ∷ es) (a ∷ accesses) e =
    let p = head_makes x.action (Makes a) (actions_in es) (making accesses) e in
    sum_by-cons (λ (e : Entry). commands_of e.action) x es ∙ (λ j. commands_of (p.0 j) + flight_commands es accesses p.1 j)

-- ---- what entries weigh before and with those of a flight

pub weight_both : (t : TargetState) (xs ys : List Entry) (accesses : List RegAccess) → actions_in ys ≡ making accesses → weight_in t (xs ++ ys) ≡ weight_in t xs + length ys
weight_both t xs ys accesses e = weight_append t xs ys ∙ ap (λ k. weight_in t xs + k) (flight_weight (target_after t xs) ys accesses e)

pub commands_both : (xs ys : List Entry) (accesses : List RegAccess) → actions_in ys ≡ making accesses → commands_in (xs ++ ys) ≡ commands_in xs
commands_both xs ys accesses e = commands_append xs ys ∙ ap (λ k. commands_in xs + k) (flight_commands ys accesses e) ∙ omega arith

-- ---- STICKYERR

is_fault_of : (o : Outcome) → is_fault o ≡ true → o ≡ outcome.Fault
is_fault_of outcome.Fault e = refl
is_fault_of (outcome.Value n) e = absurd (cc)
is_fault_of outcome.Done e = absurd (cc)

pub clear_good : (t : TargetState) (a : RegAccess) → (attempt t a).next.sticky ≡ false → is_fault (attempt t a).outcome ≡ false
clear_good t a clear = by_test (is_fault (attempt t a).outcome) refl
  where
    by_test : (b : Bool) → is_fault (attempt t a).outcome ≡ b → b ≡ false
    by_test true e = absurd (both_ways (attempt t a).next.sticky clear (fault_sets t a (is_fault_of (attempt t a).outcome e)))
    by_test false e = refl

pub clear_head : (t : TargetState) (accesses : List RegAccess) → AreClear t accesses → t.sticky ≡ false
clear_head t [] h = h
clear_head t (a ∷ accesses) h = h.0

pub clear_passes : (t : TargetState) (es : List Entry) (accesses : List RegAccess) → actions_in es ≡ making accesses → AreClear t accesses → Passes t es
clear_passes t [] accesses e h = tt
clear_passes t (x ∷ es) [] e h = absurd (cc)
clear_passes t (x ∷ es) (a ∷ accesses) e h =
    let p = head_makes x.action (Makes a) (actions_in es) (making accesses) e in
    let good : is_fault (action_attempt t x.action).outcome ≡ false = ap (λ (y : Action). is_fault (action_attempt t y).outcome) p.0 ∙ clear_good t a (clear_head (attempt t a).next accesses h.1) in
    (ap (λ (b : Bool). b && not x.forgiving) good, clear_passes (action_attempt t x.action).next es accesses p.1 (subst (λ (y : Action). AreClear (action_attempt t y).next accesses) (sym p.0) h.1))

-- ---- a flight that came whole

no_doubt : (b : Bool) (k n : ℕ) → n ≡ k + one_if b → n ≤ k → n ≡ k
no_doubt true k n e le = omega (arith, e, le)
no_doubt false k n e le = omega (arith, e)

pub room_grown : (w n : ℕ) → w + n < 2 ^ 64 → grown_work w n ≡ w + n
room_grown w n room = grind (arith, room)

module _ (entries made flying rest : List Entry) (accesses : List RegAccess) (m0 m o : BenchState) (part : Part) (on : IsUnderWay entries made flying rest accesses m0 m) (flies : Flies accesses part m o) where
  abbrev t0 : TargetState
  t0 = target_of m0.probe

  at_made : target_of m.probe ≡ after t0 (actions_in made)
  at_made = on.target

  same_length : length flying ≡ length accesses
  same_length = flight_length flying accesses on.flight

  work_is : work_of o.probe ≡ work_of m.probe + part.performed
  work_is = flies.does.work ∙ room_grown (work_of m.probe) part.performed (let most = flies.does.made.most in let r = on.room in let l = same_length in omega (arith, most, r, l))

  module _ (good : part.response ≡ Good) where
    confirmed_all : part.confirmed ≡ length accesses
    confirmed_all = flies.does.made.whole good

    performed_all : part.performed ≡ length accesses
    performed_all = no_doubt flies.does.made.doubt part.confirmed part.performed flies.does.made.near (let most = flies.does.made.most in let c = confirmed_all in omega (arith, most, c)) ∙ confirmed_all

    all_clear : AreClear (target_of m.probe) accesses
    all_clear = subst (AreClear (target_of m.probe)) (take_all part.confirmed accesses (let c = confirmed_all in omega (arith, c))) flies.does.made.clear

    target_is : target_of o.probe ≡ one_at_a_time (target_of m.probe) accesses
    target_is = flies.does.made.target ∙ ap (one_at_a_time (target_of m.probe)) (take_all part.performed accesses (let c = performed_all in omega (arith, c)))

    pub whole_flies : IsUnderWay entries (made ++ flying) [] rest [] m0 o
    whole_flies = record {
      are = on.are ∙ sym (append_assoc made flying rest);
      weighty = on.weighty;
      flight = refl;
      passes = passes_both t0 made flying on.passes (subst (λ (s : TargetState). Passes s flying) at_made (clear_passes (target_of m.probe) flying accesses on.flight all_clear));
      target = target_is ∙ sym (makes_after (target_of m.probe) accesses) ∙ ap (after (target_of m.probe)) (sym on.flight) ∙ ap (λ (s : TargetState). after s (actions_in flying)) at_made ∙ sym (after_split t0 made flying);
      clear = ap (λ (s : TargetState). s.sticky) target_is ∙ clear_end (target_of m.probe) accesses all_clear;
      work = (let w = work_is in let x = on.work in let y = weight_both t0 made flying accesses on.flight in let p = performed_all in let l = same_length in omega (arith, w, x, y, p, l));
      room = (let w = work_is in let r = on.room in let p = performed_all in let l = same_length in omega (arith, w, r, p, l));
      retries = flies.does.retries ∙ ap (λ (x : Response). cond (is_wait x) (min (ended_retries_of m.probe + 1) (2 ^ 32 - 1)) (ended_retries_of m.probe)) good ∙ on.retries;
      few = on.few;
      setting = flies.does.setting ∙ on.setting;
      idle_cycles = flies.idle_cycles ∙ on.idle_cycles;
      number = (let a = flies.does.number in let w : one_if (is_wait part.response) ≡ 0 = ap (λ (x : Response). one_if (is_wait x)) good in let b = on.number in let c = commands_both made flying accesses on.flight in let y = weight_both t0 made flying accesses on.flight in let p = performed_all in let l = same_length in omega (arith, a, w, b, c, y, p, l));
    }

    pub values_came : part.values ≡ slot_values (after t0 (actions_in made)) accesses
    values_came = flies.does.values ∙ ap (slot_values (target_of m.probe)) (take_all part.confirmed accesses (let c = confirmed_all in omega (arith, c))) ∙ ap (λ (s : TargetState). slot_values s accesses) at_made
