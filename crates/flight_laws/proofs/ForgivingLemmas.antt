-- Into which flights the accesses of a unit made alone are cut.
use Rattle.std.proofs.Common.{◌≡◌, ◌∙◌, ℕ, Bool, true, false, cond, ◌&&◌, not, List, [], ◌∷◌, ◌++◌, refl, sym, ap, append-nil, append_assoc}
use Rattle.std.specs.List.{list_any}
use Rattle.std.proofs.Math.Bool.{and-true}
use Rattle.target_machine.specs.Attempt.{Attempt}
use Rattle.target_machine.specs.Lists.{PassTo, after}
use Rattle.target_machine.specs.Plain.{Action, Commands, Makes, action_attempt, call_actions, call_done, ended_call, forgives, given_number, in_order, is_fault, is_small, issued_actions, large_after, may_forgive, result_of}
use Rattle.target_machine.specs.State.{TargetState}
use Rattle.target_machine.specs.declared.access.RegAccess.{RegAccess}
use Rattle.target_machine.specs.declared.unit.Call.{Call}
use Rattle.target_machine.specs.declared.unit.Call.TheVariants.{Access}
use Rattle.target_machine.specs.declared.unit.Unit.{Unit as AccessUnit}
use Rattle.target_machine.proofs.ActionLists.{pass_last, pass_then_fault}
use Rattle.access_regs.specs.Journal.{Step, alone_at, is_early, is_end, large_of, making, part_of, parts_of}
use Rattle.access_regs.specs.Kept.{Kept}
use Rattle.access_regs.proofs.Select.{making_append}
use Rattle.access_regs.proofs.Forgiving.{parts_append}
use Rattle.flight_laws.specs.Forgiving.{AloneFlight, BeginsWithAccesses, after_fault, steps_of_unit}
use Rattle.flight_laws.proofs.PushLemmas.{pass_makes}

-- ---- what is issued of actions of which the first pass

issued_stop : (t u : TargetState) (xs : List Action) (a : Action) (ys : List Action) → PassTo t xs u → is_fault (action_attempt u a).outcome ≡ true → issued_actions t (xs ++ a ∷ ys) ≡ xs ++ a ∷ []
issued_stop t u [] a ys h bad = ap (λ (b : Bool). a ∷ cond b [] (issued_actions (action_attempt t a).next ys)) (ap (λ (s : TargetState). is_fault (action_attempt s a).outcome) (sym h) ∙ bad)
issued_stop t u (x ∷ xs) a ys h bad = ap (λ (b : Bool). x ∷ cond b [] (issued_actions (action_attempt t x).next (xs ++ a ∷ ys))) h.0 ∙ ap (λ (l : List Action). x ∷ l) (issued_stop (action_attempt t x).next u xs a ys h.1 bad)

issued_more : (t u : TargetState) (xs : List Action) (a : Action) (ys : List Action) → PassTo t xs u → is_fault (action_attempt u a).outcome ≡ false → issued_actions t (xs ++ a ∷ ys) ≡ xs ++ a ∷ issued_actions (action_attempt u a).next ys
issued_more t u [] a ys h good =
    ap (λ (b : Bool). a ∷ cond b [] (issued_actions (action_attempt t a).next ys)) (ap (λ (s : TargetState). is_fault (action_attempt s a).outcome) (sym h) ∙ good)
    ∙ ap (λ (s : TargetState). a ∷ issued_actions (action_attempt s a).next ys) (sym h)
issued_more t u (x ∷ xs) a ys h good = ap (λ (b : Bool). x ∷ cond b [] (issued_actions (action_attempt t x).next (xs ++ a ∷ ys))) h.0 ∙ ap (λ (l : List Action). x ∷ l) (issued_more (action_attempt t x).next u xs a ys h.1 good)

-- ---- the actions of a unit made alone

-- the write of ABORT, where the unit forgives the fault
abbrev abort_if : Bool → List Action
abort_if forgive = cond forgive (Commands forgives ∷ []) []

ended_actions : (f g s : Bool) (n : ℕ) (t : TargetState) (l : List ℕ) (xs : List Action) → (ended_call f g s n t l xs).actions ≡ cond f (xs ++ abort_if g) xs
ended_actions true true s n t l xs = refl
ended_actions true false s n t l xs = sym (append-nil xs)
ended_actions false g true n t l xs = refl
ended_actions false g false n t l xs = refl

done_actions : (t : TargetState) (large : List ℕ) (forgive : Bool) (call : Call) → may_forgive call ≡ true → (call_done t large forgive call).actions
    ≡ cond (is_fault (in_order t (call_actions t large call)).outcome) (issued_actions t (call_actions t large call) ++ abort_if forgive) (issued_actions t (call_actions t large call))
unfolding call_done
done_actions t large forgive call may =
    let ran : Attempt = in_order t (call_actions t large call) in
    ended_actions (is_fault ran.outcome) (forgive && may_forgive call) (is_small t large call) (result_of call (given_number ran.outcome)) ran.next (large_after t large call) (issued_actions t (call_actions t large call))
    ∙ ap (λ (b : Bool). cond (is_fault ran.outcome) (issued_actions t (call_actions t large call) ++ abort_if b) (issued_actions t (call_actions t large call))) (ap (λ (b : Bool). forgive && b) may ∙ and-true forgive)

-- ---- as steps

parts_makes : (early : Bool) (asked : AccessUnit) (accesses : List RegAccess) → parts_of early asked (making accesses) ≡ steps_of_unit asked accesses
parts_makes early asked [] = refl
parts_makes early asked (a ∷ accesses) = ap (λ (l : List Step). record { part = part_of early asked (Makes a); action = Makes a } ∷ l) (parts_makes early asked accesses)

-- the write of ABORT is not the access that the unit is for
any_command : (asked : AccessUnit) (xs : List Action) → list_any (is_end asked) (xs ++ Commands forgives ∷ []) ≡ list_any (is_end asked) xs
any_command asked [] = refl
any_command asked (x ∷ xs) = any_more (is_end asked x) (any_command asked xs)
  where
    any_more : (b : Bool) → list_any (is_end asked) (xs ++ Commands forgives ∷ []) ≡ list_any (is_end asked) xs → list_any (is_end asked) (x ∷ xs ++ Commands forgives ∷ []) ≡ list_any (is_end asked) (x ∷ xs)
    any_more b same = rw same refl

any_abort : (forgive : Bool) (asked : AccessUnit) (xs : List Action) → list_any (is_end asked) (xs ++ abort_if forgive) ≡ list_any (is_end asked) xs
any_abort true asked xs = any_command asked xs
any_abort false asked xs = ap (list_any (is_end asked)) (append-nil xs)

parts_abort : (forgive : Bool) (asked : AccessUnit) (accesses : List RegAccess) → parts_of (is_early asked (making accesses)) asked (abort_if forgive) ≡ after_fault forgive asked accesses
parts_abort true asked accesses = refl
parts_abort false asked accesses = refl

module _ (forgive : Bool) (asked : AccessUnit) (t : TargetState) (k : Kept) (lead : List RegAccess) (a : RegAccess) (rest : List Action) (may : may_forgive (Access asked) ≡ true)
    (are : call_actions t (large_of k asked) (Access asked) ≡ making (lead ++ a ∷ []) ++ rest) (pass : PassTo t (making lead) (after t (making lead))) where
  abbrev xs : List Action
  xs = making (lead ++ a ∷ [])

  abbrev u : TargetState
  u = after t (making lead)

  -- the actions of the unit
  actions_are : call_actions t (large_of k asked) (Access asked) ≡ making lead ++ Makes a ∷ rest
  actions_are = are ∙ ap (λ (l : List Action). l ++ rest) (making_append lead (a ∷ [])) ∙ append_assoc (making lead) (Makes a ∷ []) rest

  first_is : making lead ++ Makes a ∷ [] ≡ xs
  first_is = sym (making_append lead (a ∷ []))

  -- its steps, by what is done of it
  steps_are : (done : List Action) → (call_done t (large_of k asked) forgive (Access asked)).actions ≡ done → (alone_at forgive asked t k).steps ≡ parts_of (is_early asked done) asked done
  steps_are done is = ap (λ (l : List Action). parts_of (is_early asked l) asked l) is

  bad_steps : is_fault (action_attempt u (Makes a)).outcome ≡ true → (alone_at forgive asked t k).steps ≡ steps_of_unit asked (lead ++ a ∷ []) ++ after_fault forgive asked (lead ++ a ∷ [])
  bad_steps bad =
      let faults : is_fault (in_order t (call_actions t (large_of k asked) (Access asked))).outcome ≡ true = ap (λ (l : List Action). is_fault (in_order t l).outcome) actions_are ∙ ap (λ (m : Attempt). is_fault m.outcome) (pass_then_fault t u (making lead) (Makes a) rest pass bad) ∙ bad in
      let first : issued_actions t (call_actions t (large_of k asked) (Access asked)) ≡ xs = ap (issued_actions t) actions_are ∙ issued_stop t u (making lead) (Makes a) rest pass bad ∙ first_is in
      let done : (call_done t (large_of k asked) forgive (Access asked)).actions ≡ xs ++ abort_if forgive =
      done_actions t (large_of k asked) forgive (Access asked) may
      ∙ (λ j. cond (faults j) (first j ++ abort_if forgive) (first j)) in
      let early : is_early asked (xs ++ abort_if forgive) ≡ is_early asked xs = ap not (any_abort forgive asked xs) in
      steps_are (xs ++ abort_if forgive) done
      ∙ ap (λ (b : Bool). parts_of b asked (xs ++ abort_if forgive)) early
      ∙ parts_append (is_early asked xs) asked xs (abort_if forgive)
      ∙ (λ j. parts_makes (is_early asked xs) asked (lead ++ a ∷ []) j ++ parts_abort forgive asked (lead ++ a ∷ []) j)

  good_steps : is_fault (action_attempt u (Makes a)).outcome ≡ false → BeginsWithAccesses (alone_at forgive asked t k).steps asked (lead ++ a ∷ []) rest
  good_steps good = by_fault (is_fault (in_order t (call_actions t (large_of k asked) (Access asked))).outcome) refl
    where
      more : List Action
      more = issued_actions (action_attempt u (Makes a)).next rest

      first : issued_actions t (call_actions t (large_of k asked) (Access asked)) ≡ xs ++ issued_actions (action_attempt u (Makes a)).next rest
      first = ap (issued_actions t) actions_are ∙ issued_more t u (making lead) (Makes a) rest pass good ∙ sym (append_assoc (making lead) (Makes a ∷ []) more) ∙ ap (λ (l : List Action). l ++ more) first_is

      begins : (done tail : List Action) → (call_done t (large_of k asked) forgive (Access asked)).actions ≡ done → done ≡ xs ++ tail → (alone_at forgive asked t k).steps ≡ steps_of_unit asked (lead ++ a ∷ []) ++ parts_of (is_early asked done) asked tail
      begins done tail is split =
          steps_are done is ∙ ap (parts_of (is_early asked done) asked) split ∙ parts_append (is_early asked done) asked xs tail
          ∙ ap (λ (l : List Step). l ++ parts_of (is_early asked done) asked tail) (parts_makes (is_early asked done) asked (lead ++ a ∷ []))

      by_fault : (b : Bool) → is_fault (in_order t (call_actions t (large_of k asked) (Access asked))).outcome ≡ b → BeginsWithAccesses (alone_at forgive asked t k).steps asked (lead ++ a ∷ []) rest
      by_fault true e = record {
        more = parts_of (is_early asked ((xs ++ more) ++ abort_if forgive)) asked (more ++ abort_if forgive);
        is = begins ((xs ++ more) ++ abort_if forgive) (more ++ abort_if forgive)
            (done_actions t (large_of k asked) forgive (Access asked) may ∙ (λ j. cond (e j) (first j ++ abort_if forgive) (first j))) (append_assoc xs more (abort_if forgive));
        end = λ none. absurd (no_fault none);
      }
        where
          no_fault : rest ≡ [] → ⊥
          no_fault none =
              let clear : is_fault (in_order t (call_actions t (large_of k asked) (Access asked))).outcome ≡ false =
              ap (λ (l : List Action). is_fault (in_order t l).outcome) (actions_are ∙ ap (λ (l : List Action). making lead ++ Makes a ∷ l) none) ∙ ap (λ (m : Attempt). is_fault m.outcome) (pass_last t u (making lead) (Makes a) pass) ∙ good in
              let no : ◌≡◌ {A = Bool} true false = sym e ∙ clear in cc
      by_fault false e = record {
        more = parts_of (is_early asked (xs ++ more)) asked more;
        is = begins (xs ++ more) more (done_actions t (large_of k asked) forgive (Access asked) may ∙ (λ j. cond (e j) (first j ++ abort_if forgive) (first j))) refl;
        end = λ none. ap (λ (l : List Action). parts_of (is_early asked (xs ++ more)) asked (issued_actions (action_attempt u (Makes a)).next l)) none;
      }

pub alone_flight : AloneFlight
alone_flight forgive asked t k lead a rest may are none =
    (bad_steps forgive asked t k lead a rest may are (pass_makes t lead none), good_steps forgive asked t k lead a rest may are (pass_makes t lead none))
