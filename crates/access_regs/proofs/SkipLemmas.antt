-- Which forgiving calls are skipped.
use Rattle.std.proofs.Common.{◌≡◌, ◌≢◌, ◌∙◌, true, List, [], ◌∷◌, ◌++◌, refl, sym, ap, subst}
use Rattle.std.proofs.lemmas.Bool.{both_ways}
use Rattle.access_regs.proofs.AllCalls.{call_course, journal_follows}
use Rattle.access_regs.proofs.Course.{actions_append}
use Rattle.access_regs.proofs.EntryLemmas.{askable_first, askable_here}
use Rattle.access_regs.proofs.Lists.{faulted_strict}
use Rattle.access_regs.specs.Alone.{call_alone, alone_after, large_of_all}
use Rattle.access_regs.specs.Course.{Course, answered, skipped, small, stopped}
use Rattle.access_regs.specs.Entries.{kept_by, target_by}
use Rattle.access_regs.specs.Follows.{Follows}
use Rattle.access_regs.specs.Journal.{Issue, Step, actions_of, issue_of}
use Rattle.access_regs.specs.Kept.{Kept}
use Rattle.access_regs.specs.Skips.{FaultSkips, PassingIsMade}
use Rattle.target_calls.specs.Asks.{is_forgiving}
use Rattle.target_calls.specs.declared.calls.Ask.{Ask}
use Rattle.target_calls.specs.declared.journal.Part.TheVariants.{Ends}
use Rattle.target_machine.proofs.ActionLists.{pass_append}
use Rattle.target_machine.specs.Lists.{PassTo}
use Rattle.target_machine.specs.Plain.{Action, CallDone, CallEnd, Faulted, Skipped, Answered, Small, action_attempt, is_fault}
use Rattle.target_machine.specs.State.{TargetState}

-- among steps that pass none faults
none_fails : (u at v : TargetState) (xs : List Action) (a : Action) (ys : List Action) → PassTo u (xs ++ a ∷ ys) v → PassTo u xs at → is_fault (action_attempt at a).outcome ≡ true → ⊥
none_fails u at v [] a ys all front bad = both_ways (is_fault (action_attempt u a).outcome) all.0 (subst (λ (s : TargetState). is_fault (action_attempt s a).outcome ≡ true) front bad)
none_fails u at v (x ∷ xs) a ys all front bad = none_fails (action_attempt u x).next at v xs a ys all.1 front.1 bad

steps_fail : (u at v : TargetState) (steps leads : List Step) (step : Step) (more : List Step) → steps ≡ leads ++ step ∷ more → PassTo u (actions_of steps) v → PassTo u (actions_of leads) at →
    is_fault (action_attempt at step.action).outcome ≡ true → ⊥
steps_fail u at v steps leads step more is all front bad =
    none_fails u at v (actions_of leads) step.action (actions_of more)
    (subst (λ (l : List Action). PassTo u l v) (ap actions_of is ∙ actions_append leads (step ∷ more)) all) front bad

module _ (i : Issue) (d : CallDone) (c : Ask) (u : TargetState) where
  -- a call that is answered, or has no large addresses, has no step that faults
  faults_skip : Course i d c.call u → d.end ≢ Faulted → (leads : List Step) (step : Step) (more : List Step) (at : TargetState) → i.steps ≡ leads ++ step ∷ more → PassTo u (actions_of leads) at →
      is_fault (action_attempt at step.action).outcome ≡ true → d.end ≡ Skipped
  faults_skip (answered a) ne leads step more at is pass bad =
      let last : List Step = record { part = Ends; action = a.action } ∷ [] in
      let all : PassTo u (actions_of i.steps) (action_attempt a.at a.action).next =
      subst (λ (l : List Action). PassTo u l (action_attempt a.at a.action).next) (sym (ap actions_of a.steps ∙ actions_append a.leads last))
      (pass_append u a.at (action_attempt a.at a.action).next (actions_of a.leads) (actions_of last) a.pass (a.good, refl)) in
      absurd (steps_fail u at (action_attempt a.at a.action).next i.steps leads step more is all pass bad)
  faults_skip (stopped a) ne leads step more at is pass bad = absurd (ne a.end)
  faults_skip (small a) ne leads step more at is pass bad = absurd (steps_fail u at a.at i.steps leads step more is a.pass pass bad)
  faults_skip (skipped a) ne leads step more at is pass bad = a.end

  passing_made : Course i d c.call u → (v : TargetState) → PassTo u (actions_of i.steps) v → (d.end ≢ Skipped) × (d.end ≢ Faulted)
  passing_made (answered a) v all =
      ((λ e. (let x : ◌≡◌ {A = CallEnd} (Answered _) Skipped = sym a.end ∙ e in absurd (cc))), (λ e. (let x : ◌≡◌ {A = CallEnd} (Answered _) Faulted = sym a.end ∙ e in absurd (cc))))
  passing_made (stopped a) v all = absurd (steps_fail u a.at v i.steps a.leads a.step a.more a.steps all a.pass a.bad)
  passing_made (small a) v all =
      ((λ e. (let x : ◌≡◌ {A = CallEnd} Small Skipped = sym a.end ∙ e in absurd (cc))), (λ e. (let x : ◌≡◌ {A = CallEnd} Small Faulted = sym a.end ∙ e in absurd (cc))))
  passing_made (skipped a) v all = absurd (steps_fail u a.at v i.steps a.leads a.step _ a.steps all a.pass a.bad)

pub fault_skips : FaultSkips
fault_skips p t asks ask leads step more at fresh ok none forgives is pass bad =
    let k : Kept = kept_by p t asks in
    let u : TargetState = target_by p t asks in
    let large = large_of_all t [] asks in
    let plain : TargetState = alone_after t [] asks in
    let follows : Follows k large plain u = journal_follows p t asks fresh (askable_first asks (ask ∷ []) ok) none in
    faults_skip (issue_of p u k ask) (call_alone plain large ask) ask u (call_course p k large plain u follows ask (askable_here asks ask [] ok))
    (λ e. both_ways (is_forgiving ask) (faulted_strict plain large ask e) forgives) leads step more at is pass bad

pub passing_is_made : PassingIsMade
passing_is_made p t asks ask at fresh ok none pass =
    let k : Kept = kept_by p t asks in
    let u : TargetState = target_by p t asks in
    let large = large_of_all t [] asks in
    let plain : TargetState = alone_after t [] asks in
    let follows : Follows k large plain u = journal_follows p t asks fresh (askable_first asks (ask ∷ []) ok) none in
    passing_made (issue_of p u k ask) (call_alone plain large ask) ask u (call_course p k large plain u follows ask (askable_here asks ask [] ok)) at pass
