-- What is noted of a poll: its unit, and how it ended.
use Rattle.std.proofs.Common.{◌≡◌, ◌∙◌, ℕ, suc, Bool, true, false, List, [], ◌∷◌, ◌++◌, length, drop, cond, nat_eq, None, Some, Result, Ok, Err, OnOk, inl, inr, refl, sym, ap, subst}
use Rattle.std.proofs.lemmas.List.{append-nil}
use Rattle.std.proofs.Math.Seq.{drop-append_seam}
use Rattle.std.proofs.lemmas.Bool.Decides.{eqb_tells}
use Rattle.dap_base.specs.declared.text.OutOfMemory.{OutOfMemory}
use Rattle.direct_calls.specs.Made.{IsDone, call_end_of}
use Rattle.direct_calls.specs.declared.made.Made.{Made}
use Rattle.direct_calls.specs.declared.made.Made.TheVariants as made
use Rattle.sequence_trees.specs.declared.spot.Spot.{Spot}
use Rattle.target_calls.specs.declared.calls.Ask.{Ask}
use Rattle.target_machine.specs.Plain.{Action, CallEnd, Answered, Skipped, Faulted, Small, call_done, call_actions, ended_call, given_number, in_order, is_fault, is_small, issued_actions, large_after, result_of}
use Rattle.target_machine.specs.State.{TargetState}
use Rattle.target_machine.specs.declared.unit.Call.{Call}
use Rattle.sequence_rules.specs.Direct.{Now}
use Rattle.sequence_rules.specs.Machine.{State}
use Rattle.run_events.specs.Events.{Makes, TimesOut, Matches, all_made, units_between, units_from}
use Rattle.run_events.specs.OfSteps.{poll_end, polled_events}
use Rattle.log_lines.specs.LogLines.{Lists, LogLines, lines_after_event, lines_after_events}
use Rattle.logged_calls.specs.declared.held.Stopped.{Stopped}
use Rattle.logged_calls.specs.Held.{Noted, SeenAsPoll}
use Rattle.logged_calls.proofs.NotedLemmas.{all_on, between_is, no_units, noted_none, noted_one}

-- a call that forgives nothing is not skipped
over : (faulted small : Bool) (n : ℕ) (t : TargetState) (large : List ℕ) (actions : List Action) → (ended_call faulted false small n t large actions).end ≡ Skipped → ⊥
over true small n t large actions h = cc
over false true n t large actions h = cc
over false false n t large actions h = cc

not_skipped : (t : TargetState) (large : List ℕ) (forgive : Bool) (call : Call) → forgive ≡ false → (call_done t large forgive call).end ≡ Skipped → ⊥
unfolding call_done
not_skipped t large false call e h =
    over (is_fault (in_order t (call_actions t large call)).outcome) (is_small t large call) (result_of call (given_number (in_order t (call_actions t large call)).outcome)) (in_order t (call_actions t large call)).next (large_after t large call) (issued_actions t (call_actions t large call)) h
not_skipped t large true call e h = absurd cc

units_one : (s r : State ℕ Now) (ask : Ask) (e : CallEnd) (u : TargetState) (large : List ℕ) → s.rest.world.answered ≡ None → r.rest.calls ≡ s.rest.calls ++ ask ∷ []
    → IsDone (call_done s.rest.world.target s.rest.world.large ask.forgive ask.call) e u large → units_between s r ≡ record { number = suc (length s.rest.calls); ask = ask; end = Some e } ∷ []
units_one s r ask e u large all calls d =
    ap (λ c. units_from s.rest.world (suc (length s.rest.calls)) (drop (length s.rest.calls) c)) calls
    ∙ ap (units_from s.rest.world (suc (length s.rest.calls))) (drop-append_seam s.rest.calls (ask ∷ []))
    ∙ rw all (ap (λ x. record { number = suc (length s.rest.calls); ask = ask; end = Some x } ∷ []) d.end_is)

pub polled_none : (s r : State ℕ Now) (stopped : Stopped) → r.rest.calls ≡ s.rest.calls → SeenAsPoll s r (Err stopped)
polled_none s r stopped same = record { seen = λ spot turns. rw (no_units s r same) refl }

pub polled_answered : (s r : State ℕ Now) (ask : Ask) (n : ℕ) (u : TargetState) (large : List ℕ) → s.rest.world.answered ≡ None → r.rest.calls ≡ s.rest.calls ++ ask ∷ []
    → IsDone (call_done s.rest.world.target s.rest.world.large ask.forgive ask.call) (Answered n) u large → SeenAsPoll s r (Ok n)
polled_answered s r ask n u large all calls d = record {
  seen = λ spot turns.
      rw (units_one s r ask (Answered n) u large all calls d) (ap (λ more. Makes (record { number = suc (length s.rest.calls); ask = ask; end = Some (Answered n) }) ∷ more) (append-nil (poll_end spot turns (Some (Answered n)))));
}

pub polled_faulted : (s r : State ℕ Now) (ask : Ask) (stopped : Stopped) (u : TargetState) (large : List ℕ) → s.rest.world.answered ≡ None → r.rest.calls ≡ s.rest.calls ++ ask ∷ []
    → IsDone (call_done s.rest.world.target s.rest.world.large ask.forgive ask.call) Faulted u large → SeenAsPoll s r (Err stopped)
polled_faulted s r ask stopped u large all calls d = record { seen = λ spot turns. rw (units_one s r ask Faulted u large all calls d) refl }

pub polled_small : (s r : State ℕ Now) (ask : Ask) (stopped : Stopped) (u : TargetState) (large : List ℕ) → s.rest.world.answered ≡ None → r.rest.calls ≡ s.rest.calls ++ ask ∷ []
    → IsDone (call_done s.rest.world.target s.rest.world.large ask.forgive ask.call) Small u large → SeenAsPoll s r (Err stopped)
polled_small s r ask stopped u large all calls d = record { seen = λ spot turns. rw (units_one s r ask Small u large all calls d) refl }

pub polled_skipped : {A : Type 0} (t : TargetState) (before : List ℕ) (forgive : Bool) (call : Call) (u : TargetState) (large : List ℕ) (m : Made) → forgive ≡ false → m ≡ made.Skipped → IsDone (call_done t before forgive call) (call_end_of m) u large → A
polled_skipped t before forgive call u large m e is d = absurd (not_skipped t before forgive call e (d.end_is ∙ ap call_end_of is))

made_noted : (s r : State ℕ Now) (old new : LogLines) → Noted s r old new → new ≡ lines_after_events old (all_made (units_between s r))
made_noted s r old new h = h.log ∙ ap (λ u. lines_after_events old (all_made u)) (sym (between_is s r old new h))

pub poll_noted : (s r : State ℕ Now) (old mid new : LogLines) (n : ℕ) (spot : Spot) (turns : ℕ) → Noted s r old mid → SeenAsPoll s r (Ok n) → new ≡ lines_after_events mid (poll_end spot turns (Some (Answered n)))
    → new ≡ lines_after_events old (polled_events spot turns (units_between s r))
poll_noted s r old mid new n spot turns h k next =
    next ∙ ap (λ l. lines_after_events l (poll_end spot turns (Some (Answered n)))) (made_noted s r old mid h)
    ∙ sym (all_on old (all_made (units_between s r)) (poll_end spot turns (Some (Answered n)))) ∙ ap (lines_after_events old) (sym (k.seen spot turns))

pub poll_stopped : (s r : State ℕ Now) (old new : LogLines) (stopped : Stopped) (spot : Spot) (turns : ℕ) → Noted s r old new → SeenAsPoll s r (Err stopped)
    → new ≡ lines_after_events old (polled_events spot turns (units_between s r))
poll_stopped s r old new stopped spot turns h k =
    made_noted s r old new h ∙ ap (lines_after_events old) (sym (k.seen spot turns ∙ append-nil (all_made (units_between s r))))

pub no_zero : (value : ℕ) → (value ≡ 0 → ⊥) → nat_eq value 0 ≡ false
no_zero value some = elim (eqb_tells value 0) [ inl h ↦ absurd (some h.1) | inr h ↦ h.0 ]

pub timed_out : (r : Result (Unit {0}) OutOfMemory) (spot : Spot) (turns value : ℕ) (old new : LogLines) → value ≡ 0 → Lists old new r (TimesOut spot turns) → OnOk r (new ≡ lines_after_events old (poll_end spot turns (Some (Answered value))))
timed_out (Ok done) spot turns value old new none h = subst (λ v. new ≡ lines_after_events old (poll_end spot turns (Some (Answered v)))) (sym none) h
timed_out (Err refused) spot turns value old new none h = tt

pub matched : (r : Result (Unit {0}) OutOfMemory) (spot : Spot) (turns value : ℕ) (old new : LogLines) → (value ≡ 0 → ⊥) → Lists old new r (Matches spot) → OnOk r (new ≡ lines_after_events old (poll_end spot turns (Some (Answered value))))
matched (Ok done) spot turns value old new some h = subst (λ b. new ≡ lines_after_event old (cond b (TimesOut spot turns) (Matches spot))) (sym (no_zero value some)) h
matched (Err refused) spot turns value old new some h = tt

-- what is noted of a unit
pub ruleset units = (noted_none, noted_one, polled_none, polled_answered, polled_faulted, polled_small)

-- what is noted of a poll
pub ruleset polls = (noted_none, polled_none, poll_noted, poll_stopped)
