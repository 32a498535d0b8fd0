-- What a run leaves, however it ends.
use Rattle.std.proofs.Common.{◌≡◌, ℕ, suc, ◌+◌, Bool, true, false, cond, ◌⊎◌, inl, inr, List, [], ◌∷◌, ◌++◌, length, Option, None, Some, Result, Ok, Err, IsErr, refl, sym, ap, subst, ◌∙◌, arith}
use Rattle.target_calls.specs.World.{World, is_over, later_by, next_world, one_fewer, start_world, stop, stops_here, world_after}
use Rattle.target_calls.specs.declared.calls.Ask.{Ask}
use Rattle.target_machine.specs.State.{TargetState}
use Rattle.dap_base.specs.declared.text.OutOfMemory.{OutOfMemory}
use Rattle.sequence_rules.specs.declared.bindings.Binding.{Binding}
use Rattle.sequence_rules.specs.Direct.{Now, direct, now_at}
use Rattle.sequence_rules.specs.Late.{Grows}
use Rattle.sequence_rules.specs.Laws.{Adds, IsMadeIn, StopBy}
use Rattle.sequence_rules.specs.Machine.{State, Out, end_state}
use Rattle.sequence_rules.specs.Runs as ending
use Rattle.sequence_rules.specs.Runs.{Ending, Outcome, Program, as_values, meaning, outcome, outcome_of}
use Rattle.sequence_rules.specs.Steps.{start_state}
use Rattle.sequence_rules.proofs.Adding.{adds_direct, adds_same}
use Rattle.sequence_rules.proofs.Goes as g
use Rattle.sequence_rules.proofs.OutcomeLemmas.{over_calls, over_written}
use Rattle.sequence_meaning.specs.declared.end.DirectEnd.{DirectEnd}
use Rattle.sequence_meaning.specs.declared.end.DirectEnd.TheVariants as end
use Rattle.sequence_meaning.specs.declared.held.DirectHeld.{DirectHeld}
use Rattle.sequence_meaning.specs.Answers.{IsFirstPart, Leaves, LeavesSome}
use Rattle.sequence_meaning.specs.declared.ended.Recorded.{Recorded}
use Rattle.sequence_meaning.specs.declared.end.Stopped.{Stopped}
use Rattle.sequence_meaning.specs.Held.{EndsDirect, IsMadeByCalls, MeansDirect, answered_world, made_all, state_of}

abbrev O : Type 0
O = Out ℕ Now (Unit {0})

-- ---- calls that stop at the last, if at all, are all made

EndsLast : World → List Ask → Type 0
EndsLast w calls = (stop w calls ≡ None) ⊎ (stop w calls ≡ Some (length calls))

stop_ends : (w : World) (e : Ending) (calls : List Ask) → StopBy w e calls → EndsLast w calls
unfolding EndsLast
stop_ends w ending.Done calls h = inl h
stop_ends w (ending.Halted cause) calls h = inl h
stop_ends w (ending.Faulted call) calls h = inr h.stopped.first
stop_ends w ending.Unanswered calls h = inr h.first
stop_ends w ending.Lost calls h = absurd h

later_none : (at : Option ℕ) → later_by 1 at ≡ None → at ≡ None
later_none None h = refl
later_none (Some n) h = absurd cc

later_some : (at : Option ℕ) (n : ℕ) → later_by 1 at ≡ Some (suc n) → at ≡ Some n
later_some None n h = absurd cc
later_some (Some k) n h = (let same : 1 + k ≡ suc n = cc in ap Some (omega (arith, same)))

not_none : (at : Option ℕ) → at ≡ Some 1 → at ≡ None → ⊥
not_none None h k = absurd cc
not_none (Some n) h k = absurd cc

not_later : (at : Option ℕ) (n : ℕ) → at ≡ Some 1 → at ≡ Some (suc (suc n)) → ⊥
not_later None n h k = absurd cc
not_later (Some m) n h k = absurd cc

after_all : (w : World) (calls more : List Ask) → w.answered ≡ None → EndsLast w (calls ++ more) → made_all w calls ≡ world_after w calls
unfolding EndsLast
after_all w [] more un h = refl
after_all w (a ∷ calls) more un h = by (stops_here w a) refl (λ e. after_all (next_world w a) calls more (ap one_fewer un) (on e h))
  where
    last : (cs : List Ask) → stops_here w a ≡ true → EndsLast w (a ∷ cs ++ more) → made_all w (a ∷ cs) ≡ world_after w (a ∷ cs)
    last [] e k = rw e (sym (ap (λ (o : Option ℕ). cond (is_over o) w (next_world w a)) un))
    last (c ∷ cs) e (inl k) = absurd (not_none _ (rw e refl) k)
    last (c ∷ cs) e (inr k) = absurd (not_later _ (length (cs ++ more)) (rw e refl) k)

    on : stops_here w a ≡ false → EndsLast w (a ∷ calls ++ more) → EndsLast (next_world w a) (calls ++ more)
    on e (inl k) = inl (later_none _ (rw e at k))
    on e (inr k) = inr (later_some _ _ (rw e at k))

    by : (b : Bool) → stops_here w a ≡ b → (stops_here w a ≡ false → made_all (next_world w a) calls ≡ world_after (next_world w a) calls) → made_all w (a ∷ calls) ≡ world_after w (a ∷ calls)
    by true e k = last calls e h
    by false e k = (let rest = k e in rw e rest)

-- ---- the end of a run, as its outcome has it

calls_of_end : (out : O) → (outcome_of out).calls ≡ (end_state out).rest.calls
calls_of_end (Ok x) = refl
calls_of_end (Err e) = over_calls e.0 e.1

written_at_end : (out : O) → (outcome_of out).written ≡ (end_state out).rest.written
written_at_end (Ok x) = refl
written_at_end (Err e) = over_written e.0 e.1

-- ---- where the code is, the meaning adds to it

adds_end : (e : DirectEnd) (now : State ℕ Now) (out : O) → EndsDirect e now out → Adds now.rest (end_state out).rest
adds_end (end.Halted cause) now out h = rw h (adds_same now.rest)
adds_end (end.Faulted u) now out h = rw h (adds_same now.rest)
adds_end end.WriteFault now out h = h
adds_end end.OutOfMemory now out h = h

adds_all : (e : DirectEnd) (ended : Result (Unit {0}) Stopped) (now : State ℕ Now) (out : O) → MeansDirect e ended now out → Adds now.rest (end_state out).rest
adds_all e (Ok x) now out h = rw h (adds_same now.rest)
adds_all e (Err stopped) now out h = adds_end e now out h

pub first_part : (ended : Result (Unit {0}) Stopped) (held : DirectHeld) (start target : TargetState) (written : Option (List ℕ)) (out : O) → MeansDirect held.end ended (state_of held target written) out
    → IsMadeIn (start_world start None) (outcome_of out) → IsMadeByCalls (start_world start None) held target → IsFirstPart start (outcome_of out) held.calls target written
first_part ended held start target written out h law made =
    let adds = adds_all held.end ended (state_of held target written) out h in
    let calls : (outcome_of out).calls ≡ held.calls ++ adds.more = calls_of_end out ∙ adds.calls in
    let last : EndsLast (start_world start None) (held.calls ++ adds.more) = subst (λ c. EndsLast (start_world start None) c) calls (stop_ends (start_world start None) _ _ law.ending) in
    record {
      more = adds.more;
      calls = calls;
      target = ap (λ (x : World). x.target) (sym made.world ∙ after_all (start_world start None) held.calls adds.more refl last);
      lines = subst (λ o. Grows written o) (sym (written_at_end out)) adds.lines;
    }

-- an answer that is no run
pub no_run_leaves : (start : TargetState) (o : Outcome) (result : Result Recorded OutOfMemory) (target : TargetState) (written : Option (List ℕ)) → IsErr result → LeavesSome start o target written → Leaves start o result target written
no_run_leaves start o (Ok r) target written h k = absurd cc
no_run_leaves start o (Err e) target written h k = k

-- nothing was done
pub no_part : (p : Program) (t : TargetState) (written : Option (List ℕ)) → IsFirstPart t (outcome p t written) [] t written
no_part p t written =
    let s : State ℕ Now = start_state (direct false) p.turn_us p.set (as_values (direct false) p.predefined) (now_at (start_world t None) written) in
    let adds = (g.goes_run_of (direct false) Adds (adds_direct false) p.turn_us p.set p.start s).so in
    record {
      more = (outcome p t written).calls;
      calls = refl;
      target = refl;
      lines = subst (λ o. Grows written o) (sym (written_at_end (meaning (start_world t None) p written))) adds.lines;
    }

-- no call was made yet
pub start_made : (held : DirectHeld) (t : TargetState) (written : Option (List ℕ)) (globals : List (Binding ℕ))
    → state_of held t written ≡ record { globals = globals; locals = []; units = 0; lines = 0; steps = 0; rest = now_at (start_world t None) written } → IsMadeByCalls (start_world t None) held t
start_made held t written globals h = record {
  world = ap (λ (s : State ℕ Now). made_all (start_world t None) s.rest.calls) h ∙ sym (ap (λ (s : State ℕ Now). answered_world t s.rest.world.large) h);
}
