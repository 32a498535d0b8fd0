-- What is seen of sequences and of whole runs says what they add.
use Rattle.std.proofs.Common.{◌≡◌, ◌∙◌, ℕ, zero, suc, false, List, [], ◌∷◌, Ok, Err, refl, sym, ap}
use Rattle.expr_grammar.specs.Tree as t
use Rattle.expr_grammar.specs.Tree.{StmtTree}
use Rattle.sequence_trees.specs.Trees as c
use Rattle.sequence_trees.specs.Trees.{CodeSteps, SetTrees, steps_named, steps_in}
use Rattle.sequence_trees.specs.declared.spot.Part.TheVariants as part
use Rattle.sequence_rules.specs.Calls.{missing}
use Rattle.sequence_rules.specs.Direct.{Now, now_at, direct}
use Rattle.sequence_rules.specs.Machine.{State, Out, end_state, with_locals}
use Rattle.sequence_rules.specs.Runs.{as_values, outcome_of, meaning}
use Rattle.sequence_rules.specs.Steps.{steps_result, sequence_result, steps_at, sequence_at, debug_result, run_of, start_state}
use Rattle.sequence_rules.specs.Values.{value, stored_value}
use Rattle.sequence_rules.proofs.OutcomeLemmas.{over_calls, over_written}
use Rattle.run_events.specs.Events.{Begins, Assigns, units_from}
use Rattle.run_events.specs.Laws.{EventsAreTheRun}
use Rattle.run_events.specs.OfRuns.{at_debugvars, at_sequence, sequence_events, debugged_events, run_events, each_turn}
use Rattle.run_events.proofs.Leaves.{given_is}
use Rattle.run_events.proofs.Said.{Tells, said_none, also, tells_bind, tells_next, tells_map}
use Rattle.run_events.proofs.SaidSteps.{tells_steps}
use Rattle.run_events.proofs.SaidValues.{tells_value, tells_stored}
use Rattle.sequence_trees.specs.Order.{spot_at}

module _ (turn_us : ℕ) (set : SetTrees) where
  tells_sequence : (d : ℕ) (name : List ℕ) (s : State ℕ Now) → Tells s (sequence_at (direct false) turn_us set d name s) (sequence_events each_turn turn_us set d name s)
  unfolding sequence_at sequence_events sequence_result steps_at missing direct
  tells_sequence zero name s = said_none s.rest
  tells_sequence (suc d) name s = rw (given_is c.NoSteps (steps_named name set.sequences) (with_locals s []))
      (tells_map s (steps_result (direct false) turn_us (λ n q. sequence_at (direct false) turn_us set d n q) (steps_in set name) (with_locals s [])) _ _
      (tells_steps turn_us (λ n q. sequence_at (direct false) turn_us set d n q) (λ n q. sequence_events each_turn turn_us set d n q) (λ n q. tells_sequence d n q) (at_sequence name) 0 (steps_in set name) (with_locals s [])) (λ x. refl))

  tells_debugged : (code : List StmtTree) (s : State ℕ Now) → Tells s (debug_result (direct false) turn_us set code s) (debugged_events each_turn turn_us set code s)
  unfolding debug_result debugged_events
  tells_debugged [] s = said_none s.rest
  tells_debugged (t.Empty at ∷ code) s = tells_debugged code s
  tells_debugged (t.Declare name e ∷ code) s = also s.rest _ (Begins (spot_at at_debugvars part.Debugvars name.at) (t.Declare name e)) _ refl refl
      (tells_bind s (value (direct false) (λ n q. sequence_at (direct false) turn_us set 0 n q) e s) _ _ _
      (tells_value (λ n q. sequence_at (direct false) turn_us set 0 n q) (λ n q. sequence_events each_turn turn_us set 0 n q) (λ n q. tells_sequence 0 n q) e s)
      (λ x. also x.1.rest _ (Assigns name.text x.0) _ refl refl
      (tells_next x.1 (stored_value (direct false) name x.0 x.1) _ (λ done q. debugged_events each_turn turn_us set code q) (tells_stored name x.0 x.1) (λ y. tells_debugged code y.1))))
  tells_debugged (t.Plain at e ∷ code) s = tells_debugged code s

  tells_run : (start : List ℕ) (s : State ℕ Now) → Tells s (run_of (direct false) turn_us set start s) (run_events each_turn turn_us set start s)
  unfolding run_of run_events steps_at
  tells_run start s = tells_bind s (debug_result (direct false) turn_us set set.debugvars s) _ _ _ (tells_debugged set.debugvars s)
      (λ x. rw (given_is c.NoSteps (steps_named start set.sequences) x.1)
      (tells_steps turn_us (λ n q. sequence_at (direct false) turn_us set 31 n q) (λ n q. sequence_events each_turn turn_us set 31 n q) (λ n q. tells_sequence 31 n q) (at_sequence start) 0 (steps_in set start) x.1))

-- the outcome has the calls and the lines of the last state
out_calls : (out : Out ℕ Now (Unit {0})) → (outcome_of out).calls ≡ (end_state out).rest.calls
out_calls (Ok x) = refl
out_calls (Err e) = over_calls e.0 e.1

out_written : (out : Out ℕ Now (Unit {0})) → (outcome_of out).written ≡ (end_state out).rest.written
out_written (Ok x) = refl
out_written (Err e) = over_written e.0 e.1

pub is_the_run : EventsAreTheRun
is_the_run w p written =
    let h = tells_run p.turn_us p.set p.start (start_state (direct false) p.turn_us p.set (as_values (direct false) p.predefined) (now_at w written)) in
    record {
      units = h.units ∙ ap (units_from w 1) (sym (out_calls (meaning w p written) ∙ h.calls));
      lines = out_written (meaning w p written) ∙ h.lines;
    }
