-- What is seen of sequences and of whole runs.
use Rattle.std.specs.Prelude.{ℕ, zero, suc, Bool, true, false, List, [], ◌∷◌, ◌++◌, Option, Some, None, unwrap_or, nat_le}
use Rattle.expr_grammar.specs.Tree as t
use Rattle.expr_grammar.specs.Tree.{StmtTree}
use Rattle.sequence_trees.specs.Order.{SetStep, spot_at}
use Rattle.sequence_trees.specs.Trees as c
use Rattle.sequence_trees.specs.Trees.{CodeSteps, SetTrees, steps_named, steps_in}
use Rattle.sequence_trees.specs.declared.spot.Part.TheVariants as part
use Rattle.target_calls.specs.World.{World, start_world}
use Rattle.target_machine.specs.State.{TargetState}
use Rattle.sequence_rules.specs.Direct.{Now, now_at, direct}
use Rattle.sequence_rules.specs.Machine.{State, with_locals}
use Rattle.sequence_rules.specs.Runs.{Program, as_values}
use Rattle.sequence_rules.specs.Steps.{sequence_at, debug_result, start_state}
use Rattle.sequence_rules.specs.Values.{value, stored_value}
use Rattle.run_events.specs.Events.{Event, Begins, Assigns, events_after}
use Rattle.run_events.specs.OfSteps.{steps_events}
use Rattle.run_events.specs.OfValues.{value_events}

-- the place of the debug variables
abbrev pub at_debugvars : SetStep
at_debugvars = record { sequence = None; path = [] }

-- the place of the steps of a sequence
abbrev pub at_sequence : List ℕ → SetStep
at_sequence name = record { sequence = Some name; path = [] }

-- Which turns of a loop are seen besides its last one, by their numbers.
module _ (shows : ℕ → Bool) (turn_us : ℕ) (set : SetTrees) where
  -- the sequence of the name, from which calls lead at most so deep
  unfoldable pub sequence_events : ℕ → List ℕ → State ℕ Now → List Event
  sequence_events zero name s = []
  sequence_events (suc d) name s =
      steps_events shows turn_us (λ n q. sequence_at (direct false) turn_us set d n q) (λ n q. sequence_events d n q)
      (at_sequence name) 0 (steps_in set name) (with_locals s [])

  -- the debug variables get their values, in order
  unfoldable pub debugged_events : List StmtTree → State ℕ Now → List Event
  debugged_events [] s = []
  debugged_events (t.Empty at ∷ code) s = debugged_events code s
  debugged_events (t.Declare name e ∷ code) s =
      Begins (spot_at at_debugvars part.Debugvars name.at) (t.Declare name e)
      ∷ value_events (λ n q. sequence_at (direct false) turn_us set 0 n q) (λ n q. sequence_events 0 n q) e s
      ++ events_after (value (direct false) (λ n q. sequence_at (direct false) turn_us set 0 n q) e s)
      (λ n r. Assigns name.text n ∷ events_after (stored_value (direct false) name n r) (λ done q. debugged_events code q))
  debugged_events (t.Plain at e ∷ code) s = debugged_events code s

  -- a run: the debug variables, and then the sequence of the name
  unfoldable pub run_events : List ℕ → State ℕ Now → List Event
  run_events start s =
      debugged_events set.debugvars s
      ++ events_after (debug_result (direct false) turn_us set set.debugvars s)
      (λ done r. steps_events shows turn_us (λ n q. sequence_at (direct false) turn_us set 31 n q) (λ n q. sequence_events 31 n q)
      (at_sequence start) 0 (steps_in set start) r)

-- What is seen of the run of a program in a world, after what was written before.
abbrev pub events_in : (ℕ → Bool) → World → Program → Option (List ℕ) → List Event
events_in shows w p written =
    run_events shows p.turn_us p.set p.start (start_state (direct false) p.turn_us p.set (as_values (direct false) p.predefined) (now_at w written))

-- each turn is seen
abbrev pub each_turn : ℕ → Bool
each_turn number = true

-- All that is seen of a run on a target.
abbrev pub events : Program → TargetState → Option (List ℕ) → List Event
events p target written = events_in each_turn (start_world target None) p written

-- The same, where of each loop the first turns are seen, so many, and the last one.
abbrev pub shown_events : ℕ → Program → TargetState → Option (List ℕ) → List Event
shown_events turns p target written = events_in (λ number. nat_le number turns) (start_world target None) p written
