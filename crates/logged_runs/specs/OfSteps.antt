-- What statements, controls and steps come to in the walk of a runner, and what is seen of them.
use Rattle.std.specs.Prelude.{ℕ, Bool, false, List, [], ◌∷◌, Option, option_map}
use Rattle.expr_grammar.specs.Tree.{tree, stmt_tree, code_trees}
use Rattle.expr_grammar.specs.declared.code.Expr.{Expr}
use Rattle.expr_grammar.specs.declared.code.Name.{Name}
use Rattle.expr_grammar.specs.declared.code.Stmt.{Stmt}
use Rattle.log_lines.specs.Places.{condition_spot}
use Rattle.run_events.specs.Events.{Loops, events_after}
use Rattle.run_events.specs.OfRuns as r
use Rattle.run_events.specs.OfSteps as os
use Rattle.run_events.specs.OfValues as o
use Rattle.seq_check.specs.Answers.{checked_trees}
use Rattle.sequence_rules.specs.Direct.{Now, direct}
use Rattle.sequence_rules.specs.Machine.{State, Out, with_locals}
use Rattle.sequence_rules.specs.Polls.{poll_of}
use Rattle.sequence_rules.specs.Steps as m
use Rattle.sequence_trees.specs.Trees.{step_tree, steps_tree}
use Rattle.sequence_trees.specs.declared.spot.Part.TheVariants as part
use Rattle.sequence_trees.specs.declared.spot.Spot.{Spot}
use Rattle.sequence_trees.specs.declared.steps.CheckedStep.{CheckedStep}
use Rattle.logged_runs.specs.declared.runner.LoggedRunner.{LoggedRunner}
use Rattle.logged_runs.specs.OfValues.{assigned_seen, value_in_walk, value_seen}
use Rattle.logged_runs.specs.Seen.{ShownEvents}
use Rattle.logged_runs.specs.Walk.{calls_in_walk, events_in_walk, step_on_path, tested_turn}

-- the `while` of the step of a path in the sequence of a name
abbrev pub while_spot : List ℕ → List ℕ → Spot
while_spot name path = condition_spot name path part.While

-- what is seen of a poll in that `while`
abbrev pub poll_seen : List ℕ → List ℕ → ℕ × ℕ → ℕ → State ℕ Now → ShownEvents
poll_seen name path form turns s = λ shows. os.poll_events (while_spot name path) form turns s

-- A runner, and how deep calls may lead from here.
module _ (runner : LoggedRunner) (depth : ℕ) where
  -- ---- statements

  -- a statement
  abbrev pub statement_in_walk : Stmt → State ℕ Now → Out ℕ Now (Unit {0})
  statement_in_walk one = m.statement (direct false) runner.turn_us (calls_in_walk runner depth) (stmt_tree one)

  -- what is seen of it
  abbrev pub statement_seen : List ℕ → List ℕ → Stmt → State ℕ Now → ShownEvents
  statement_seen name path one s = λ shows.
      os.statement_events shows runner.turn_us (calls_in_walk runner depth) (events_in_walk shows runner depth) (step_on_path name path) (stmt_tree one) s

  -- what is seen of it after its place is noted
  abbrev pub done_seen : Stmt → State ℕ Now → ShownEvents
  done_seen one s = λ shows.
      events_after (m.counted_step (direct false) s)
      (λ done r. os.done_events shows runner.turn_us (calls_in_walk runner depth) (events_in_walk shows runner depth) (stmt_tree one) r)

  -- a declaration
  abbrev pub declaration_in_walk : Name → Expr → State ℕ Now → Out ℕ Now (Unit {0})
  declaration_in_walk name e = m.after_counted (direct false) (λ r. m.declared_variable (direct false) name (value_in_walk runner depth e r))

  -- what is seen of it
  abbrev pub declared_seen : Name → Expr → State ℕ Now → ShownEvents
  declared_seen name e s = λ shows. events_after (m.counted_step (direct false) s) (λ done r. assigned_seen runner depth name e r shows)

  -- an expression whose value is dropped
  abbrev pub dropped_in_walk : Expr → State ℕ Now → Out ℕ Now (Unit {0})
  dropped_in_walk e = m.after_counted (direct false) (λ r. m.dropped_value (direct false) (value_in_walk runner depth e r))

  -- what is seen of it
  abbrev pub dropped_seen : Expr → State ℕ Now → ShownEvents
  dropped_seen e s = λ shows. events_after (m.counted_step (direct false) s) (λ done r. value_seen runner depth e r shows)

  -- the statements of a block, in order
  abbrev pub block_in_walk : List Stmt → State ℕ Now → Out ℕ Now (Unit {0})
  block_in_walk code = m.block (direct false) runner.turn_us (calls_in_walk runner depth) (code_trees code)

  -- what is seen of it
  abbrev pub block_seen : List ℕ → List ℕ → List Stmt → State ℕ Now → ShownEvents
  block_seen name path code s = λ shows.
      os.block_events shows runner.turn_us (calls_in_walk runner depth) (events_in_walk shows runner depth) (step_on_path name path) (code_trees code) s

  -- ---- steps

  -- steps in order
  abbrev pub steps_in_walk : List CheckedStep → State ℕ Now → Out ℕ Now (Unit {0})
  steps_in_walk steps = m.steps_result (direct false) runner.turn_us (calls_in_walk runner depth) (steps_tree steps)

  -- what is seen of the steps inside the one at the path
  abbrev pub steps_seen : List ℕ → List ℕ → List CheckedStep → State ℕ Now → ShownEvents
  steps_seen name path steps s = λ shows.
      os.steps_events shows runner.turn_us (calls_in_walk runner depth) (events_in_walk shows runner depth) (step_on_path name path) 0 (steps_tree steps) s

  -- a step
  abbrev pub step_in_walk : CheckedStep → State ℕ Now → Out ℕ Now (Unit {0})
  step_in_walk step = m.step (direct false) runner.turn_us (calls_in_walk runner depth) (step_tree step)

  -- what is seen of the step at the path
  abbrev pub step_seen : List ℕ → List ℕ → CheckedStep → State ℕ Now → ShownEvents
  step_seen name path step s = λ shows.
      os.step_events shows runner.turn_us (calls_in_walk runner depth) (events_in_walk shows runner depth) (step_on_path name path) (step_tree step) s

  -- what is seen of the step of this number inside the one at the path
  abbrev pub inner_seen : List ℕ → List ℕ → ℕ → CheckedStep → State ℕ Now → ShownEvents
  inner_seen name path number step s = λ shows.
      os.step_events shows runner.turn_us (calls_in_walk runner depth) (events_in_walk shows runner depth) (os.inner_step (step_on_path name path) number)
      (step_tree step) s

  -- the steps of a called sequence, with variables of its own
  abbrev pub sequence_in_walk : List CheckedStep → State ℕ Now → Out ℕ Now (Unit {0})
  sequence_in_walk steps = m.sequence_result (direct false) (steps_in_walk steps)

  -- what is seen of it
  abbrev pub sequence_seen : List ℕ → List CheckedStep → State ℕ Now → ShownEvents
  sequence_seen name steps s = steps_seen name [] steps (with_locals s [])

  -- ---- controls

  -- steps whose declarations are not visible after them
  abbrev pub inside_in_walk : List CheckedStep → State ℕ Now → Out ℕ Now (Unit {0})
  inside_in_walk steps = m.inside (direct false) (steps_in_walk steps)

  -- the `if` of a control, where it has one
  abbrev pub condition_in_walk : Option Expr → State ℕ Now → Out ℕ Now Bool
  condition_in_walk cond = m.condition (direct false) runner.turn_us (calls_in_walk runner depth) (option_map tree cond)

  -- what is seen of it
  abbrev pub condition_seen : List ℕ → List ℕ → Option Expr → State ℕ Now → ShownEvents
  condition_seen name path cond s = λ shows.
      os.condition_events shows runner.turn_us (calls_in_walk runner depth) (events_in_walk shows runner depth) (step_on_path name path) (option_map tree cond) s

  -- a control
  abbrev pub control_in_walk : Option Expr → Option Expr → Option ℕ → List CheckedStep → State ℕ Now → Out ℕ Now (Unit {0})
  control_in_walk cond repeat timeout steps =
      m.control_result (direct false) runner.turn_us (calls_in_walk runner depth) (option_map tree cond) (option_map tree repeat) timeout (steps_tree steps)
      (steps_in_walk steps)

  -- what is seen of it
  abbrev pub control_seen : List ℕ → List ℕ → Option Expr → Option Expr → Option ℕ → List CheckedStep → State ℕ Now → ShownEvents
  control_seen name path cond repeat timeout steps s = λ shows.
      os.controlled_events shows runner.turn_us (calls_in_walk runner depth) (events_in_walk shows runner depth) (step_on_path name path)
      (option_map tree cond) (option_map tree repeat) timeout (steps_tree steps) (inside_in_walk steps) (λ q. steps_seen name path steps q shows) s

  -- the steps of a control, once or in turns
  abbrev pub repeat_in_walk : Option Expr → Option ℕ → List CheckedStep → State ℕ Now → Out ℕ Now (Unit {0})
  repeat_in_walk repeat timeout steps =
      m.repeat_result (direct false) runner.turn_us (calls_in_walk runner depth) (option_map tree repeat) timeout (steps_tree steps) (steps_in_walk steps)

  -- what is seen of it
  abbrev pub repeat_seen : List ℕ → List ℕ → Option Expr → Option ℕ → List CheckedStep → State ℕ Now → ShownEvents
  repeat_seen name path repeat timeout steps s = λ shows.
      os.repeat_events shows runner.turn_us (calls_in_walk runner depth) (events_in_walk shows runner depth) (step_on_path name path)
      (option_map tree repeat) timeout (steps_tree steps) (inside_in_walk steps) (λ q. steps_seen name path steps q shows) s

  -- ---- loops

  -- a loop of at most so many turns: a poll, or turns
  abbrev pub loop_in_walk : Expr → ℕ → List CheckedStep → State ℕ Now → Out ℕ Now (Unit {0})
  loop_in_walk e count steps =
      m.loop_result (direct false) runner.turn_us (calls_in_walk runner depth) (poll_of (tree e) (steps_tree steps)) (tree e) count (steps_in_walk steps)

  -- what is seen of it
  abbrev pub loop_seen : List ℕ → List ℕ → Expr → ℕ → List CheckedStep → State ℕ Now → ShownEvents
  loop_seen name path e count steps s = λ shows.
      os.loop_events shows runner.turn_us (calls_in_walk runner depth) (events_in_walk shows runner depth) (while_spot name path)
      (poll_of (tree e) (steps_tree steps)) (tree e) count (inside_in_walk steps) (λ q. steps_seen name path steps q shows) s

  -- what is seen of it from its place on
  abbrev pub begun_seen : List ℕ → List ℕ → Expr → ℕ → List CheckedStep → State ℕ Now → ShownEvents
  begun_seen name path e count steps s = λ shows. Loops (while_spot name path) (tree e) count ∷ loop_seen name path e count steps s shows

  -- at most so many turns
  abbrev pub turns_in_walk : Expr → ℕ → List CheckedStep → State ℕ Now → Out ℕ Now (Unit {0})
  turns_in_walk e count steps = m.turns (direct false) (value_in_walk runner depth e) (inside_in_walk steps) count

  -- what is seen of it
  abbrev pub turns_seen : List ℕ → List ℕ → Expr → ℕ → List CheckedStep → State ℕ Now → ShownEvents
  turns_seen name path e count steps s = λ shows.
      os.turns_events shows (while_spot name path) (value_in_walk runner depth e)
      (o.value_events (calls_in_walk runner depth) (events_in_walk shows runner depth) (tree e))
      (inside_in_walk steps) (λ q. steps_seen name path steps q shows) 0 count s

  -- a turn
  abbrev pub turn_in_walk : Expr → List CheckedStep → State ℕ Now → Out ℕ Now Bool
  turn_in_walk e steps = m.turn (direct false) (value_in_walk runner depth e) (inside_in_walk steps)

  -- what is seen of the turn of this number
  abbrev pub turn_seen : List ℕ → List ℕ → ℕ → Expr → List CheckedStep → State ℕ Now → ShownEvents
  turn_seen name path number e steps s = λ shows.
      os.turn_events shows (while_spot name path) (value_in_walk runner depth e)
      (o.value_events (calls_in_walk runner depth) (events_in_walk shows runner depth) (tree e))
      (inside_in_walk steps) (λ q. steps_seen name path steps q shows) number s

  -- a turn that was counted
  abbrev pub tested_in_walk : Expr → List CheckedStep → State ℕ Now → Out ℕ Now Bool
  tested_in_walk e steps = tested_turn (value_in_walk runner depth e) (inside_in_walk steps)

  -- what is seen of it
  abbrev pub tested_seen : List ℕ → List ℕ → Expr → List CheckedStep → State ℕ Now → ShownEvents
  tested_seen name path e steps s = λ shows.
      os.tested_events shows (while_spot name path) (value_in_walk runner depth e)
      (o.value_events (calls_in_walk runner depth) (events_in_walk shows runner depth) (tree e))
      (inside_in_walk steps) (λ q. steps_seen name path steps q shows) s

-- the debug variables of a runner's set get their values, in order
abbrev pub debug_variables_in_walk : LoggedRunner → List Stmt → State ℕ Now → Out ℕ Now (Unit {0})
debug_variables_in_walk runner code = m.debug_result (direct false) runner.turn_us (checked_trees runner.set.now) (code_trees code)

-- what is seen of it
abbrev pub debugged_seen : LoggedRunner → List Stmt → State ℕ Now → ShownEvents
debugged_seen runner code s = λ shows. r.debugged_events shows runner.turn_us (checked_trees runner.set.now) (code_trees code) s

-- a run: the debug variables, and then the sequence of the name
abbrev pub run_in_walk : LoggedRunner → List ℕ → State ℕ Now → Out ℕ Now (Unit {0})
run_in_walk runner start = m.run_of (direct false) runner.turn_us (checked_trees runner.set.now) start

-- what is seen of it
abbrev pub run_seen : LoggedRunner → List ℕ → State ℕ Now → ShownEvents
run_seen runner start s = λ shows. r.run_events shows runner.turn_us (checked_trees runner.set.now) start s
