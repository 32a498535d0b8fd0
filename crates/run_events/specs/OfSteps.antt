-- What is seen of statements, controls and steps.
use Rattle.std.specs.Prelude.{ℕ, zero, suc, Bool, true, false, not, ◌||◌, List, [], ◌∷◌, ◌++◌, Option, Some, None, unwrap_or, Ok, Err, if◌then◌else◌, nat_eq}
use Rattle.dap_base.specs.declared.text.Place.{Place}
use Rattle.expr_grammar.specs.Tree as t
use Rattle.expr_grammar.specs.Tree.{Tree, StmtTree}
use Rattle.sequence_trees.specs.Order.{SetStep, spot_at}
use Rattle.sequence_trees.specs.Trees as c
use Rattle.sequence_trees.specs.Trees.{CodeStep, CodeSteps}
use Rattle.sequence_trees.specs.declared.spot.Part.{Part}
use Rattle.sequence_trees.specs.declared.spot.Part.TheVariants as part
use Rattle.sequence_trees.specs.declared.spot.Spot.{Spot}
use Rattle.target_machine.specs.Plain.{CallEnd, Answered}
use Rattle.sequence_rules.specs.Direct.{Now, direct}
use Rattle.sequence_rules.specs.Machine.{State, Out, end_state}
use Rattle.sequence_rules.specs.Polls.{poll_of}
use Rattle.sequence_rules.specs.Steps.{timeout_of, turn_count, counted_step, inside, turn, poll_result, statement, condition, step, steps_result}
use Rattle.sequence_rules.specs.Values.{value}
use Rattle.run_events.specs.Events.{Event, Begins, Tests, Chooses, Loops, Turns, Finds, Leaves, TimesOut, Matches, Assigns, Makes, MadeUnit, events_after, units_between}
use Rattle.run_events.specs.OfValues.{value_events}

-- ---- places

-- the start of a text
abbrev pub text_start : Place
text_start = record { line = 1; column = 1 }

-- where a statement begins: a declaration at the name
abbrev pub statement_place : StmtTree → Place
statement_place (t.Empty at) = at
statement_place (t.Declare name e) = name.at
statement_place (t.Plain at e) = at

-- the step of this number among the steps inside
abbrev pub inner_step : SetStep → ℕ → SetStep
inner_step at number = record { sequence = at.sequence; path = at.path ++ number ∷ [] }

-- ---- loops

-- no turn follows: so many could, after a turn that ends so
abbrev pub is_last_turn : ℕ → Out ℕ Now Bool → Bool
is_last_turn left (Ok x) = not x.0 || nat_eq left 0
is_last_turn left (Err e) = true

-- how a poll ended, by the end of its unit
abbrev pub poll_end : Spot → ℕ → Option CallEnd → List Event
poll_end spot turns (Some (Answered n)) = (if nat_eq n 0 then TimesOut spot turns else Matches spot) ∷ []
poll_end spot turns other = []

-- the units of a poll, each with how the poll ended
abbrev pub polled_events : Spot → ℕ → List MadeUnit → List Event
polled_events spot turns [] = []
polled_events spot turns (u ∷ units) = Makes u ∷ poll_end spot turns u.end ++ polled_events spot turns units

-- a poll, which is one unit
unfoldable pub poll_events : Spot → ℕ × ℕ → ℕ → State ℕ Now → List Event
poll_events spot form turns s = polled_events spot turns (units_between s (end_state (poll_result (direct false) form turns s)))

-- Which turns of a loop are seen besides its last one, by their numbers.
module _ (shows : ℕ → Bool) where
  -- What is seen of a turn and of what is done in it.
  module _ (spot : Spot) (test : State ℕ Now → Out ℕ Now ℕ) (test_seen : State ℕ Now → List Event)
      (body : State ℕ Now → Out ℕ Now (Unit {0})) (body_seen : State ℕ Now → List Event) where
    -- the condition of a turn, and where it is not 0 what is done
    unfoldable pub tested_events : State ℕ Now → List Event
    tested_events s = test_seen s ++ events_after (test s) (λ n r. Finds spot n ∷ (if nat_eq n 0 then [] else body_seen r))

    -- the turn of this number
    unfoldable pub turn_events : ℕ → State ℕ Now → List Event
    turn_events number s = Turns spot number ∷ events_after (counted_step (direct false) s) (λ done r. tested_events r)

    -- at most so many turns, after so many that were made
    unfoldable pub turns_events : ℕ → ℕ → State ℕ Now → List Event
    turns_events made zero s = TimesOut spot made ∷ []
    turns_events made (suc left) s =
        (if shows (suc made) || is_last_turn left (turn (direct false) test body s) then turn_events (suc made) s else [])
        ++ events_after (turn (direct false) test body s) (λ more r. if more then turns_events (suc made) left r else Leaves spot (suc made) ∷ [])

  -- ---- steps. `sequence` is what a call of the sequence of a name does, and `seen` what is seen of it.
  module _ (turn_us : ℕ) (sequence : List ℕ → State ℕ Now → Out ℕ Now (Unit {0})) (seen : List ℕ → State ℕ Now → List Event) where
    -- a statement, after it is counted
    unfoldable pub done_events : StmtTree → State ℕ Now → List Event
    done_events (t.Empty at) s = []
    done_events (t.Declare name e) s = value_events sequence seen e s ++ events_after (value (direct false) sequence e s) (λ n r. Assigns name.text n ∷ [])
    done_events (t.Plain at e) s = value_events sequence seen e s

    -- a statement
    unfoldable pub statement_events : SetStep → StmtTree → State ℕ Now → List Event
    statement_events at st s = Begins (spot_at at part.Block (statement_place st)) st ∷ events_after (counted_step (direct false) s) (λ done r. done_events st r)

    -- statements in order
    unfoldable pub block_events : SetStep → List StmtTree → State ℕ Now → List Event
    block_events at [] s = []
    block_events at (st ∷ code) s =
        statement_events at st s ++ events_after (statement (direct false) turn_us sequence st s) (λ done r. block_events at code r)

    -- the `if` of a control, where it has one
    unfoldable pub condition_events : SetStep → Option Tree → State ℕ Now → List Event
    condition_events at None s = []
    condition_events at (Some e) s =
        Tests (spot_at at part.If text_start) e ∷ value_events sequence seen e s
        ++ events_after (value (direct false) sequence e s) (λ n r. Chooses (spot_at at part.If text_start) n ∷ [])

    -- a poll, or turns
    unfoldable pub loop_events : Spot → Option (ℕ × ℕ) → Tree → ℕ → (State ℕ Now → Out ℕ Now (Unit {0})) → (State ℕ Now → List Event) → State ℕ Now → List Event
    loop_events spot (Some form) e turns body body_seen s = poll_events spot form turns s
    loop_events spot None e turns body body_seen s =
        turns_events spot (λ r. value (direct false) sequence e r) (λ r. value_events sequence seen e r) body body_seen 0 turns s

    -- the steps of a control once, or as its `while` and its timeout say
    unfoldable pub repeat_events : SetStep → Option Tree → Option ℕ → CodeSteps
        → (State ℕ Now → Out ℕ Now (Unit {0})) → (State ℕ Now → List Event) → State ℕ Now → List Event
    repeat_events at None timeout steps body body_seen s = body_seen s
    repeat_events at (Some e) timeout steps body body_seen s =
        Loops (spot_at at part.While text_start) e (turn_count turn_us (unwrap_or (timeout_of timeout) 0))
        ∷ loop_events (spot_at at part.While text_start) (poll_of e steps) e (turn_count turn_us (unwrap_or (timeout_of timeout) 0)) body body_seen s

    -- a control is skipped where its `if` is 0
    unfoldable pub controlled_events : SetStep → Option Tree → Option Tree → Option ℕ → CodeSteps
        → (State ℕ Now → Out ℕ Now (Unit {0})) → (State ℕ Now → List Event) → State ℕ Now → List Event
    controlled_events at cond repeat timeout steps body body_seen s =
        condition_events at cond s
        ++ events_after (condition (direct false) turn_us sequence cond s) (λ chosen r. if chosen then repeat_events at repeat timeout steps body body_seen r else [])

    unfoldable mutual
      -- a step
      pub step_events : SetStep → CodeStep → State ℕ Now → List Event
      step_events at (c.Block code) s = block_events at code s
      step_events at (c.Control cond repeat timeout steps) s =
          controlled_events at cond repeat timeout steps
          (λ r. inside (direct false) (λ q. steps_result (direct false) turn_us sequence steps q) r) (λ r. steps_events at 0 steps r) s

      -- steps in order, of which the first has this number
      pub steps_events : SetStep → ℕ → CodeSteps → State ℕ Now → List Event
      steps_events at number c.NoSteps s = []
      steps_events at number (c.MoreSteps first more) s =
          step_events (inner_step at number) first s
          ++ events_after (step (direct false) turn_us sequence first s) (λ done r. steps_events at (suc number) more r)
