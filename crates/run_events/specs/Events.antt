-- What is seen of a run: events, in the order in which they come.
use Rattle.std.specs.Prelude.{ℕ, suc, List, [], ◌∷◌, ◌++◌, length, drop, take, fold, Option, Some, None, if◌then◌else◌, Ok, Err}
use Rattle.expr_grammar.specs.Tree.{Tree, StmtTree}
use Rattle.sequence_trees.specs.declared.spot.Spot.{Spot}
use Rattle.target_calls.specs.World.{World, is_over, done_now, left_at}
use Rattle.target_calls.specs.declared.calls.Ask.{Ask}
use Rattle.target_machine.specs.Plain.{CallEnd}
use Rattle.sequence_rules.specs.Direct.{Now}
use Rattle.sequence_rules.specs.Machine.{State, Out}

-- A unit: its number, from 1 in a run; the call; and how the call ends, none where it is not answered.
pub record MadeUnit : Type 0 where
  pub number : ℕ
  pub ask : Ask
  pub end : Option CallEnd

-- What is seen. A place is that of a statement, or the start of the text of a condition.
pub data Event : Type 0 where
  -- this statement begins
  Begins : Spot → StmtTree → Event
  -- this `if` of a control begins
  Tests : Spot → Tree → Event
  -- the `if` has this value: its control is skipped where that is 0
  Chooses : Spot → ℕ → Event
  -- this `while` begins, with so many turns until its timeout
  Loops : Spot → Tree → ℕ → Event
  -- the turn of this number begins, from 1
  Turns : Spot → ℕ → Event
  -- the `while` has this value in that turn
  Finds : Spot → ℕ → Event
  -- the `while` is left, since its value was 0 in the turn of this number
  Leaves : Spot → ℕ → Event
  -- the `while` has made so many turns, all that its timeout allows, and the run goes on
  TimesOut : Spot → ℕ → Event
  -- a `while` that is a poll is left, since its unit found the value
  Matches : Spot → Event
  -- the variable of this name has this value now
  Assigns : List ℕ → ℕ → Event
  -- a unit is made
  Makes : MadeUnit → Event
  -- a line is written
  Writes : List ℕ → Event
  -- the sequence of this name is called
  Calls : List ℕ → Event
  -- the last sequence that was called, and has not returned, returns
  Returns : Event

-- what is seen after one thing: nothing where the run is over
abbrev pub events_after : {A : Type 0} → Out ℕ Now A → (A → State ℕ Now → List Event) → List Event
events_after (Ok x) more = more x.0 x.1
events_after (Err e) more = []

-- ---- units

-- how a call ends in a world, none where it is not answered
abbrev pub call_end_in : World → Ask → Option CallEnd
call_end_in w ask = if is_over w.answered then None else Some (done_now w ask).end

-- calls as units, each made in the world that the one before left, the first with this number
abbrev pub units_from : World → ℕ → List Ask → List MadeUnit
units_from w number [] = []
units_from w number (ask ∷ asks) =
    record { number = number; ask = ask; end = call_end_in w ask } ∷ units_from (left_at w ask) (suc number) asks

-- the world that calls leave, answered or not
abbrev pub left_by : World → List Ask → World
left_by w [] = w
left_by w (ask ∷ asks) = left_by (left_at w ask) asks

-- the units of the calls that were added from one state to a later one
abbrev pub units_between : State ℕ Now → State ℕ Now → List MadeUnit
units_between s r = units_from s.rest.world (suc (length s.rest.calls)) (drop (length s.rest.calls) r.rest.calls)

-- units are seen
abbrev pub all_made : List MadeUnit → List Event
all_made [] = []
all_made (u ∷ units) = Makes u ∷ all_made units

-- ---- what is seen of units, lines and places

-- the units among events
abbrev pub units_in : List Event → List MadeUnit
units_in [] = []
units_in (Makes u ∷ more) = u ∷ units_in more
units_in (Begins spot st ∷ more) = units_in more
units_in (Tests spot e ∷ more) = units_in more
units_in (Chooses spot n ∷ more) = units_in more
units_in (Loops spot e n ∷ more) = units_in more
units_in (Turns spot n ∷ more) = units_in more
units_in (Finds spot n ∷ more) = units_in more
units_in (Leaves spot n ∷ more) = units_in more
units_in (TimesOut spot n ∷ more) = units_in more
units_in (Matches spot ∷ more) = units_in more
units_in (Assigns name n ∷ more) = units_in more
units_in (Writes line ∷ more) = units_in more
units_in (Calls name ∷ more) = units_in more
units_in (Returns ∷ more) = units_in more

-- the lines among events, one after the other
abbrev pub lines_in : List Event → List ℕ
lines_in [] = []
lines_in (Writes line ∷ more) = line ++ lines_in more
lines_in (Makes u ∷ more) = lines_in more
lines_in (Begins spot st ∷ more) = lines_in more
lines_in (Tests spot e ∷ more) = lines_in more
lines_in (Chooses spot n ∷ more) = lines_in more
lines_in (Loops spot e n ∷ more) = lines_in more
lines_in (Turns spot n ∷ more) = lines_in more
lines_in (Finds spot n ∷ more) = lines_in more
lines_in (Leaves spot n ∷ more) = lines_in more
lines_in (TimesOut spot n ∷ more) = lines_in more
lines_in (Matches spot ∷ more) = lines_in more
lines_in (Assigns name n ∷ more) = lines_in more
lines_in (Calls name ∷ more) = lines_in more
lines_in (Returns ∷ more) = lines_in more

-- The places that were reached, that of the running sequence first, and then those of its callers. A called sequence begins at the
-- place of its call.
abbrev pub places_after : List Spot → Event → List Spot
places_after places (Begins spot st) = spot ∷ drop 1 places
places_after places (Tests spot e) = spot ∷ drop 1 places
places_after places (Loops spot e n) = spot ∷ drop 1 places
places_after places (Turns spot n) = spot ∷ drop 1 places
places_after places (Calls name) = take 1 places ++ places
places_after places Returns = drop 1 places
places_after places other = places

-- the places that these events reached
abbrev pub places_reached : List Event → List Spot
places_reached events = fold places_after [] events
