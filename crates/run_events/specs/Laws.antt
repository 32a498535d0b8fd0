-- Laws of what is seen.
use Rattle.std.specs.Prelude.{◌≡◌, ◌⊎◌, ℕ, Bool, List, [], ◌∷◌, Option, option_map}
use Rattle.std.specs.Bool.{⊤}
use Rattle.target_calls.specs.World.{World}
use Rattle.sequence_rules.specs.Direct.{line_after}
use Rattle.sequence_rules.specs.Runs.{Program, outcome_of, meaning}
use Rattle.run_events.specs.Events.{Event, units_from, units_in, lines_in}
use Rattle.run_events.specs.OfRuns.{events_in, each_turn}

-- The units that are seen of a run are the calls of its outcome, from 1, each made in the world that the one before left. The lines that
-- are seen are what it adds to what was written.
pub record IsTheRun (w : World) (p : Program) (written : Option (List ℕ)) : Type 0 where
  pub units : units_in (events_in each_turn w p written) ≡ units_from w 1 (outcome_of (meaning w p written)).calls
  pub lines : (outcome_of (meaning w p written)).written ≡ option_map (line_after (lines_in (events_in each_turn w p written))) written

-- that is so of each program in each world
abbrev pub EventsAreTheRun : Type 0
EventsAreTheRun = (w : World) (p : Program) (written : Option (List ℕ)) → IsTheRun w p written

-- the first list is the second one with some events left out
abbrev pub IsPartOfEvents : List Event → List Event → Type 0
IsPartOfEvents [] [] = ⊤
IsPartOfEvents (x ∷ xs) [] = ⊥
IsPartOfEvents [] (y ∷ ys) = ⊤
IsPartOfEvents (x ∷ xs) (y ∷ ys) = ((x ≡ y) × IsPartOfEvents xs ys) ⊎ IsPartOfEvents (x ∷ xs) ys

-- what is shown is what is seen, with some events left out, in the same order
abbrev pub ShownAreSeen : Type 0
ShownAreSeen = (shows : ℕ → Bool) (w : World) (p : Program) (written : Option (List ℕ)) → IsPartOfEvents (events_in shows w p written) (events_in each_turn w p written)
