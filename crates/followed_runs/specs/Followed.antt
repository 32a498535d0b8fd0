-- What a program comes to with what follows it.
use Rattle.std.specs.Prelude.{ℕ, min, if◌then◌else◌, List, [], ◌∷◌, ◌++◌, Option, Some, None, is_some, option_map, length, nat_lt}
use Rattle.target_calls.specs.Asks.{settled_last}
use Rattle.target_calls.specs.World.{World, skips, start_world, world_after}
use Rattle.target_calls.specs.declared.calls.Ask.{Ask}
use Rattle.target_machine.specs.State.{TargetState}
use Rattle.sequence_rules.specs.Runs as runs
use Rattle.sequence_rules.specs.Runs.{Ending, Outcome, Program, meaning, outcome_of}
use Rattle.sequels.specs.Sequel.{Comes, Sequel, comes}
use Rattle.sequels.specs.declared.close.Close.{Close}
use Rattle.sequels.specs.declared.close.Close.TheVariants.{Nothing}

-- What is run: a program, and what follows it where that is done.
pub record Task : Type 0 where
  pub program : Program
  pub sequel : Option (Sequel Close)

-- a program that nothing follows
abbrev pub task_alone : Program → Task
task_alone p = record { program = p; sequel = None }

-- the last of the calls met a fault
abbrev pub faulted_last : List Ask → Ending
faulted_last [] = runs.Lost
faulted_last (ask ∷ []) = runs.Faulted ask.call
faulted_last (ask ∷ next ∷ calls) = faulted_last (next ∷ calls)

-- why calls end that stop at their last one: more were asked than are answered, or it met a fault
abbrev pub stopped_by : Option ℕ → List Ask → Ending
stopped_by None calls = faulted_last calls
stopped_by (Some n) calls = if nat_lt n (length calls) then runs.Unanswered else faulted_last calls

-- A run that was done goes on with what a sequel comes to, once its last call is settled. Where the sequel has an end, the run is done.
abbrev pub joined_outcome : {C : Type 0} → World → Outcome → Comes C → Outcome
joined_outcome w o c = record {
  ending = if is_some c.end then runs.Done else stopped_by (world_after w o.calls).answered c.calls;
  variables = if is_some c.end then o.variables else [];
  calls = settled_last o.calls ++ c.calls;
  skipped = min (skips w (settled_last o.calls ++ c.calls)) 4294967295;
  written = option_map (λ bytes. bytes ++ c.written) o.written;
  target = (world_after w (settled_last o.calls ++ c.calls)).target;
}

-- only a run that was done goes on
abbrev pub followed_at : {C : Type 0} → World → Sequel C → Outcome → Ending → Outcome
followed_at w s o runs.Done = joined_outcome w o (comes (world_after w o.calls) s)
followed_at w s o other = o

-- The outcome of a run, with what follows it.
abbrev pub followed_outcome : {C : Type 0} → Option (Sequel C) → World → Outcome → Outcome
followed_outcome None w o = o
followed_outcome (Some s) w o = followed_at w s o o.ending

-- What a task comes to in a world, after what was written before.
abbrev pub outcome_in_world : World → Task → Option (List ℕ) → Outcome
outcome_in_world w k written = followed_outcome k.sequel w (outcome_of (meaning w k.program written))

-- What a task comes to on a target, where all units are answered.
abbrev pub task_outcome : Task → TargetState → Option (List ℕ) → Outcome
task_outcome k t written = outcome_in_world (start_world t None) k written

-- The same where only so many units are answered.
abbrev pub task_within : ℕ → Task → TargetState → Option (List ℕ) → Outcome
task_within m k t written = outcome_in_world (start_world t (Some m)) k written

-- ---- how what follows came to its end

-- the end of a sequel, where it has one
abbrev pub close_of : Option Close → Close
close_of None = Nothing
close_of (Some close) = close

-- only a run that was done goes on
abbrev pub closed_at : World → Sequel Close → Outcome → Ending → Close
closed_at w s o runs.Done = close_of (comes (world_after w o.calls) s).end
closed_at w s o other = Nothing

-- How what follows a run came to its end: `Nothing` where nothing follows, where the run was not done, and where the calls of what follows stop.
abbrev pub close_after_run : Option (Sequel Close) → World → Outcome → Close
close_after_run None w o = Nothing
close_after_run (Some s) w o = closed_at w s o o.ending

-- How what follows the program of a task comes to its end in a world, after what was written before.
abbrev pub close_in : World → Task → Option (List ℕ) → Close
close_in w k written = close_after_run k.sequel w (outcome_of (meaning w k.program written))

-- The same on a target, where all units are answered.
abbrev pub task_close : Task → TargetState → Option (List ℕ) → Close
task_close k t written = close_in (start_world t None) k written
