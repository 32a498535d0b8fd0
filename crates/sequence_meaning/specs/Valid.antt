-- What the run of a checked set never meets.
use Rattle.std.specs.Prelude.{◌≡◌, ℕ, true, List, map, is_some, Option}
use Rattle.target_calls.specs.World.{World}
use Rattle.function_table.specs.Variables.{names_of_predefined}
use Rattle.seq_check.specs.Valid.{IsSound}
use Rattle.sequence_trees.specs.Trees.{steps_named}
use Rattle.sequence_rules.specs.Runs as ending
use Rattle.sequence_rules.specs.Runs.{Program, outcome_of, meaning, watched_run}

-- A program of a set in which nothing is wrong, which has the sequence that the run starts with, and of the predefined variables.
pub record IsChecked (p : Program) : Type 0 where
  pub sound : IsSound p.set
  pub start : is_some (steps_named p.start p.set.sequences) ≡ true
  pub names : map (λ b. b.name) p.predefined ≡ names_of_predefined

-- Its run is never lost. It never meets a name that is not visible, a function that is not in the table, or a wrong count or kind of arguments.
-- Nor does it meet a sequence that the set does not have, a chain of more than 32, or a loop without a timeout. So 0 or nothing never takes the
-- place of what is missing.
abbrev pub ChecksLeaveNothingMissing : Type 0
ChecksLeaveNothingMissing = (w : World) (p : Program) (written : Option (List ℕ)) → IsChecked p
    → outcome_of (watched_run w p written) ≡ outcome_of (meaning w p written)
    × ((outcome_of (watched_run w p written)).ending ≡ ending.Lost → ⊥)
