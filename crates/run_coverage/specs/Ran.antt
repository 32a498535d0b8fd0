-- Statements that ran, and are remembered by their places.
use Rattle.std.specs.Prelude.{ℕ, Bool, true, List, Option, Some, None}
use Rattle.sequence_trees.specs.declared.spot.Part.TheVariants as parts
use Rattle.log_lines.specs.Places.{spot_in_step}
use Rattle.run_coverage.specs.declared.ran.RanStatement.{RanStatement}
use Rattle.run_coverage.specs.Items.{ran_words}

-- the item of a statement that ran, in words
abbrev pub ran_item_words : RanStatement → List ℕ
ran_item_words ran = ran_words (spot_in_step ran.sequence ran.path parts.Block ran.place)

-- of what is remembered, it is had that it ran
abbrev pub is_had : (List ℕ → Bool) → Option RanStatement → Bool
is_had has None = true
is_had has (Some ran) = has (ran_item_words ran)
