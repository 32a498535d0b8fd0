-- The parts of a step: their words, and their order.
use Rattle.std.specs.Prelude.{ℕ, List, codes}
use Rattle.sequence_trees.specs.declared.spot.Part.{Part}
use Rattle.sequence_trees.specs.declared.spot.Part.TheVariants as parts

-- the name of a part of a step, or of the debug variables: their key in the job
abbrev pub part_word : Part → List ℕ
part_word parts.Debugvars = codes "debugvars"
part_word parts.Control = codes "control"
part_word parts.Block = codes "block"
part_word parts.If = codes "if"
part_word parts.While = codes "while"

-- the order of the parts of one step
abbrev pub part_rank : Part → ℕ
part_rank parts.Debugvars = 0
part_rank parts.Control = 1
part_rank parts.Block = 2
part_rank parts.If = 3
part_rank parts.While = 4
