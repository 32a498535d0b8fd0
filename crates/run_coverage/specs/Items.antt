-- What a run can cover: that a statement runs, that an `if` is taken or skipped, that a `while` is left or times out.
use Rattle.std.specs.Prelude.{ℕ, suc, true, false, List, [], ◌∷◌, ◌++◌, codes, nat_eq, Option, Some, None, if◌then◌else◌}
use Rattle.expr_grammar.specs.Tree.{Tree, StmtTree, Empty, Declare, Plain}
use Rattle.sequence_trees.specs.Trees.{CodeStep, Block, Control, CodeSteps, NoSteps, MoreSteps, SetTrees, steps_in}
use Rattle.sequence_trees.specs.declared.spot.Part.TheVariants as parts
use Rattle.sequence_trees.specs.declared.spot.Spot.{Spot}
use Rattle.log_lines.specs.Places.{spot_words, spot_in_step, condition_spot}
use Rattle.run_coverage.specs.declared.items.Item.{Item}

-- the statement at a place runs
abbrev pub ran_words : Spot → List ℕ
ran_words spot = codes "ran " ++ spot_words spot

-- the `if` at a place is taken
abbrev pub taken_words : Spot → List ℕ
taken_words spot = codes "taken " ++ spot_words spot

-- the `if` at a place is skipped
abbrev pub skipped_words : Spot → List ℕ
skipped_words spot = codes "skipped " ++ spot_words spot

-- what happens at an `if` of this value
abbrev pub branch_words : ℕ → List ℕ
branch_words n = if nat_eq n 0 then codes "skipped " else codes "taken "

-- the `while` at a place is left by its condition
abbrev pub left_words : Spot → List ℕ
left_words spot = codes "left " ++ spot_words spot

-- the `while` at a place times out
abbrev pub timed_out_words : Spot → List ℕ
timed_out_words spot = codes "timed out " ++ spot_words spot

-- an item of a statement, in words
abbrev pub of_statement : List ℕ → Item
of_statement words = record { is_statement = true; words = words }

-- an item of a condition, in words
abbrev pub of_condition : List ℕ → Item
of_condition words = record { is_statement = false; words = words }

-- a statement runs; `;` alone does not count
abbrev pub statement_items : List ℕ → List ℕ → StmtTree → List Item
statement_items name path (Empty at) = []
statement_items name path (Declare x e) = of_statement (ran_words (spot_in_step name path parts.Block x.at)) ∷ []
statement_items name path (Plain at e) = of_statement (ran_words (spot_in_step name path parts.Block at)) ∷ []

-- the statements of a block, in order
abbrev pub block_items : List ℕ → List ℕ → List StmtTree → List Item
block_items name path [] = []
block_items name path (s ∷ code) = statement_items name path s ++ block_items name path code

-- an `if` is taken, and skipped
abbrev pub if_items : List ℕ → List ℕ → Option Tree → List Item
if_items name path None = []
if_items name path (Some e) =
    of_condition (taken_words (condition_spot name path parts.If)) ∷ of_condition (skipped_words (condition_spot name path parts.If)) ∷ []

-- a `while` is left by its condition, and times out
abbrev pub while_items : List ℕ → List ℕ → Option Tree → List Item
while_items name path None = []
while_items name path (Some e) =
    of_condition (left_words (condition_spot name path parts.While)) ∷ of_condition (timed_out_words (condition_spot name path parts.While)) ∷ []

-- the items of steps, each at its path
abbrev mutual
  -- in the step at the path: of a control its `if`, its `while`, and then the steps inside
  pub step_items : List ℕ → List ℕ → CodeStep → List Item
  step_items name path (Block code) = block_items name path code
  step_items name path (Control cond repeat timeout steps) = if_items name path cond ++ (while_items name path repeat ++ steps_items name path 0 steps)

  -- in the steps inside the one at the path, the first of which has this number
  pub steps_items : List ℕ → List ℕ → ℕ → CodeSteps → List Item
  steps_items name path number NoSteps = []
  steps_items name path number (MoreSteps step more) = step_items name (path ++ number ∷ []) step ++ steps_items name path (suc number) more

-- in a sequence, in the order of the text
abbrev pub sequence_items : SetTrees → List ℕ → List Item
sequence_items set name = steps_items name [] 0 (steps_in set name)
