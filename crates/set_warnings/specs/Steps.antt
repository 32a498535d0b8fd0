-- The warnings of steps, in the order of the check.
use Rattle.std.specs.Prelude.{ℕ, suc, List, [], ◌∷◌, ◌++◌, Option}
use Rattle.expr_grammar.specs.Tree.{Tree}
use Rattle.sequence_trees.specs.declared.spot.Part.{Part}
use Rattle.sequence_trees.specs.declared.spot.Part.TheVariants as parts
use Rattle.sequence_trees.specs.Trees.{CodeStep, Block, Control, CodeSteps, NoSteps, MoreSteps}
use Rattle.set_warnings.specs.declared.warning.Warning.{Warning}
use Rattle.set_warnings.specs.Sites.{PartAt}
use Rattle.set_warnings.specs.Assigned.{block_warnings, condition_warnings}
use Rattle.set_warnings.specs.Waits.{long_warnings, wait_warnings}

-- this part of the step at the path
abbrev pub part_at_path : List ℕ → List ℕ → Part → PartAt
part_at_path sequence path part = record { sequence = sequence; path = path; part = part }

-- what a `while` has itself: a wait by a name, and the variables that it assigns
abbrev pub while_warnings : List (List ℕ) → PartAt → Option Tree → CodeSteps → List Warning
while_warnings vars at repeat steps = wait_warnings at repeat steps ++ condition_warnings vars at repeat

-- what a control has itself: of its form, of its `if`, of its `while`
abbrev pub own_warnings : List (List ℕ) → List ℕ → List ℕ → Option Tree → Option Tree → Option ℕ → CodeSteps → List Warning
own_warnings vars sequence path cond repeat timeout steps =
    long_warnings (part_at_path sequence path parts.Control) repeat timeout
    ++ (condition_warnings vars (part_at_path sequence path parts.If) cond ++ while_warnings vars (part_at_path sequence path parts.While) repeat steps)

-- the warnings of steps, and of the steps inside them
abbrev mutual
  -- of the step at the path of this sequence, where these are the debug variables
  pub step_warnings : List (List ℕ) → List ℕ → List ℕ → CodeStep → List Warning
  step_warnings vars sequence path (Block code) = block_warnings vars (part_at_path sequence path parts.Block) code
  step_warnings vars sequence path (Control cond repeat timeout steps) =
      own_warnings vars sequence path cond repeat timeout steps ++ steps_warnings vars sequence path 0 steps

  -- of the steps inside the one at the path, the first of which has this number
  pub steps_warnings : List (List ℕ) → List ℕ → List ℕ → ℕ → CodeSteps → List Warning
  steps_warnings vars sequence path number NoSteps = []
  steps_warnings vars sequence path number (MoreSteps step more) =
      step_warnings vars sequence (path ++ number ∷ []) step ++ steps_warnings vars sequence path (suc number) more
