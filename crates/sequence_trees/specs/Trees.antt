-- The steps of sequences as plain values: what `CheckedStep` says, without where it lies in memory.
use Rattle.std.specs.Prelude.{ℕ, List, [], ◌∷◌, ◌++◌, map, Option, None, Some, option_map, unwrap_or, if◌then◌else◌}
use Rattle.std.specs.Str.{bytes_eq}
use Rattle.expr_grammar.specs.Tree.{Tree, tree, StmtTree, code_trees}
use Rattle.sequence_trees.specs.declared.steps.CheckedStep.{CheckedStep}
use Rattle.sequence_trees.specs.declared.steps.CheckedStep.TheOpen.{CheckedStep-F}
use Rattle.sequence_trees.specs.declared.steps.CheckedStep.TheFolds.{fold-CheckedStep}

-- a step, and the steps of a sequence or of a control
mutual
  -- a step: a block of statements, or a control with its conditions, its timeout and its steps
  pub data CodeStep : Type 0 where
    Block : List StmtTree → CodeStep
    Control : Option Tree → Option Tree → Option ℕ → CodeSteps → CodeStep

  -- the steps of a sequence or of a control
  pub data CodeSteps : Type 0 where
    NoSteps : CodeSteps
    MoreSteps : CodeStep → CodeSteps → CodeSteps

-- the steps that a list holds
abbrev pub steps_of : List CodeStep → CodeSteps
steps_of [] = NoSteps
steps_of (s ∷ more) = MoreSteps s (steps_of more)

-- a step, whose inner steps are given as trees
abbrev pub checked_step : CheckedStep-F CodeStep → CodeStep
checked_step (CheckedStep-F.Block code) = Block (code_trees code)
checked_step (CheckedStep-F.Control cond repeat timeout steps) = Control (option_map tree cond.value) (option_map tree repeat.value) timeout (steps_of steps)

-- the tree of a step
abbrev pub step_tree : CheckedStep → CodeStep
step_tree = fold-CheckedStep CodeStep checked_step

-- the trees of steps
abbrev pub steps_tree : List CheckedStep → CodeSteps
steps_tree steps = steps_of (map step_tree steps)

-- ---- a whole set

-- a sequence
pub record SequenceTrees : Type 0 where
  pub name : List ℕ
  pub steps : CodeSteps

-- a set: its debug variables, and its sequences in the set's order
pub record SetTrees : Type 0 where
  pub debugvars : List StmtTree
  pub sequences : List SequenceTrees

-- the set, with one more sequence at the end
abbrev pub with_sequence : List ℕ → CodeSteps → SetTrees → SetTrees
with_sequence name steps set = record { debugvars = set.debugvars; sequences = set.sequences ++ record { name = name; steps = steps } ∷ [] }

-- the steps of the first sequence with the name
abbrev pub steps_named : List ℕ → List SequenceTrees → Option CodeSteps
steps_named name [] = None
steps_named name (s ∷ more) = if bytes_eq name s.name then Some s.steps else steps_named name more

-- the steps of a sequence, none where the set does not have it
abbrev pub steps_in : SetTrees → List ℕ → CodeSteps
steps_in set name = unwrap_or (steps_named name set.sequences) NoSteps
