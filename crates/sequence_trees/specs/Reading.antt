-- Which trees the texts of steps and of a set stand for.
use Rattle.std.specs.Prelude.{◌≡◌, ℕ, List, [], ◌∷◌, Option, None, Some}
use Rattle.device_tree.specs.StepTree as device
use Rattle.sequence_resolve.specs.declared.entry.SeqEntry.{SeqEntry}
use Rattle.sequence_resolve.specs.declared.entry.SeqSet.{SeqSet}
use Rattle.expr_grammar.specs.Tree.{Tree, StmtTree}
use Rattle.sequence_trees.specs.Texts.{IsCodeOf, IsConditionOf}
use Rattle.sequence_trees.specs.Trees.{CodeStep, Block, Control, CodeSteps, NoSteps, MoreSteps, SequenceTrees, SetTrees}
use Rattle.sequence_trees.specs.Order.{enabled_steps}

-- no condition, or this one
abbrev pub MayBeCondition : Option (List ℕ) → Option Tree → Type 0
MayBeCondition None condition = condition ≡ None
MayBeCondition (Some text) condition = (e : Tree) × (condition ≡ Some e) × IsConditionOf text e

-- a block with this code
pub record ReadsBlock (text : List ℕ) (step : CodeStep) : Type 0 where
  pub code : List StmtTree
  pub is : step ≡ Block code
  pub reads : IsCodeOf text code

-- a control with these conditions and the same timeout, whose steps meet `Inner`
pub record ReadsControl (cond_text repeat_text : Option (List ℕ)) (timeout : Option ℕ) (Inner : CodeSteps → Type 0) (step : CodeStep) : Type 0 where
  pub cond : Option Tree
  pub repeat : Option Tree
  pub inner : CodeSteps
  pub is : step ≡ Control cond repeat timeout inner
  pub reads_cond : MayBeCondition cond_text cond
  pub reads_repeat : MayBeCondition repeat_text repeat
  pub reads_inner : Inner inner

-- the first step meets `First`, and those after it meet `More`
pub record Begins (First : CodeStep → Type 0) (More : CodeSteps → Type 0) (steps : CodeSteps) : Type 0 where
  pub first : CodeStep
  pub more : CodeSteps
  pub parts : steps ≡ MoreSteps first more
  pub reads_first : First first
  pub reads_more : More more

-- the steps are these, one for one
abbrev pub ReadsSteps : device.StepTree → CodeSteps → Type 0
ReadsSteps device.no_steps steps = steps ≡ NoSteps
ReadsSteps (device.block text atomic rest) steps = Begins (ReadsBlock text) (λ more. ReadsSteps rest more) steps
ReadsSteps (device.control cond repeat timeout inner rest) steps =
    Begins (ReadsControl cond repeat timeout (λ own. ReadsSteps inner own)) (λ more. ReadsSteps rest more) steps

-- the sequence has its name, and its steps unless it is disabled
pub record ReadsEntry (e : SeqEntry) (s : SequenceTrees) : Type 0 where
  pub name : s.name ≡ e.name
  pub steps : ReadsSteps (enabled_steps e) s.steps

-- the sequences are these, one for one
abbrev pub ReadsEntries : List SeqEntry → List SequenceTrees → Type 0
ReadsEntries [] sequences = sequences ≡ []
ReadsEntries (e ∷ es) sequences = (s : SequenceTrees) × (more : List SequenceTrees)
    × (sequences ≡ s ∷ more) × ReadsEntry e s × ReadsEntries es more

-- the set is these trees
pub record ReadsSet (set : SeqSet) (trees : SetTrees) : Type 0 where
  pub debugvars : IsCodeOf set.debugvars trees.debugvars
  pub sequences : ReadsEntries set.entries trees.sequences
