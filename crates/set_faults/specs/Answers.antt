-- All faults of a set.
use Rattle.std.specs.Prelude.{◌≡◌, ◌≢◌, ◌⊎◌, List, []}
use Rattle.sequence_resolve.specs.declared.entry.SeqSet.{SeqSet}
use Rattle.sequence_trees.specs.Trees.{SetTrees}
use Rattle.sequence_trees.specs.Reading.{ReadsSet}
use Rattle.set_faults.specs.declared.site.Fault.{Fault}
use Rattle.set_faults.specs.declared.phase.Phase.{Phase}
use Rattle.set_faults.specs.declared.phase.Phase.TheVariants as phases
use Rattle.set_faults.specs.declared.phase.SetFaults.{SetFaults}
use Rattle.set_faults.specs.Syntax.{AreSyntaxFaults}
use Rattle.set_faults.specs.Rules.{AreRuleFaults}
use Rattle.set_faults.specs.Calls.{AreCycles, AreDeepCalls}

-- all faults of this phase in a set that was read; the phases before it have none
abbrev pub AreReadFaults : SetTrees → Phase → List Fault → Type 0
AreReadFaults set phases.Syntax faults = ⊥
AreReadFaults set phases.Rules faults = AreRuleFaults set faults
AreReadFaults set phases.Cycles faults = AreRuleFaults set [] × AreCycles set faults
AreReadFaults set phases.Depth faults = AreRuleFaults set [] × AreCycles set [] × AreDeepCalls set faults

-- the same of any set: of the texts that can not be read or, where all can, of what they say
abbrev pub AreFaultsIn : SeqSet → Phase → List Fault → Type 0
AreFaultsIn set phases.Syntax faults = AreSyntaxFaults set faults
AreFaultsIn set phases.Rules faults = (trees : SetTrees) × ReadsSet set trees × AreReadFaults trees phases.Rules faults
AreFaultsIn set phases.Cycles faults = (trees : SetTrees) × ReadsSet set trees × AreReadFaults trees phases.Cycles faults
AreFaultsIn set phases.Depth faults = (trees : SetTrees) × ReadsSet set trees × AreReadFaults trees phases.Depth faults

-- all faults of the first phase that has any, and of the last where no other has any
pub record AreSetFaults (set : SeqSet) (f : SetFaults) : Type 0 where
  pub are : AreFaultsIn set f.phase f.faults
  pub some : (f.faults ≢ []) ⊎ (f.phase ≡ phases.Depth)

-- ---- what private contracts cite

-- the same of a set that was read
pub record AreReadSetFaults (set : SetTrees) (f : SetFaults) : Type 0 where
  pub are : AreReadFaults set f.phase f.faults
  pub some : (f.faults ≢ []) ⊎ (f.phase ≡ phases.Depth)
