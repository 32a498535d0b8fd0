-- All warnings of a set.
use Rattle.std.specs.Prelude.{◌≡◌, List, []}
use Rattle.sequence_resolve.specs.declared.entry.SeqSet.{SeqSet}
use Rattle.sequence_trees.specs.declared.spot.Spot.{Spot}
use Rattle.sequence_trees.specs.Trees.{SetTrees}
use Rattle.sequence_trees.specs.Reading.{ReadsSet}
use Rattle.code_check.specs.declared.fault.FaultKind.{FaultKind}
use Rattle.seq_check.specs.Valid.{IsSound, IsFirstFaultOf}
use Rattle.set_warnings.specs.declared.warning.Warning.{Warning}
use Rattle.set_warnings.specs.Sequences.{entries_warnings}

-- those of its sequences, in order, where the set is valid; none where it has a fault
pub data AreSetWarnings (set : SeqSet) (warnings : List Warning) : Type 0 where
  valid : (trees : SetTrees) → ReadsSet set trees → IsSound trees → warnings ≡ entries_warnings trees 0 set.entries → AreSetWarnings set warnings
  faulty : (kind : FaultKind) (spot : Spot) → IsFirstFaultOf set kind spot → warnings ≡ [] → AreSetWarnings set warnings

-- ---- what private contracts cite

-- the set has a fault
abbrev pub HasSetFault : SeqSet → Type 0
HasSetFault set = (kind : FaultKind) × (spot : Spot) × IsFirstFaultOf set kind spot
