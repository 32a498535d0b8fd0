-- What `check` answers.
use Rattle.std.specs.Prelude.{◌≡◌, Result, Ok, Err, ⊤}
use Rattle.sequence_resolve.specs.declared.entry.SeqSet.{SeqSet}
use Rattle.sequence_trees.specs.declared.spot.Spot.{Spot}
use Rattle.sequence_trees.specs.Trees.{SetTrees}
use Rattle.sequence_trees.specs.Reading.{ReadsSet}
use Rattle.sequence_trees.specs.SetView.{set_trees}
use Rattle.code_check.specs.declared.fault.FaultKind.{FaultKind}
use Rattle.seq_check.specs.declared.checked.Checked.{Checked}
use Rattle.seq_check.specs.declared.checked.CheckFault.{CheckFault}
use Rattle.seq_check.specs.declared.checked.CheckFault.TheVariants as faults
use Rattle.seq_check.specs.Valid.{IsSound, IsFirstFaultOf}

-- the trees of a checked set
abbrev pub checked_trees : Checked → SetTrees
checked_trees c = set_trees c.set

-- the trees of a valid set, or the first fault
abbrev pub AnswersCheck : SeqSet → Result Checked CheckFault → Type 0
AnswersCheck set (Ok checked) = ReadsSet set (checked_trees checked) × IsSound (checked_trees checked)
AnswersCheck set (Err (faults.Fault kind spot)) = IsFirstFaultOf set kind spot
AnswersCheck set (Err faults.OutOfMemory) = ⊤

-- these trees, unless memory ran out
abbrev pub GivesTrees : SetTrees → Result Checked CheckFault → Type 0
GivesTrees trees (Ok checked) = checked_trees checked ≡ trees
GivesTrees trees (Err (faults.Fault kind spot)) = ⊥
GivesTrees trees (Err faults.OutOfMemory) = ⊤

-- this fault, unless memory ran out
abbrev pub ReportsFault : FaultKind → Spot → Result Checked CheckFault → Type 0
ReportsFault kind spot (Ok checked) = ⊥
ReportsFault kind spot (Err (faults.Fault reported_kind reported)) = (reported_kind ≡ kind) × (reported ≡ spot)
ReportsFault kind spot (Err faults.OutOfMemory) = ⊤
