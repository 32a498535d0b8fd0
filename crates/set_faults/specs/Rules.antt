-- All faults of names, arguments and steps of a set.
use Rattle.std.specs.Prelude.{◌≡◌, List, map}
use Rattle.sequence_trees.specs.Trees.{SetTrees}
use Rattle.seq_check.specs.SetFaults.{SetFault, is_set_before, FaultInSet}
use Rattle.seq_check.specs.Valid.{spot_of}
use Rattle.set_faults.specs.declared.site.Fault.{Fault}
use Rattle.set_faults.specs.Listed.{IsListOf}

-- the kind of a fault, and where it is
abbrev pub fault_of : SetTrees → SetFault → Fault
fault_of set f = record { kind = f.fault.fault.kind; spot = spot_of set f }

-- all faults in the texts and the controls of the set, in the order of the check
pub record AreRuleFaults (set : SetTrees) (faults : List Fault) : Type 0 where
  pub list : List SetFault
  pub is_list : IsListOf is_set_before (FaultInSet set) list
  pub are : faults ≡ map (fault_of set) list
