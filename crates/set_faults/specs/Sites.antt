-- Faults of a set by the steps in which they are: what private contracts cite.
use Rattle.std.specs.Prelude.{◌≡◌, ℕ, Bool, List, ◌++◌, map, Option, None, Some}
use Rattle.std.specs.Borrow.{Bor}
use Rattle.dap_base.specs.declared.text.Place.{Place}
use Rattle.sequence_trees.specs.declared.spot.Part.{Part}
use Rattle.sequence_trees.specs.declared.spot.Spot.{Spot}
use Rattle.sequence_trees.specs.Order.{SetStep, spot_at}
use Rattle.code_check.specs.declared.fault.CodeFault.{CodeFault}
use Rattle.seq_check.specs.StepFaults.{StepFault}
use Rattle.set_faults.specs.declared.site.Fault.{Fault}
use Rattle.set_faults.specs.declared.site.Site.{Site}
use Rattle.set_faults.specs.Listed.{IsListOf}

-- a name that is held by reference
abbrev pub name_now : Option (Bor (List ℕ)) → Option (List ℕ)
name_now None = None
name_now (Some name) = Some name.now

-- the step of a site
abbrev pub site_step : Site → SetStep
site_step s = record { sequence = name_now s.sequence; path = s.path.now }

-- the fault, in a part of the step
abbrev pub code_fault_at : SetStep → Part → CodeFault → Fault
code_fault_at step part f = record { kind = f.kind; spot = spot_at step part f.place }

-- the fault, seen from the step
abbrev pub step_fault_at : SetStep → StepFault → Fault
step_fault_at step f = record { kind = f.fault.kind; spot = record { sequence = step.sequence; path = step.path ++ f.path; part = f.part; place = f.fault.place } }

-- all that are so, each shown as a fault of the set, are added at the end
pub record Appends {F : Type 0} (before : F → F → Bool) (shown : F → Fault) (Holds : F → Type 0) (old new : List Fault) : Type 0 where
  pub list : List F
  pub is_list : IsListOf before Holds list
  pub is_new : new ≡ old ++ map shown list
