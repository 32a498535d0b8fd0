-- All faults of a pack.
use Rattle.std.specs.Prelude.{◌≡◌, Bool, true, false, List, [], ◌∷◌, map, count_by}
use Rattle.std.specs.List.{AllByRecursion}
use Rattle.device_tree.specs.declared.pack.Pack.{Pack}
use Rattle.sequence_resolve.specs.declared.entry.SeqSet.{SeqSet}
use Rattle.sequence_resolve.specs.Resolving.{IsSetAlong}
use Rattle.seq_check.specs.Valid.{IsValid}
use Rattle.set_faults.specs.declared.site.Fault.{Fault}
use Rattle.set_faults.specs.declared.phase.Phase.{Phase}
use Rattle.set_faults.specs.declared.phase.Phase.TheVariants as phases
use Rattle.set_faults.specs.declared.phase.SetFaults.{SetFaults}
use Rattle.set_faults.specs.Answers.{AreSetFaults}
use Rattle.set_lines.specs.Lines.{line_of}
use Rattle.pack_faults.specs.declared.request.PackRequest.{PackRequest}
use Rattle.pack_faults.specs.declared.answer.Found.{Found}
use Rattle.pack_faults.specs.declared.answer.PackFaults.{PackFaults}
use Rattle.pack_faults.specs.Sets.{SetAt, sets_of, devices_of, has_set, set_name}
use Rattle.pack_faults.specs.Merged.{merged_faults}

-- a fault of a set, with its line
abbrev pub found_in : SeqSet → Fault → Found
found_in set f = record { fault = f; line = line_of set f.spot }

-- what the check of a set says: the phase that was reached, and what was found
pub record Checked : Type 0 where
  pub phase : Phase
  pub found : List Found

-- the set of this device, variant and processor has all these faults, in this order, and no others
pub record IsCheckOfSet (pack : Pack) (s : SetAt) (c : Checked) : Type 0 where
  pub set : SeqSet
  pub is_set : IsSetAlong pack s.place s.variant s.pname set
  pub faults : SetFaults
  pub are : AreSetFaults set faults
  pub is : c ≡ record { phase = faults.phase; found = map (found_in set) faults.faults }

-- each of the sets, in order
abbrev pub AreChecked : Pack → List SetAt → List Checked → Type 0
AreChecked pack [] checked = checked ≡ []
AreChecked pack (s ∷ ss) checked = (c : Checked) × (more : List Checked) × IsCheckOfSet pack s c × (checked ≡ c ∷ more) × AreChecked pack ss more

-- a text could not be read, so that names, arguments and calls were not checked
abbrev pub is_unread : Phase → Bool
is_unread phases.Syntax = true
is_unread other = false

-- a phase of the check was not reached
abbrev pub is_unfinished : Phase → Bool
is_unfinished phases.Depth = false
is_unfinished other = true

-- the faults of the sets that are requested, each once, with exactly the sets that have it
pub record ArePackFaults (pack : Pack) (r : PackRequest) (answer : PackFaults) : Type 0 where
  pub checked : List Checked
  pub are : AreChecked pack (sets_of pack r) checked
  pub devices : answer.devices ≡ count_by (has_set pack r) (devices_of pack r)
  pub sets : answer.sets ≡ map set_name (sets_of pack r)
  pub faults : answer.faults ≡ merged_faults (map (λ c. c.found) checked)
  pub unread : answer.unread ≡ count_by (λ c. is_unread c.phase) checked
  pub unreached : answer.unreached ≡ count_by (λ c. is_unfinished c.phase) checked

-- the set of this device, variant and processor is valid
abbrev pub IsValidAt : Pack → SetAt → Type 0
IsValidAt pack s = (set : SeqSet) → IsSetAlong pack s.place s.variant s.pname set → IsValid set

-- each of the sets is valid
abbrev pub AreValid : Pack → List SetAt → Type 0
AreValid pack sets = AllByRecursion (IsValidAt pack) sets
