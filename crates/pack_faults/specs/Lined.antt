-- Faults that are lent, each with its line, as definitions see them: what private contracts cite.
use Rattle.std.specs.Prelude.{◌≡◌, List, map, slice_get, Some, option_map}
use Rattle.device_tree.specs.declared.pack.Pack.{Pack}
use Rattle.pack_faults.specs.declared.answer.Found.{Found}
use Rattle.pack_faults.specs.declared.known.KnownSet.{KnownSet}
use Rattle.pack_faults.specs.declared.lined.LinedFault.{LinedFault}
use Rattle.pack_faults.specs.declared.lined.LinedSet.{LinedSet}
use Rattle.pack_faults.specs.declared.sets.SetRef.{SetRef}
use Rattle.pack_faults.specs.Answers.{found_in, Checked, IsCheckOfSet}
use Rattle.pack_faults.specs.Views.{set_view}

-- a fault and its line
abbrev pub lined_view : LinedFault → Found
lined_view l = record { fault = l.fault.now; line = option_map (λ w. w.now) l.line }

-- what the check of a set says
abbrev pub checked_view : LinedSet → Checked
checked_view l = record { phase = l.phase; found = map lined_view l.faults }

-- what the check of a known set says
abbrev pub checked_of : KnownSet → Checked
checked_of k = record { phase = k.found.phase; found = map (found_in k.set) k.found.faults }

-- what was found in a set stands at its number
pub record IsCheckedAt (pack : Pack) (found : List LinedSet) (s : SetRef) : Type 0 where
  pub one : LinedSet
  pub there : slice_get found s.number ≡ Some one
  pub is : IsCheckOfSet pack (set_view s) (checked_view one)
