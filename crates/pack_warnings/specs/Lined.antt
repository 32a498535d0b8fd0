-- Warnings that are lent, each with its line, as definitions see them: what private contracts cite.
use Rattle.std.specs.Prelude.{◌≡◌, List, map, slice_get, Some, option_map}
use Rattle.std.specs.List.{IsDistinct}
use Rattle.std.specs.Str.{bytes_eq}
use Rattle.device_tree.specs.declared.pack.Pack.{Pack}
use Rattle.sequence_resolve.specs.Resolving.{IsSetAlong}
use Rattle.set_warnings.specs.Answers.{AreSetWarnings}
use Rattle.pack_faults.specs.declared.sets.SetRef.{SetRef}
use Rattle.pack_faults.specs.Views.{set_view}
use Rattle.pack_warnings.specs.declared.answer.FoundWarning.{FoundWarning}
use Rattle.pack_warnings.specs.declared.lined.WarnedSet.{WarnedSet}
use Rattle.pack_warnings.specs.declared.lined.LinedWarning.{LinedWarning}
use Rattle.pack_warnings.specs.declared.lined.LinedWarnings.{LinedWarnings}
use Rattle.pack_warnings.specs.Answers.{warning_found_in, AreFound}

-- the warnings are all warnings of the set, whose names are distinct
pub record IsWarned (w : WarnedSet) : Type 0 where
  pub warnings : AreSetWarnings w.set.now w.warnings
  pub distinct : IsDistinct bytes_eq (map (λ e. e.name) w.set.now.entries)

-- the warnings of the set, each with its line
abbrev pub found_of : WarnedSet → List FoundWarning
found_of w = map (warning_found_in w.set.now) w.warnings

-- a warning and its line
abbrev pub lined_warning_view : LinedWarning → FoundWarning
lined_warning_view l = record { warning = l.warning.now; line = option_map (λ w. w.now) l.line }

-- warnings and their lines
abbrev pub lined_set_view : LinedWarnings → List FoundWarning
lined_set_view l = map lined_warning_view l.warnings

-- a set stands at its number, with its warnings
pub record IsWarnedAt (pack : Pack) (warned : List WarnedSet) (s : SetRef) : Type 0 where
  pub one : WarnedSet
  pub there : slice_get warned s.number ≡ Some one
  pub is : IsSetAlong pack (set_view s).place (set_view s).variant (set_view s).pname one.set.now

-- the warnings of a set stand at its number
pub record IsFoundAt (pack : Pack) (found : List LinedWarnings) (s : SetRef) : Type 0 where
  pub one : LinedWarnings
  pub there : slice_get found s.number ≡ Some one
  pub is : AreFound pack (set_view s) (lined_set_view one)
