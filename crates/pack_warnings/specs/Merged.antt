-- The warnings of sets, each once, with the sets that have it.
use Rattle.std.specs.Prelude.{ℕ, suc, ◌==◌, ◌&&◌, Bool, List, [], ◌∷◌, if◌then◌else◌}
use Rattle.device_tree.specs.Same.{same_text}
use Rattle.pack_faults.specs.Merged.{same_spot}
use Rattle.pack_faults.specs.Steps.{numbers_with}
use Rattle.set_warnings.specs.declared.warning.WarningKind.{WarningKind}
use Rattle.set_warnings.specs.declared.warning.WarningKind.TheVariants as k
use Rattle.pack_warnings.specs.declared.answer.FoundWarning.{FoundWarning}
use Rattle.pack_warnings.specs.declared.answer.PackWarning.{PackWarning}

-- a number for each kind
abbrev pub kind_number : WarningKind → ℕ
kind_number k.AssignedDebugVariable = 0
kind_number k.WaitByName = 1
kind_number k.UncalledSequence = 2
kind_number k.LongWait = 3

-- one kind at one spot about one name, in lines with the same text
abbrev pub same_warning : FoundWarning → FoundWarning → Bool
same_warning f g = kind_number f.warning.kind == kind_number g.warning.kind
    && (same_spot f.warning.spot g.warning.spot && (same_text f.warning.name g.warning.name && same_text f.line g.line))

-- The warnings of sets, and this one of the set with this number. One that is there gets the number, unless it is its last one; another goes
-- last.
abbrev pub with_warning : ℕ → FoundWarning → List PackWarning → List PackWarning
with_warning number f [] = record { found = f; sets = number ∷ [] } ∷ []
with_warning number f (p ∷ ps) = if same_warning f p.found then record { found = p.found; sets = numbers_with number p.sets } ∷ ps else p ∷ with_warning number f ps

-- what was found, and each of these warnings of the set with this number
abbrev pub with_each_warning : ℕ → List FoundWarning → List PackWarning → List PackWarning
with_each_warning number [] warnings = warnings
with_each_warning number (f ∷ fs) warnings = with_each_warning number fs (with_warning number f warnings)

-- and then those of sets, of which the first has this number
abbrev pub with_sets_from : ℕ → List (List FoundWarning) → List PackWarning → List PackWarning
with_sets_from number [] warnings = warnings
with_sets_from number (found ∷ more) warnings = with_sets_from (suc number) more (with_each_warning number found warnings)

-- the warnings of sets, each once, in the order of first appearance, with the sets that have it
abbrev pub merged_warnings : List (List FoundWarning) → List PackWarning
merged_warnings lists = with_sets_from 0 lists []
