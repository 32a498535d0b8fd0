-- Sets, put one after another: what private contracts cite.
use Rattle.std.specs.Prelude.{◌≡◌, ℕ, ◌-◌, ◌==◌, Bool, false, List, [], ◌∷◌, ◌++◌, map, length, slice_get, if◌then◌else◌}
use Rattle.std.specs.Option.{option_map_or}
use Rattle.device_tree.specs.declared.pack.Pack.{Pack}
use Rattle.pack_faults.specs.declared.answer.Found.{Found}
use Rattle.pack_faults.specs.declared.answer.PackFault.{PackFault}
use Rattle.pack_faults.specs.declared.checking.Checking.{Checking}
use Rattle.pack_faults.specs.Sets.{SetAt}
use Rattle.pack_faults.specs.Merged.{same_found, merged_faults}
use Rattle.pack_faults.specs.Answers.{Checked, AreChecked}

-- whether this number is the last
abbrev pub is_last_number : ℕ → List ℕ → Bool
is_last_number number numbers = option_map_or (λ last. last == number) (slice_get numbers (length numbers - 1)) false

-- the numbers, and this one after them unless it is the last
abbrev pub numbers_with : ℕ → List ℕ → List ℕ
numbers_with number numbers = if is_last_number number numbers then numbers else numbers ++ number ∷ []

-- what was found, and this one of the set with this number
abbrev pub with_found : ℕ → Found → List PackFault → List PackFault
with_found number f [] = record { found = f; sets = number ∷ [] } ∷ []
with_found number f (p ∷ ps) = if same_found f p.found then record { found = p.found; sets = numbers_with number p.sets } ∷ ps else p ∷ with_found number f ps

-- what was found, and each of these faults of the set with this number
abbrev pub with_each : ℕ → List Found → List PackFault → List PackFault
with_each number [] faults = faults
with_each number (f ∷ fs) faults = with_each number fs (with_found number f faults)

-- these sets were checked
pub record AreDone (pack : Pack) (sets : List SetAt) (c : Checking) : Type 0 where
  pub checked : List Checked
  pub are : AreChecked pack sets checked
  pub phases : c.phases ≡ map (λ x. x.phase) checked
  pub faults : c.faults.list.items ≡ merged_faults (map (λ x. x.found) checked)
