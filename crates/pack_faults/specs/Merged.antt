-- What is found in sets, each once, with the sets that have it.
use Rattle.std.specs.Prelude.{ℕ, ◌+◌, ◌==◌, ◌&&◌, Bool, List, [], ◌∷◌, ◌++◌, map, if◌then◌else◌}
use Rattle.std.specs.List.{list_any}
use Rattle.std.specs.Str.{bytes_eq}
use Rattle.device_tree.specs.Same.{same_text}
use Rattle.sequence_trees.specs.declared.spot.Spot.{Spot}
use Rattle.code_check.specs.Order.{rank}
use Rattle.pack_faults.specs.declared.answer.Found.{Found}
use Rattle.pack_faults.specs.declared.answer.PackFault.{PackFault}
use Rattle.sequence_trees.specs.Parts.{part_rank}

-- one place in one part of one step
abbrev pub same_spot : Spot → Spot → Bool
same_spot s t = same_text s.sequence t.sequence && (bytes_eq s.path t.path && (part_rank s.part == part_rank t.part
    && (s.place.line == t.place.line && s.place.column == t.place.column)))

-- one kind at one spot, in lines with the same text
abbrev pub same_found : Found → Found → Bool
same_found f g = rank f.fault.kind == rank g.fault.kind && (same_spot f.fault.spot g.fault.spot && same_text f.line g.line)

-- all that is found, set by set
abbrev pub all_found : List (List Found) → List Found
all_found [] = []
all_found (found ∷ more) = found ++ all_found more

-- what was found, and this after it unless it was
abbrev pub found_added : List Found → Found → List Found
found_added seen f = if list_any (same_found f) seen then seen else seen ++ f ∷ []

-- what was found, and then each of these, once, in the order of first appearance
abbrev pub each_once : List Found → List Found → List Found
each_once seen [] = seen
each_once seen (f ∷ fs) = each_once (found_added seen f) fs

-- the numbers of the sets that have it, of which the first has the number n
abbrev pub sets_having : Found → ℕ → List (List Found) → List ℕ
sets_having f n [] = []
sets_having f n (found ∷ more) = if list_any (same_found f) found then n ∷ sets_having f (n + 1) more else sets_having f (n + 1) more

-- it, with the sets that have it
abbrev pub with_sets : List (List Found) → Found → PackFault
with_sets lists f = record { found = f; sets = sets_having f 0 lists }

-- all that is found in sets, each once, in the order of first appearance, with the sets that have it
abbrev pub merged_faults : List (List Found) → List PackFault
merged_faults lists = map (with_sets lists) (each_once [] (all_found lists))
