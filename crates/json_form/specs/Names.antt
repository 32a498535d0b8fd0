-- The names of an object's members, and those of them that are not known.
use Rattle.std.specs.Prelude.{ℕ, Bool, List, [], ◌∷◌, Option, Some, None, if◌then◌else◌}
use Rattle.std.specs.List.{list_any}
use Rattle.std.specs.Str.{bytes_eq}
use Rattle.std.specs.Ordering.{nat_cmp, is_lt}
use Rattle.std.specs.Cmp.Lexicographic.{slice_cmp}
use Rattle.serde_json.specs.Data.{Members, no_members, member}

-- the names of the members
abbrev pub names : Members → List (List ℕ)
names no_members = []
names (member name d rest) = name ∷ names rest

-- whether the name is one of these
abbrev pub is_among : List (List ℕ) → List ℕ → Bool
is_among known name = list_any (bytes_eq name) known

-- the lesser of two names in byte order
abbrev pub lesser : List ℕ → Option (List ℕ) → Option (List ℕ)
lesser name None = Some name
lesser name (Some other) = Some (if is_lt (slice_cmp nat_cmp name other) then name else other)

-- the least of the names, in byte order, that is not known
abbrev pub least_unknown : List (List ℕ) → List (List ℕ) → Option (List ℕ)
least_unknown known [] = None
least_unknown known (name ∷ rest) = if is_among known name then least_unknown known rest else lesser name (least_unknown known rest)
