-- What is held by reference, without where it lies in memory: what private contracts cite.
use Rattle.std.specs.Prelude.{ℕ, List, Option, map, option_map}
use Rattle.std.specs.Borrow.{Bor}
use Rattle.sequence_resolve.specs.Views.{place_view}
use Rattle.pack_faults.specs.declared.sets.SetRef.{SetRef}
use Rattle.pack_faults.specs.Sets.{SetAt}

-- a set
abbrev pub set_view : SetRef → SetAt
set_view s = record { place = place_view s.place; variant = option_map (λ v. v.now) s.variant; pname = option_map (λ name. name.now) s.pname }

-- names
abbrev pub names_view : List (Bor (List ℕ)) → List (List ℕ)
names_view names = map (λ name. name.now) names

-- names or none
abbrev pub options_view : List (Option (Bor (List ℕ))) → List (Option (List ℕ))
options_view pnames = map (λ pname. option_map (λ name. name.now) pname) pnames
