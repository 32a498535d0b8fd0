-- The levels from the top of a pack down to a device or to one of its variants.
use Rattle.std.specs.Prelude.{ℕ, List, [], ◌∷◌, ◌++◌, Option, unwrap_or}
use Rattle.std.specs.Option.{option_map_or}
use Rattle.device_tree.specs.declared.pack.Level.{Level}
use Rattle.device_tree.specs.declared.pack.Variant.{Variant}
use Rattle.device_tree.specs.declared.pack.Pack.{Pack}
use Rattle.sequence_resolve.specs.declared.entry.LevelKind.{LevelKind}
use Rattle.sequence_resolve.specs.declared.entry.LevelKind.TheVariants as kinds
use Rattle.sequence_resolve.specs.Places.{DevicePlace}

-- a level, and which kind it is
pub record LevelAt : Type 0 where
  pub kind : LevelKind
  pub level : Level

-- a list of one level
abbrev pub one : LevelKind → Level → List LevelAt
one kind level = record { kind = kind; level = level } ∷ []

-- the levels of what is there
abbrev pub levels_if_some : {A : Type 0} → (A → List LevelAt) → Option A → List LevelAt
levels_if_some levels o = option_map_or levels o []

-- the path: defaults, family, subfamily, device, variant
abbrev pub path_of : Pack → DevicePlace → Option Variant → List LevelAt
path_of pack place variant =
    (((levels_if_some (one kinds.Defaults) pack.defaults ++ one kinds.Family place.family.level) ++ levels_if_some (λ s. one kinds.SubFamily s.level) place.sub_family)
    ++ one kinds.Device place.device.level) ++ levels_if_some (λ v. one kinds.Variant v.level) variant

-- the `debugvars` of the deepest level that has some, and else `found`
abbrev pub deepest : List ℕ → List LevelAt → List ℕ
deepest found [] = found
deepest found (l ∷ ls) = deepest (unwrap_or l.level.debugvars found) ls
