-- The effective set of a device, and when there is none.
use Rattle.std.specs.Prelude.{◌≡◌, ℕ, ◌<◌, List, [], ◌∷◌, length, map, Option, Some, None, Result, Ok, Err, ⊤}
use Rattle.device_tree.specs.declared.pack.Variant.{Variant}
use Rattle.device_tree.specs.declared.pack.Pack.{Pack}
use Rattle.sequence_resolve.specs.declared.entry.SeqSet.{SeqSet}
use Rattle.sequence_resolve.specs.declared.fault.ResolveFault.{ResolveFault}
use Rattle.sequence_resolve.specs.declared.fault.ResolveFault.TheVariants as faults
use Rattle.sequence_resolve.specs.declared.place.DevicePlace as code
use Rattle.sequence_resolve.specs.Places.{DevicePlace, devices_named, requested_variant}
use Rattle.sequence_resolve.specs.Levels.{path_of, deepest}
use Rattle.sequence_resolve.specs.Effective.{Candidate, candidates, AreWinners, entry_of}
use Rattle.sequence_resolve.specs.Views.{place_view}

-- the set of a device, along the path to it or to this variant of it
pub record IsSetAlong (pack : Pack) (place : DevicePlace) (variant : Option Variant) (pname : Option (List ℕ)) (set : SeqSet) : Type 0 where
  pub winners : List Candidate
  pub greatest : AreWinners (candidates pname 0 (path_of pack place variant)) winners
  pub entries : set.entries ≡ map entry_of winners
  pub debugvars : set.debugvars ≡ deepest [] (path_of pack place variant)

-- the set of the one device of the name, along the path to it or to the variant that is requested
pub record IsEffectiveSet (pack : Pack) (device : List ℕ) (variant_name pname : Option (List ℕ)) (set : SeqSet) : Type 0 where
  pub place : DevicePlace
  pub only : devices_named device pack ≡ place ∷ []
  pub variant : Option Variant
  pub requested : requested_variant variant_name place.device ≡ Some variant
  pub winners : List Candidate
  pub greatest : AreWinners (candidates pname 0 (path_of pack place variant)) winners
  pub entries : set.entries ≡ map entry_of winners
  pub debugvars : set.debugvars ≡ deepest [] (path_of pack place variant)

-- `NoDevice` where no device has the name, `AmbiguousDevice` where two or more have it, `NoVariant` where the
-- one device has no variant of the requested name
abbrev pub HasNone : Pack → List ℕ → Option (List ℕ) → ResolveFault → Type 0
HasNone pack device variant_name faults.NoDevice = devices_named device pack ≡ []
HasNone pack device variant_name faults.AmbiguousDevice = 1 < length (devices_named device pack)
HasNone pack device variant_name faults.NoVariant =
    (place : DevicePlace) × (devices_named device pack ≡ place ∷ []) × (requested_variant variant_name place.device ≡ None)
HasNone pack device variant_name faults.OutOfMemory = ⊤

-- the only one of the places, or why there is none
abbrev pub FindsOnly : List DevicePlace → Result code.DevicePlace ResolveFault → Type 0
FindsOnly places (Ok place) = places ≡ place_view place ∷ []
FindsOnly places (Err faults.NoDevice) = places ≡ []
FindsOnly places (Err faults.AmbiguousDevice) = 1 < length places
FindsOnly places (Err faults.NoVariant) = ⊥
FindsOnly places (Err faults.OutOfMemory) = ⊤
