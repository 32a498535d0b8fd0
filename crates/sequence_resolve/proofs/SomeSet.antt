-- A pack has a set for each device, variant and processor, or a cause why there is none.
use Rattle.std.proofs.Common.{◌≡◌, ◌≢◌, ◌⊎◌, inl, inr, ℕ, ◌<◌, List, [], ◌∷◌, map, length, Option, Some, None, refl, ap, arith}
use Rattle.device_tree.specs.declared.pack.Variant.{Variant}
use Rattle.device_tree.specs.declared.pack.Pack.{Pack}
use Rattle.sequence_resolve.specs.declared.entry.SeqSet.{SeqSet}
use Rattle.sequence_resolve.specs.declared.fault.ResolveFault.{ResolveFault}
use Rattle.sequence_resolve.specs.declared.fault.ResolveFault.TheVariants as faults
use Rattle.sequence_resolve.specs.Places.{DevicePlace, devices_named, requested_variant}
use Rattle.sequence_resolve.specs.Levels.{path_of, deepest}
use Rattle.sequence_resolve.specs.Effective.{candidates, entry_of}
use Rattle.sequence_resolve.specs.Winners.{with_all}
use Rattle.sequence_resolve.specs.Resolving.{IsEffectiveSet, HasNone}
use Rattle.sequence_resolve.proofs.Greatest.{effective-with_all}

module _ (pack : Pack) (device : List ℕ) (variant_name pname : Option (List ℕ)) where
  abbrev pub SetOrNone : Type 0
  SetOrNone = ((set : SeqSet) × IsEffectiveSet pack device variant_name pname set) ⊎ ((fault : ResolveFault) × HasNone pack device variant_name fault × (fault ≢ faults.OutOfMemory))

  -- the set along the path to the device, or to its variant
  set_of : (place : DevicePlace) → devices_named device pack ≡ place ∷ [] → (variant : Option Variant) → requested_variant variant_name place.device ≡ Some variant → SetOrNone
  set_of place only variant requested =
      let path = path_of pack place variant in
      let winners = with_all [] (candidates pname 0 path) in
      inl (
        record { entries = map entry_of winners; debugvars = deepest [] path },
        record {
          place = place;
          only = only;
          variant = variant;
          requested = requested;
          winners = winners;
          greatest = effective-with_all (candidates pname 0 path);
          entries = refl;
          debugvars = refl;
        },
      )

  by_variant : (place : DevicePlace) → devices_named device pack ≡ place ∷ [] → (o : Option (Option Variant)) → requested_variant variant_name place.device ≡ o → SetOrNone
  by_variant place only None none = inr (faults.NoVariant, (place, only, none), λ e. absurd cc)
  by_variant place only (Some variant) is = set_of place only variant is

  by_places : (places : List DevicePlace) → devices_named device pack ≡ places → SetOrNone
  by_places [] none = inr (faults.NoDevice, none, λ e. absurd cc)
  by_places (place ∷ []) only = by_variant place only (requested_variant variant_name place.device) refl
  by_places (place ∷ other ∷ more) several =
      let many : 1 < length (devices_named device pack) = omega (arith, ap length several) in
      inr (faults.AmbiguousDevice, many, λ e. absurd cc)

  pub set_or_none : SetOrNone
  set_or_none = by_places (devices_named device pack) refl
