-- The sets of a pack that are requested: of each device, without a variant and with each, and of each processor.
use Rattle.std.specs.Prelude.{ℕ, Bool, true, false, ◌&&◌, not, List, [], ◌∷◌, ◌++◌, map, filter, Option, Some, None, is_some, if◌then◌else◌}
use Rattle.std.specs.List.{list_any}
use Rattle.std.specs.Option.{option_map_or}
use Rattle.std.specs.Str.{bytes_eq}
use Rattle.device_tree.specs.declared.pack.SeqText.{SeqText}
use Rattle.device_tree.specs.declared.pack.Variant.{Variant}
use Rattle.device_tree.specs.declared.pack.Pack.{Pack}
use Rattle.sequence_resolve.specs.Places.{DevicePlace, places_in}
use Rattle.sequence_resolve.specs.Levels.{LevelAt, path_of}
use Rattle.pack_faults.specs.declared.request.PackRequest.{PackRequest}
use Rattle.pack_faults.specs.declared.request.SetName.{SetName}
use Rattle.pack_faults.specs.declared.request.PackRefusal.{PackRefusal}
use Rattle.pack_faults.specs.declared.request.PackRefusal.TheVariants as refusals

-- a device, one of its variants or none, and one of its processors or none
pub record SetAt : Type 0 where
  pub place : DevicePlace
  pub variant : Option Variant
  pub pname : Option (List ℕ)

-- ---- devices and variants

-- the name is the requested one, or none is requested
abbrev pub is_requested : Option (List ℕ) → List ℕ → Bool
is_requested None name = true
is_requested (Some requested) name = bytes_eq requested name

-- whether this device is requested
abbrev pub is_device : Option (List ℕ) → DevicePlace → Bool
is_device requested place = is_requested requested place.device.name

-- the devices that are requested, in the order of the pack
abbrev pub devices_of : Pack → PackRequest → List DevicePlace
devices_of pack r = filter (is_device r.device) (places_in pack.families)

-- a device without a variant, and then each of its variants; where one is requested, that one alone
abbrev pub variants_of : Option (List ℕ) → List Variant → List (Option Variant)
variants_of None variants = None ∷ map (λ v. Some v) variants
variants_of (Some name) variants = map (λ v. Some v) (filter (λ v. bytes_eq name v.name) variants)

-- ---- processors

-- the names, and this one after them unless it is among them
abbrev pub pname_added : List (List ℕ) → Option (List ℕ) → List (List ℕ)
pname_added names None = names
pname_added names (Some name) = if list_any (bytes_eq name) names then names else names ++ name ∷ []

-- the names, and then each `Pname` of these sequences
abbrev pub pnames_after : List (List ℕ) → List SeqText → List (List ℕ)
pnames_after names [] = names
pnames_after names (s ∷ ss) = pnames_after (pname_added names s.pname) ss

-- the names, and then each `Pname` of the sequences of these levels
abbrev pub pnames_along : List (List ℕ) → List LevelAt → List (List ℕ)
pnames_along names [] = names
pnames_along names (l ∷ ls) = pnames_along (pnames_after names l.level.sequences) ls

-- a set for each processor, or one where no sequence has a `Pname`; where a processor is requested, that one alone
abbrev pub processors_of : Option (List ℕ) → List (List ℕ) → List (Option (List ℕ))
processors_of None [] = None ∷ []
processors_of None (p ∷ ps) = map (λ name. Some name) (p ∷ ps)
processors_of (Some requested) names = map (λ name. Some name) (filter (bytes_eq requested) names)

-- ---- sets

-- the set of this processor
abbrev pub set_at : DevicePlace → Option Variant → Option (List ℕ) → SetAt
set_at place variant pname = record { place = place; variant = variant; pname = pname }

-- the sets of a device with this variant or none
abbrev pub sets_at : Pack → PackRequest → DevicePlace → Option Variant → List SetAt
sets_at pack r place variant = map (set_at place variant) (processors_of r.pname (pnames_along [] (path_of pack place variant)))

-- the sets of a device with these
abbrev pub sets_with : Pack → PackRequest → DevicePlace → List (Option Variant) → List SetAt
sets_with pack r place [] = []
sets_with pack r place (v ∷ vs) = sets_at pack r place v ++ sets_with pack r place vs

-- the sets of a device
abbrev pub device_sets : Pack → PackRequest → DevicePlace → List SetAt
device_sets pack r place = sets_with pack r place (variants_of r.variant place.device.variants)

-- the sets of these devices
abbrev pub devices_sets : Pack → PackRequest → List DevicePlace → List SetAt
devices_sets pack r [] = []
devices_sets pack r (p ∷ ps) = device_sets pack r p ++ devices_sets pack r ps

-- the sets that are requested
abbrev pub sets_of : Pack → PackRequest → List SetAt
sets_of pack r = devices_sets pack r (devices_of pack r)

-- whether a list has no items
abbrev pub is_empty : {A : Type 0} → List A → Bool
is_empty [] = true
is_empty (x ∷ xs) = false

-- whether a device has a set that is requested
abbrev pub has_set : Pack → PackRequest → DevicePlace → Bool
has_set pack r place = not (is_empty (device_sets pack r place))

-- the names of a set
abbrev pub set_name : SetAt → SetName
set_name s = record { device = s.place.device.name; variant = option_map_or (λ v. Some v.name) s.variant None; pname = s.pname }

-- ---- refusals

-- whether a device has a variant of the name
abbrev pub has_variant : List ℕ → DevicePlace → Bool
has_variant name place = list_any (λ v. bytes_eq name v.name) place.device.variants

-- a variant is requested that none of these devices has
abbrev pub lacks_variant : Option (List ℕ) → List DevicePlace → Bool
lacks_variant None places = false
lacks_variant (Some name) places = not (list_any (has_variant name) places)

-- Why there is no set. A device is requested that the pack has not, or else a variant that no such device has. Or else a processor is requested
-- that none of the sequences for these devices and variants is for.
abbrev pub refusal : Pack → PackRequest → Option PackRefusal
refusal pack r =
    if is_some r.device && is_empty (devices_of pack r) then Some refusals.NoDevice
    else if lacks_variant r.variant (devices_of pack r) then Some refusals.NoVariant
    else if is_some r.pname && is_empty (sets_of pack r) then Some refusals.NoPname
    else None
