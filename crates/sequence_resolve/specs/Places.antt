-- The devices of a pack, each with the levels around it.
use Rattle.std.specs.Prelude.{ℕ, Bool, List, [], ◌∷◌, ◌++◌, filter, find, Option, Some, None, option_map}
use Rattle.std.specs.Str.{bytes_eq}
use Rattle.device_tree.specs.declared.pack.Variant.{Variant}
use Rattle.device_tree.specs.declared.pack.Device.{Device}
use Rattle.device_tree.specs.declared.pack.SubFamily.{SubFamily}
use Rattle.device_tree.specs.declared.pack.Family.{Family}
use Rattle.device_tree.specs.declared.pack.Pack.{Pack}

-- a device, and the family and subfamily around it
pub record DevicePlace : Type 0 where
  pub family : Family
  pub sub_family : Option SubFamily
  pub device : Device

-- these devices, each with the same levels around it
abbrev pub places_of : Family → Option SubFamily → List Device → List DevicePlace
places_of family sub [] = []
places_of family sub (d ∷ ds) = record { family = family; sub_family = sub; device = d } ∷ places_of family sub ds

-- the devices of these subfamilies
abbrev pub places_in_subs : Family → List SubFamily → List DevicePlace
places_in_subs family [] = []
places_in_subs family (s ∷ ss) = places_of family (Some s) s.devices ++ places_in_subs family ss

-- the devices of each family, those of its subfamilies first
abbrev pub places_in : List Family → List DevicePlace
places_in [] = []
places_in (f ∷ fs) = (places_in_subs f f.sub_families ++ places_of f None f.devices) ++ places_in fs

-- whether the device has the name
abbrev pub is_named : List ℕ → DevicePlace → Bool
is_named name place = bytes_eq name place.device.name

-- the devices of the pack that have the name
abbrev pub devices_named : List ℕ → Pack → List DevicePlace
devices_named name pack = filter (is_named name) (places_in pack.families)

-- the variant that is requested, which may be none; `None` where the device has no variant of the name
abbrev pub requested_variant : Option (List ℕ) → Device → Option (Option Variant)
requested_variant None device = Some None
requested_variant (Some name) device = option_map (λ v. Some v) (find (λ v. bytes_eq name v.name) device.variants)
