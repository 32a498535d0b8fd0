-- Sets that several devices and variants share: what private contracts cite.
use Rattle.std.specs.Prelude.{⊤}
use Rattle.std.specs.Prelude.{◌≡◌, ◌≤◌, ◌+◌, ℕ, Bool, ◌&&◌, is_none, List, [], ◌∷◌, ◌++◌, length, map, count_by, slice_get, Option, None, Some, option_map, if◌then◌else◌}
use Rattle.std.specs.List.{All}
use Rattle.std.specs.Borrow.{Bor}
use Rattle.device_tree.specs.declared.pack.Level.{Level}
use Rattle.device_tree.specs.declared.pack.Variant.{Variant}
use Rattle.device_tree.specs.declared.pack.SubFamily.{SubFamily}
use Rattle.device_tree.specs.declared.pack.Family.{Family}
use Rattle.device_tree.specs.declared.pack.Pack.{Pack}
use Rattle.sequence_resolve.specs.declared.entry.LevelKind.TheVariants as kinds
use Rattle.sequence_resolve.specs.declared.entry.SeqSet.{SeqSet}
use Rattle.sequence_resolve.specs.declared.place.DevicePlace as code
use Rattle.sequence_resolve.specs.Places.{DevicePlace, places_of}
use Rattle.sequence_resolve.specs.Levels.{LevelAt, one, levels_if_some, path_of, deepest}
use Rattle.sequence_resolve.specs.Effective.{Candidate, candidates, AreWinners, entry_of}
use Rattle.pack_faults.specs.declared.request.PackRequest.{PackRequest}
use Rattle.pack_faults.specs.declared.groups.Group.{Group}
use Rattle.pack_faults.specs.declared.known.KnownSet.{KnownSet}
use Rattle.pack_faults.specs.declared.shared.PnameSet.{PnameSet}
use Rattle.pack_faults.specs.declared.sets.SetRef.{SetRef}
use Rattle.pack_faults.specs.declared.sets.DeviceSets.{DeviceSets}
use Rattle.pack_faults.specs.Sets.{SetAt, is_empty, pnames_along, processors_of, devices_sets, has_set}
use Rattle.pack_faults.specs.Known.{IsKnown}
use Rattle.pack_faults.specs.Views.{set_view}

-- ---- levels

-- a level with nothing of its own: no sequences and no `debugvars`
abbrev pub is_bare : Level → Bool
is_bare level = is_empty level.sequences && is_none level.debugvars

-- the levels down to the deepest one that has something of its own
abbrev pub trimmed_levels : List LevelAt → List LevelAt
trimmed_levels [] = []
trimmed_levels (l ∷ ls) = if is_bare l.level && is_empty (trimmed_levels ls) then [] else l ∷ trimmed_levels ls

-- the levels above the devices of a family, or of a subfamily of it
abbrev pub levels_above : Pack → Family → Option SubFamily → List LevelAt
levels_above pack family sub =
    (levels_if_some (one kinds.Defaults) pack.defaults ++ one kinds.Family family.level) ++ levels_if_some (λ s. one kinds.SubFamily s.level) sub

-- the devices of a group, each with the levels around it
abbrev pub places_in_group : Group → List DevicePlace
places_in_group g = places_of g.family.now (option_map (λ s. s.now) g.sub_family) g.devices.now

-- ---- the sets of levels

-- the set of these levels for this processor
pub record IsSetOf (path : List LevelAt) (pname : Option (List ℕ)) (set : SeqSet) : Type 0 where
  pub winners : List Candidate
  pub greatest : AreWinners (candidates pname 0 path) winners
  pub entries : set.entries ≡ map entry_of winners
  pub debugvars : set.debugvars ≡ deepest [] path

-- the set stands among the known ones at this number
pub record IsThere (set : SeqSet) (known : List KnownSet) (number : ℕ) : Type 0 where
  pub one : KnownSet
  pub there : slice_get known number ≡ Some one
  pub is : one.set ≡ set

-- the known set with this number is that of these levels for this processor
pub record IsKnownSetOf (known : List KnownSet) (path : List LevelAt) (pname : Option (List ℕ)) (number : ℕ) : Type 0 where
  pub one : KnownSet
  pub there : slice_get known number ≡ Some one
  pub is : IsSetOf path pname one.set

-- the processor, without where its name lies in memory
abbrev pub pname_view : PnameSet → Option (List ℕ)
pname_view m = option_map (λ name. name.now) m.pname

-- the requested processors of these levels, each with the number of its set
pub record AreSetsOf (r : PackRequest) (known : List KnownSet) (path : List LevelAt) (sets : List PnameSet) : Type 0 where
  pub pnames : map pname_view sets ≡ processors_of r.pname (pnames_along [] path)
  pub each : All (λ m. IsKnownSetOf known path (pname_view m) m.number) sets

-- the same, where there are some
abbrev pub AreShared : PackRequest → List KnownSet → List LevelAt → Option (List PnameSet) → Type 0
AreShared r known path None = ⊤
AreShared r known path (Some sets) = AreSetsOf r known path sets

-- ---- the sets of devices

-- the set of a device and variant for one of the processors
abbrev pub set_ref : code.DevicePlace → Option (Bor Variant) → PnameSet → SetRef
set_ref place variant m = record { place = place; variant = variant; pname = m.pname; number = m.number }

-- its number is that of its set
abbrev pub HasNumberOfSet : Pack → List KnownSet → SetRef → Type 0
HasNumberOfSet pack known s = IsKnownSetOf known (path_of pack (set_view s).place (set_view s).variant) (set_view s).pname s.number

-- the known sets keep their numbers
abbrev pub Grown : List KnownSet → List KnownSet → Type 0
Grown old new = (number : ℕ) (k : KnownSet) → slice_get old number ≡ Some k → slice_get new number ≡ Some k

-- not more devices than sets; all known faults are those of their sets, and each set has its number
pub record AreFine (pack : Pack) (f : DeviceSets) : Type 0 where
  pub few : f.devices ≤ length f.sets
  pub known : All IsKnown f.known
  pub found : All (HasNumberOfSet pack f.known) f.sets

-- the same, with the sets that are shared along these levels
pub record IsFineWithShared (pack : Pack) (r : PackRequest) (levels : List LevelAt) (shared : Option (List PnameSet)) (f : DeviceSets) : Type 0 where
  pub fine : AreFine pack f
  pub along : AreShared r f.known (trimmed_levels levels) shared

-- these sets were added, and no device was counted
pub record AreAdded (pack : Pack) (r : PackRequest) (levels : List LevelAt) (added : List SetAt) (old : DeviceSets)
    (shared : Option (List PnameSet)) (new : DeviceSets) : Type 0 where
  pub sets : map set_view new.sets ≡ map set_view old.sets ++ added
  pub devices : new.devices ≡ old.devices
  pub grown : Grown old.known new.known
  pub ready : IsFineWithShared pack r levels shared new

-- the sets of these devices were added, and those of them that have one were counted
pub record DevicesAreCounted (pack : Pack) (r : PackRequest) (places : List DevicePlace) (old new : DeviceSets) : Type 0 where
  pub sets : map set_view new.sets ≡ map set_view old.sets ++ devices_sets pack r places
  pub devices : new.devices ≡ old.devices + count_by (has_set pack r) places
  pub fine : AreFine pack new
