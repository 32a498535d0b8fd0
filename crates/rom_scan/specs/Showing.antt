-- What the words of a target show to a scan.
use Rattle.std.specs.Prelude.{◌≡◌, ◌⊎◌, ℕ, ◌≤◌, true, length, take, Option, Some, None, ⊤}
use Rattle.std.specs.FinMap as map
use Rattle.target_machine.specs.Aim.{can_aim}
use Rattle.target_machine.specs.InRange.{EachValue, IsInRange}
use Rattle.target_machine.specs.Memory.{Cell, shown_value}
use Rattle.target_machine.specs.Plain.{contains}
use Rattle.target_machine.specs.State.{TargetState}
use Rattle.target_machine.specs.declared.ap.ApState.{ApState}
use Rattle.target_calls.specs.World.{World, world_after}
use Rattle.sequels.specs.Sequel.{comes}
use Rattle.rom_scan.specs.Listing.{component_lines, components, listed_within}
use Rattle.rom_scan.specs.Walk.{scanned_port}

-- the value of a word, and 0 where there is none
abbrev pub cell_value : Option Cell → ℕ
cell_value None = 0
cell_value (Some c) = shown_value c

-- the value of the word at an address
abbrev pub shows : TargetState → ℕ → ℕ
shows t address = cell_value (map.get t.words address)

-- BASE of a port, and 0 where it is not there
abbrev pub base_in : Option ApState → ℕ
base_in None = 0
base_in (Some port) = port.base

-- BASE of the port with a number
abbrev pub base_at : TargetState → ℕ → ℕ
base_at t ap = base_in (map.get t.aps ap)

-- the upper word of TAR is 0
abbrev pub HasLowTar : Option ApState → Type 0
HasLowTar None = ⊤
HasLowTar (Some port) = port.high ≡ 0

-- a word has no list of more than one value
abbrev pub HasOneValueAtMost : Cell → Type 0
HasOneValueAtMost c = length c.values ≤ 1

-- Words can be read by this port: all calls are answered. STICKYERR is clear, the debug power is acknowledged, and the port is there. The
-- upper word of TAR is 0, or each access writes it. No word has more than one value. Registers and words are of 32 bits.
pub record CanScan (w : World) (ap : ℕ) : Type 0 where
  pub free : w.answered ≡ None
  pub aim : can_aim w.target ap ≡ true
  pub low : HasLowTar (map.get w.target.aps ap) ⊎ (contains w.large ap ≡ true)
  pub single : EachValue HasOneValueAtMost w.target.words
  pub range : IsInRange w.target

-- A scan writes the lines of the components that the target's words show. Where there are more than it may list it writes those of the first
-- ones, and is full exactly there. No call stops, and the words stay.
pub record ListsTarget (w : World) (most ap : ℕ) : Type 0 where
  pub written : (comes w (scanned_port most ap)).written ≡ component_lines (take most (components (shows w.target) (base_at w.target ap)))
  pub end : (comes w (scanned_port most ap)).end ≡ Some (listed_within most (components (shows w.target) (base_at w.target ap)))
  pub words : (world_after w (comes w (scanned_port most ap)).calls).target.words ≡ w.target.words
