-- The values of the reads of a flight.
use Rattle.std.specs.Prelude.{ℕ, ◌*◌, List, Option, Some, None, slice_get}
use Rattle.probe_core.specs.declared.job.Limits.{Limits}

-- the values of confirmed accesses, in order, of which a write has none; and how many there is room for
pub record SlotList : Type 0 where
  pub values : List (Option ℕ)
  pub room : ℕ

-- the value at a place, where there is one
abbrev pub value_in : Option (Option ℕ) → Option ℕ
value_in None = None
value_in (Some v) = v

-- the value of the access at a place, where it is a confirmed read
abbrev pub slot_at : List (Option ℕ) → ℕ → Option ℕ
slot_at values place = value_in (slice_get values place)

-- room for the accesses of any flight over these limits: 255 for each packet
abbrev pub slot_room : Limits → ℕ
slot_room limits = 255 * limits.packet_count
