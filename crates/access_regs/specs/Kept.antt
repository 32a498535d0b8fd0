-- What is kept of the registers from unit to unit.
use Rattle.std.specs.Prelude.{ℕ, Bool, false, ◌==◌, List, replicate, slice_index_or, slice_set, Option, Some, None}
use Rattle.std.specs.Option.{unwrap_or}
use Rattle.access_regs.specs.declared.known.Known.{Known}
use Rattle.access_regs.specs.declared.known.Unsettled.{Unsettled}

-- SELECT as it was written last, what is known of each of the 256 access ports, and the one that is unsettled.
pub record Kept : Type 0 where
  pub select : Option ℕ
  pub ports : List Known
  pub unsettled : Option Unsettled

-- an access port of which nothing is known
abbrev pub unknown : Known
unknown = record { csw = None; tar = None; high = None; large = false }

-- nothing is known of any register
abbrev pub nothing_kept : Kept
nothing_kept = record { select = None; ports = replicate 256 unknown; unsettled = None }

-- what is known of the access port of this number
abbrev pub known_at : Kept → ℕ → Known
known_at k ap = slice_index_or k.ports ap unknown

-- this is known of the access port now
abbrev pub with_known : Kept → ℕ → Known → Kept
with_known k ap n = record k { ports = slice_set k.ports ap n }

-- the value is known, and is this one
abbrev pub is_known : Option ℕ → ℕ → Bool
is_known None n = false
is_known (Some m) n = m == n

-- CSW, where it is known; else 0
abbrev pub csw_of : Known → ℕ
csw_of n = unwrap_or n.csw 0

-- CSW, TAR and its upper word are no longer known
abbrev pub forgotten : Known → Known
forgotten n = record n { csw = None; tar = None; high = None }

-- CSW, TAR and its upper word of this access port are no longer known.
abbrev pub forget : Kept → ℕ → Kept
forget k ap = with_known k ap (forgotten (known_at k ap))

-- SELECT was written with this value.
abbrev pub kept_with_select : Kept → ℕ → Kept
kept_with_select k value = record k { select = Some value }
