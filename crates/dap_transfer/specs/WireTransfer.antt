-- One wire transfer: how it ends, and what it does to the target.
use Rattle.std.specs.Prelude.{◌≡◌, ◌<◌, ℕ, ◌+◌, ◌-◌, ◌^◌, Bool, not, ◌&&◌, ◌==◌, nat_lt, if◌then◌else◌, min, slice_index}
use Rattle.target_machine.specs.Attempt.{attempt, is_free}
use Rattle.target_machine.specs.Registers.{dpidr_address, rdbuff_address}
use Rattle.target_machine.specs.declared.access.RegAccess.{RegAccess}
use Rattle.target_machine.specs.declared.access.Outcome.{Outcome}
use Rattle.target_machine.specs.declared.access.Outcome.TheVariants as outcome
use Rattle.dap_messages.specs.declared.request.Response.{Response}
use Rattle.dap_messages.specs.declared.request.Response.TheVariants.{Good, Wait, Fault}
use Rattle.dap_transfer.specs.State.{Setting, WireState}

-- the number after this one; it stays at its last value
abbrev pub next_number : ℕ → ℕ
next_number n = min (n + 1) (2 ^ 64 - 1)

-- The last transfer that was numbered met more WAITs than the retry number allows: this is the number of the next.
abbrev pub RetryIsOver : Setting → ℕ → Type 0
RetryIsOver s number = (place : ℕ) × (number ≡ next_number place) × (s.retry < slice_index s.stalls place)

-- Transfers that may wait are numbered; one that is free at the target never waits.
abbrev pub number_after : WireState → RegAccess → ℕ
number_after l a = if is_free l.target a then l.number else next_number l.number

-- How one wire transfer ends: as WAIT where it meets more of them than the retry number allows, else as FAULT where
-- STICKYERR is set. One that is free ends well.
unfoldable pub ends : Setting → WireState → RegAccess → Response
ends s l a =
    if is_free l.target a then Good else
    if nat_lt s.retry (slice_index s.stalls l.number) then Wait else
    if l.target.sticky then Fault else Good

-- where it ends well the access is made
abbrev pub access_made : WireState → RegAccess → WireState
access_made l a = record { target = (attempt l.target a).next; number = number_after l a }

-- and else nothing is
abbrev pub refused_state : WireState → RegAccess → WireState
refused_state l a = record l { number = number_after l a }

-- the value that an outcome has
abbrev pub value_of : Outcome → ℕ
value_of (outcome.Value n) = n
value_of _ = 0

-- the value that comes back: a read of an access port gives what RDBUFF had before it
abbrev pub value : WireState → RegAccess → ℕ
value l a = if a.ap then l.target.rdbuff else value_of (attempt l.target a).outcome

-- how a wire transfer, or all reads of a value match, ended, and how many of its reads or writes were made
pub record Ending : Type 0 where
  pub response : Response
  pub line : WireState
  pub count : ℕ

-- one wire transfer that ends so
abbrev pub wire_ending_as : Response → WireState → RegAccess → Ending
wire_ending_as Good l a = record { response = Good; line = access_made l a; count = 1 }
wire_ending_as r l a = record { response = r; line = refused_state l a; count = 0 }

-- how one wire transfer of this access ends
abbrev pub wire_ending : Setting → WireState → RegAccess → Ending
wire_ending s l a = wire_ending_as (ends s l a) l a

-- a read of RDBUFF at its own address; a read of RESEND (0x8), which gives RDBUFF too, is none
abbrev pub reads_rdbuff_itself : RegAccess → Bool
reads_rdbuff_itself a = not a.ap && a.read && (a.addr == rdbuff_address)

-- a read of DPIDR
abbrev pub reads_dpidr : RegAccess → Bool
reads_dpidr a = not a.ap && a.read && (a.addr == dpidr_address)
