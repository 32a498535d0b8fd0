-- What is kept of a list of accesses to say which form holds it.
use Rattle.std.specs.Prelude.{◌≡◌, ℕ, ◌+◌, ◌-◌, ◌*◌, ◌/◌, ◌^◌, ◌&&◌, nat_le, nat_lt, Bool, false, if◌then◌else◌, List, [], ◌∷◌, length, fold, min}
use Rattle.target_machine.specs.declared.access.RegAccess.{RegAccess}
use Rattle.dap_messages.specs.declared.request.Request.{Request}
use Rattle.dap_messages.specs.Requests.{reads_in}
use Rattle.target_machine.specs.Counts.{one_if}
use Rattle.dap_transfer.specs.CommandEnds.{may_be_free, writes_ap}
use Rattle.flight_forms.specs.declared.size.FlightSize.{FlightSize}
use Rattle.flight_forms.specs.declared.size.Tally.{Tally}
use Rattle.flight_forms.specs.Forms.{all_write_drw, bytes_in, parts_of, writes_drw}
use Rattle.flight_forms.specs.Packing.{requests_for}

-- the sum, which stays at the last value of 32 bits
abbrev pub plus : ℕ → ℕ → ℕ
plus n more = min (n + more) (2 ^ 32 - 1)

-- the tally with the request of one access more, a check before it or not
abbrev pub with_access : Tally → Bool → Bool → Tally
with_access tally checked read = record {
  requests = plus tally.requests (one_if checked + 1);
  bytes = plus tally.bytes (one_if checked + (if read then 1 else 5));
  reads = plus tally.reads (one_if checked + one_if read);
}

-- the tally of no requests
abbrev pub no_tally : Tally
no_tally = record { requests = 0; bytes = 0; reads = 0 }

-- whether one Transfer of these requests fits a packet of this size
abbrev pub tally_fits : ℕ → Tally → Bool
tally_fits size t = nat_le (3 + t.bytes) size && nat_le (3 + 4 * t.reads) size && nat_le t.requests 255

-- whether a guarded Transfer of these requests does
abbrev pub tally_fits_guarded : ℕ → Tally → Bool
tally_fits_guarded size t = nat_le (t.bytes + 21) size && nat_le t.reads ((size - 9) / 4) && nat_le t.requests 251

-- the tally counts these requests, their bytes and the reads among them
pub record Counts (requests : List Request) (tally : Tally) : Type 0 where
  pub requests_are : tally.requests ≡ length requests
  pub bytes_are : tally.bytes ≡ bytes_in requests
  pub reads_are : tally.reads ≡ reads_in requests

-- whether the last of these accesses is a write of an access port
abbrev pub ends_in_ap_write : List RegAccess → Bool
ends_in_ap_write accesses = fold (λ _ a. writes_ap a) false accesses

-- the last of these parts, or no accesses
abbrev pub last_of : List (List RegAccess) → List RegAccess
last_of [] = []
last_of (part ∷ []) = part
last_of (part ∷ other ∷ parts) = last_of (other ∷ parts)

-- The size is that of these accesses.
pub record IsSizeOf (accesses : List RegAccess) (s : FlightSize) : Type 0 where
  pub count : s.accesses ≡ length accesses
  pub all : s.all_write_drw ≡ all_write_drw accesses
  pub write : s.after_write ≡ ends_in_ap_write accesses
  pub whole : Counts (requests_for false accesses) s.whole
  pub parts : s.parts ≡ length (parts_of s.packet_size accesses)
  pub last : Counts (requests_for false (last_of (parts_of s.packet_size accesses))) s.last

-- what is kept with one access more: it joins the last part where that has accesses and takes it, and else begins another
abbrev pub size_with : FlightSize → RegAccess → FlightSize
size_with s a =
    let checked = s.after_write && may_be_free a in
    let more = with_access s.last checked a.read in
    let joins = nat_lt 0 s.parts && tally_fits_guarded s.packet_size more in
    record {
      packet_size = s.packet_size;
      packet_count = s.packet_count;
      accesses = plus s.accesses 1;
      all_write_drw = s.all_write_drw && writes_drw a;
      after_write = writes_ap a;
      whole = with_access s.whole checked a.read;
      parts = if joins then s.parts else plus s.parts 1;
      last = if joins then more else with_access no_tally false a.read;
    }

-- a chain holds one part more
abbrev pub has_part_more : FlightSize → Bool
has_part_more s = nat_le 2 s.packet_count && nat_lt s.parts s.packet_count
