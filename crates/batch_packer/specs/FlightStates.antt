-- The state of a flight, and what its parts keep.
use Rattle.std.specs.Prelude.{◌≡◌, ◌==◌, ℕ, ◌*◌, ◌<◌, ◌≤◌, true, false, Bool, is_some, List, [], ◌++◌, ◌∷◌, length, slice_get, Option, Some, None}
use Rattle.target_machine.specs.declared.access.RegAccess.{RegAccess}
use Rattle.probe_core.specs.Bench.{BenchState, Reported}
use Rattle.probe_core.specs.Packets.{Packets}
use Rattle.probe_core.specs.Ranges.{AreLimits}
use Rattle.probe_core.specs.declared.job.Limits.{Limits}
use Rattle.flight_forms.specs.Forms.{form_of}
use Rattle.flight_forms.specs.Packing.{AreTaken, AreWords}
use Rattle.flight_forms.specs.Sizes.{IsSizeOf}
use Rattle.flight_forms.specs.declared.form.Form.{Form}
use Rattle.flight_forms.specs.declared.form.Form.TheVariants.{Transfer}
use Rattle.flight_forms.specs.declared.size.FlightSize.{FlightSize}
use Rattle.batch_packer.specs.AccessLists.{Accesses}
use Rattle.batch_packer.specs.Exchanges.{IsOpen}
use Rattle.batch_packer.specs.FlightEnds.{EndsBy, Flew, flight_reading}
use Rattle.batch_packer.specs.declared.ends.FlightEnd.{FlightEnd}
use Rattle.batch_packer.specs.declared.ends.FlightEnd.TheVariants as ends

-- What is kept of a flight.
pub record FlightState : Type 0 where
  pub limits : Limits
  -- the accesses that were pushed and not sent
  pub accesses : List RegAccess
  -- how it ended, and whether it can be used again after that
  pub end : Option FlightEnd
  pub resumable : Bool
  -- the packets and the replies of its end, with the number of the one at which it ended
  pub packets : List (List ℕ)
  pub replies : List (List ℕ)
  pub at : ℕ

-- a flight of no accesses
abbrev pub new_flight : Limits → FlightState
new_flight limits = record { limits = limits; accesses = []; end = None; resumable = false; packets = []; replies = []; at = 0 }

-- the bytes of one, where there is one
abbrev pub bytes_or_none : Option (List ℕ) → List ℕ
bytes_or_none None = []
bytes_or_none (Some bytes) = bytes

-- the packet or reply of this number
abbrev pub item_at : List (List ℕ) → ℕ → List ℕ
item_at items at = bytes_or_none (slice_get items at)

-- whether some form holds the accesses with this one more
abbrev pub has_room : Limits → List RegAccess → RegAccess → Bool
has_room limits accesses next = is_some (form_of limits.packet_size limits.packet_count (accesses ++ next ∷ []))

-- What the parts of a flight keep. Some form holds the accesses, each of them is one that a flight takes, and there is room for what the limits
-- allow.
pub record IsSoundFlight (limits : Limits) (size : FlightSize) (accesses : Accesses) (packets replies : Packets) : Type 0 where
  pub in_range : AreLimits limits
  pub packet_size : size.packet_size ≡ limits.packet_size
  pub packet_count : size.packet_count ≡ limits.packet_count
  pub size_is : IsSizeOf accesses.items size
  pub held : 0 < length accesses.items → is_some (form_of limits.packet_size limits.packet_count accesses.items) ≡ true
  pub taken : AreTaken accesses.items
  pub words : AreWords accesses.items
  pub room : 255 * limits.packet_count ≤ accesses.room
  pub packets_room : limits.packet_count ≤ packets.room
  pub replies_room : limits.packet_count ≤ replies.room

-- the form in which a flight is sent; none where there is nothing to send
abbrev pub sent_form : Limits → List RegAccess → Option Form
sent_form limits [] = None
sent_form limits (a ∷ rest) = form_of limits.packet_size limits.packet_count (a ∷ rest)

-- What was done: what a flight in this form does that ends so, or nothing.
abbrev pub SentBy : Option Form → List RegAccess → Option FlightEnd → List (Option ℕ) → BenchState → BenchState → Type 0
SentBy None accesses end values m n = (n ≡ m) × (end ≡ None) × (values ≡ [])
SentBy (Some form) accesses end values m n = Flew form accesses end values m n

-- How a flight ends by its replies; one that sends nothing comes to its end.
abbrev pub ReadBy : Option Form → ℕ → List RegAccess → List (List ℕ) → Option FlightEnd → List (Option ℕ) → Type 0
ReadBy None size accesses replies end values = (end ≡ None) × (values ≡ [])
ReadBy (Some form) size accesses replies end values = EndsBy (flight_reading form size accesses replies) end values

-- what was done where a flight was sent that ends so
abbrev pub FlownBy : FlightState → Option FlightEnd → List (Option ℕ) → BenchState → BenchState → Type 0
FlownBy flight end values m n = SentBy (sent_form flight.limits flight.accesses) flight.accesses end values m n

-- how a flight ends that was sent, by its replies
abbrev pub EndedBy : FlightState → List (List ℕ) → Option FlightEnd → List (Option ℕ) → Type 0
EndedBy flight replies end values = ReadBy (sent_form flight.limits flight.accesses) flight.limits.packet_size flight.accesses replies end values

-- a flight that can be used, over a bench that may be sent a packet
pub record MaySend (flight : FlightState) (reported : Reported) : Type 0 where
  pub usable : flight.end ≡ None
  pub is_open : IsOpen reported

-- whether a flight that was sent in this form can be used again: one Transfer that was answered FAULT
abbrev pub can_resume : Form → Option FlightEnd → Bool
can_resume Transfer (Some (ends.Cut cut)) = cut.response == 0x04
can_resume form end = false

-- the same; a flight that sent nothing cannot
abbrev pub can_resume_by : Option Form → Option FlightEnd → Bool
can_resume_by None end = false
can_resume_by (Some form) end = can_resume form end

-- the packets or replies that are kept after this end
abbrev pub items_kept : Option FlightEnd → List (List ℕ) → List (List ℕ)
items_kept None items = []
items_kept (Some (ends.Cut cut)) items = items
items_kept (Some ends.BenchFault) items = []
items_kept (Some ends.ReplyBad) items = items
