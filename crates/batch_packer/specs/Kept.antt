-- The packets of a flight, which of them it ended at, and what is kept of them.
use Rattle.std.specs.Prelude.{◌≡◌, ℕ, List, [], ◌∷◌, length, Option, Some, None, ⊤}
use Rattle.target_machine.specs.declared.access.RegAccess.{RegAccess}
use Rattle.dap_messages.specs.Commands.{command_bytes}
use Rattle.probe_core.specs.Bench.{Exchange, Reported, counted_up}
use Rattle.flight_forms.specs.Forms.{parts_of}
use Rattle.flight_forms.specs.Packets.{block_command, chain_packets, transfer_command}
use Rattle.flight_forms.specs.declared.form.Form.{Form}
use Rattle.flight_forms.specs.declared.form.Form.TheVariants.{Block, Transfer, Chain}
use Rattle.batch_packer.specs.ChainReadings.{chain_ended_at}
use Rattle.batch_packer.specs.Exchanges.{IsOpen}
use Rattle.batch_packer.specs.FlightStates.{FlightState, sent_form}

-- the packets of a flight in this form, of this size at most
abbrev pub form_packets : Form → ℕ → List RegAccess → List (List ℕ)
form_packets Block size accesses = command_bytes (block_command accesses) ∷ []
form_packets Transfer size accesses = command_bytes (transfer_command accesses) ∷ []
form_packets Chain size accesses = chain_packets (parts_of size accesses)

-- the number of the reply, and of its packet, at which it ended
abbrev pub form_ended_at : Form → ℕ → List RegAccess → List (List ℕ) → ℕ
form_ended_at Block size accesses replies = 0
form_ended_at Transfer size accesses replies = 0
form_ended_at Chain size accesses replies = chain_ended_at size accesses replies

-- these packets were sent, where something was
abbrev pub AreSent : Option Form → ℕ → List RegAccess → List (List ℕ) → Type 0
AreSent None size accesses packets = ⊤
AreSent (Some form) size accesses packets = packets ≡ form_packets form size accesses

-- as many replies came as packets were sent, where something was
abbrev pub AreReplied : Option Form → Exchange → Type 0
AreReplied None last = ⊤
AreReplied (Some form) last = length last.replies ≡ length last.packets

-- the flight ended at the packet and reply of this number
abbrev pub EndedAt : Option Form → ℕ → List RegAccess → List (List ℕ) → ℕ → Type 0
EndedAt None size accesses replies at = at ≡ 0
EndedAt (Some form) size accesses replies at = at ≡ form_ended_at form size accesses replies

-- the exchanges are counted: one for a flight that sends something
abbrev pub AreCounted : Option Form → ℕ → ℕ → Type 0
AreCounted None old new = new ≡ old
AreCounted (Some form) old new = new ≡ counted_up old

-- The last exchange after a flight that got its replies. Its packets are those of the form, as many replies came, and it is counted. The
-- flight ended at the packet that is noted. The bench may be sent a packet again.
pub record HasSent (flight flight_after : FlightState) (old new : Reported) : Type 0 where
  pub packets : AreSent (sent_form flight.limits flight.accesses) flight.limits.packet_size flight.accesses new.last.packets
  pub replied : AreReplied (sent_form flight.limits flight.accesses) new.last
  pub exchanges : AreCounted (sent_form flight.limits flight.accesses) old.exchanges new.exchanges
  pub at : EndedAt (sent_form flight.limits flight.accesses) flight.limits.packet_size flight.accesses new.last.replies flight_after.at
  pub is_open : IsOpen new
