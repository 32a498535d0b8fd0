-- Room that is taken beforehand for the packets of a flight.
use Rattle.std.specs.Prelude.{◌≡◌, ℕ, ◌*◌, ◌≤◌, List, [], length, take}
use Rattle.dap_messages.specs.declared.request.Request.{Request}
use Rattle.probe_core.specs.Packets.{Packets}
use Rattle.batch_packer.specs.Queues.{IsFresh}
use Rattle.batch_packer.specs.SlotList.{SlotList}

-- The most requests of one DAP_Transfer: its Transfer Count is one byte.
abbrev pub most_requests : ℕ
most_requests = 255

-- The most bytes of a packet or of a reply: the largest packet size.
abbrev pub most_bytes : ℕ
most_bytes = 1024

-- Room for the requests of one DAP_Transfer, and for the bytes of one packet or reply.
pub record AreBuffers (requests : List Request) (bytes : List ℕ) : Type 0 where
  pub for_requests : length requests ≡ most_requests
  pub for_bytes : length bytes ≡ most_bytes

-- Empty room for a flight of so many packets and as many replies, with 255 values of each; and room for one command and one packet.
pub record IsFreshRoom (count : ℕ) (packets replies : Packets) (requests : List Request) (bytes : List ℕ) (slots : SlotList) : Type 0 where
  pub for_packets : IsFresh packets count
  pub for_replies : IsFresh replies count
  pub buffers : AreBuffers requests bytes
  pub no_value : slots.values ≡ []
  pub for_values : most_requests * count ≤ slots.room

-- The room for packets, for replies and for values stays.
pub record KeepsRoom (packets_old packets_new replies_old replies_new : Packets) (slots_old slots_new : SlotList) : Type 0 where
  pub for_packets : packets_new.room ≡ packets_old.room
  pub for_replies : replies_new.room ≡ replies_old.room
  pub for_values : slots_new.room ≡ slots_old.room

-- the first so many bytes of a buffer are these
pub record BeginsWith (count : ℕ) (buffer bytes : List ℕ) : Type 0 where
  pub within : count ≤ length buffer
  pub first : take count buffer ≡ bytes
