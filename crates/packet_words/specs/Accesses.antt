-- The register accesses of an exchange that were made.
use Rattle.std.specs.Prelude.{ℕ, Bool, true, false, List, [], ◌∷◌, ◌++◌, length, take, drop, Option, Some, None, Result, Ok, Err}
use Rattle.dap_messages.specs.declared.command.PacketKind.{PacketKind}
use Rattle.dap_messages.specs.declared.command.PacketKind.TheVariants.{Plain, Execute, Queue}
use Rattle.dap_messages.specs.declared.command_value.CommandValue.{CommandValue}
use Rattle.dap_messages.specs.declared.command_value.CommandValue.TheVariants as command
use Rattle.dap_messages.specs.declared.error.MessageError.{MessageError}
use Rattle.dap_messages.specs.declared.request.Request.{Request}
use Rattle.dap_messages.specs.declared.request.RequestKind.{RequestKind}
use Rattle.dap_messages.specs.declared.request.RequestKind.TheVariants.{Match, Write}
use Rattle.dap_messages.specs.Commands.{Packet, requests_of}
use Rattle.dap_messages.specs.PacketReading.{packet_read}
use Rattle.dap_messages.specs.Requests.{kind}
use Rattle.dap_replies.specs.ReplyReading.{reply_read}
use Rattle.dap_replies.specs.ReplyViews.{Shown}
use Rattle.register_words.specs.declared.access.RegisterAccess.{RegisterAccess}
use Rattle.register_words.specs.declared.known.KnownRegisters.{KnownRegisters}
use Rattle.register_words.specs.declared.register.Register.{Register}
use Rattle.register_words.specs.declared.register.Register.TheVariants as at
use Rattle.register_words.specs.Registers.{register_of}
use Rattle.packet_words.specs.declared.fate.Fate.{Fate}
use Rattle.packet_words.specs.declared.fate.Fate.TheVariants as fates
use Rattle.packet_words.specs.Requests.{RequestsLeft, fate_of, left_after_request, after_request}
use Rattle.packet_words.specs.Commands.{requests_left, after_command}
use Rattle.packet_words.specs.Exchange.{head_fault}
use Rattle.packet_words.specs.Replies.{own_bytes}

-- a read, or a write, of a register, and no other access
abbrev pub one_access : Register → Bool → List RegisterAccess
one_access register is_write = record { register = register; is_write = is_write } ∷ []

-- ---- requests

-- A request that is no normal read and was executed: a write, or the reads of a value match, which count as one. A match mask stays in the probe.
unfoldable pub done_accesses : RequestKind → Register → List RegisterAccess
done_accesses Write register = one_access register true
done_accesses Match register = one_access register false
done_accesses other register = []

-- the access of a request to this register, by what became of it
unfoldable pub access_by_fate : RequestKind → Register → Fate → List RegisterAccess
access_by_fate asks register fates.Done = done_accesses asks register
access_by_fate asks register (fates.Gave word) = one_access register false
access_by_fate asks register fates.NoWord = one_access register false
access_by_fate asks register fates.Skipped = []
access_by_fate asks register fates.NotKnown = []

-- the access of a request
abbrev pub request_access : KnownRegisters → Request → Fate → List RegisterAccess
request_access known r fate = access_by_fate (kind r) (register_of known.select r.byte) fate

-- the accesses of requests, where this is left of their reply
abbrev pub requests_accesses : KnownRegisters → RequestsLeft → List Request → List RegisterAccess
requests_accesses known left [] = []
requests_accesses known left (r ∷ rs) =
    request_access known r (fate_of left r) ++ requests_accesses (after_request known r (fate_of left r)) (left_after_request left r) rs

-- ---- commands

-- the access of a command itself: DAP_WriteABORT writes ABORT
unfoldable pub own_access : CommandValue → List RegisterAccess
own_access (command.Abort word) = one_access at.Abort true
own_access other = []

-- the accesses of a command that has a reply
abbrev pub command_accesses : KnownRegisters → CommandValue → Shown → List RegisterAccess
command_accesses known c reply = own_access c ++ requests_accesses known (requests_left (Some reply)) (requests_of c)

-- those of a reply that was read, and none where it has a fault
abbrev pub where_read : Result Shown MessageError → (Shown → List RegisterAccess) → List RegisterAccess
where_read (Ok reply) accesses = accesses reply
where_read (Err fault) accesses = []

-- the accesses of commands in order, each with its reply, up to the first whose reply is none
abbrev pub answered_accesses : KnownRegisters → List CommandValue → List ℕ → List RegisterAccess
answered_accesses known [] bytes = []
answered_accesses known (c ∷ commands) bytes =
    where_read (reply_read c (take (own_bytes commands c bytes) bytes))
    (λ reply. command_accesses known c reply ++ answered_accesses (after_command known c (Some reply)) commands (drop (own_bytes commands c bytes) bytes))

-- ---- packets

-- those of several commands, where their reply begins as it may
abbrev pub where_headed : Option MessageError → List RegisterAccess → List RegisterAccess
where_headed None accesses = accesses
where_headed (Some fault) accesses = []

-- the accesses of several commands
abbrev pub all_accesses : PacketKind → KnownRegisters → List CommandValue → List ℕ → List RegisterAccess
all_accesses kind known commands bytes = where_headed (head_fault kind (length commands) bytes) (answered_accesses known commands (drop 2 bytes))

-- the accesses of a packet of this kind
abbrev pub packet_accesses : PacketKind → KnownRegisters → List CommandValue → List ℕ → List RegisterAccess
packet_accesses Plain known commands bytes = answered_accesses known commands bytes
packet_accesses Execute known commands bytes = all_accesses Execute known commands bytes
packet_accesses Queue known commands bytes = all_accesses Queue known commands bytes

-- the same where the packet may be none
abbrev pub accesses_if_packet : KnownRegisters → Result Packet MessageError → List ℕ → List RegisterAccess
accesses_if_packet known (Ok p) bytes = packet_accesses p.kind known p.commands bytes
accesses_if_packet known (Err fault) bytes = []

-- The register accesses of an exchange that were made, in order, where this was known before it. Without a reply none is known to be made.
abbrev pub exchange_accesses : KnownRegisters → List ℕ → Option (List ℕ) → List RegisterAccess
exchange_accesses known packet None = []
exchange_accesses known packet (Some reply) = accesses_if_packet known (packet_read packet) reply
