-- The words of an exchange: a packet and its reply.
use Rattle.std.specs.Prelude.{ℕ, ◌+◌, ◌==◌, Bool, true, false, ◌&&◌, ◌||◌, List, [], ◌∷◌, ◌++◌, length, take}
use Rattle.std.specs.Prelude.{drop, codes, decimal, Option, Some, None, Result, Ok, Err, if◌then◌else◌}
use Rattle.hex.specs.Hex.{encode_lower}
use Rattle.dap_messages.specs.declared.command.PacketKind.{PacketKind}
use Rattle.dap_messages.specs.declared.command.PacketKind.TheVariants.{Plain, Execute, Queue}
use Rattle.dap_messages.specs.declared.command_value.CommandValue.{CommandValue}
use Rattle.dap_messages.specs.declared.error.MessageError.{MessageError}
use Rattle.dap_messages.specs.declared.error.MessageError.TheVariants.{Long, Short, BadId, BadCount, BadRequest, TrailingBytes}
use Rattle.dap_messages.specs.Commands.{Packet}
use Rattle.dap_messages.specs.PacketReading.{packet_read, place_of}
use Rattle.dap_replies.specs.ReplyReading.{reply_read}
use Rattle.dap_replies.specs.ReplyViews.{Shown}
use Rattle.text_lines.specs.Hex.{hex2}
use Rattle.register_words.specs.declared.known.KnownRegisters.{KnownRegisters}
use Rattle.register_words.specs.Known.{nothing_known}
use Rattle.packet_words.specs.Commands.{leading_byte, command_lines, after_command}
use Rattle.packet_words.specs.Replies.{own_bytes}

-- What is said of a packet or a reply: the text, what is known after it, and whether it is one.
pub record Said : Type 0 where
  pub text : List ℕ
  pub known : KnownRegisters
  pub good : Bool

-- a text before what is said
abbrev pub after_text : List ℕ → Said → Said
after_text text said = record said { text = text ++ said.text }

-- ---- faults

-- the kind of a fault of a packet or a reply
unfoldable pub message_fault_name : MessageError → List ℕ
message_fault_name (Long place) = codes "Long"
message_fault_name (Short place) = codes "Short"
message_fault_name (BadId place) = codes "BadId"
message_fault_name (BadCount place) = codes "BadCount"
message_fault_name (BadRequest place) = codes "BadRequest"
message_fault_name (TrailingBytes place) = codes "TrailingBytes"

-- the first fault from the left, with its place
unfoldable pub message_fault_words : MessageError → List ℕ
message_fault_words fault = message_fault_name fault ++ codes " at " ++ decimal (place_of fault)

-- ---- commands and their replies

-- the lines of commands whose replies are not known
abbrev pub unanswered_lines : KnownRegisters → List CommandValue → List ℕ
unanswered_lines known [] = []
unanswered_lines known (c ∷ commands) = command_lines known c None ++ unanswered_lines (after_command known c None) commands

-- commands without a reply
abbrev pub unanswered_words : KnownRegisters → List CommandValue → Bool → Said
unanswered_words known commands good = record { text = unanswered_lines known commands; known = nothing_known; good = good }

-- the line of a reply that is none: its fault, and the bytes in which the place counts
unfoldable pub misanswer_line : MessageError → List ℕ → List ℕ
misanswer_line fault bytes = codes "  no reply: " ++ message_fault_words fault ++ codes " of " ++ encode_lower bytes ++ codes "\n"

-- commands of which these bytes are no reply, with the fault of the bytes
abbrev pub misanswered_words : KnownRegisters → List CommandValue → MessageError → List ℕ → Said
misanswered_words known commands fault bytes = record {
  text = misanswer_line fault bytes ++ unanswered_lines known commands;
  known = nothing_known;
  good = false;
}

-- a reply that was read, or its fault
abbrev pub by_reply : Result Shown MessageError → (Shown → Said) → (MessageError → Said) → Said
by_reply (Ok reply) good bad = good reply
by_reply (Err fault) good bad = bad fault

-- The commands in order, each with its reply; from the first on whose reply is none, they are without.
abbrev pub commands_said : KnownRegisters → List CommandValue → List ℕ → Said
commands_said known [] bytes = record { text = []; known = known; good = true }
commands_said known (c ∷ commands) bytes =
    by_reply (reply_read c (take (own_bytes commands c bytes) bytes))
    (λ reply. after_text (command_lines known c (Some reply)) (commands_said (after_command known c (Some reply)) commands (drop (own_bytes commands c bytes) bytes)))
    (λ fault. misanswered_words known (c ∷ commands) fault bytes)

-- ---- packets

-- how a packet is run
unfoldable pub kind_words : PacketKind → ℕ → List ℕ
kind_words Plain count = codes "one command"
kind_words Execute count = codes "execute " ++ decimal count
kind_words Queue count = codes "queue " ++ decimal count

-- the first byte of the reply to several commands
unfoldable pub head_words : PacketKind → List ℕ → List ℕ
head_words Plain bytes = []
head_words Execute bytes = codes " -> " ++ hex2 (leading_byte bytes)
head_words Queue bytes = codes " -> " ++ hex2 (leading_byte bytes)

-- whether a reply to several commands may begin with this byte: 0x7F, and for a queue 0x7E too
abbrev pub is_head : PacketKind → ℕ → Bool
is_head Plain byte = false
is_head Execute byte = byte == 0x7F
is_head Queue byte = (byte == 0x7F) || (byte == 0x7E)

-- the fault of the first two bytes of a reply to so many commands, where they have one: the first byte, and the number
unfoldable pub head_fault : PacketKind → ℕ → List ℕ → Option MessageError
head_fault kind count [] = Some (Short 0)
head_fault kind count (id ∷ []) = Some (Short 1)
head_fault kind count (id ∷ number ∷ bytes) = if is_head kind id then (if number == count then None else Some (BadCount 1)) else Some (BadId 0)

-- the reply to several commands: after its first two bytes their replies
abbrev pub by_head : Option MessageError → KnownRegisters → List CommandValue → List ℕ → Said
by_head (Some fault) known commands bytes = misanswered_words known commands fault bytes
by_head None known commands bytes = commands_said known commands (drop 2 bytes)

-- the reply to several commands
abbrev pub all_answered : PacketKind → KnownRegisters → List CommandValue → List ℕ → Said
all_answered kind known commands bytes = by_head (head_fault kind (length commands) bytes) known commands bytes

-- the reply to a packet of this kind
abbrev pub packet_answered : PacketKind → KnownRegisters → List CommandValue → List ℕ → Said
packet_answered Plain known commands bytes = commands_said known commands bytes
packet_answered Execute known commands bytes = all_answered Execute known commands bytes
packet_answered Queue known commands bytes = all_answered Queue known commands bytes

-- the line of a packet that has a reply
unfoldable pub replied_line : ℕ → Packet → ℕ → List ℕ → List ℕ
replied_line number p size reply =
    codes "exchange " ++ decimal number ++ codes ": " ++ kind_words p.kind (length p.commands) ++ head_words p.kind reply
    ++ codes ", " ++ decimal size ++ codes " bytes out, " ++ decimal (length reply) ++ codes " in\n"

-- the line of a packet that has none
unfoldable pub unreplied_line : ℕ → Packet → ℕ → List ℕ
unreplied_line number p size =
    codes "exchange " ++ decimal number ++ codes " without a reply: " ++ kind_words p.kind (length p.commands) ++ codes ", " ++ decimal size ++ codes " bytes out\n"

-- a packet of this number and size, with its reply where there is one
abbrev pub packet_said : KnownRegisters → ℕ → ℕ → Packet → Option (List ℕ) → Said
packet_said known number size p None = after_text (unreplied_line number p size) (unanswered_words known p.commands true)
packet_said known number size p (Some reply) = after_text (replied_line number p size reply) (packet_answered p.kind known p.commands reply)

-- the line of what is no packet
unfoldable pub no_packet_line : ℕ → MessageError → List ℕ
no_packet_line number fault = codes "exchange " ++ decimal number ++ codes " is no packet: " ++ message_fault_words fault ++ codes "\n"

-- what is no packet
abbrev pub no_packet : ℕ → MessageError → Said
no_packet number fault = record { text = no_packet_line number fault; known = nothing_known; good = false }

-- the same where the packet may be none
abbrev pub said_of : KnownRegisters → ℕ → ℕ → Result Packet MessageError → Option (List ℕ) → Said
said_of known number size (Ok p) reply = packet_said known number size p reply
said_of known number size (Err fault) reply = no_packet number fault

-- ---- the trace

-- the line of a reply in a trace
unfoldable pub reply_line : Option (List ℕ) → List ℕ
reply_line None = []
reply_line (Some reply) = codes "< " ++ encode_lower reply ++ codes "\n"

-- the lines of a packet and its reply in a trace
unfoldable pub trace_lines : List ℕ → Option (List ℕ) → List ℕ
trace_lines packet reply = codes "> " ++ encode_lower packet ++ codes "\n" ++ reply_line reply

-- What is said of the exchange of this number: the bytes of a packet, and those of its reply where there is one. Their lines in a trace
-- come first, and then their words.
abbrev pub exchange : KnownRegisters → ℕ → List ℕ → Option (List ℕ) → Said
exchange known number packet reply = after_text (trace_lines packet reply) (said_of known number (length packet) (packet_read packet) reply)
