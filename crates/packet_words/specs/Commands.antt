-- The words of a command, with its reply where there is one.
use Rattle.std.specs.Prelude.{ℕ, ◌+◌, ◌*◌, ◌==◌, Bool, true, false, not, List, [], ◌∷◌, ◌++◌, length, codes, decimal, Option, Some, None, if◌then◌else◌}
use Rattle.dap_base.specs.Bits.{has_bit}
use Rattle.hex.specs.Hex.{encode_lower}
use Rattle.dap_messages.specs.declared.command_value.CommandValue.{CommandValue}
use Rattle.dap_messages.specs.declared.command_value.CommandValue.TheVariants.{Info, Configure, Transfer, WriteBlock, Abort, Delay, Pins, Clock, Line}
use Rattle.dap_messages.specs.declared.request.Request.{Request}
use Rattle.dap_messages.specs.declared.request.Response.{Response}
use Rattle.dap_messages.specs.declared.request.Response.TheVariants.{Good, Wait, Fault, Mismatch}
use Rattle.dap_messages.specs.Commands.{requests_of}
use Rattle.dap_messages.specs.Responses.{response_of}
use Rattle.dap_messages.specs.Words.{words_in}
use Rattle.dap_replies.specs.ReplyReading.{id_byte}
use Rattle.dap_replies.specs.ReplyViews.{Shown}
use Rattle.text_lines.specs.Hex.{hex2, hex8, hex16}
use Rattle.register_words.specs.declared.known.KnownRegisters.{KnownRegisters}
use Rattle.register_words.specs.Known.{nothing_known, after_abort}
use Rattle.register_words.specs.Flags.{abort_flags, pin_names, line_name}
use Rattle.packet_words.specs.Requests.{RequestsLeft, request_lines, after_requests}

-- ---- the words of a reply

-- a transfer response by its name
unfoldable pub response_name : Option Response → List ℕ
response_name (Some Good) = codes " OK"
response_name (Some Wait) = codes " WAIT"
response_name (Some Fault) = codes " FAULT"
response_name (Some Mismatch) = codes " MISMATCH"
response_name None = []

-- how a transfer or a block ended: the response, and how many of its requests were executed
unfoldable pub outcome_words : Option Shown → List ℕ
outcome_words None = []
outcome_words (Some reply) = codes " -> " ++ hex2 reply.response ++ response_name (response_of reply.response) ++ codes " after " ++ decimal reply.count

-- the number that the answer to DAP_Info makes: of one byte after its length, or of two, low byte first
unfoldable pub info_number : List ℕ → ℕ
info_number (size ∷ low ∷ []) = low
info_number (size ∷ low ∷ high ∷ []) = low + 256 * high
info_number bytes = 0

-- the answer to DAP_Info: its bytes, and the number
unfoldable pub info_outcome : Option Shown → List ℕ
info_outcome None = []
info_outcome (Some reply) = codes " -> " ++ encode_lower reply.bytes ++ codes " " ++ decimal (info_number reply.bytes)

-- the first byte
unfoldable pub leading_byte : List ℕ → ℕ
leading_byte [] = 0
leading_byte (byte ∷ bytes) = byte

-- the levels of the pins
unfoldable pub pins_outcome : Option Shown → List ℕ
pins_outcome None = []
pins_outcome (Some reply) = codes " -> " ++ hex2 (leading_byte reply.bytes)

-- ---- the words of a command

-- what DAP_Info asks for
unfoldable pub info_name : ℕ → List ℕ
info_name id = if id == 0xFE then codes " packet count" else codes " packet size"

-- output and select of DAP_SWJ_Pins, with the selected pins by name
unfoldable pub pins_head : ℕ → ℕ → List ℕ
pins_head output select = codes " pins " ++ hex2 output ++ codes " select " ++ hex2 select ++ pin_names select

-- the words after the id of a command
unfoldable pub command_words : CommandValue → Option Shown → List ℕ
command_words (Info id) reply = codes " info " ++ hex2 id ++ info_name id ++ info_outcome reply
command_words (Configure idle retry matches) reply =
    codes " configure idle " ++ decimal idle ++ codes " retry " ++ decimal retry ++ codes " match retry " ++ decimal matches
command_words (Transfer requests) reply = codes " transfer of " ++ decimal (length requests) ++ outcome_words reply
command_words (WriteBlock request words) reply = codes " block of " ++ decimal (length words) ++ outcome_words reply
command_words (Abort word) reply = codes " abort " ++ hex8 word ++ abort_flags word
command_words (Delay time) reply = codes " delay us " ++ decimal time
command_words (Pins output select wait) reply =
    pins_head output select ++ codes " wait us " ++ decimal wait ++ pins_outcome reply
command_words (Clock clock) reply = codes " clock Hz " ++ decimal clock
command_words (Line count bits) reply = codes " line " ++ decimal count ++ codes " bits " ++ hex16 bits ++ line_name count bits

-- the mark of a command: it has a reply, or none that is known
unfoldable pub command_mark : Option Shown → List ℕ
command_mark None = codes "? "
command_mark (Some reply) = codes "  "

-- the line of a command: the mark, the id, the words
unfoldable pub packet_command_line : CommandValue → Option Shown → List ℕ
packet_command_line c reply = command_mark reply ++ hex2 (id_byte c) ++ command_words c reply ++ codes "\n"

-- what a reply says of the requests of its command
unfoldable pub requests_left : Option Shown → RequestsLeft
requests_left None = record { read = false; done = 0; words = [] }
requests_left (Some reply) = record { read = true; done = reply.count; words = words_in reply.bytes }

-- the lines of a command: its own, and one for each of its requests
abbrev pub command_lines : KnownRegisters → CommandValue → Option Shown → List ℕ
command_lines known c reply = packet_command_line c reply ++ request_lines known (requests_left reply) (requests_of c)

-- ---- what is known after a command

-- after a transfer or a block that ended early nothing is known
abbrev pub after_response : KnownRegisters → ℕ → KnownRegisters
after_response known response = if response == 0x01 then known else nothing_known

-- after pins were driven nothing is known
abbrev pub after_pins : KnownRegisters → ℕ → KnownRegisters
after_pins known select = if select == 0 then known else nothing_known

-- What is known after a command whose requests were gone through: after a line sequence nothing is, nor without a reply.
unfoldable pub after_known : KnownRegisters → CommandValue → Option Shown → KnownRegisters
after_known known c None = nothing_known
after_known known (Info id) (Some reply) = known
after_known known (Configure idle retry matches) (Some reply) = known
after_known known (Transfer requests) (Some reply) = after_response known reply.response
after_known known (WriteBlock request words) (Some reply) = after_response known reply.response
after_known known (Abort word) (Some reply) = after_abort known word
after_known known (Delay time) (Some reply) = known
after_known known (Pins output select wait) (Some reply) = after_pins known select
after_known known (Clock clock) (Some reply) = known
after_known known (Line count bits) (Some reply) = nothing_known

-- what is known after a command
abbrev pub after_command : KnownRegisters → CommandValue → Option Shown → KnownRegisters
after_command known c reply = after_known (after_requests known (requests_left reply) (requests_of c)) c reply
