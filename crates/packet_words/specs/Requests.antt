-- The words of the requests of a transfer or a block, each with what became of it.
use Rattle.std.specs.Prelude.{ℕ, ◌+◌, ◌-◌, ◌*◌, ◌/◌, ◌%◌, ◌==◌, Bool, ◌&&◌, List, [], ◌∷◌, ◌++◌, codes, map, Option, Some, None, option_map, if◌then◌else◌}
use Rattle.dap_messages.specs.declared.request.Request.{Request}
use Rattle.dap_messages.specs.declared.request.RequestKind.{RequestKind}
use Rattle.dap_messages.specs.declared.request.RequestKind.TheVariants.{Posted, Read, Match, Mask, Write}
use Rattle.dap_messages.specs.Requests.{kind, gives_word}
use Rattle.target_machine.specs.Registers.{csw_register, drw_register, bd_bank}
use Rattle.text_lines.specs.Hex.{hex2, hex8}
use Rattle.register_words.specs.declared.known.KnownRegisters.{KnownRegisters}
use Rattle.register_words.specs.declared.known.KnownPort.{KnownPort}
use Rattle.register_words.specs.declared.register.Register.{Register}
use Rattle.register_words.specs.declared.register.Register.TheVariants as at
use Rattle.packet_words.specs.declared.fate.Fate.{Fate}
use Rattle.packet_words.specs.declared.fate.Fate.TheVariants as fates
use Rattle.register_words.specs.Registers.{register_of, register_name}
use Rattle.register_words.specs.Known.{port_at, after_write, after_read, after_match}
use Rattle.register_words.specs.Flags.{ctrl_stat_flags, abort_flags, select_words, csw_words}

-- ---- what became of the requests

-- What a reply says of the requests that are left: whether it was read, how many of them were executed, and the words read.
pub record RequestsLeft : Type 0 where
  pub read : Bool
  pub done : ℕ
  pub words : List ℕ

-- the first of the words
abbrev pub first_read_word : List ℕ → Option ℕ
first_read_word [] = None
first_read_word (word ∷ words) = Some word

-- the words after it
abbrev pub words_after_first : List ℕ → List ℕ
words_after_first [] = []
words_after_first (word ∷ words) = words

-- a normal read that was executed: its word, where it came
abbrev pub fate_of_read : Option ℕ → Fate
fate_of_read None = fates.NoWord
fate_of_read (Some word) = fates.Gave word

-- what became of a request that was executed
abbrev pub executed_fate : Request → List ℕ → Fate
executed_fate r words = if gives_word (kind r) then fate_of_read (first_read_word words) else fates.Done

-- what became of the first request that is left
unfoldable pub fate_of : RequestsLeft → Request → Fate
fate_of left r = if left.read then (if left.done == 0 then fates.Skipped else executed_fate r left.words) else fates.NotKnown

-- the words that are left after it
abbrev pub words_after : RequestsLeft → Request → List ℕ
words_after left r = if left.done == 0 then left.words else if gives_word (kind r) then words_after_first left.words else left.words

-- what a reply says of the requests after this one
unfoldable pub left_after_request : RequestsLeft → Request → RequestsLeft
left_after_request left r = record { read = left.read; done = left.done - 1; words = words_after left r }

-- ---- what is known after a request

-- a request that is no normal read was executed
unfoldable pub after_done : RequestKind → KnownRegisters → Register → ℕ → KnownRegisters
after_done Write known register word = after_write known register word
after_done Match known register word = after_match known register
after_done other known register word = known

-- what is known after a request, by what became of it
unfoldable pub after_request : KnownRegisters → Request → Fate → KnownRegisters
after_request known r (fates.Gave word) = after_read known (register_of known.select r.byte) (Some word)
after_request known r fates.NoWord = after_read known (register_of known.select r.byte) None
after_request known r fates.Done = after_done (kind r) known (register_of known.select r.byte) r.word
after_request known r fates.Skipped = known
after_request known r fates.NotKnown = known

-- ---- the words of one request

-- the mark of what became of it: executed, not executed, or not known
unfoldable pub mark : Fate → List ℕ
mark fates.Done = codes "    "
mark (fates.Gave word) = codes "    "
mark fates.NoWord = codes "    "
mark fates.Skipped = codes "  - "
mark fates.NotKnown = codes "  ? "

-- what is accessed: a register, or the match mask of the probe
unfoldable pub subject : RequestKind → KnownRegisters → ℕ → List ℕ
subject Mask known byte = codes "match mask"
subject Write known byte = register_name (register_of known.select byte)
subject Match known byte = register_name (register_of known.select byte)
subject Posted known byte = register_name (register_of known.select byte)
subject Read known byte = register_name (register_of known.select byte)

-- a normal read, with its word where it came
unfoldable pub read_part : Fate → List ℕ
read_part (fates.Gave word) = codes " -> " ++ hex8 word
read_part fates.NoWord = codes " -> no word"
read_part other = codes " read"

-- what is written, matched or read
unfoldable pub value_part : RequestKind → ℕ → Fate → List ℕ
value_part Write word fate = codes " = " ++ hex8 word
value_part Mask word fate = codes " = " ++ hex8 word
value_part Match word fate = codes " matches " ++ hex8 word
value_part Posted word fate = read_part fate
value_part Read word fate = read_part fate

-- an address, where it is known
unfoldable pub address_words : Option ℕ → List ℕ
address_words None = []
address_words (Some address) = codes " [" ++ hex8 address ++ codes "]"

-- the address of a banked data register: TAR without its low four bits, and 4 for each register
abbrev pub banked_address : ℕ → ℕ → ℕ
banked_address register tar = tar / 16 * 16 + register % 16

-- CSW by its fields, where its value is known
unfoldable pub csw_note : Option ℕ → List ℕ
csw_note None = []
csw_note (Some word) = csw_words word

-- the fields of CSW; the address of an access of DRW or BD0 to BD3, where TAR is known
unfoldable pub port_note : KnownPort → ℕ → Option ℕ → List ℕ
port_note port register value =
    if register == csw_register then csw_note value else
    if register == drw_register then address_words port.tar else
    if register / 16 == bd_bank then address_words (option_map (banked_address register) port.tar) else []

-- what is known of a value of a register
unfoldable pub note : KnownRegisters → Register → Option ℕ → List ℕ
note known at.CtrlStat (Some word) = ctrl_stat_flags word
note known at.Abort (Some word) = abort_flags word
note known at.Select (Some word) = select_words word
note known (at.Ap ap register) value = port_note (port_at known ap) register value
note known other value = []

-- The guard of a chain of commands: a value match of DPIDR with 0, which passes only while the match mask is 0.
unfoldable pub match_note : KnownRegisters → Register → ℕ → List ℕ
match_note known at.Dpidr word = if word == 0 then codes " guard" else []
match_note known register word = note known register (Some word)

-- the same for a request that is no normal read and was executed
unfoldable pub done_note : RequestKind → KnownRegisters → Register → ℕ → List ℕ
done_note Write known register word = note known register (Some word)
done_note Match known register word = match_note known register word
done_note other known register word = []

-- what is known of the value of a request, by what became of it
unfoldable pub request_note : KnownRegisters → Request → Fate → List ℕ
request_note known r (fates.Gave word) = note known (register_of known.select r.byte) (Some word)
request_note known r fates.NoWord = note known (register_of known.select r.byte) None
request_note known r fates.Done = done_note (kind r) known (register_of known.select r.byte) r.word
request_note known r fates.Skipped = codes " not done"
request_note known r fates.NotKnown = []

-- the line of a request of this kind: its mark, its byte, the register, the value, and what is known of it
unfoldable pub line_of_request : RequestKind → KnownRegisters → Request → Fate → List ℕ
line_of_request asks known r fate =
    mark fate ++ hex2 r.byte ++ codes " " ++ subject asks known r.byte ++ value_part asks r.word fate ++ request_note known r fate ++ codes "\n"

-- the line of a request
abbrev pub request_line : KnownRegisters → Request → Fate → List ℕ
request_line known r fate = line_of_request (kind r) known r fate

-- ---- the words of all requests

-- the lines of requests, where this is left of their reply
abbrev pub request_lines : KnownRegisters → RequestsLeft → List Request → List ℕ
request_lines known left [] = []
request_lines known left (r ∷ rs) =
    request_line known r (fate_of left r) ++ request_lines (after_request known r (fate_of left r)) (left_after_request left r) rs

-- what is known of the registers after these requests
abbrev pub after_requests : KnownRegisters → RequestsLeft → List Request → KnownRegisters
after_requests known left [] = known
after_requests known left (r ∷ rs) = after_requests (after_request known r (fate_of left r)) (left_after_request left r) rs
