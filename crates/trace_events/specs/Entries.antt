-- The lines of a trace that are packets and replies.
use Rattle.std.specs.Prelude.{ℕ, ◌==◌, Bool, true, false, List, [], ◌∷◌, Option, Some, None, Result, Ok, Err, if◌then◌else◌}
use Rattle.hex.specs.Hex.{decode_of}
use Rattle.hex.specs.declared.error.FromHexError.{FromHexError}

-- digits, where they are an even number of hexadecimal digits of either case
abbrev pub bytes_of_digits : Bool → Result (List ℕ) FromHexError → Option (Bool × List ℕ)
bytes_of_digits is_reply (Ok bytes) = Some (is_reply, bytes)
bytes_of_digits is_reply (Err fault) = None

-- what follows the mark: a space, which is 32, and digits
abbrev pub after_mark : Bool → List ℕ → Option (Bool × List ℕ)
after_mark is_reply [] = None
after_mark is_reply (space ∷ digits) = if space == 32 then bytes_of_digits is_reply (decode_of digits) else None

-- The packet or the reply that a line is: after `>`, which is 62, a packet, and after `<`, 60, a reply.
abbrev pub entry_in : List ℕ → Option (Bool × List ℕ)
entry_in [] = None
entry_in (mark ∷ others) = if mark == 62 then after_mark false others else if mark == 60 then after_mark true others else None
