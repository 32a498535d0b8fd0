-- The text of an entry: `> ` or `< ` and the digits of its bytes.
use Rattle.std.specs.Prelude.{◌≡◌, ℕ, ◌≤◌, ◌%◌, ◌==◌, ◌&&◌, ◌||◌, nat_le, Bool, true, false, List, [], ◌∷◌, ◌++◌, length, codes, Ok, ⊤}
use Rattle.std.specs.List.{list_all}
use Rattle.hex.specs.Hex.{decode_of, is_hex_digit}
use Rattle.probe_core.specs.Log.{Entry}

-- a reply comes from the probe, and a packet goes to it
abbrev pub entry_mark : Bool → List ℕ
entry_mark true = codes "< "
entry_mark false = codes "> "

-- The text is that of the entry: after the mark an even number of hexadecimal digits of either case, at most 2,048, which are its
-- bytes.
pub record IsEntryText (text : List ℕ) (entry : Entry) : Type 0 where
  pub digits : List ℕ
  pub parts : text ≡ entry_mark entry.is_reply ++ digits
  pub few : length digits ≤ 2048
  pub bytes : decode_of digits ≡ Ok entry.bytes

-- the text is that of an entry
abbrev pub IsEntry : List ℕ → Type 0
IsEntry text = (entry : Entry) × IsEntryText text entry

-- the texts are those of these entries, one by one
abbrev pub AreEntriesOf : List (List ℕ) → List Entry → Type 0
AreEntriesOf [] [] = ⊤
AreEntriesOf (text ∷ texts) (entry ∷ entries) = IsEntryText text entry × AreEntriesOf texts entries
AreEntriesOf [] (entry ∷ entries) = ⊥
AreEntriesOf (text ∷ texts) [] = ⊥

-- the text begins as that of an entry
pub record IsMarked (text : List ℕ) : Type 0 where
  pub is_reply : Bool
  pub digits : List ℕ
  pub parts : text ≡ entry_mark is_reply ++ digits

-- an even number of hexadecimal digits of either case, at most 2,048
abbrev pub are_digits : List ℕ → Bool
are_digits digits = nat_le (length digits) 2048 && (length digits % 2 == 0) && list_all is_hex_digit digits

-- whether a text is that of an entry: `<`, which is 60, or `>`, 62, then a space, 32, and then digits
abbrev pub is_entry_text : List ℕ → Bool
is_entry_text (mark ∷ space ∷ digits) = (mark == 60 || mark == 62) && (space == 32) && are_digits digits
is_entry_text other = false
