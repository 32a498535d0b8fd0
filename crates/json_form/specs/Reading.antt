-- Reading a JSON value: the value that it stands for, or the first fault with its path.
use Rattle.std.specs.Prelude.{ℕ, suc, ◌&&◌, Bool, true, false, List, [], ◌∷◌, ◌++◌, length, Option, Some, None, Result, Ok, Err, nat_le, if◌then◌else◌}
use Rattle.std.specs.Option.{option_map_or, ok_or}
use Rattle.std.specs.List.{list_any}
use Rattle.std.specs.Str.{bytes_eq}
use Rattle.serde_json.specs.Data.{Data, Items, no_items, item}
use Rattle.serde_json.specs.Find.{get, as_str, as_bool, as_number, as_u64, as_array, as_object}
use Rattle.dap_base.specs.Number.{number_value}
use Rattle.json_form.specs.declared.fault.JobFault.{JobFault}
use Rattle.json_form.specs.declared.fault.JobFault.TheVariants.{Missing, WrongKind, UnknownKey, Repeated, BadNumber, TooMany}
use Rattle.json_form.specs.declared.path.PathStep.TheVariants.{Key, Index}
use Rattle.json_form.specs.Faults.{at}
use Rattle.dap_base.specs.Outcome.{◌>>=◌}
use Rattle.json_form.specs.Names.{names, least_unknown}

-- ---- leaves

-- a JSON text; any other value is `WrongKind`
abbrev pub text : Data → Result (List ℕ) JobFault
text d = ok_or (as_str d) (WrongKind [])

-- `true` or `false`; any other value is `WrongKind`
abbrev pub flag : Data → Result Bool JobFault
flag d = ok_or (as_bool d) (WrongKind [])

-- one of two texts; `true` for the second
unfoldable pub one_of_two : List ℕ → List ℕ → Data → Result Bool JobFault
one_of_two first second d = do
  word ← text d
  if bytes_eq word first then Ok false else (if bytes_eq word second then Ok true else Err (WrongKind []))

-- a JSON number from 0 to 2^64 - 1 without fraction and exponent, or the text of one number token
unfoldable pub any_number : Data → Result ℕ JobFault
any_number d = option_map_or (λ n. ok_or (as_u64 n) (BadNumber [])) (as_number d)
    (option_map_or (λ s. ok_or (number_value s) (BadNumber [])) (as_str d) (Err (WrongKind [])))

-- a number in this range, both ends included; a number outside it is `BadNumber`
unfoldable pub number : ℕ → ℕ → Data → Result ℕ JobFault
number low high d = do
  n ← any_number d
  if nat_le low n && nat_le n high then Ok n else Err (BadNumber [])

-- a number that passes a further test
unfoldable pub such : (ℕ → Bool) → (Data → Result ℕ JobFault) → Data → Result ℕ JobFault
such passes reads d = do
  n ← reads d
  if passes n then Ok n else Err (BadNumber [])

-- ---- objects

-- An object with no other keys than these. The fault is the first other key in byte order.
unfoldable pub only_keys : List (List ℕ) → Data → Result (Unit {0}) JobFault
only_keys known d =
    option_map_or (λ members. option_map_or (λ name. Err (UnknownKey (Key name ∷ []))) (least_unknown known (names members)) (Ok tt)) (as_object d) (Err (WrongKind []))

-- the value of a key that the object has to have; without the key it is `Missing`
unfoldable pub required_value : {A : Type 0} → List ℕ → (Data → Result A JobFault) → Data → Result A JobFault
required_value key reads d = option_map_or (λ v. at (Key key) (reads v)) (get key d) (Err (Missing (Key key ∷ [])))

-- what a key that is there reads as, as the value of a key that may be absent
abbrev pub some_of : {A : Type 0} → Result A JobFault → Result (Option A) JobFault
some_of (Ok x) = Ok (Some x)
some_of (Err fault) = Err fault

-- the value of a key that the object may have, or none
unfoldable pub optional : {A : Type 0} → List ℕ → (Data → Result A JobFault) → Data → Result (Option A) JobFault
optional key reads d = option_map_or (λ v. some_of (at (Key key) (reads v))) (get key d) (Ok None)

-- the value of a key that the object may have, or its default
unfoldable pub or_else : {A : Type 0} → List ℕ → (Data → Result A JobFault) → A → Data → Result A JobFault
or_else key reads other d = option_map_or (λ v. at (Key key) (reads v)) (get key d) (Ok other)

-- ---- lists

-- The next item, wholly, and then whether it is the same as an earlier one.
abbrev pub item_after : {A : Type 0} → (List A → Data → Result A JobFault) → (List A → A → Bool) → List A → Data → Result A JobFault
item_after reads repeats earlier d = do
  x ← at (Index (length earlier)) (reads earlier d)
  if repeats earlier x then Err (Repeated (Index (length earlier) ∷ [])) else Ok x

-- the items after the earlier ones
unfoldable pub items_after : {A : Type 0} → (List A → Data → Result A JobFault) → (List A → A → Bool) → List A → Items → Result (List A) JobFault
items_after reads repeats earlier no_items = Ok earlier
items_after reads repeats earlier (item d rest) = do
  x ← item_after reads repeats earlier d
  items_after reads repeats (earlier ++ x ∷ []) rest

-- the number of items of a list
abbrev pub items_len : Items → ℕ
items_len no_items = 0
items_len (item d rest) = suc (items_len rest)

-- a list with no limit has room for any number of items
abbrev pub has_room : Option ℕ → ℕ → Bool
has_room None n = true
has_room (Some limit) n = nat_le n limit

-- a list of items, each read after the earlier ones; a list over its limit is `TooMany`
unfoldable pub list_of : {A : Type 0} → Option ℕ → (List A → Data → Result A JobFault) → (List A → A → Bool) → Data → Result (List A) JobFault
list_of limit reads repeats d =
    option_map_or (λ items. if has_room limit (items_len items) then items_after reads repeats [] items else Err (TooMany [])) (as_array d) (Err (WrongKind []))

-- ---- how an item is read and compared

-- no item is the same as another
abbrev pub never : {A : Type 0} → List A → A → Bool
never earlier x = false

-- an item that is the same as an earlier one
abbrev pub repeats_by : {A : Type 0} → (A → A → Bool) → List A → A → Bool
repeats_by same earlier x = list_any (λ other. same other x) earlier

-- an item that is read without the earlier ones
abbrev pub alone : {A : Type 0} → (Data → Result A JobFault) → List A → Data → Result A JobFault
alone reads earlier d = reads d
