-- Parts of JSON values.
use Rattle.std.specs.Prelude.{ℕ, List, map, Option, None, Some}
use Rattle.std.specs.Str.Lossy.{utf8_lossy}
use Rattle.serde_json.specs.Data.{Data, null, number, unsigned, string, array}
use Rattle.serde_json.specs.View.{items_of}

-- a number
abbrev pub count : ℕ → Data
count n = number (unsigned n)

-- a list
abbrev pub list : List Data → Data
list ds = array (items_of ds)

-- numbers, in order
abbrev pub counts : List ℕ → Data
counts ns = list (map count ns)

-- a text, or null where there is none
abbrev pub text_or_null : Option (List ℕ) → Data
text_or_null None = null
text_or_null (Some text) = string text

-- bytes of a line as a text, or null where there are none; a character that was cut is U+FFFD
abbrev pub bytes_or_null : Option (List ℕ) → Data
bytes_or_null None = null
bytes_or_null (Some bytes) = string (utf8_lossy bytes)
