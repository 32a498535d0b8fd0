-- The lines of a comparison.
use Rattle.std.specs.Prelude.{ℕ, zero, suc, ◌/◌, ◌%◌, ◌==◌, ◌&&◌, List, [], ◌++◌, codes, decimal, Option, Some, None, if◌then◌else◌, slice_index}
use Rattle.register_words.specs.Accesses.{register_at}
use Rattle.register_words.specs.Registers.{register_name}
use Rattle.trace_compare.specs.declared.exchange.Exchange.{Exchange}

-- ---- exchanges

-- all of so many exchanges are the same
unfoldable pub alike_text : ℕ → List ℕ
alike_text number = codes "exchanges alike: " ++ decimal number ++ codes "\n"

-- a line with the number of an exchange, and its words
unfoldable pub exchange_text : Exchange → List ℕ → List ℕ
exchange_text x what = codes "exchange " ++ decimal x.number ++ what ++ x.words

-- the exchanges of the trace and of the file, after so many that are the same
abbrev pub two_text : ℕ → Option Exchange → Option Exchange → List ℕ
two_text last None None = alike_text last
two_text last (Some x) None = exchange_text x (codes " is in the trace alone\n")
two_text last None (Some y) = exchange_text y (codes " is in the file alone\n")
two_text last (Some x) (Some y) = exchange_text x (codes " differs\n") ++ codes "against\n" ++ y.words

-- ---- numbers of both

-- a number of the trace, and that of the other
unfoldable pub against : ℕ → ℕ → List ℕ
against x y = codes " " ++ decimal x ++ codes " against " ++ decimal y ++ codes "\n"

-- how many packets and replies are none, where there is any
unfoldable pub wrong_line : ℕ → ℕ → List ℕ
wrong_line x y = if (x == 0) && (y == 0) then [] else codes "no packet or reply" ++ against x y

-- reads and writes
abbrev pub access_name : ℕ → List ℕ
access_name place = if place % 2 == 0 then codes " reads" else codes " writes"

-- how many accesses there are of a place, where the numbers differ
unfoldable pub count_line : ℕ → ℕ → ℕ → List ℕ
count_line place x y = if x == y then [] else register_name (register_at (place / 2)) ++ access_name place ++ against x y

-- the lines of all places below this one
unfoldable pub place_count_lines : ℕ → List ℕ → List ℕ → List ℕ
place_count_lines zero xs ys = []
place_count_lines (suc place) xs ys = place_count_lines place xs ys ++ count_line place (slice_index xs place) (slice_index ys place)
