-- The comparison of two traces.
use Rattle.std.specs.Prelude.{ℕ, ◌==◌, ◌&&◌, Bool, true, false, List, [], ◌∷◌, ◌++◌, Option, Some, None, if◌then◌else◌}
use Rattle.trace_compare.specs.declared.exchange.Exchange.{Exchange}
use Rattle.trace_compare.specs.Coming.{Contents, contents}
use Rattle.trace_compare.specs.Counting.{Counting}
use Rattle.trace_compare.specs.Exchanges.{is_same}
use Rattle.trace_compare.specs.Texts.{place_count_lines, two_text, wrong_line}

-- ---- exchanges, two by two

-- the number of two exchanges, where both are there and the same
abbrev pub same_exchange_number : Option Exchange → Option Exchange → Option ℕ
same_exchange_number (Some x) (Some y) = if is_same x y then Some x.number else None
same_exchange_number None y = None
same_exchange_number (Some x) None = None

-- whether neither is there
abbrev pub are_both_absent : Option Exchange → Option Exchange → Bool
are_both_absent None None = true
are_both_absent (Some x) y = false
are_both_absent None (Some y) = false

-- the first exchanges that are not the same, after one of this number
abbrev pub exchange_difference : ℕ → List Exchange → List Exchange → List ℕ
exchange_difference last [] [] = two_text last None None
exchange_difference last (x ∷ xs) [] = two_text last (Some x) None
exchange_difference last [] (y ∷ ys) = two_text last None (Some y)
exchange_difference last (x ∷ xs) (y ∷ ys) = if is_same x y then exchange_difference x.number xs ys else two_text last (Some x) (Some y)

-- whether all are the same, and as many
abbrev pub are_same : List Exchange → List Exchange → Bool
are_same [] [] = true
are_same (x ∷ xs) [] = false
are_same [] (y ∷ ys) = false
are_same (x ∷ xs) (y ∷ ys) = is_same x y && are_same xs ys

-- ---- what is counted

-- the lines of what is counted
abbrev pub summary : Counting → Counting → List ℕ
summary x y = wrong_line x.wrong y.wrong ++ place_count_lines 32800 x.counts y.counts

-- whether each packet and reply is one
abbrev pub is_right : Counting → Bool
is_right x = x.wrong == 0

-- ---- all of both

-- the text of a comparison
abbrev pub comparison : Contents → Contents → List ℕ
comparison a b = exchange_difference 0 a.exchanges b.exchanges ++ summary a.counting b.counting

-- whether the exchanges are the same, and each packet and reply is one
abbrev pub is_alike : Contents → Contents → Bool
is_alike a b = are_same a.exchanges b.exchanges && is_right a.counting && is_right b.counting

-- what is written for the bytes of a trace, and of the one that it is compared with
abbrev pub words_against : List ℕ → List ℕ → List ℕ
words_against bytes others = comparison (contents bytes) (contents others)

-- whether they are alike
abbrev pub are_alike : List ℕ → List ℕ → Bool
are_alike bytes others = is_alike (contents bytes) (contents others)
