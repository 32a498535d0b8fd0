-- The lines of the places so far.
use Rattle.std.proofs.Common.{◌≡◌, ◌∙◌, ◌≤◌, ◌<◌, ℕ, zero, suc, ◌+◌, ◌-◌, List, [], ◌++◌, Option, Result, Err, refl, sym, ap, subst, append_assoc, append-nil, arith}
use Rattle.std.proofs.Math.Numerals.{add-one}
use Rattle.std.proofs.Math.Nat.{add-suc, add-zero}
use Rattle.std.specs.Prelude.{slice_index}
use Rattle.std.specs.Io.KnownBytes.{Appends}
use Rattle.std.proofs.KnownBytes.{Appends-nil, Appends-trans}
use Rattle.dap_base.specs.Streams.{AppendsPrefix}
use Rattle.text_lines.proofs.PutLemmas.{prefix_first, put_after}
use Rattle.trace_compare.specs.declared.compare.CompareEnd.{CompareEnd}
use Rattle.trace_compare.specs.declared.compare.CompareEnd.TheVariants as end
use Rattle.trace_compare.specs.Texts.{count_line, place_count_lines}

-- the line of a place
abbrev line : ℕ → List ℕ → List ℕ → List ℕ
line place xs ys = count_line place (slice_index xs place) (slice_index ys place)

next_line : (place : ℕ) (xs ys : List ℕ) → place_count_lines (suc place) xs ys ≡ place_count_lines place xs ys ++ line place xs ys
unfolding place_count_lines
next_line place xs ys = refl

one_more : (place : ℕ) (xs ys : List ℕ) → place_count_lines (place + 1) xs ys ≡ place_count_lines place xs ys ++ line place xs ys
one_more place xs ys = ap (λ (n : ℕ). place_count_lines n xs ys) (add-one place) ∙ next_line place xs ys

-- no place
pub lines_start : (a : Option (List ℕ)) (xs ys : List ℕ) → Appends a a (place_count_lines 0 xs ys)
unfolding place_count_lines
lines_start a xs ys = Appends-nil a

-- one place more
pub lines_on : (a b c : Option (List ℕ)) (place : ℕ) (xs ys : List ℕ) → Appends a b (place_count_lines place xs ys) → Appends b c (line place xs ys) → Appends a c (place_count_lines (place + 1) xs ys)
lines_on a b c place xs ys before put =
    subst (λ (t : List ℕ). Appends a c t) (sym (one_more place xs ys)) (Appends-trans a b c (place_count_lines place xs ys) (line place xs ys) before put)

-- the lines of the first places are a front of all
front : (k d : ℕ) (xs ys : List ℕ) → (rest : List ℕ) × (place_count_lines (k + d) xs ys ≡ place_count_lines k xs ys ++ rest)
front k zero xs ys = ([], ap (λ (n : ℕ). place_count_lines n xs ys) (add-zero k) ∙ sym (append-nil (place_count_lines k xs ys)))
front k (suc d) xs ys =
    let before = front k d xs ys in (
      before.0 ++ line (k + d) xs ys,
      ap (λ (n : ℕ). place_count_lines n xs ys) (add-suc k d) ∙ next_line (k + d) xs ys ∙ ap (λ (t : List ℕ). t ++ line (k + d) xs ys) before.1
          ∙ append_assoc (place_count_lines k xs ys) before.0 (line (k + d) xs ys),
    )

within : (k n : ℕ) (xs ys : List ℕ) → k ≤ n → (rest : List ℕ) × (place_count_lines n xs ys ≡ place_count_lines k xs ys ++ rest)
within k n xs ys le =
    let f = front k (n - k) xs ys in
    let same : n ≡ k + (n - k) = omega arith in
    (f.0, ap (λ (m : ℕ). place_count_lines m xs ys) same ∙ f.1)

abbrev cut : Result (Unit {0}) CompareEnd
cut = Err end.OutOfMemory

-- a part of the line of a place
pub lines_cut : (a b c : Option (List ℕ)) (place n : ℕ) (xs ys : List ℕ) → place < n → Appends a b (place_count_lines place xs ys) → AppendsPrefix b c (line place xs ys) → AppendsPrefix a c (place_count_lines n xs ys)
lines_cut a b c place n xs ys below before part =
    let all = within (place + 1) n xs ys (omega arith) in
    subst (λ (t : List ℕ). AppendsPrefix a c t) (sym all.1)
    (prefix_first a c (place_count_lines (place + 1) xs ys) all.0
    (subst (λ (t : List ℕ). AppendsPrefix a c t) (sym (one_more place xs ys)) (put_after a b c cut (place_count_lines place xs ys) (line place xs ys) before part)))
