-- A text, line by line.
use Rattle.std.proofs.Common.{◌≡◌, ◌∙◌, ℕ, zero, suc, ◌+◌, ◌-◌, ◌<◌, ◌≤◌, true, false, List, [], ◌∷◌, length, length-drop, take, drop, Result, Ok, Err, refl, sym, ap, subst, arith}
use Rattle.std.proofs.lemmas.List.{length-take}
use Rattle.hex_image.specs.Image.{Bytes, Reading, at_end, image, line_then, read_on, with_line}
use Rattle.hex_image.specs.Reads.{IsFault, IsImage, IsRead}
use Rattle.hex_image.specs.Records.{Line, content_of, lines_of, without_return}
use Rattle.hex_image.specs.declared.fault.ImageFault.{ImageFault}
use Rattle.hex_image.specs.declared.fault.ImageKind.{ImageKind}
use Rattle.hex_image.specs.declared.reading.LineFault.{LineFault}
use Rattle.hex_image.specs.declared.reading.LineFault.TheVariants as line
use Rattle.hex_image.proofs.SplitLemmas.{fronted, fronted_open}

-- a line that was read
pub line_ok : (text : List ℕ) (r new : Reading) (lines : ℕ) (p : Line) (more : List Line) (l : List ℕ) → image text ≡ read_on r lines (p ∷ more) → content_of p ≡ l → with_line r l ≡ Ok new
    → image text ≡ read_on new (lines + 1) more
line_ok text r new lines p more l h same is =
    h ∙ ap (λ (x : List ℕ). line_then (with_line r x) (λ next. read_on next (lines + 1) more) (lines + 1)) same
    ∙ ap (λ (x : Result Reading ImageKind). line_then x (λ next. read_on next (lines + 1) more) (lines + 1)) is

-- a line with a fault
pub line_err : (text : List ℕ) (r new : Reading) (lines : ℕ) (p : Line) (more : List Line) (l : List ℕ) (f : LineFault) (g : ImageFault) (answer : Result (Unit {0}) LineFault)
    → image text ≡ read_on r lines (p ∷ more) → content_of p ≡ l → IsRead answer (with_line r l) new → answer ≡ Err f → IsFault f (lines + 1) g → IsImage (Err g) (image text)
line_err text r new lines p more l f g answer h same read is g_is = by_fault f (subst (λ (a : Result (Unit {0}) LineFault). IsRead a (with_line r l) new) is read) g_is
  where
    by_fault : (f : LineFault) → IsRead (Err f) (with_line r l) new → IsFault f (lines + 1) g → IsImage (Err g) (image text)
    by_fault (line.Kind k) meant at = subst (λ (x : ImageFault). IsImage (Err x) (image text)) (sym at)
        (h ∙ ap (λ (x : List ℕ). line_then (with_line r x) (λ next. read_on next (lines + 1) more) (lines + 1)) same
        ∙ ap (λ (x : Result Reading ImageKind). line_then x (λ next. read_on next (lines + 1) more) (lines + 1)) meant)
    by_fault line.OutOfMemory meant at = subst (λ (x : ImageFault). IsImage (Err x) (image text)) (sym at) tt

-- the same of a line that its line feed ends
pub closed_ok : (text : List ℕ) (r new : Reading) (lines : ℕ) (xs : List ℕ) (more : List Line) (l : List ℕ) → image text ≡ read_on r lines (record { bytes = xs; is_closed = true } ∷ more) → l ≡ without_return xs → with_line r l ≡ Ok new
    → image text ≡ read_on new (lines + 1) more
closed_ok text r new lines xs more l h same is = line_ok text r new lines (record { bytes = xs; is_closed = true }) more l h (sym same) is

pub closed_err : (text : List ℕ) (r new : Reading) (lines : ℕ) (xs : List ℕ) (more : List Line) (l : List ℕ) (f : LineFault) (g : ImageFault) (answer : Result (Unit {0}) LineFault)
    → image text ≡ read_on r lines (record { bytes = xs; is_closed = true } ∷ more) → l ≡ without_return xs → IsRead answer (with_line r l) new → answer ≡ Err f → IsFault f (lines + 1) g → IsImage (Err g) (image text)
closed_err text r new lines xs more l f g answer h same read is at = line_err text r new lines (record { bytes = xs; is_closed = true }) more l f g answer h (sym same) read is at

-- the same of a last line
pub open_ok : (text : List ℕ) (r new : Reading) (lines : ℕ) (xs : List ℕ) → image text ≡ read_on r lines (record { bytes = xs; is_closed = false } ∷ []) → with_line r xs ≡ Ok new → image text ≡ read_on new (lines + 1) []
open_ok text r new lines xs h is = line_ok text r new lines (record { bytes = xs; is_closed = false }) [] xs h refl is

pub open_err : (text : List ℕ) (r new : Reading) (lines : ℕ) (xs : List ℕ) (f : LineFault) (g : ImageFault) (answer : Result (Unit {0}) LineFault)
    → image text ≡ read_on r lines (record { bytes = xs; is_closed = false } ∷ []) → IsRead answer (with_line r xs) new → answer ≡ Err f → IsFault f (lines + 1) g → IsImage (Err g) (image text)
open_err text r new lines xs f g answer h read is at = line_err text r new lines (record { bytes = xs; is_closed = false }) [] xs f g answer h refl read is at

-- no line is left
pub no_more : (text : List ℕ) (r : Reading) (lines : ℕ) (answer : Result Bytes ImageFault) → image text ≡ read_on r lines [] → IsImage answer (at_end r lines) → IsImage answer (image text)
no_more text r lines answer h is = subst (IsImage answer) (sym h) is

-- ---- after the last line feed

open_of : (xs : List ℕ) → 0 < length xs → fronted xs [] ≡ record { bytes = xs; is_closed = false } ∷ []
open_of [] some = absurd (omega (arith, some))
open_of (x ∷ xs) some = fronted_open x xs

nothing_left : (t : List ℕ) (n : ℕ) → length t ≤ n → drop n t ≡ []
nothing_left [] zero le = refl
nothing_left [] (suc n) le = refl
nothing_left (x ∷ t) zero le = absurd (omega (arith, le))
nothing_left (x ∷ t) (suc n) le = nothing_left t n (omega (arith, le))

-- a last line without a line feed
pub last_open : (t : List ℕ) (s e : ℕ) → length t ≤ e → e ≤ length t → s < length t
    → fronted (take (e - s) (drop s t)) (lines_of (drop e t)) ≡ record { bytes = take (length t - s) (drop s t); is_closed = false } ∷ []
last_open t s e low high less =
    let same : e ≡ length t = omega (arith, low, high) in
    let long : length (take (length t - s) (drop s t)) ≡ length t - s = (let a = length-take (length t - s) (drop s t) in let b = length-drop s t in omega (arith, a, b)) in
    ap (λ (l : List ℕ). fronted (take (e - s) (drop s t)) (lines_of l)) (nothing_left t e low)
    ∙ ap (λ (k : ℕ). fronted (take (k - s) (drop s t)) []) same
    ∙ open_of (take (length t - s) (drop s t)) (omega (arith, long, less))

-- none
pub last_none : (t : List ℕ) (s e : ℕ) → length t ≤ e → e ≤ s → fronted (take (e - s) (drop s t)) (lines_of (drop e t)) ≡ []
last_none t s e low past =
    ap (λ (l : List ℕ). fronted (take (e - s) (drop s t)) (lines_of l)) (nothing_left t e low)
    ∙ ap (λ (k : ℕ). fronted (take k (drop s t)) []) {y = 0} (omega (arith, past))
