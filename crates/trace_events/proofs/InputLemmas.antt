-- Bytes that are taken in pieces.
use Rattle.std.proofs.Common.{◌≡◌, ◌∙◌, ◌<◌, ◌≤◌, ◌⊎◌, ℕ, zero, suc, ◌+◌, ◌==◌, Bool, true, false, List, [], ◌∷◌, ◌++◌, Option, None, Some, Result, drop, get_or, inl, inr, length, take, refl, sym, ap, subst, arith, true≢false}
use Rattle.std.specs.Prelude.{if◌then◌else◌}
use Rattle.std.proofs.Math.Dec.{eqb-suc-zero}
use Rattle.std.proofs.Math.ListN.{drop_of_length-le}
use Rattle.std.proofs.lemmas.List.{length-take-le}
use Rattle.std.specs.Io.KnownBytes.{Consumes, IsAtEnd}
use Rattle.trace_events.specs.Inputs.{GivesByte, GivesFirstByte, GivesFirstItem, Input, IsFilled, coming}

-- the bytes of a source, of which some were taken
pub rest_of : (left : Option (List ℕ)) (bytes taken : List ℕ) → Consumes (Some bytes) left taken → (rest : List ℕ) × (left ≡ Some rest) × (bytes ≡ taken ++ rest)
rest_of None bytes taken h = absurd h
rest_of (Some rest) bytes taken h = (rest, refl, h)

-- nothing more was taken
pub kept : (i : Input) (left : Option (List ℕ)) → (i.over ≡ true) ⊎ (i.ready ≡ [] → ⊥) → IsFilled i i left left
kept i left (inl over) = record { filled = λ bytes is. (bytes, is, refl, λ none. rw none (rw over refl)) }
kept i left (inr some) = record { filled = λ bytes is. (bytes, is, refl, λ none. absurd (some none)) }

came : (n : ℕ) (buf rest : List ℕ) (over : Bool) → over ≡ (n == 0) → (n ≡ 0 → rest ≡ []) → take n buf ++ (if over then [] else rest) ≡ take n buf ++ rest
came zero buf rest over is end = rw is (sym (end refl))
came (suc m) buf rest over is end = rw (is ∙ eqb-suc-zero m) refl

none : (n : ℕ) (buf rest : List ℕ) (over : Bool) → 0 < length buf → over ≡ (n == 0) → take n buf ≡ [] → take n buf ++ (if over then [] else rest) ≡ []
none zero buf rest over some is empty = rw is refl
none (suc m) [] rest over some is empty = absurd (let bad : ⊥ = omega arith in bad)
none (suc m) (x ∷ xs) rest over some is empty = cc

at_end : (new : Option (List ℕ)) (rest : List ℕ) → new ≡ Some rest → IsAtEnd new → rest ≡ []
at_end new rest is end = subst (λ (o : Option (List ℕ)). IsAtEnd o) is end

-- more bytes were taken
pub filled : (before after : Input) (old new : Option (List ℕ)) (n : ℕ) (buf : List ℕ) → before.ready ≡ [] → before.over ≡ false → after.ready ≡ take n buf → after.over ≡ (n == 0)
    → 0 < length buf → Consumes old new (take n buf) → (n ≡ 0 → 0 < length buf → IsAtEnd new) → IsFilled before after old new
filled before after old new n buf empty more ready over some consumed end = record {
  filled = λ bytes is.
      let rest = rest_of new bytes (take n buf) (subst (λ (o : Option (List ℕ)). Consumes o new (take n buf)) is consumed) in
      let first : coming before bytes ≡ bytes = rw empty (rw more refl) in
      let same : take n buf ++ (if after.over then [] else rest.0) ≡ take n buf ++ rest.0 =
      came n buf rest.0 after.over over (λ zero_is. at_end new rest.0 rest.1 (end zero_is some)) in
      let later : coming after rest.0 ≡ take n buf ++ (if after.over then [] else rest.0) = ap (λ (xs : List ℕ). xs ++ (if after.over then [] else rest.0)) ready in
      (rest.0, rest.1, later ∙ same ∙ sym rest.2 ∙ sym first, λ empty_is. later ∙ none n buf rest.0 after.over some over (sym ready ∙ empty_is));
}

-- the next byte that comes
pub gives : (before mid after : Input) (old new : Option (List ℕ)) (byte : Option ℕ) → IsFilled before mid old new → GivesFirstByte mid byte after → GivesByte before after old new byte
gives before mid after old new None filled ready = record {
  given = λ bytes is.
      let f = filled.filled bytes is in
      let nothing = f.3 ready.0 in
      (f.0, f.1, (sym f.2 ∙ nothing, ap (λ (i : Input). coming i f.0) ready.1 ∙ nothing));
}
gives before mid after old new (Some byte) filled ready = record {
  given = λ bytes is.
      let f = filled.filled bytes is in
      let same : coming mid f.0 ≡ byte ∷ coming after f.0 =
      ap (λ (xs : List ℕ). xs ++ (if mid.over then [] else f.0)) ready.0 ∙ ap (λ (over : Bool). (byte ∷ after.ready) ++ (if over then [] else f.0)) (sym ready.1) in
      (f.0, f.1, sym f.2 ∙ same);
}

-- the first of the bytes of a piece
pub first_of_piece : (buf : List ℕ) (at count : ℕ) → at < count → count ≤ length buf → drop at (take count buf) ≡ get_or buf at 0 ∷ drop (at + 1) (take count buf)
first_of_piece [] at count inside within = absurd (let no : ⊥ = omega arith in no)
first_of_piece (x ∷ xs) zero (suc count) inside within = refl
first_of_piece (x ∷ xs) (suc at) (suc count) inside within =
    let more : suc at + 1 ≡ suc (at + 1) = omega arith in
    rw more (first_of_piece xs at count (omega arith) (omega arith))
first_of_piece (x ∷ xs) zero zero inside within = absurd (let no : ⊥ = omega arith in no)
first_of_piece (x ∷ xs) (suc at) zero inside within = absurd (let no : ⊥ = omega arith in no)

-- nothing is left of a piece
pub end_of_piece : (buf : List ℕ) (at count : ℕ) → at ≡ count → count ≤ length buf → drop at (take count buf) ≡ []
end_of_piece buf at count is within = drop_of_length-le (take count buf) (omega (arith, length-take-le count buf within))

-- something is left of a piece
pub some_of_piece : (buf : List ℕ) (at count : ℕ) → at < count → count ≤ length buf → drop at (take count buf) ≡ [] → ⊥
some_of_piece buf at count inside within empty = let e = first_of_piece buf at count inside within in cc

-- nothing more was taken, of a piece of which something is left, or at the end
pub kept_piece : (i : Input) (left : Option (List ℕ)) (buf : List ℕ) (at count : ℕ) (over : Bool) → i.ready ≡ drop at (take count buf) → i.over ≡ over → count ≤ length buf
    → (at < count) ⊎ (over ≡ true) → IsFilled i i left left
kept_piece i left buf at count over ready over_is within (inl some) = kept i left (inr (λ empty. some_of_piece buf at count some within (sym ready ∙ empty)))
kept_piece i left buf at count over ready over_is within (inr end) = kept i left (inl (over_is ∙ end))
