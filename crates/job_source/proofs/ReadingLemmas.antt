-- What was taken of a source that is read to its end, or one byte too far.
use Rattle.std.proofs.Common.{◌≡◌, ◌∙◌, ℕ, ◌<◌, ◌≤◌, List, [], ◌++◌, length, drop, Option, None, Some, sym, ap, subst, refl, arith, append-nil}
use Rattle.std.proofs.Math.Seq.{drop-append_seam}
use Rattle.std.proofs.lemmas.List.{drop_all, length-append}
use Rattle.std.proofs.KnownBytes.{Consumes-trans}
use Rattle.std.specs.Io.KnownBytes.{Consumes, IsAtEnd}
use Rattle.job_source.specs.Source.{AreBytesOf, AreTaken}

-- what is after the front
drop_front : (n : ℕ) (xs ys : List ℕ) → length xs ≡ n → drop n (xs ++ ys) ≡ ys
drop_front n xs ys e = subst (λ (k : ℕ). drop k (xs ++ ys) ≡ ys) e (drop-append_seam xs ys)

-- a source that was read to its end
taken_whole : (a b : Option (List ℕ)) (bs : List ℕ) → Consumes a b bs → IsAtEnd b → length bs < 16777217 → AreTaken a b
taken_whole None b bs consumed end short = tt
taken_whole (Some xs) None bs consumed end short = absurd consumed
taken_whole (Some xs) (Some ys) bs consumed end short =
    let whole : xs ≡ bs = consumed ∙ ap (λ l. bs ++ l) end ∙ append-nil bs in
    let short_too : length xs ≤ 16777217 = rw whole (omega (arith, short)) in
    ap Some (end ∙ sym (drop_all 16777217 xs short_too))

-- the same by a last read that gave nothing
pub taken_at_end : (a b c : Option (List ℕ)) (bs piece : List ℕ) → Consumes a b bs → Consumes b c piece → piece ≡ [] → IsAtEnd c → length bs < 16777217 → AreTaken a c
taken_at_end a b c bs piece first second nothing end short =
    let all : bs ++ piece ≡ bs = ap (λ (l : List ℕ). bs ++ l) nothing ∙ append-nil bs in
    taken_whole a c bs (subst (λ (l : List ℕ). Consumes a c l) all (Consumes-trans a b c bs piece first second)) end short

-- one that was read one byte too far
pub taken_too_far : (a b : Option (List ℕ)) (bs : List ℕ) → Consumes a b bs → length bs ≡ 16777217 → AreTaken a b
taken_too_far None b bs consumed far = tt
taken_too_far (Some xs) None bs consumed far = absurd consumed
taken_too_far (Some xs) (Some ys) bs consumed far = ap Some (sym (ap (drop 16777217) consumed ∙ drop_front 16777217 bs ys far))

-- there are too many bytes
pub too_long : (a b : Option (List ℕ)) (bs : List ℕ) → Consumes a b bs → 16777216 < length bs → (bytes : List ℕ) × AreBytesOf a bytes × (16777216 < length bytes)
too_long None b bs consumed long = (bs, tt, long)
too_long (Some xs) None bs consumed long = absurd consumed
too_long (Some xs) (Some ys) bs consumed long = (xs, refl, rw consumed (let e = length-append bs ys in omega (arith, e, long)))
