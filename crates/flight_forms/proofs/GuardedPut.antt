-- A guarded command is put into a buffer.
use Rattle.std.proofs.Common.{◌≡◌, ℕ, ◌+◌, ◌-◌, ◌≤◌, ◌<◌, List, [], ◌∷◌, ◌++◌, length, take, drop, slice_set, refl, ap, sym, ◌∙◌, arith, suc, length-append}
use Rattle.std.proofs.lemmas.List.{length-take-le, take-append-le, take_more_set}
use Rattle.dap_messages.specs.declared.request.Request.{Request}
use borrow.Rule.Slice.PartMut.{put_mid, post_of}

-- the first two of a buffer, and what was put after them
abbrev two_put : List Request → ℕ → Request → Request → List Request → List Request
two_put xs k a b ys = put_mid 2 k (slice_set (slice_set xs 0 a) 1 b) ys

front_put : (xs ys : List Request) (k r : ℕ) (a b : Request) → 2 ≤ length xs → r ≤ length ys →
    (take (2 + r) (two_put xs k a b ys) ≡ a ∷ b ∷ take r ys) × (2 + length ys ≤ length (two_put xs k a b ys))
front_put [] ys k r a b two fits = absurd (omega arith)
front_put (x ∷ []) ys k r a b two fits = absurd (omega arith)
front_put (x ∷ y ∷ rest) ys k r a b two fits =
    let more : List Request = post_of 2 k (slice_set (slice_set (x ∷ y ∷ rest) 0 a) 1 b) in
    let count : 2 + r ≡ suc (suc r) = omega arith in (
      ap (λ n. take n (two_put (x ∷ y ∷ rest) k a b ys)) count ∙ ap (λ zs. a ∷ b ∷ zs) (take-append-le r ys more fits),
      (let h = length-append ys more in omega arith),
    )

pub guarded_put : (xs ys : List Request) (k r : ℕ) (a b m : Request) (rs : List Request) → take r ys ≡ rs → r < length ys → 2 ≤ length xs →
    take (2 + r + 1) (slice_set (two_put xs k a b ys) (2 + r) m) ≡ a ∷ b ∷ (rs ++ m ∷ [])
guarded_put xs ys k r a b m rs front room two =
    let put = front_put xs ys k r a b two (omega arith) in
    take_more_set (two_put xs k a b ys) (2 + r) m (let h = put.1 in omega arith)
    ∙ ap (λ zs. zs ++ m ∷ []) (put.0 ∙ ap (λ zs. a ∷ b ∷ zs) front)

-- the length of what is after the first two
pub part_length : (xs : List Request) (a b : Request) →
    length (take (length (slice_set (slice_set xs 0 a) 1 b) - 2) (drop 2 (slice_set (slice_set xs 0 a) 1 b))) ≡ length xs - 2
part_length [] a b = refl
part_length (x ∷ []) a b = refl
part_length (x ∷ y ∷ rest) a b =
    let two : suc (suc (length rest)) - 2 ≡ length rest = omega arith in
    ap (λ n. length (take n rest)) two ∙ length-take-le (length rest) rest (omega arith) ∙ sym two
