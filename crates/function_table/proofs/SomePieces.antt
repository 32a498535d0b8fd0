-- A text is a format, or it is none.
use Rattle.std.proofs.Common.{◌≡◌, ◌⊎◌, inl, inr, ℕ, zero, suc, ◌≤◌, List, [], ◌∷◌, length, Option, Some, None, subst, refl, arith}
use Rattle.function_table.specs.declared.format.FormatPiece.{FormatPiece}
use Rattle.function_table.specs.Format.{BeginsWith, AreFormatPieces}
use Rattle.function_table.specs.Front.{front_of}
use Rattle.function_table.proofs.Fronts.{front_reads, front_found, one_front}
use Rattle.function_table.proofs.Counting.{shorter}

-- the pieces of the text, or that it has none
abbrev pub Divided : List ℕ → Type 0
Divided text = ((ps : List FormatPiece) × AreFormatPieces ps text) ⊎ ((ps : List FormatPiece) → AreFormatPieces ps text → ⊥)

module _ (b : ℕ) (bs : List ℕ) where
  -- nothing stands at the front
  nothing : front_of (b ∷ bs) ≡ None → (ps : List FormatPiece) → AreFormatPieces ps (b ∷ bs) → ⊥
  nothing none [] are = absurd cc
  nothing none (p ∷ ps) are = let found = front_reads p (b ∷ bs) are.0 are.1 in absurd cc

  -- a piece does, but the rest is no format
  no_rest : (p : FormatPiece) (rest : List ℕ) → BeginsWith p (b ∷ bs) rest → ((ps : List FormatPiece) → AreFormatPieces ps rest → ⊥) → (ps : List FormatPiece) → AreFormatPieces ps (b ∷ bs) → ⊥
  no_rest p rest begins none [] are = absurd cc
  no_rest p rest begins none (q ∷ qs) are = none qs (subst (AreFormatPieces qs) (one_front q p (b ∷ bs) are.0 rest are.1 begins).1 are.2)

  by_front : (o : Option (FormatPiece × List ℕ)) → front_of (b ∷ bs) ≡ o → ((p : FormatPiece) (rest : List ℕ) → BeginsWith p (b ∷ bs) rest → Divided rest) → Divided (b ∷ bs)
  by_front None is later = inr (nothing is)
  by_front (Some f) is later =
      let begins = front_found (b ∷ bs) f.0 f.1 is in
      elim (later f.0 f.1 begins) [ inl d ↦ inl (f.0 ∷ d.0, (f.1, begins, d.1)) | inr none ↦ inr (no_rest f.0 f.1 begins none) ]

divided_within : (fuel : ℕ) (text : List ℕ) → length text ≤ fuel → Divided text
divided_within fuel [] enough = inl ([], refl)
divided_within zero (b ∷ bs) enough = absurd (omega (arith, enough))
divided_within (suc fuel) (b ∷ bs) enough = by_front b bs (front_of (b ∷ bs)) refl (λ p rest begins. divided_within fuel rest (omega (arith, shorter p (b ∷ bs) rest begins, enough)))

pub divided : (text : List ℕ) → Divided text
divided text = divided_within (length text) text (omega arith)
