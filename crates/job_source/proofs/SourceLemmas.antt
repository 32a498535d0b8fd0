-- The bytes of a source, and their limit.
use Rattle.std.proofs.Common.{◌≡◌, ◌<◌, ◌≤◌, ℕ, List, [], Option, None, Some, refl, ◌∙◌, arith}
use Rattle.job_source.specs.Source.{AreBytesOf, limit}

pub some_bytes : (left : Option (List ℕ)) → (bytes : List ℕ) × AreBytesOf left bytes
some_bytes None = ([], tt)
some_bytes (Some bytes) = (bytes, refl)

pub same_bytes : (left : Option (List ℕ)) (bytes found : List ℕ) → left ≡ Some bytes → AreBytesOf left found → found ≡ bytes
same_bytes None bytes found is are = absurd (cc)
same_bytes (Some xs) bytes found is are = are ∙ (cc)

pub not_both : (n : ℕ) → limit < n → n ≤ limit → ⊥
not_both n long short = omega (arith, long, short)
