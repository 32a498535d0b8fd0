-- What is taken of a source that is read as a job.
use Rattle.std.specs.Prelude.{◌≡◌, ℕ, List, drop, Option, Some, IfSome}

-- the most bytes of a job
abbrev pub limit : ℕ
limit = 16777216

-- the bytes of a source: where it is observable, those that are left
abbrev pub AreBytesOf : Option (List ℕ) → List ℕ → Type 0
AreBytesOf left bytes = IfSome left (λ xs. bytes ≡ xs)

-- all bytes of a source were taken, or the first 16,777,217 of them where it has more
abbrev pub AreTaken : Option (List ℕ) → Option (List ℕ) → Type 0
AreTaken old new = IfSome old (λ bytes. new ≡ Some (drop 16777217 bytes))
