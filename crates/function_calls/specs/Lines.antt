-- Whole lines, as calls write them.
use Rattle.std.specs.Prelude.{◌≡◌, ℕ, List, [], ◌++◌, codes, Option, Result, Err, ⊤}
use Rattle.std.specs.Io.KnownBytes.{Appends}
use Rattle.function_calls.specs.declared.end.End.{End}
use Rattle.function_calls.specs.declared.end.End.TheVariants as end

-- A text of whole lines: it is empty, or a line feed ends it.
pub data AreWholeLines (text : List ℕ) : Type 0 where
  empty : text ≡ [] → AreWholeLines text
  ended : (front : List ℕ) → text ≡ front ++ codes "\n" → AreWholeLines text

-- What was written is whole lines, where it is known what a sink holds.
pub record AppendsLines (old new : Option (List ℕ)) : Type 0 where
  pub text : List ℕ
  pub whole : AreWholeLines text
  pub appends : Appends old new text

-- Only where the sink failed a part of a line may be written.
abbrev pub WritesLines : {A : Type 0} → Result A End → Option (List ℕ) → Option (List ℕ) → Type 0
WritesLines (Err end.WriteFault) old new = ⊤
WritesLines other old new = AppendsLines old new
