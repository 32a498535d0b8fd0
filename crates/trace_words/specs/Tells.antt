-- What a call of `tell` answers.
use Rattle.std.specs.Prelude.{◌≡◌, ℕ, List}
use Rattle.trace_words.specs.Telling.{Telling, Spoken}

-- this is the text, and this is kept after it
pub record Tells (told : Spoken) (text : List ℕ) (telling : Telling) : Type 0 where
  pub text_is : text ≡ told.text
  pub telling_is : telling ≡ told.telling
