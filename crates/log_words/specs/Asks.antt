-- What words ask for.
use Rattle.std.specs.Prelude.{◌≡◌, ℕ, ◌≤◌, List, length, Option, Some, None, codes}
use Rattle.std.specs.Str.Parse.{IsNumeral, digits_value}
use Rattle.log_words.specs.declared.answer.LogCommand.{LogCommand}
use Rattle.word_options.specs.Line.{WordsAskFor, is_set}
use Rattle.log_words.specs.Line.{log_command_line}

-- one to seven decimal digits, which write n, of at most 1,000,000
pub record IsTurnsText (text : List ℕ) (n : ℕ) : Type 0 where
  pub digits : IsNumeral 10 text
  pub seven : length text ≤ 7
  pub value : digits_value 10 text ≡ n
  pub most : n ≤ 1000000

-- how many turns are shown; two where no number is given
abbrev pub IsTurns : Option (List ℕ) → ℕ → Type 0
IsTurns None n = n ≡ 2
IsTurns (Some text) n = IsTurnsText text n

-- what the values of the options ask for, by the value of each name
pub record IsLogRequest (value : List ℕ → Option (List ℕ)) (a : LogCommand) : Type 0 where
  pub device : value (codes "device") ≡ Some a.selection.device
  pub variant : a.selection.variant ≡ value (codes "variant")
  pub pname : a.selection.pname ≡ value (codes "pname")
  pub sequence : value (codes "sequence") ≡ Some a.sequence
  pub turns : IsTurns (value (codes "turns")) a.turns
  pub fail : a.fail ≡ is_set (value (codes "fail"))

-- clap takes the words, and finds these values in them
abbrev pub WordsAskForLog : List (List ℕ) → LogCommand → Type 0
WordsAskForLog = WordsAskFor log_command_line IsLogRequest
