-- What words ask for.
use Rattle.std.specs.Prelude.{◌≡◌, ℕ, List, Option, Some, None, codes}
use Rattle.faults_words.specs.declared.answer.FaultsCommand.{FaultsCommand}
use Rattle.faults_words.specs.declared.format.Format.{Format}
use Rattle.faults_words.specs.declared.format.Format.TheVariants as formats
use Rattle.word_options.specs.Line.{WordsAskFor, is_set}
use Rattle.faults_words.specs.Line.{faults_command_line}

-- the name of a format
abbrev pub format_text : Format → List ℕ
format_text formats.Text = codes "text"
format_text formats.Json = codes "json"
format_text formats.Sarif = codes "sarif"

-- the format of this name; that of lines where none is given
abbrev pub IsFormat : Option (List ℕ) → Format → Type 0
IsFormat None format = format ≡ formats.Text
IsFormat (Some name) format = name ≡ format_text format

-- what the values of the options ask for, by the value of each name
pub record IsFaultsRequest (value : List ℕ → Option (List ℕ)) (a : FaultsCommand) : Type 0 where
  pub device : a.device ≡ value (codes "device")
  pub variant : a.variant ≡ value (codes "variant")
  pub pname : a.pname ≡ value (codes "pname")
  pub format : IsFormat (value (codes "format")) a.format
  pub warnings : a.warnings ≡ is_set (value (codes "warnings"))

-- clap takes the words, and finds these values in them
abbrev pub WordsAskForFaults : List (List ℕ) → FaultsCommand → Type 0
WordsAskForFaults = WordsAskFor faults_command_line IsFaultsRequest
