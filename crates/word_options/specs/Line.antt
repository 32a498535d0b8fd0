-- Options and flags of a command line, when clap takes its words, and what it finds in them.
use Rattle.std.specs.Prelude.{◌≡◌, true, Bool, false, List, [], Option, None, Some, Result, IfOk, IfErr, codes}
use Rattle.std.specs.Str.{bytes_eq}
use Rattle.clap.specs.Words.{App, Rule, Text, first_of, first_value, found_of, matches_of, new_app, new_rule}
use Rattle.clap.specs.Words.{fault_of}
use Rattle.clap.specs.Simple.{on_top}
use Rattle.clap.specs.declared.builder.action.ArgAction.TheVariants.{SetTrue}
use Rattle.clap.specs.declared.parser.matches.ArgMatches.{ArgMatches}
use Rattle.clap.specs.declared.parser.matches.Found.{Found}
use Rattle.word_options.specs.declared.answer.WordsError.{WordsError}
use Rattle.word_options.specs.declared.answer.WordsError.TheVariants as errors

-- an option of this name, which takes one value
abbrev pub option_rule : Text → Rule
option_rule name = record (new_rule name) { long = Some name }

-- a flag of this name, without a value
abbrev pub flag_rule : Text → Rule
flag_rule name = record (new_rule name) { long = Some name; action = Some SetTrue }

-- a simple command of this name and these arguments, whose words begin after the program's name
abbrev pub line_with : Text → List Rule → App
line_with name rules = on_top (λ s. record s { no_binary_name = true; rules = rules }) (new_app name)

-- clap finds no fault with the words: it refuses them only where memory is refused
unfoldable pub WordsAreTaken : App → List Text → Type 0
WordsAreTaken line words = fault_of line words ≡ []

-- the value that clap finds for the argument of this name
unfoldable pub given_value : App → List Text → Text → Option Text
given_value line words name = first_of name (matches_of line words)

-- what was found is what clap finds in the words
abbrev pub Finds : App → List Text → Found → Type 0
Finds line words found = (name : Text) → first_value found name ≡ given_value line words name

-- a flag that is given has this value
abbrev pub is_set : Option Text → Bool
is_set None = false
is_set (Some value) = bytes_eq value (codes "true")

-- an answer to the words: what clap finds, where it takes them; `Usage` comes only where it does not
pub record HasMatches (line : App) (words : List Text) (result : Result ArgMatches WordsError) : Type 0 where
  pub taken : IfOk result (λ m. WordsAreTaken line words)
  pub values : IfOk result (λ m. Finds line words (found_of m))
  pub usage : IfErr result (λ e. e ≡ errors.Usage → WordsAreTaken line words → ⊥)

-- clap takes the words, and the values that it finds ask for this
pub record WordsAskFor {A : Type 0} (line : App) (IsAskedBy : (Text → Option Text) → A → Type 0) (words : List Text) (asked : A) : Type 0 where
  pub taken : WordsAreTaken line words
  pub found : IsAskedBy (given_value line words) asked
