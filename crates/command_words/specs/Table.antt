-- The modes with their options, and which command the words are.
use Rattle.std.specs.Prelude.{◌≡◌, ℕ, ◌^◌, ◌<◌, ◌≤◌, List, length, Option, Some, None, codes}
use Rattle.std.specs.Str.Parse.{IsNumeral, digits_value}
use Rattle.command_words.specs.declared.answer.Command.{Command}
use Rattle.command_words.specs.declared.answer.Command.TheVariants.{Check, Run, Trace, Load, Scan, Gen, Audit}
use Rattle.sequence_resolve.specs.declared.selection.Selection.{Selection}
use Rattle.command_words.specs.declared.mode.Mode.{Mode}
use Rattle.command_words.specs.declared.mode.Mode.TheVariants as mode
use Rattle.command_words.specs.declared.options.Options.{Options}
use Rattle.word_options.specs.Line.{WordsAskFor}
use Rattle.command_words.specs.Line.{command_line}

-- one to five decimal digits, which write n, of at most 65,535
pub record IsShortNumber (text : List ℕ) (n : ℕ) : Type 0 where
  pub digits : IsNumeral 10 text
  pub five : length text ≤ 5
  pub value : digits_value 10 text ≡ n
  pub bits : n < 2 ^ 16

-- the name of a mode
abbrev pub mode_text : Mode → List ℕ
mode_text mode.Check = codes "check"
mode_text mode.Run = codes "run"
mode_text mode.Trace = codes "trace"
mode_text mode.Load = codes "load"
mode_text mode.Scan = codes "scan"
mode_text mode.Gen = codes "gen"
mode_text mode.Audit = codes "audit"

-- a device, its variant and its processor where they are given, and a sequence or none
abbrev pub for_device : Selection → Option (List ℕ) → Options
for_device s sequence = record { device = Some s.device; variant = s.variant; pname = s.pname; sequence = sequence; number = None }

-- a device and a sequence, and a number or none
abbrev pub for_port : Selection → List ℕ → Option (List ℕ) → Options
for_port s sequence number = record { device = Some s.device; variant = s.variant; pname = s.pname; sequence = Some sequence; number = number }

-- the number of an access port, of at most 255; 0 where none is given
abbrev pub IsPort : Option (List ℕ) → ℕ → Type 0
IsPort None ap = ap ≡ 0
IsPort (Some text) ap = IsShortNumber text ap × (ap < 2 ^ 8)

-- a device and a sequence, and the number of an access port
abbrev pub IsForPort : Options → Selection → List ℕ → ℕ → Type 0
IsForPort options s sequence ap = IsPort options.number ap × (options ≡ for_port s sequence options.number)

-- a number alone
abbrev pub for_number : List ℕ → Options
for_number text = record { device = None; variant = None; pname = None; sequence = None; number = Some text }

-- no option
abbrev pub no_options : Options
no_options = record { device = None; variant = None; pname = None; sequence = None; number = None }

-- the table: the command that a mode makes with these options
abbrev pub IsRow : List ℕ → Options → Command → Type 0
IsRow m options (Check s) = (m ≡ codes "check") × (options ≡ for_device s None)
IsRow m options (Run s sequence) = (m ≡ codes "run") × (options ≡ for_device s (Some sequence))
IsRow m options (Trace s sequence) = (m ≡ codes "trace") × (options ≡ for_device s (Some sequence))
IsRow m options (Load s sequence) = (m ≡ codes "load") × (options ≡ for_device s (Some sequence))
IsRow m options (Scan s sequence ap) = (m ≡ codes "scan") × IsForPort options s sequence ap
IsRow m options (Gen n) = (m ≡ codes "gen") × (text : List ℕ) × IsShortNumber text n × (options ≡ for_number text)
IsRow m options Audit = (m ≡ codes "audit") × (options ≡ no_options)

-- the options, by the value of each name
abbrev pub options_by : (List ℕ → Option (List ℕ)) → Options
options_by value = record {
  device = value (codes "device");
  variant = value (codes "variant");
  pname = value (codes "pname");
  sequence = value (codes "sequence");
  number = value (codes "number");
}

-- a mode is found, and it makes this command with the options that are found
pub record IsCommandBy (value : List ℕ → Option (List ℕ)) (c : Command) : Type 0 where
  pub mode : List ℕ
  pub found : value (codes "mode") ≡ Some mode
  pub row : IsRow mode (options_by value) c

-- clap takes the words, and the mode and the options that it finds are a row of the table
abbrev pub WordsAreCommand : List (List ℕ) → Command → Type 0
WordsAreCommand = WordsAskFor command_line IsCommandBy
