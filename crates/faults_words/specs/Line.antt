-- The command line as clap reads it: its arguments.
use Rattle.std.specs.Prelude.{List, [], ◌∷◌, codes}
use Rattle.clap.specs.Words.{App, Rule}
use Rattle.word_options.specs.Line.{flag_rule, line_with, option_rule}

-- the arguments of the command line: four options with a value, and the flag `--warnings`
abbrev pub faults_rules : List Rule
faults_rules =
    option_rule (codes "device") ∷ option_rule (codes "variant") ∷ option_rule (codes "pname") ∷ option_rule (codes "format")
    ∷ flag_rule (codes "warnings") ∷ []

-- a simple command without subcommands, of which the words begin after the program's name
unfoldable pub faults_command_line : App
faults_command_line = line_with (codes "dapseq_faults") faults_rules
