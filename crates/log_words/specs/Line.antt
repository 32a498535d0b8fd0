-- The command line as clap reads it: its arguments.
use Rattle.std.specs.Prelude.{List, [], ◌∷◌, codes}
use Rattle.clap.specs.Words.{App, Rule}
use Rattle.word_options.specs.Line.{flag_rule, line_with, option_rule}

-- the arguments of the command line: five options with a value, and the flag `--fail`
abbrev pub log_rules : List Rule
log_rules =
    option_rule (codes "device") ∷ option_rule (codes "variant") ∷ option_rule (codes "pname") ∷ option_rule (codes "sequence")
    ∷ option_rule (codes "turns") ∷ flag_rule (codes "fail") ∷ []

-- a simple command without subcommands, of which the words begin after the program's name
unfoldable pub log_command_line : App
log_command_line = line_with (codes "dapseq_log") log_rules
