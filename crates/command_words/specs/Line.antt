-- The command line as clap reads it: its arguments.
use Rattle.std.specs.Prelude.{true, List, [], ◌∷◌, codes}
use Rattle.clap.specs.Words.{App, Rule, new_rule}
use Rattle.word_options.specs.Line.{line_with, option_rule}

-- the positional, which each command has
abbrev pub mode_rule : Rule
mode_rule = record (new_rule (codes "mode")) { required = true }

-- the arguments of the command line: the mode, and five options with a value
abbrev pub the_rules : List Rule
the_rules =
    mode_rule ∷ option_rule (codes "device") ∷ option_rule (codes "variant") ∷ option_rule (codes "pname")
    ∷ option_rule (codes "sequence") ∷ option_rule (codes "number") ∷ []

-- a simple command without subcommands, of which the words begin after the program's name
unfoldable pub command_line : App
command_line = line_with (codes "dapseq") the_rules
