-- The command line that is built is the one of `specs/Line.antt`, and clap can say what it finds in its words.
use Rattle.std.proofs.Common.{◌≡◌, refl, true, codes}
use Rattle.clap.specs.Words.{App, is_simple_and_free, new_app, with_rule}
use Rattle.clap.proofs.OnLiterals.{clap_on_literals}
use Rattle.word_options.specs.Line.{option_rule}
use Rattle.word_options.proofs.LineLemmas.{unnamed}
use Rattle.command_words.specs.Line.{command_line, mode_rule}

-- the mode and then the options, one after another
abbrev pub with_mode : App
with_mode = with_rule (unnamed (new_app (codes "dapseq"))) mode_rule

abbrev pub with_device : App
with_device = with_rule with_mode (option_rule (codes "device"))

abbrev pub with_variant : App
with_variant = with_rule with_device (option_rule (codes "variant"))

abbrev pub with_pname : App
with_pname = with_rule with_variant (option_rule (codes "pname"))

abbrev pub with_sequence : App
with_sequence = with_rule with_pname (option_rule (codes "sequence"))

pub is_whole : with_rule with_sequence (option_rule (codes "number")) ≡ command_line
unfolding command_line
is_whole = refl

pub is_free : is_simple_and_free command_line ≡ true
unfolding command_line clap_on_literals
is_free = refl
