-- The command line that is built is the one of `specs/Line.antt`, and clap can say what it finds in its words.
use Rattle.std.proofs.Common.{◌≡◌, refl, true, codes}
use Rattle.clap.specs.Words.{App, is_simple_and_free, new_app, with_rule}
use Rattle.clap.proofs.OnLiterals.{clap_on_literals}
use Rattle.word_options.specs.Line.{flag_rule, option_rule}
use Rattle.word_options.proofs.LineLemmas.{unnamed}
use Rattle.log_words.specs.Line.{log_command_line}

-- the options, one after another
abbrev pub with_device : App
with_device = with_rule (unnamed (new_app (codes "dapseq_log"))) (option_rule (codes "device"))

abbrev pub with_variant : App
with_variant = with_rule with_device (option_rule (codes "variant"))

abbrev pub with_pname : App
with_pname = with_rule with_variant (option_rule (codes "pname"))

abbrev pub with_sequence : App
with_sequence = with_rule with_pname (option_rule (codes "sequence"))

abbrev pub with_turns : App
with_turns = with_rule with_sequence (option_rule (codes "turns"))

pub is_whole : with_rule with_turns (flag_rule (codes "fail")) ≡ log_command_line
unfolding log_command_line
is_whole = refl

pub is_free : is_simple_and_free log_command_line ≡ true
unfolding log_command_line clap_on_literals
is_free = refl
