-- The command line that is built is the one of `specs/Line.antt`, and clap can say what it finds in its words.
use Rattle.std.proofs.Common.{◌≡◌, refl, true, codes}
use Rattle.clap.specs.Words.{App, is_simple_and_free, new_app, with_rule}
use Rattle.clap.proofs.OnLiterals.{clap_on_literals}
use Rattle.word_options.specs.Line.{flag_rule, option_rule}
use Rattle.word_options.proofs.LineLemmas.{unnamed}
use Rattle.faults_words.specs.Line.{faults_command_line}

-- the options, one after another
abbrev pub with_device : App
with_device = with_rule (unnamed (new_app (codes "dapseq_faults"))) (option_rule (codes "device"))

abbrev pub with_variant : App
with_variant = with_rule with_device (option_rule (codes "variant"))

abbrev pub with_pname : App
with_pname = with_rule with_variant (option_rule (codes "pname"))

abbrev pub with_format : App
with_format = with_rule with_pname (option_rule (codes "format"))

pub is_whole : with_rule with_format (flag_rule (codes "warnings")) ≡ faults_command_line
unfolding faults_command_line
is_whole = refl

pub is_free : is_simple_and_free faults_command_line ≡ true
unfolding faults_command_line clap_on_literals
is_free = refl
