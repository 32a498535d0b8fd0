use Rattle.std.proofs.Common.{◌∙◌, ap}
use Rattle.clap.specs.Words.{is_simple_and_free}
use Rattle.log_words.proofs.LineLemmas.{is_free}
use Rattle.log_words.proofs.line.matches_in.Goals as goal

pub matches_by-requires : goal.matches_by-requires
matches_by-requires c = ap is_simple_and_free c.in_ok-line.ensures ∙ is_free
