use Rattle.run_coverage.proofs.CoverLemmas.{not_noted}
use Rattle.run_coverage.proofs.laws.others_do_not_count.Goals as goal

pub returns : goal.returns
returns c = λ coverage events e none of. not_noted coverage events e none of
