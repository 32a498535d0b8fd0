use Rattle.sequence_rules.proofs.Cuts.{is_cut}
use Rattle.sequence_rules.proofs.laws.cuts_are_fronts.Goals as goal

pub returns : goal.returns
returns c = λ p t written. is_cut p t written
