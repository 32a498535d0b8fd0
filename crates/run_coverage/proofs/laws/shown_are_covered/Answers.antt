use Rattle.run_events.specs.OfRuns.{events_in, each_turn}
use Rattle.run_coverage.proofs.ShownLemmas.{still_happens}
use Rattle.run_coverage.proofs.laws.shown_are_covered.Goals as goal

pub returns : goal.returns
returns c = λ shows w p written words h. still_happens words (events_in shows w p written) (events_in each_turn w p written) (c.shown_are_seen.ensures shows w p written) h
