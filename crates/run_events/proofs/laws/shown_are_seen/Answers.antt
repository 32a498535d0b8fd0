use Rattle.run_events.proofs.Skimming.{shown_are_seen}
use Rattle.run_events.proofs.laws.shown_are_seen.Goals as goal

pub returns : goal.returns
returns c = λ shows w p written. shown_are_seen shows w p written
