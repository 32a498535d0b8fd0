use Rattle.run_events.proofs.SaidRuns.{is_the_run}
use Rattle.run_events.proofs.laws.events_are_the_run.Goals as goal

pub returns : goal.returns
returns c = λ w p written. is_the_run w p written
