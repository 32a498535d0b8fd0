use Rattle.target_calls.specs.World.{world_after}
use Rattle.access_calls.specs.Reported.{world_from}
use Rattle.sequels.specs.Sequel.{comes}
use Rattle.task_runs.proofs.ScanLemmas.{left_here}
use Rattle.task_runs.proofs.following.follow.Goals as goal

pub returns-then-units-gt-MOST_UNITS-clause-gives : goal.returns-then-units-gt-MOST_UNITS-clause-gives
returns-then-units-gt-MOST_UNITS-clause-gives g c = λ s is m answered b l whole.
    let old = (g.A.Access.reported c.args.access.now).asks.calls in
    left_here (comes (world_after (world_from m answered) old) s) old _
