use Rattle.access_calls.specs.Reported.{world_from}
use Rattle.function_calls.proofs.Leaves.{flush_stopped}
use Rattle.function_calls.proofs.uses.confirm.Goals as goal

pub returns-in-Err-clause-stops : goal.returns-in-Err-clause-stops
returns-in-Err-clause-stops g c = λ m answered b l.
    flush_stopped (world_from m answered) (g.A.Access.reported c.args.access.now).asks.calls (g.A.Access.reported c.flush.new.self) c.in-Err.stop _ c.from.ensures c.in-Err.ensures.ends.end c.in-Err.ensures.ends.memory (c.in-Err.ensures.stops m answered b l c.requires.open)
