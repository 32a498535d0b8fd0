use Rattle.sequence_rules.specs.Calls.{memory}
use Rattle.function_calls.proofs.FrameLemmas.{call_by_use, call_end, call_on}
use Rattle.function_calls.proofs.Leaves.{later_memory_at}
use Rattle.function_calls.proofs.memory.access_memory.Goals as goal

pub returns-in_err-port : goal.returns-in_err-port
unfolding memory
returns-in_err-port g c =
    call_end _ (λ cost w x. later_memory_at cost w c.args.size c.args.read c.args.address c.args.value x.0 x.1) c.from_residual.ensures.1 (call_by_use c.requires.ready c.in_err-port.ensures)

pub returns : goal.returns
unfolding memory
returns g c = call_on _ (call_by_use c.requires.ready c.in_ok-port.ensures) c.access_memory_at.ensures
