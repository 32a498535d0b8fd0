use Rattle.sequence_rules.specs.Calls.{dp_register}
use Rattle.function_calls.proofs.FrameLemmas.{call_by_use, call_end, call_on}
use Rattle.function_calls.proofs.Leaves.{later_dp_at}
use Rattle.function_calls.proofs.registers.access_dp.Goals as goal

pub returns-in_err-dp : goal.returns-in_err-dp
unfolding dp_register
returns-in_err-dp g c =
    call_end _ (λ cost w x. later_dp_at cost w c.args.read c.args.addr c.args.value x.0 x.1) c.from_residual.ensures.1 (call_by_use c.requires.ready c.in_err-dp.ensures)

pub returns : goal.returns
unfolding dp_register
returns g c = call_on _ (call_by_use c.requires.ready c.in_ok-dp.ensures) c.access_dp_at.ensures
