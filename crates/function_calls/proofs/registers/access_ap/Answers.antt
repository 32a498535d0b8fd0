use Rattle.sequence_rules.specs.Calls.{ap_register}
use Rattle.function_calls.proofs.FrameLemmas.{call_by_use, call_end, call_on}
use Rattle.function_calls.proofs.Leaves.{later_ap_at}
use Rattle.function_calls.proofs.registers.access_ap.Goals as goal

pub returns-in_err-port : goal.returns-in_err-port
unfolding ap_register
returns-in_err-port g c =
    call_end _ (λ cost w x. later_ap_at cost w c.args.read c.args.addr c.args.value x.0 x.1) c.from_residual.ensures.1 (call_by_use c.requires.ready c.in_err-port.ensures)

pub returns : goal.returns
unfolding ap_register
returns g c = call_on _ (call_by_use c.requires.ready c.in_ok-port.ensures) c.access_ap_at.ensures
