use Rattle.sequence_rules.specs.Calls.{port}
use Rattle.function_calls.proofs.FrameLemmas.{use_end, use_on}
use Rattle.function_calls.proofs.Leaves.{err_by, later_port_from}
use Rattle.function_calls.proofs.ports.use_port.Goals as goal

pub returns-in_err-ap : goal.returns-in_err-ap
unfolding port
returns-in_err-ap g c = use_end _ (λ cost w x. later_port_from cost w x.0 x.1) (err_by _ _ c.from_residual.result c.from_residual.ensures.1) c.in_err-ap.ensures

pub returns : goal.returns
unfolding port
returns g c = use_on _ c.in_ok-ap.ensures c.use_port_from.ensures
