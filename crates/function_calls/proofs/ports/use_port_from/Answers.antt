use Rattle.sequence_rules.specs.Calls.{port_from}
use Rattle.function_calls.proofs.FrameLemmas.{use_end, use_on}
use Rattle.function_calls.proofs.Leaves.{err_by, later_port_with}
use Rattle.function_calls.proofs.ports.use_port_from.Goals as goal

pub returns-in_err-control : goal.returns-in_err-control
unfolding port_from
returns-in_err-control g c = use_end _ (λ cost w x. later_port_with cost w c.args.ap x.0 x.1) (err_by _ _ c.from_residual.result c.from_residual.ensures.1) c.in_err-control.ensures

pub returns : goal.returns
unfolding port_from
returns g c = use_on _ c.in_ok-control.ensures c.use_port_with.ensures
