use Rattle.function_calls.proofs.FrameLemmas.{call_changes, ready_after, writing_by_call, writing_end, writing_on}
use Rattle.function_calls.proofs.Leaves.{later_bind, later_ok}
use Rattle.control_flow.proofs.DebugLemmas.{put_on}
use Rattle.control_flow.proofs.Exits.{later_stored}
use Rattle.control_flow.proofs.runner.Runner.define.Goals as goal

pub returns-in_err-value : goal.returns-in_err-value
returns-in_err-value g c = writing_end _ (λ cost w x. later_bind w x.1 _ _ (later_stored cost w c.args.name.now x.0 x.1) (λ y. later_ok w y.1 _)) c.from_residual.ensures.1 c.in_err-value.ensures

pub returns : goal.returns
returns g c =
    writing_on _ c.in_ok-value.ensures (writing_by_call (call_changes (ready_after c.in_ok-value.ensures.ends) c.store.ensures.units
    (λ w asks written. put_on g.A.Access.cost w c.args.name.now c.in_ok-value.value _ _ (rw c.as_str.ensures at (c.store.ensures.state asks written)))))
