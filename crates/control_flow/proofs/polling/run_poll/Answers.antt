use Rattle.std.proofs.Common.{rules}
use Rattle.sequence_rules.specs.Steps.{counted_step, poll_result}
use Rattle.function_calls.specs.Frame.{IsReadyToCall}
use Rattle.function_calls.proofs.FrameLemmas.{call_by_use, call_changes, call_end, call_on}
use Rattle.control_flow.proofs.Exits.{later_polled_at}
use Rattle.control_flow.proofs.polling.run_poll.Goals as goal

pub returns-in_err-dp : goal.returns-in_err-dp
unfolding poll_result
returns-in_err-dp g c =
    let ready : IsReadyToCall c.count_step.new.self.units (g.A.Access.reported c.args.access.now) = search rules in
    call_on {p = λ m. counted_step m} _ (call_changes c.requires.ready c.count_step.ensures.units (λ w asks written. c.in-Ok.ensures.gives g.A.Access.cost w asks written))
    (call_end _ (λ cost w x. later_polled_at cost w (c.args.mask, c.args.requested) c.args.count x.0 x.1) c.from_residual.ensures.1 (call_by_use ready c.in_err-dp.ensures))
