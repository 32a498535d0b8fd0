use Rattle.std.proofs.Common.{refl}
use Rattle.sequence_rules.specs.Calls.{abort, abort_at, zero_of}
use Rattle.function_calls.proofs.FrameLemmas.{call_by_use, call_end}
use Rattle.function_calls.proofs.Leaves.{later_abort_at, later_ok}
use Rattle.function_calls.proofs.probe.abort.Goals as goal

pub returns-in_err-dp : goal.returns-in_err-dp
unfolding abort zero_of
returns-in_err-dp g c =
    call_end _ (λ cost w x. later_ok w x.1 _) c.from_residual.ensures.1
    (call_end (λ m d. abort_at m c.args.value d.0 d.1) (λ cost w x. later_abort_at cost w c.args.value x.0 x.1) refl (call_by_use c.requires.ready c.in_err-dp.ensures))
