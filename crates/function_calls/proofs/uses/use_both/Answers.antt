use Rattle.sequence_rules.specs.Values.{both}
use Rattle.function_calls.proofs.FrameLemmas.{uses_end}
use Rattle.function_calls.proofs.Leaves.{later_bind, later_ok, later_use}
use Rattle.function_calls.proofs.uses.use_both.Goals as goal

pub returns-in_err-left : goal.returns-in_err-left
unfolding both
returns-in_err-left g c =
    uses_end _ (λ cost w x. later_bind w x.1 _ _ (later_use cost w c.args.right x.1) (λ y. later_ok w y.1 _)) c.from_residual.ensures.1 c.in_err-left.ensures
