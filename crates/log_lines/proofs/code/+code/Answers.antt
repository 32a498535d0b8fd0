use Rattle.std.proofs.Common.{refl}
use Rattle.log_lines.proofs.CodeLemmas.{args_next, args_over}
use Rattle.log_lines.proofs.code.+code.Goals as goal

pub with_args-loop-arg-init : goal.with_args-loop-arg-init
with_args-loop-arg-init t c = refl

pub with_args-loop-arg-preserved : goal.with_args-loop-arg-preserved
with_args-loop-arg-preserved t c =
    args_next _ c.loop-arg.text c.in_ok-with_comma.field-0 c.in_ok-text.text c.loop-arg.is_first c.args.args.now c.loop-arg.arg-index _ c.arg-item.result c.loop-arg.invariant c.loop-arg-test.true c.arg-item.is c.in_ok-with_comma.ensures c.in_ok-text.ensures

pub with_args-returns : goal.with_args-returns
with_args-returns t c = args_over _ c.loop-arg.text c.loop-arg.is_first c.args.args.now c.loop-arg.arg-index c.loop-arg.invariant c.loop-arg-test.false
