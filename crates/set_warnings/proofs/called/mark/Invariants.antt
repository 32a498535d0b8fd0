use Rattle.std.proofs.Common.{◌≡◌, take}
use Rattle.set_warnings.specs.Sequences.{all_marked}
use Rattle.set_warnings.proofs.called.mark.Given as goal

abbrev pub invariant-loop-call : goal.invariant-loop-call
invariant-loop-call l = l.flags.items ≡ all_marked l.fn.flags.items (take l.call-index l.calls)
