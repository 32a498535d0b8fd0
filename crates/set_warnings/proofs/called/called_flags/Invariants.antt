use Rattle.std.proofs.Common.{◌≡◌, take, fold, replicate, false}
use Rattle.set_warnings.specs.Sequences.{all_marked}
use Rattle.set_warnings.proofs.called.called_flags.Given as goal

abbrev pub invariant-loop-list : goal.invariant-loop-list
invariant-loop-list l = l.flags.items ≡ fold all_marked (replicate l.count false) (take l.list-index l.calls)
