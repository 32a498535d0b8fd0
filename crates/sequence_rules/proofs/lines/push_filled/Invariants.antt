use Rattle.std.proofs.Common.{◌≡◌, ◌≤◌, ◌++◌, ◌-◌, length, replicate}
use Rattle.sequence_rules.proofs.lines.push_filled.Given as goal

abbrev pub invariant-loop-length : goal.invariant-loop-length
invariant-loop-length l = record {
  at_least : length l.digits ≤ l.length;
  same : l.fn.out.items ++ replicate (l.width - length l.digits) l.fill ≡ l.out.items ++ replicate (l.width - l.length) l.fill;
}

abbrev pub decreases-loop-length : goal.decreases-loop-length
decreases-loop-length l = l.width - l.length
