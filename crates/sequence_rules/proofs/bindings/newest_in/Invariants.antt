use Rattle.std.proofs.Common.{◌≡◌, ◌≤◌, false, length, drop}
use Rattle.sequence_rules.specs.Variables.{has_in}
use Rattle.sequence_rules.proofs.bindings.newest_in.Given as goal

abbrev pub invariant-loop-index : goal.invariant-loop-index
invariant-loop-index g l = record {
  within : l.index ≤ length l.bindings;
  none : has_in (drop l.index l.bindings) l.name ≡ false;
}

abbrev pub decreases-loop-index : goal.decreases-loop-index
decreases-loop-index g l = l.index
