use Rattle.std.proofs.Common.{◌≡◌, length}
use Rattle.call_graph.proofs.ranks.ranks_of.Given as goal

abbrev pub invariant-loop-node : goal.invariant-loop-node
invariant-loop-node l = length l.ranks.items ≡ l.node
