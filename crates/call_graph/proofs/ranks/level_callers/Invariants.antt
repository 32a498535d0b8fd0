use Rattle.call_graph.proofs.Falls.{LevelBelow}
use Rattle.call_graph.proofs.ranks.level_callers.Given as goal

abbrev pub invariant-loop-node : goal.invariant-loop-node
invariant-loop-node l = LevelBelow l.graph l.ranks l.node l.marks.items
