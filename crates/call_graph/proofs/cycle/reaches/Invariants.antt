use Rattle.std.proofs.Common.{◌+◌, length}
use Rattle.call_graph.proofs.Search.{Searching, left}
use Rattle.call_graph.proofs.cycle.reaches.Given as goal

abbrev pub invariant-loop-node : goal.invariant-loop-node
invariant-loop-node l = Searching l.graph l.from l.target l.seen.items l.work.items

abbrev pub decreases-loop-node : goal.decreases-loop-node
decreases-loop-node l = length l.work.items + left l.graph l.seen.items
