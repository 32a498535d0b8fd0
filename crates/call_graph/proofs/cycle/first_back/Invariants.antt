use Rattle.std.proofs.Common.{◌<◌, ℕ}
use Rattle.call_graph.specs.Spots.{IsInCycle}
use Rattle.call_graph.specs.Marks.{Avoids}
use Rattle.call_graph.proofs.Firsts.{spot_of}
use Rattle.call_graph.proofs.cycle.first_back.Given as goal

abbrev pub invariant-loop-call : goal.invariant-loop-call
invariant-loop-call l = record {
  avoids : Avoids l.graph l.node l.seen.items;
  none : (k : ℕ) → k < l.call → IsInCycle l.graph (spot_of l.node k) → ⊥;
}
