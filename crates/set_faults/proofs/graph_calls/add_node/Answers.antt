use Rattle.std.proofs.Common.{sym, ◌∙◌}
use Rattle.call_graph.specs.Spots.{IsInCycle}
use Rattle.call_graph.proofs.Firsts.{spot_of}
use Rattle.set_faults.proofs.GraphLemmas.{none_of_node, not_marked}
use Rattle.set_faults.proofs.graph_calls.add_node.Goals as goal

pub returns-then-not-is_marked : goal.returns-then-not-is_marked
returns-then-not-is_marked c =
    none_of_node (IsInCycle c.args.graph.now) c.args.node c.args.found.now
    (λ k p. not_marked c.args.candidates.now c.args.node (sym c.is_marked.ensures ∙ c.if-not-is_marked.true) (c.requires.marks (spot_of c.args.node k) p))
