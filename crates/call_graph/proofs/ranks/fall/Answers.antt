use Rattle.call_graph.proofs.Falls.{callees_fall}
use Rattle.call_graph.proofs.ranks.fall.Goals as goal

pub returns-then-not-calls_at_most : goal.returns-then-not-calls_at_most
returns-then-not-calls_at_most c = (
  λ no. absurd (cc),
  λ fall. c.if-not-calls_at_most.ensures.1 (rw (c.callees.ensures, c.rank.ensures) (callees_fall c.args.graph.now c.args.ranks.now c.loop-node.node c.requires fall)),
)
