use Rattle.std.proofs.Common.{◌≡◌, [], ◌∷◌, ◌++◌, rules}
use Rattle.call_graph.proofs.Falls.{level_more}
use Rattle.call_graph.proofs.ranks.level_callers.Goals as goal

pub loop-node-preserved : goal.loop-node-preserved
loop-node-preserved c =
    let here = rw (c.callees.ensures, c.rank.ensures) at c.calls_rank.ensures in
    let more = level_more c.args.graph.now c.args.ranks.now c.loop-node.node c.loop-node.marks.items c.calls_rank.result c.loop-node.invariant here in
    let items : c.push.new.self.items ≡ c.loop-node.marks.items ++ c.calls_rank.result ∷ [] = search rules in rw items more
