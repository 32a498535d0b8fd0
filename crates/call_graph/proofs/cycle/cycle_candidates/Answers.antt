use Rattle.std.proofs.Common.{refl}
use Rattle.std.proofs.lemmas.Result.{IfOk-weaker}
use Rattle.call_graph.specs.Ranks.{Fall}
use Rattle.call_graph.proofs.Cycles.{cycle_begins}
use Rattle.call_graph.proofs.Falls.{cycle_is_level}
use Rattle.call_graph.proofs.cycle.cycle_candidates.Goals as goal

pub returns-then-not-contains : goal.returns-then-not-contains
returns-then-not-contains c = λ spot h. (c.in_ok-deep.ensures spot.node).1 (cycle_begins c.args.graph.now spot h)

pub returns-then-not-fall : goal.returns-then-not-fall
returns-then-not-fall c = λ spot h. (c.in_ok-deep.ensures spot.node).1 (cycle_begins c.args.graph.now spot h)

pub returns : goal.returns
returns c =
    let ranks = c.in_ok-ranks.ranks.items in
    let fall : Fall c.args.graph.now ranks = rw (← c.as_slice-2.ensures.value) (c.if-not-fall.ensures.0 refl) in
    let level = rw c.as_slice-3.ensures.value at c.level_callers.ensures in
    IfOk-weaker c.level_callers.result _ _ (λ marks exactly spot h. (exactly spot.node).1 (cycle_is_level c.args.graph.now ranks fall spot h)) level
