use Rattle.std.proofs.Common.{subst, refl, arith}
use Rattle.call_graph.proofs.Search.{Searching, turn_over, turn_on, turn_on-less, never_reached}
use Rattle.call_graph.proofs.cycle.reaches.Goals as goal
use Rattle.dap_base.proofs.Basics.{no_items}

pub loop-node-smaller-in-Continue-branch-2 : goal.loop-node-smaller-in-Continue-branch-2
loop-node-smaller-in-Continue-branch-2 c =
    let fresh = rw c.as_slice.ensures.value at (c.if-is_unmarked.ensures.0 refl) in
    turn_on-less c.args.graph.now c.in-Some.node c.loop-node.seen.items c.loop-node.work.items c.pop.new.self.items c.callees.result.now c.append-then-is_unmarked.new.work.items
    c.in-Some.ensures.items c.callees.ensures c.in_ok-append-2.ensures.ok c.loop-node.invariant.size fresh.0 fresh.1

pub loop-node-preserved-in-Continue-branch-2 : goal.loop-node-preserved-in-Continue-branch-2
loop-node-preserved-in-Continue-branch-2 c =
    let fresh = rw c.as_slice.ensures.value at (c.if-is_unmarked.ensures.0 refl) in
    turn_on c.args.graph.now c.args.from c.args.target c.in-Some.node c.loop-node.seen.items c.loop-node.work.items c.pop.new.self.items c.callees.result.now c.append-then-is_unmarked.new.work.items
    c.in-Some.ensures.items c.callees.ensures c.in_ok-append-2.ensures.ok c.if-node-target.false fresh.0 c.loop-node.invariant

pub loop-node-preserved : goal.loop-node-preserved
loop-node-preserved c =
    let stale = rw c.as_slice.ensures.value at c.if-is_unmarked.ensures.1 in
    turn_over c.args.graph.now c.args.from c.args.target c.in-Some.node c.loop-node.seen.items c.loop-node.work.items c.pop.new.self.items c.in-Some.ensures.items (λ fresh. let e = stale fresh in cc) c.loop-node.invariant

pub returns-clause-reached : goal.returns-clause-reached
returns-clause-reached c =
    let empty = no_items c.loop-node.work.items (omega (arith, c.loop-node.work.ok.0, c.in_default.ensures.cases.0)) in
    let searched = subst (Searching c.args.graph.now c.args.from c.args.target c.loop-node.seen.items) empty c.loop-node.invariant in
    (λ no. absurd (cc), λ reaches. absurd (never_reached c.args.graph.now c.args.from c.args.target c.loop-node.seen.items c.requires.exists searched reaches))
