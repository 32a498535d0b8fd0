use Rattle.std.proofs.Common.{◌∙◌, ap, map}
use Rattle.sequence_trees.specs.SetView.{set_trees}
use Rattle.seq_check.proofs.CheckLemmas.{reported_cycle, no_cycle, reported_deep, deep_call, calls_sound}
use Rattle.seq_check.proofs.set_check.call_fault.Goals as goal

pub returns-in-Some : goal.returns-in-Some
returns-in-Some c =
    let is = c.in_ok-graph.ensures ∙ ap (map (λ cs. map (λ c. c.callee) cs)) (c.as_slice.ensures ∙ c.in_ok-calls.ensures) in
    reported_cycle (set_trees c.args.set.now) c.in_ok-graph.graph c.first_fault.result.kind c.in_ok-spot.spot c.first_fault.result.spot c.in-Some.at is (rw c.in-Some.is at c.in_ok-at.ensures) c.in_ok-spot.ensures c.first_fault.ensures.kind c.first_fault.ensures.spot

pub call_spot-requires-in-Some-2-clause-call : goal.call_spot-requires-in-Some-2-clause-call
call_spot-requires-in-Some-2-clause-call c =
    let is = c.in_ok-graph.ensures ∙ ap (map (λ cs. map (λ c. c.callee) cs)) (c.as_slice.ensures ∙ c.in_ok-calls.ensures) in
    deep_call (set_trees c.args.set.now) c.in_ok-graph.graph c.in-Some-2.at is (rw c.in-Some-2.is at c.in_ok-at-2.ensures)

pub returns-in-Some-2 : goal.returns-in-Some-2
returns-in-Some-2 c =
    let is = c.in_ok-graph.ensures ∙ ap (map (λ cs. map (λ c. c.callee) cs)) (c.as_slice.ensures ∙ c.in_ok-calls.ensures) in
    let set = set_trees c.args.set.now in
    reported_deep set c.in_ok-graph.graph c.first_fault-in-Some-2.result.kind c.in_ok-spot-2.spot c.first_fault-in-Some-2.result.spot c.in-Some-2.at is (no_cycle set c.in_ok-graph.graph c.in_ok-at.field-0 is c.in_default.is c.in_ok-at.ensures)
    (rw c.in-Some-2.is at c.in_ok-at-2.ensures) c.in_ok-spot-2.ensures c.first_fault-in-Some-2.ensures.kind c.first_fault-in-Some-2.ensures.spot

pub returns : goal.returns
returns c =
    let is = c.in_ok-graph.ensures ∙ ap (map (λ cs. map (λ c. c.callee) cs)) (c.as_slice.ensures ∙ c.in_ok-calls.ensures) in
    calls_sound (set_trees c.args.set.now) c.in_ok-graph.graph c.in_ok-at.field-0 c.in_ok-at-2.field-0 is c.in_default.is c.in_ok-at.ensures c.in_default-2.is c.in_ok-at-2.ensures
