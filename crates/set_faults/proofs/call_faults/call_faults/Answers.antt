use Rattle.std.proofs.Common.{◌∙◌, ap, map, refl}
use Rattle.sequence_trees.specs.SetView.{set_trees}
use Rattle.set_faults.proofs.PhaseLemmas.{are_back, no_cycles_of, cycles_answer}
use Rattle.set_faults.proofs.call_faults.call_faults.Goals as goal

pub depth_faults-requires-clause-cycles : goal.depth_faults-requires-clause-cycles
depth_faults-requires-clause-cycles c =
    let is = c.in_ok-graph.ensures ∙ ap (map (λ cs. map (λ c. c.callee) cs)) (c.as_slice.ensures ∙ c.in_ok-calls.ensures) in
    no_cycles_of (set_trees c.args.set.now) c.in_ok-graph.graph c.in_ok-back.back is (c.if-is_empty.ensures.0 refl) c.in_ok-back.ensures

pub faults_at-requires-clause-are : goal.faults_at-requires-clause-are
faults_at-requires-clause-are c =
    let is = c.in_ok-graph.ensures ∙ ap (map (λ cs. map (λ c. c.callee) cs)) (c.as_slice.ensures ∙ c.in_ok-calls.ensures) in
    rw c.as_slice-3.ensures (are_back (set_trees c.args.set.now) c.in_ok-graph.graph c.in_ok-back.back is c.in_ok-back.ensures)

pub returns : goal.returns
returns c =
    let is = c.in_ok-graph.ensures ∙ ap (map (λ cs. map (λ c. c.callee) cs)) (c.as_slice.ensures ∙ c.in_ok-calls.ensures) in
    cycles_answer (set_trees c.args.set.now) c.in_ok-graph.graph c.in_ok-back.back c.in_ok-faults.faults is (λ e. (let no = c.if-is_empty.ensures.1 e in cc)) c.in_ok-back.ensures c.requires.rules
    (rw c.as_slice-3.ensures at c.in_ok-faults.ensures)
