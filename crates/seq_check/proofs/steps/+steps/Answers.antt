use Rattle.std.proofs.Common.{false, option_map, add-one}
use Rattle.expr_grammar.specs.Tree.{tree}
use Rattle.sequence_trees.specs.Trees.{steps_tree}
use Rattle.code_check.specs.ExprFaults.{Scope}
use Rattle.seq_check.specs.Views.{own_view, faulty_view}
use Rattle.seq_check.proofs.NameLemmas.{cut_answer}
use Rattle.seq_check.proofs.StepLemmas.{step_tree-Control, control_own, inner_answer, step_found, step_none, names_more}
use Rattle.seq_check.proofs.steps.+steps.Goals as goal

pub inner_fault-returns-clause-names : goal.inner_fault-returns-clause-names
inner_fault-returns-clause-names t c =
    cut_answer c.in_ok-found.found c.args.names.now c.steps_fault.new.names c.cut_back.new.self c.len-len.result (steps_tree c.args.steps.now) c.cut_back.ensures c.len-len.ensures c.in_ok-found.ensures.names

pub step_fault-returns-in-Some-clause-first : goal.step_fault-returns-in-Some-clause-first
step_fault-returns-in-Some-clause-first t c =
    let a = c.in-Control in
    let s : Scope = record { visible = c.args.names.now; sequences = c.args.sequences.now; in_debugvars = false } in
    rw (a.is, step_tree-Control a.cond a.repeat a.timeout a.steps, ← c.deref.ensures, ← c.deref-in-Control.ensures, c.at_own_step.ensures)
    (control_own s c.args.around (option_map tree c.deref.result.now) (option_map tree c.deref-in-Control.result.now) a.timeout (steps_tree a.steps) (own_view c.in-Some.fault) c.in-Some.ensures.first)

pub step_fault-returns-in_default-clause-first : goal.step_fault-returns-in_default-clause-first
step_fault-returns-in_default-clause-first t c =
    let a = c.in-Control in
    let s : Scope = record { visible = c.args.names.now; sequences = c.args.sequences.now; in_debugvars = false } in
    rw (a.is, step_tree-Control a.cond a.repeat a.timeout a.steps, ← c.deref.ensures, ← c.deref-in-Control.ensures)
    (inner_answer s c.args.around _ (option_map tree c.deref.result.now) (option_map tree c.deref-in-Control.result.now) a.timeout (steps_tree a.steps) c.inner_fault.result (add-one c.args.around) (rw c.in_default.is at c.own_fault.ensures.first)
    (rw (← c.as_slice-in-Control.ensures) c.inner_fault.ensures.first))

pub steps_fault-returns-in-Some-clause-first : goal.steps_fault-returns-in-Some-clause-first
steps_fault-returns-in-Some-clause-first t c =
    let s : Scope = record { visible = c.args.names.now; sequences = c.args.sequences.now; in_debugvars = false } in
    let inv = c.loop-number.invariant in
    let found = rw c.in-Some.is at c.in_ok-faulty.ensures.first in
    rw c.in_ok-from_list.ensures
    (step_found s c.args.around c.args.steps.now c.loop-number.number c.index-steps-number.result (faulty_view c.in-Some.faulty) c.loop-number-test.true inv.none (rw (← inv.names, ← c.index-steps-number.is) found))

pub steps_fault-loop-number-preserved : goal.steps_fault-loop-number-preserved
steps_fault-loop-number-preserved t c =
    let s : Scope = record { visible = c.args.names.now; sequences = c.args.sequences.now; in_debugvars = false } in
    let inv = c.loop-number.invariant in
    let none = rw c.in_default.is at c.in_ok-faulty.ensures.first in
    let names = rw c.in_default.is at c.in_ok-faulty.ensures.names in
    let more = names_more c.args.names.now c.args.steps.now c.loop-number.number c.index-steps-number.result c.loop-number-test.true in record {
      none = step_none s c.args.around c.args.steps.now c.loop-number.number c.index-steps-number.result c.loop-number-test.true inv.none (rw (← inv.names, ← c.index-steps-number.is) none);
      names = rw (more, ← inv.names, ← c.index-steps-number.is) names;
    }
