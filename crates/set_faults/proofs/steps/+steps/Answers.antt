use Rattle.std.proofs.Common.{◌∙◌, false, option_map}
use Rattle.std.proofs.lemmas.Result.{on_ok_weaker}
use Rattle.expr_grammar.specs.Tree.{tree}
use Rattle.sequence_trees.specs.Trees.{steps_tree}
use Rattle.code_check.specs.ExprFaults.{Scope}
use Rattle.seq_check.proofs.StepLemmas.{step_tree-Block, step_tree-Control, names_more}
use Rattle.set_faults.specs.Sites.{site_step}
use Rattle.set_faults.proofs.StepLemmas.{control_more, one_inside, steps_more, cut_back}
use Rattle.set_faults.proofs.steps.+steps.Goals as goal

pub add_step-returns-in-Block-clause-list : goal.add_step-returns-in-Block-clause-list
add_step-returns-in-Block-clause-list t c = rw (c.in-Block.is, step_tree-Block c.in-Block.code) (rw c.as_slice.ensures at c.add_block.ensures.list)

pub add_step-returns-in_ok-add_own-in-Control-clause-list : goal.add_step-returns-in_ok-add_own-in-Control-clause-list
add_step-returns-in_ok-add_own-in-Control-clause-list t c =
    let a = c.in-Control in
    let s : Scope = record { visible = c.args.names.now; sequences = c.args.sequences.now; in_debugvars = false } in
    rw (a.is, step_tree-Control a.cond a.repeat a.timeout a.steps, ← c.deref.ensures, ← c.deref-in-Control.ensures)
    (on_ok_weaker c.add_inner.result
    (control_more (site_step c.args.site) s c.args.around c.saturating_add-inside.result (option_map tree c.deref.result.now) (option_map tree c.deref-in-Control.result.now) a.timeout (steps_tree a.steps) c.args.found.now c.add_own.new.found c.add_inner.new.found
    (one_inside c.args.around c.saturating_add-inside.result c.ranges.around.fits c.saturating_add-inside.ensures) c.in_ok-add_own-in-Control.ensures) (rw c.as_slice-in-Control.ensures at c.add_inner.ensures.list))

pub add_inner-returns-clause-list : goal.add_inner-returns-clause-list
add_inner-returns-clause-list t c = c.in_ok-add_steps.ensures.list

pub add_inner-returns-clause-names : goal.add_inner-returns-clause-names
add_inner-returns-clause-names t c =
    c.cut_back.ensures ∙ cut_back c.args.names.now c.add_steps.new.names c.len-len.result (steps_tree c.args.steps.now) c.len-len.ensures c.in_ok-add_steps.ensures.names

pub add_steps-loop-number-preserved : goal.add_steps-loop-number-preserved
add_steps-loop-number-preserved t c =
    let s : Scope = record { visible = c.args.names.now; sequences = c.args.sequences.now; in_debugvars = false } in
    let inv = c.loop-number.invariant in
    let xs = c.args.steps.now in
    let i = c.loop-number.number in
    let x = c.index-steps-number.result in
    let more = names_more c.args.names.now xs i x c.loop-number-test.true in record {
      list = steps_more (site_step c.args.site) s c.args.around xs i x c.args.found.now c.loop-number.found c.add_step.new.found c.loop-number-test.true inv.list
          (rw (← inv.names, ← c.index-steps-number.is) (rw (c.as_slice.ensures, c.in_ok-path.ensures) at c.in_ok-add_step.ensures.list));
      names = rw (more, ← inv.names, ← c.index-steps-number.is) c.in_ok-add_step.ensures.names;
    }
