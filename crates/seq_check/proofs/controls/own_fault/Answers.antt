use Rattle.std.proofs.Common.{option_map}
use Rattle.expr_grammar.specs.Tree.{tree}
use Rattle.sequence_trees.specs.declared.spot.Part.TheVariants as parts
use Rattle.code_check.specs.Views.{scope_view}
use Rattle.seq_check.specs.StepFaults.{ControlFault, ConditionFault}
use Rattle.seq_check.proofs.ControlLemmas.{own_first, first_in_part, not_deep}
use Rattle.seq_check.proofs.controls.own_fault.Goals as goal

pub returns-clause-first : goal.returns-clause-first
returns-clause-first c =
    let s = scope_view c.args.scope in
    let cond = option_map tree c.args.cond.now in
    let repeat = option_map tree c.args.repeat.now in
    own_first s c.args.around cond repeat c.args.timeout c.in_part-of_form.result c.in_part-of_cond.result c.in_part-of_repeat.result c.or.result c.or-2.result c.or.ensures c.or-2.ensures
    (first_in_part parts.Control (ControlFault c.args.around repeat c.args.timeout) c.control_fault.result c.in_part-of_form.result c.in_part-of_form.ensures c.control_fault.ensures)
    (first_in_part parts.If (ConditionFault s cond) c.condition_fault.result c.in_part-of_cond.result c.in_part-of_cond.ensures c.condition_fault.ensures)
    (first_in_part parts.While (ConditionFault s repeat) c.condition_fault-2.result c.in_part-of_repeat.result c.in_part-of_repeat.ensures c.condition_fault-2.ensures)

pub returns-clause-not_deep : goal.returns-clause-not_deep
returns-clause-not_deep c =
    let s = scope_view c.args.scope in
    let cond = option_map tree c.args.cond.now in
    let repeat = option_map tree c.args.repeat.now in
    not_deep s c.args.around cond repeat c.args.timeout c.or-2.result
    (own_first s c.args.around cond repeat c.args.timeout c.in_part-of_form.result c.in_part-of_cond.result c.in_part-of_repeat.result c.or.result c.or-2.result c.or.ensures c.or-2.ensures
    (first_in_part parts.Control (ControlFault c.args.around repeat c.args.timeout) c.control_fault.result c.in_part-of_form.result c.in_part-of_form.ensures c.control_fault.ensures)
    (first_in_part parts.If (ConditionFault s cond) c.condition_fault.result c.in_part-of_cond.result c.in_part-of_cond.ensures c.condition_fault.ensures)
    (first_in_part parts.While (ConditionFault s repeat) c.condition_fault-2.result c.in_part-of_repeat.result c.in_part-of_repeat.ensures c.condition_fault-2.ensures))
