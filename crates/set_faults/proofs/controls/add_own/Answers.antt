use Rattle.std.proofs.Common.{option_map}
use Rattle.std.proofs.lemmas.Result.{on_ok_weaker}
use Rattle.expr_grammar.specs.Tree.{tree}
use Rattle.sequence_trees.specs.declared.spot.Part.TheVariants as parts
use Rattle.code_check.specs.Views.{scope_view}
use Rattle.seq_check.specs.StepFaults.{ControlFault, ConditionFault}
use Rattle.set_faults.specs.Sites.{site_step}
use Rattle.set_faults.proofs.ControlLemmas.{form_order, conditions_order}
use Rattle.set_faults.proofs.StepLemmas.{appends_two, appends_part}
use Rattle.set_faults.proofs.controls.add_own.Goals as goal

pub returns : goal.returns
returns c =
    let s = scope_view c.args.scope in
    let site = site_step c.args.site in
    let P = ControlFault c.args.around (option_map tree c.args.repeat.now) c.args.timeout in
    let Q = ConditionFault s (option_map tree c.args.cond.now) in
    let R = ConditionFault s (option_map tree c.args.repeat.now) in
    let form = appends_part site parts.Control P c.in_ok-form.form c.args.found.now c.add_part.new.found c.in_ok-form.ensures (rw c.as_slice.ensures at c.in_ok-add_part.ensures) in
    let cond = appends_part site parts.If Q c.in_ok-of_cond.of_cond c.add_part.new.found c.add_part-2.new.found c.in_ok-of_cond.ensures (rw c.as_slice-2.ensures at c.in_ok-add_part-2.ensures) in
    on_ok_weaker c.add_part-3.result
    (λ e. appends_two (form_order P Q R) form (appends_two (conditions_order Q R) cond (appends_part site parts.While R c.in_ok-of_repeat.of_repeat c.add_part-2.new.found c.add_part-3.new.found c.in_ok-of_repeat.ensures (rw c.as_slice-3.ensures at e))))
    c.add_part-3.ensures
