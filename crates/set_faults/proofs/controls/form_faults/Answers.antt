use Rattle.std.proofs.Common.{◌∙◌, [], ◌++◌, ap, option_map}
use Rattle.expr_grammar.specs.Tree.{tree}
use Rattle.code_check.specs.declared.fault.FaultKind.TheVariants as k
use Rattle.set_faults.specs.Listed.{found_if}
use Rattle.set_faults.proofs.ControlLemmas.{form_listed, joined}
use Rattle.expr_grammar.specs.Bare.{nowhere}
use Rattle.set_faults.proofs.controls.form_faults.Goals as goal

pub returns : goal.returns
returns c =
    let repeat = option_map tree c.args.repeat.now in
    form_listed c.args.around repeat c.args.timeout c.is_too_deep.result c.add_if-3.new.self c.is_too_deep.ensures
    (joined _ _ _ [] _ _ c.add_if-3.new.self (c.in_ok-add_if.ensures ∙ ap (λ l. l ++ found_if c.is_too_deep.result nowhere k.NestedTooDeep) c.new-found.ensures) (rw c.is_too_long.ensures at c.in_ok-add_if-2.ensures) (rw c.is_unbounded.ensures at c.in_ok-add_if-3.ensures))
