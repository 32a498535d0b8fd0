use Rattle.std.proofs.Common.{subst, option_map}
use Rattle.expr_grammar.specs.Tree.{tree}
use Rattle.code_check.specs.Views.{scope_view}
use Rattle.seq_check.specs.StepFaults.{ConditionFault}
use Rattle.set_faults.specs.Listed.{Adds}
use Rattle.set_faults.proofs.AddLemmas.{adds_listed}
use Rattle.set_faults.proofs.controls.condition_faults.Goals as goal

pub returns : goal.returns
returns c =
    adds_listed (subst (λ old. Adds (ConditionFault (scope_view c.args.scope) (option_map tree c.args.condition.now)) old c.add_condition.new.found) c.new-found.ensures c.in_ok-add_condition.ensures) c.in_order.ensures
