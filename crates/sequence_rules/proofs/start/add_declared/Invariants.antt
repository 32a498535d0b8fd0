use Rattle.std.proofs.Common.{◌≡◌, drop}
use Rattle.expr_grammar.specs.Tree.{code_trees}
use Rattle.sequence_rules.specs.Shared.{bindings_of}
use Rattle.sequence_rules.specs.Steps.{declared_names}
use Rattle.sequence_rules.specs.Variables.{with_all_new}
use Rattle.sequence_rules.proofs.start.add_declared.Given as goal

abbrev pub invariant-loop-one : goal.invariant-loop-one
invariant-loop-one g l = with_all_new (bindings_of l.fn.globals) (declared_names (code_trees l.code)) g.V.VariableValue.zero ≡ with_all_new (bindings_of l.globals) (declared_names (code_trees (drop l.one-index l.code))) g.V.VariableValue.zero
