use Rattle.std.proofs.Common.{◌≡◌, drop}
use Rattle.expr_grammar.specs.Tree.{arg_trees}
use Rattle.sequence_rules.specs.Values.{text_of}
use Rattle.sequence_rules.proofs.arguments.text_of.Given as goal

abbrev pub invariant-loop-arg : goal.invariant-loop-arg
invariant-loop-arg l = text_of (arg_trees l.args) ≡ text_of (arg_trees (drop l.arg-index l.args))
