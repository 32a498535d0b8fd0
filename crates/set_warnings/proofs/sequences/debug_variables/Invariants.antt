use Rattle.std.proofs.Common.{◌≡◌, [], take}
use Rattle.expr_grammar.specs.Tree.{code_trees}
use Rattle.code_check.specs.BlockFaults.{names_after_all}
use Rattle.set_warnings.proofs.sequences.debug_variables.Given as goal

abbrev pub invariant-loop-statement : goal.invariant-loop-statement
invariant-loop-statement l = l.names ≡ names_after_all [] (code_trees (take l.statement-index l.code))
