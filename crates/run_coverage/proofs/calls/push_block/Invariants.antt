use Rattle.std.proofs.Common.{◌≡◌, ◌++◌, take}
use Rattle.expr_grammar.specs.Tree.{code_trees}
use Rattle.run_coverage.specs.Reach.{block_names}
use Rattle.run_coverage.proofs.calls.push_block.Given as goal

abbrev pub invariant-loop-statement : goal.invariant-loop-statement
invariant-loop-statement l = l.names ≡ l.fn.names ++ block_names (code_trees (take l.statement-index l.code))
