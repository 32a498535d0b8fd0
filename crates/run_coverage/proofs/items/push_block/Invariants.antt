use Rattle.std.proofs.Common.{◌≡◌, ◌++◌, take}
use Rattle.expr_grammar.specs.Tree.{code_trees}
use Rattle.run_coverage.specs.Items.{block_items}
use Rattle.run_coverage.proofs.items.push_block.Given as goal

abbrev pub invariant-loop-statement : goal.invariant-loop-statement
invariant-loop-statement l = l.items ≡ l.fn.items ++ block_items l.sequence l.path (code_trees (take l.statement-index l.code))
