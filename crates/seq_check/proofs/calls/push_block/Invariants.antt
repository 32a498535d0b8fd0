use Rattle.std.proofs.Common.{◌≡◌, ◌++◌, take}
use Rattle.expr_grammar.specs.Tree.{code_trees}
use Rattle.seq_check.specs.Calls.{block_calls}
use Rattle.seq_check.proofs.calls.push_block.Given as goal

abbrev pub invariant-loop-statement : goal.invariant-loop-statement
invariant-loop-statement l = l.calls ≡ l.fn.calls ++ block_calls l.names (code_trees (take l.statement-index l.code))
