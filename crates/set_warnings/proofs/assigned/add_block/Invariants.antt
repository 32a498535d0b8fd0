use Rattle.std.proofs.Common.{◌≡◌, ◌++◌, take}
use Rattle.expr_grammar.specs.Tree.{code_trees}
use Rattle.set_warnings.specs.Sites.{part_at}
use Rattle.set_warnings.specs.Assigned.{block_warnings}
use Rattle.set_warnings.proofs.assigned.add_block.Given as goal

abbrev pub invariant-loop-statement : goal.invariant-loop-statement
invariant-loop-statement l = l.found ≡ l.fn.found ++ block_warnings l.vars (part_at l.site) (code_trees (take l.statement-index l.code))
