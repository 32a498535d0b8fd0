use Rattle.std.proofs.Common.{◌≡◌, take, []}
use Rattle.expr_grammar.specs.Tree.{code_trees}
use Rattle.code_check.specs.BlockFaults.{names_after_all, BlockFault}
use Rattle.set_faults.specs.Listed.{Adds}
use Rattle.set_faults.proofs.blocks.block_faults.Given as goal

abbrev pub invariant-loop-statement : goal.invariant-loop-statement
invariant-loop-statement l = record {
  added : Adds (BlockFault (record { visible = l.fn.names; sequences = l.sequences; in_debugvars = l.in_debugvars }) (code_trees (take l.statement-index l.code))) [] l.found;
  names : l.names ≡ names_after_all l.fn.names (code_trees (take l.statement-index l.code));
}
