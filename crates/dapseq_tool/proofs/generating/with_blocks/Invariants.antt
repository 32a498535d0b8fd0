use Rattle.std.proofs.Common.{◌≡◌, ◌++◌}
use Rattle.dapseq_tool.specs.Generated.{blocks_text}
use Rattle.dapseq_tool.proofs.generating.with_blocks.Given as goal

abbrev pub invariant-loop-i : goal.invariant-loop-i
invariant-loop-i l = l.line ≡ l.initial.line ++ blocks_text l.i
