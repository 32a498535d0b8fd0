use Rattle.std.proofs.Common.{subst}
use Rattle.expr_grammar.specs.Front.{ClosesFirst}
use Rattle.expr_grammar.proofs.Pieces.{block_taken, block_stuck}
use Rattle.expr_grammar.proofs.front.block_front.Goals as goal

pub returns-in-Some : goal.returns-in-Some
returns-in-Some c = block_taken c.args.bytes.now c.in-Some.len c.requires (subst (ClosesFirst c.args.bytes.now) c.in-Some.is c.block_len.ensures)

pub returns-in-None : goal.returns-in-None
returns-in-None c = block_stuck c.args.bytes.now c.requires (subst (ClosesFirst c.args.bytes.now) c.in-None.is c.block_len.ensures)
