use Rattle.std.proofs.Common.{refl}
use Rattle.expr_grammar.proofs.Moves.{divides_moves}
use Rattle.expr_grammar.proofs.laws.tokens_move.Goals as goal

pub returns : goal.returns
returns c = λ text new from to len ts cuts same. let m = divides_moves text new from _ to len ts cuts refl same in (m.us, m.divides, m.moved)
