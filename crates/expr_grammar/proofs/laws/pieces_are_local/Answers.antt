use Rattle.expr_grammar.proofs.Local.{gap_local, token_local}
use Rattle.expr_grammar.proofs.laws.pieces_are_local.Goals as goal

pub returns-clause-gap : goal.returns-clause-gap
returns-clause-gap c = gap_local

pub returns-clause-token : goal.returns-clause-token
returns-clause-token c = token_local
