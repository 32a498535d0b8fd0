use Rattle.expr_grammar.proofs.CompleteCode as laws
use Rattle.expr_grammar.proofs.laws.one_code.Goals as goal

pub returns : goal.returns
returns c = laws.one_code
