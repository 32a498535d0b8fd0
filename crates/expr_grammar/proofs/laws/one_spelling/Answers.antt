use Rattle.expr_grammar.proofs.Spellings.{alike}
use Rattle.expr_grammar.proofs.laws.one_spelling.Goals as goal

pub returns : goal.returns
returns c = λ e ts us r s. alike e 0 0 ts us r s
