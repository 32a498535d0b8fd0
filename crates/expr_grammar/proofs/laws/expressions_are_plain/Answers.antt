use Rattle.expr_grammar.proofs.Plain.{plain}
use Rattle.expr_grammar.proofs.laws.expressions_are_plain.Goals as goal

pub returns : goal.returns
returns c = λ ts e r. plain e 0 ts r
