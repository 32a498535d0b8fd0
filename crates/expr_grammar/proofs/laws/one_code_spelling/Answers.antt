use Rattle.expr_grammar.proofs.Spellings.{code_alike}
use Rattle.expr_grammar.proofs.laws.one_code_spelling.Goals as goal

pub returns : goal.returns
returns c = code_alike
