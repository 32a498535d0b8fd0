use Rattle.expr_grammar.proofs.CompleteArgs as laws
use Rattle.expr_grammar.proofs.laws.one_tree.Goals as goal

pub returns : goal.returns
returns c = laws.one_tree
