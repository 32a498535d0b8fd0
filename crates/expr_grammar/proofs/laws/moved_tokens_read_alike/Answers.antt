use Rattle.expr_grammar.proofs.Again.{again, again_code}
use Rattle.expr_grammar.proofs.Fits.{accepted_moved}
use Rattle.expr_grammar.proofs.laws.moved_tokens_read_alike.Goals as goal

pub returns-clause-expression : goal.returns-clause-expression
returns-clause-expression c = λ ts us e r m. let x = again e 0 ts us r m in (x.tree, x.reads, x.same)

pub returns-clause-code : goal.returns-clause-code
returns-clause-code c = λ ts us code r m. let x = again_code code ts us r m in (x.trees, x.reads, x.same)

pub returns-clause-accepted : goal.returns-clause-accepted
returns-clause-accepted c = λ ts us code is m. let x = again_code code ts us is.reads m in (x.trees, accepted_moved ts us code x.trees is x.reads m, x.same)
