use Rattle.expr_grammar.proofs.Limits.{Counted}
use Rattle.expr_grammar.proofs.limit.limit_of.Given as goal

abbrev pub invariant-loop-i : goal.invariant-loop-i
invariant-loop-i l = Counted l.span l.tokens l.i l.count
