use Rattle.std.proofs.Common.{arith, sym, ◌∙◌}
use Rattle.expr_grammar.proofs.Limits.{found, goes_on}
use Rattle.expr_grammar.proofs.limit.limit_of.Goals as goal

pub returns-then-is_full-clause-here : goal.returns-then-is_full-clause-here
returns-then-is_full-clause-here c = λ lt. found c.args.span c.args.tokens.now c.loop-i.i c.loop-i.count _ c.loop-i.invariant lt (sym c.is_full.ensures ∙ c.if-is_full.true)

pub loop-i-preserved : goal.loop-i-preserved
loop-i-preserved c = goes_on c.args.span c.args.tokens.now c.loop-i.i c.loop-i.count c.with_token-count.result _ c.loop-i.invariant c.loop-i-test.true (sym c.is_full.ensures ∙ c.if-is_full.false) c.with_token-count.ensures

pub returns-clause-before : goal.returns-clause-before
returns-clause-before c = λ j lt deep. c.loop-i.invariant.before j (omega arith) deep
