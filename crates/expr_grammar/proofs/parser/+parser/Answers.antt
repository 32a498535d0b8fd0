use Rattle.std.proofs.Common.{◌≡◌, sym, arith}
use Rattle.std.proofs.lemmas.Result.{err_from_is_err_and}
use Rattle.expr_grammar.specs.Tree.{tree}
use Rattle.expr_grammar.specs.Lexeme.{lexeme, lexemes}
use Rattle.expr_grammar.specs.Grammar.{level}
use Rattle.expr_grammar.specs.Reading.{at_level, arguments, read}
use Rattle.expr_grammar.proofs.Turns.{fails}
use Rattle.expr_grammar.proofs.ArgTurns as turns
use Rattle.expr_grammar.proofs.parser.+parser.Goals as goal

pub at_level-returns-in_err-right-clause-reads : goal.at_level-returns-in_err-right-clause-reads
at_level-returns-in_err-right-clause-reads t c =
    let p = err_from_is_err_and c.from_residual-in_err-right.result c.from_residual-in_err-right.ensures.1 in
    let is_level : c.level.result ≡ level c.in-Some-binary_of.op = c.level.ensures.value in
    let got = rw c.level-in-loop-mark.ensures.value at c.in_err-right.ensures.reads in
    rw (p.1, p.2) (fails c.in_err-right.field-0.0 c.args.least (tree c.loop-mark.left) (lexemes c.loop-mark.rest.now) (lexeme c.in-Some.mark) (lexemes c.in-Some.after.now) c.in-Some-binary_of.op (at_level read c.args.least (lexemes c.args.tokens.now))
    c.in-Some.ensures.tokens (sym c.in-Some-binary_of.ensures) (omega arith) got c.loop-mark.invariant.0)

pub arguments-returns-in_err-arg-clause-reads : goal.arguments-returns-in_err-arg-clause-reads
arguments-returns-in_err-arg-clause-reads t c =
    let p = err_from_is_err_and c.from_residual-in_err-arg.result c.from_residual-in_err-arg.ensures.1 in
    let n = c.in-Some.ensures.tokens in
    rw (p.1, p.2) (turns.fails c.in_err-arg.field-0.0 c.loop-after.args (lexemes c.loop-after.rest.now) (lexemes c.in-Some.after.now) n.mark (arguments read (lexemes c.args.tokens.now)) n.parts n.is c.in_err-arg.ensures.reads c.loop-after.invariant.0)

pub arguments-loop-after-preserved : goal.arguments-loop-after-preserved
arguments-loop-after-preserved t c =
    let n = c.in-Some.ensures.tokens in (
      turns.goes_on c.loop-after.args c.push-in-Some.new.self c.in_ok-arg.arg (lexemes c.loop-after.rest.now) (lexemes c.in-Some.after.now) (lexemes c.in_ok-arg.later.now) n.mark (arguments read (lexemes c.args.tokens.now)) n.parts n.is
          c.in_ok-arg.ensures.reads c.in_ok-push-2.ensures.ok c.loop-after.invariant.0,
      omega (arith, c.in_ok-arg.ensures.shorter, c.in-Some.ensures.shorter, c.loop-after.invariant.1),
    )

pub arguments-returns-in_err-rest-clause-reads : goal.arguments-returns-in_err-rest-clause-reads
arguments-returns-in_err-rest-clause-reads t c =
    let p = err_from_is_err_and c.from_residual-in_err-rest.result c.from_residual-in_err-rest.ensures.1 in
    rw (p.1, p.2) (turns.not_closed c.in_err-rest.field-0.0 c.loop-after.args (lexemes c.loop-after.rest.now) (arguments read (lexemes c.args.tokens.now)) (rw c.in_default.is at c.after_mark-in-loop-after.ensures.tokens) c.in_err-rest.ensures.reads c.loop-after.invariant.0)

pub arguments-returns-clause-reads : goal.arguments-returns-clause-reads
arguments-returns-clause-reads t c =
    turns.closes c.loop-after.args (lexemes c.loop-after.rest.now) (lexemes c.in_ok-rest.rest.now) (arguments read (lexemes c.args.tokens.now)) (rw c.in_default.is at c.after_mark-in-loop-after.ensures.tokens) c.in_ok-rest.ensures.reads c.loop-after.invariant.0
