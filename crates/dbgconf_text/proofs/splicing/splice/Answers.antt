use Rattle.std.proofs.Common.{◌+◌, ◌-◌, ◌<◌, length, arith}
use Rattle.std.specs.Prelude.{string_bytes}
use Rattle.expr_grammar.specs.Lexeme.{lexemes}
use Rattle.dbgconf_text.specs.Replacing.{settings_of}
use Rattle.dbgconf_text.proofs.Statements.{starts}
use Rattle.dbgconf_text.proofs.Stepping.{step}
use Rattle.dbgconf_text.proofs.splicing.splice.Goals as goal

pub loop-start-init : goal.loop-start-init
loop-start-init c = record {
  at = starts c.args.text.now (string_bytes c.new-out.result) (lexemes c.args.tokens.now) (settings_of c.args.conf.now) c.requires.code.0 c.utf8.text c.requires.are c.requires.code.1.reads c.new-out.ensures.bytes;
  values = c.in_ok-left.ensures;
  within = omega arith;
}

pub put_statement-requires-clause-can : goal.put_statement-requires-clause-can
put_statement-requires-clause-can c =
    let next = step c.args.text.now (string_bytes c.loop-start.out) c.loop-start.rest.now c.args.tokens.now c.first_statement-own.result.now c.loop-start.start (settings_of c.args.conf.now) c.loop-start.left c.loop-start.invariant.at c.loop-start.invariant.values (omega (arith, c.loop-start-test.true)) c.first_statement-own.ensures in
    next.can

pub loop-start-smaller : goal.loop-start-smaller
loop-start-smaller c =
    let next = step c.args.text.now (string_bytes c.loop-start.out) c.loop-start.rest.now c.args.tokens.now c.first_statement-own.result.now c.loop-start.start (settings_of c.args.conf.now) c.loop-start.left c.loop-start.invariant.at c.loop-start.invariant.values (omega (arith, c.loop-start-test.true)) c.first_statement-own.ensures in
    let less : length c.args.tokens.now - (c.loop-start.start + length c.first_statement-own.result.now) < length c.args.tokens.now - c.loop-start.start = omega (arith, next.further, next.within) in
    less

pub loop-start-preserved : goal.loop-start-preserved
loop-start-preserved c =
    let next = step c.args.text.now (string_bytes c.loop-start.out) c.loop-start.rest.now c.args.tokens.now c.first_statement-own.result.now c.loop-start.start (settings_of c.args.conf.now) c.loop-start.left c.loop-start.invariant.at c.loop-start.invariant.values (omega (arith, c.loop-start-test.true)) c.first_statement-own.ensures in
    record {
      at = next.next (string_bytes c.put_statement.new.out) c.in_ok-rest.rest.now c.in_ok-rest.ensures.out c.in_ok-rest.ensures.rest;
      values = next.left c.put_statement.new.left c.in_ok-rest.ensures.left;
      within = next.within;
    }
