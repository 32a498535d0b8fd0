use Rattle.std.proofs.Common.{Err, subst}
use Rattle.expr_grammar.specs.declared.token_list.TokenError.{TokenError}
use Rattle.expr_grammar.specs.Lexing.{Lexes}
use Rattle.dbgconf_text.proofs.Replaced.{as_it_is, no_tokens}
use Rattle.dbgconf_text.proofs.replacing.keep_text.Goals as goal

pub returns-in_ok-same-in-BadToken : goal.returns-in_ok-same-in-BadToken
returns-in_ok-same-in-BadToken c = λ conf.
    as_it_is c.args.text.now c.in_ok-same-in-BadToken.same conf (no_tokens c.args.text.now c.in-BadToken.field-0 (subst (λ (e : TokenError). Lexes c.args.text.now (Err e)) c.in-BadToken.is c.requires)) c.in_ok-same-in-BadToken.ensures
