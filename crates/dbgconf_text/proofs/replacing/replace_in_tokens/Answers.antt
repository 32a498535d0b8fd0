use Rattle.std.proofs.lemmas.Bool.{MatchBool-at_true, MatchBool-at_false}
use Rattle.dbgconf_text.specs.Replacing.{AreCode, code}
use Rattle.dbgconf_text.proofs.Replaced.{as_it_is, other_tokens}
use Rattle.dbgconf_text.proofs.replacing.replace_in_tokens.Goals as goal

pub returns-then-branch : goal.returns-then-branch
returns-then-branch c =
    code c.args.tokens.now c.requires (MatchBool-at_true (AreCode c.args.tokens.now) (AreCode c.args.tokens.now → ⊥) c.if-branch.true c.in_ok-is_code.ensures) c.replace_in_code.ensures

pub returns : goal.returns
returns c =
    as_it_is c.args.text.now c.in_ok-same.same c.args.conf.now
    (other_tokens c.args.text.now c.args.tokens.now c.requires (MatchBool-at_false (AreCode c.args.tokens.now) (AreCode c.args.tokens.now → ⊥) c.if-branch.false c.in_ok-is_code.ensures))
    c.in_ok-same.ensures
