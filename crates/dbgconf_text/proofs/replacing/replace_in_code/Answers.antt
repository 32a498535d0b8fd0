use Rattle.std.proofs.Common.{◌≡◌, ◌∙◌, List, None, ap, sym}
use Rattle.expr_grammar.specs.Lexeme.{Lexeme, lexemes}
use Rattle.dbgconf_text.specs.Cuts.{cuts, spliced_text}
use Rattle.dbgconf_text.specs.Replacing.{settings_of, undefined_name}
use Rattle.dbgconf_text.specs.Values.{value_in}
use Rattle.dbgconf_text.proofs.Undefined.{first_undefined}
use Rattle.dbgconf_text.proofs.replacing.replace_in_code.Goals as goal

pub returns-in-Some : goal.returns-in-Some
returns-in-Some c =
    let tokens = lexemes c.as_slice.result.now in
    ap (λ (l : List Lexeme). undefined_name l c.args.conf.now) (sym c.as_slice.ensures)
    ∙ sym (first_undefined c.args.conf.now tokens (value_in c.in_ok-new.left) c.in_ok-new.ensures.left) ∙ sym c.find_left.ensures ∙ c.in-Some.is

pub returns : goal.returns
returns c =
    let tokens = lexemes c.as_slice.result.now in
    let none : undefined_name c.args.tokens.now c.args.conf.now ≡ None =
    ap (λ (l : List Lexeme). undefined_name l c.args.conf.now) (sym c.as_slice.ensures)
    ∙ sym (first_undefined c.args.conf.now tokens (value_in c.in_ok-new.left) c.in_ok-new.ensures.left) ∙ sym c.find_left.ensures ∙ c.in_default.is in (
      none,
      c.in_ok-new-2.ensures ∙ c.as_str.ensures.value ∙ c.in_ok-new.ensures.text
          ∙ ap (λ (l : List Lexeme). spliced_text c.args.text.now 0 (cuts (settings_of c.args.conf.now) l)) c.as_slice.ensures,
    )
