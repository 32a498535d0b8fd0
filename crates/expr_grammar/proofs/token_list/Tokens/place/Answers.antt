use Rattle.std.proofs.Common.{◌≡◌, ◌≢◌, ◌-◌, [], length, sym, ap, subst, ◌∙◌, arith, false-eqb}
use Rattle.expr_grammar.specs.declared.token.TokenKind.TheVariants as kinds
use Rattle.expr_grammar.specs.Lexeme.{lexemes}
use Rattle.expr_grammar.specs.Lexing.{AreTokensOf}
use Rattle.expr_grammar.proofs.Places.{place_here, place_past, fits}
use Rattle.expr_grammar.proofs.token_list.Tokens.place.Goals as goal

pub returns-then-index-tokens : goal.returns-then-index-tokens
returns-then-index-tokens c =
    let same : lexemes c.as_slice-tokens.result.now ≡ c.args.self.now = ap lexemes c.as_slice-tokens.ensures ∙ c.self.view_is in
    rw (← same) (place_here c.as_slice-tokens.result.now c.args.index _ c.if-index-tokens.true)

pub overflow_add-result : goal.overflow_add-result
overflow_add-result c =
    let tokens = c.as_slice-tokens.result.now in
    let some : length tokens ≢ 0 = false-eqb (length tokens) 0 (sym c.if-is_empty.false ∙ c.is_empty.ensures) in
    let are : AreTokensOf c.self.inside.text.now (lexemes tokens) = subst (AreTokensOf c.self.inside.text.now) (ap lexemes (sym c.as_slice-tokens.ensures)) c.self.invariant in
    omega (arith, c.self.told.1, fits c.self.inside.text.now tokens (length tokens - 1) (record { kind = kinds.Number; text = record { ref_ptr = (0, 0); now = [] }; start = 0; at = record { line = 0; column = 0 } }) are (omega (arith, some)))

pub returns : goal.returns
returns c =
    let tokens = c.as_slice-tokens.result.now in
    let some : length tokens ≢ 0 = false-eqb (length tokens) 0 (sym c.if-is_empty.false ∙ c.is_empty.ensures) in
    let same : lexemes tokens ≡ c.args.self.now = ap lexemes c.as_slice-tokens.ensures ∙ c.self.view_is in
    rw (← same) (place_past tokens c.args.index _ c.if-index-tokens.false (omega (arith, some)))
