use Rattle.std.proofs.Common.{◌≡◌, ◌≤◌, ◌<◌, length, take, sym, ap, subst, ◌∙◌, arith, List}
use Rattle.expr_grammar.specs.declared.limit.Span.TheVariants.{Text}
use Rattle.expr_grammar.specs.Lexeme.{Lexeme, lexemes}
use Rattle.expr_grammar.specs.Tree.{tree}
use Rattle.expr_grammar.specs.Grammar.{ReadsExpr}
use Rattle.expr_grammar.specs.Reading.{read, whole}
use Rattle.expr_grammar.specs.Refusal.{NoneDeepBefore, IsDeep}
use Rattle.expr_grammar.proofs.CompleteArgs.{reads_whole}
use Rattle.expr_grammar.proofs.Sound.{whole_outcome}
use Rattle.expr_grammar.proofs.Limits.{lexemes_length, lexemes_take}
use Rattle.expr_grammar.proofs.Whole.{answers}
use Rattle.expr_grammar.proofs.parse.expr_answer.Goals as goal

pub returns : goal.returns
returns c =
    let all = c.as_slice-all.result.now in
    let ts = c.args.tokens.now in
    let limit = c.limit_of-limit.result in
    let same : lexemes all ≡ ts = c.as_slice-all.ensures in
    let long : length all ≡ length ts = sym (lexemes_length all) ∙ ap length same in
    let front : lexemes (take limit all) ≡ take limit ts = lexemes_take limit all ∙ ap (take limit) same in
    let within : limit ≤ length ts = omega (arith, long, c.limit_of-limit.ensures.within) in
    let none : NoneDeepBefore Text ts limit = subst (λ (l : List Lexeme). NoneDeepBefore Text l limit) same c.limit_of-limit.ensures.before in
    let deep = λ (lt : limit < length ts). let d : IsDeep Text ts limit = subst (λ (l : List Lexeme). IsDeep Text l limit) same (c.limit_of-limit.ensures.here (omega (arith, long, lt))) in d in
    rw c.answer.ensures (answers ReadsExpr (whole read) reads_whole whole_outcome tree Text ts (lexemes (take limit all)) limit front within none deep c.expression.result c.expression.ensures)
