use Rattle.std.proofs.Common.{sym, ap, ◌∙◌, ◌≡◌, ◌≢◌, take, false}
use Rattle.std.specs.List.{prefix_len}
use Rattle.std.specs.Cmp.Lexicographic.{bytes_decides, same_text}
use Rattle.std.specs.Str.{bytes_eq}
use Rattle.std.proofs.lemmas.Bool.{both_ways}
use Rattle.expr_grammar.specs.declared.token.TokenKind.TheVariants as kinds
use Rattle.expr_grammar.specs.Spelling.{is_word, keyword}
use Rattle.expr_grammar.proofs.Fronts.{boundary}
use Rattle.expr_grammar.proofs.Pieces.{letter_cut, word_taken, keyword_text, name_text}
use Rattle.expr_grammar.proofs.front.word_front.Goals as goal

pub split_at-requires : goal.split_at-requires
split_at-requires c =
    let len = c.word_len-len.ensures ∙ ap (prefix_len is_word) c.as_bytes.ensures.value in
    boundary c.args.text.now c.word_len-len.result c.utf8.text (letter_cut c.args.text.now c.word_len-len.result c.requires len)

pub returns-then-eq : goal.returns-then-eq
returns-then-eq c =
    let len = c.word_len-len.ensures ∙ ap (prefix_len is_word) c.as_bytes.ensures.value in
    let word : take c.word_len-len.result c.args.text.now ≡ keyword = sym c.split_at.ensures.front ∙ same_text c.split_at.result.0.now keyword (sym c.if-eq.true ∙ c.eq.ensures) in
    word_taken c.args.text.now c.word_len-len.result kinds.Mark c.requires len (keyword_text (take c.word_len-len.result c.args.text.now) word)

pub returns-else-eq : goal.returns-else-eq
returns-else-eq c =
    let len = c.word_len-len.ensures ∙ ap (prefix_len is_word) c.as_bytes.ensures.value in
    let differs : bytes_eq c.split_at.result.0.now keyword ≡ false = sym c.eq.ensures ∙ c.if-eq.false in
    let other : take c.word_len-len.result c.args.text.now ≢ keyword = λ same. both_ways (bytes_eq c.split_at.result.0.now keyword) differs ((bytes_decides c.split_at.result.0.now keyword).1 (c.split_at.ensures.front ∙ same)) in
    word_taken c.args.text.now c.word_len-len.result kinds.Name c.requires len (name_text c.args.text.now c.word_len-len.result c.requires len other)
