use Rattle.std.proofs.Common.{sym, ap, ◌∙◌}
use Rattle.std.specs.List.{prefix_len}
use Rattle.dap_base.specs.Number.{number_value}
use Rattle.expr_grammar.specs.Spelling.{is_word}
use Rattle.expr_grammar.proofs.Fronts.{boundary, number_cut, number_taken, number_stuck}
use Rattle.expr_grammar.proofs.front.number_front.Goals as goal

pub split_at-requires : goal.split_at-requires
split_at-requires c =
    let len = c.word_len-len.ensures ∙ ap (prefix_len is_word) c.as_bytes.ensures.value in
    boundary c.args.text.now c.word_len-len.result c.utf8.text (number_cut c.args.text.now c.word_len-len.result c.requires len)

pub returns-in-Some : goal.returns-in-Some
returns-in-Some c =
    let len = c.word_len-len.ensures ∙ ap (prefix_len is_word) c.as_bytes.ensures.value in
    number_taken c.args.text.now c.word_len-len.result c.in-Some.field-0 c.requires len (ap number_value (sym c.split_at.ensures.front) ∙ sym c.number.ensures ∙ c.in-Some.is)

pub returns-in-None : goal.returns-in-None
returns-in-None c =
    let len = c.word_len-len.ensures ∙ ap (prefix_len is_word) c.as_bytes.ensures.value in
    number_stuck c.args.text.now c.word_len-len.result c.requires len (ap number_value (sym c.split_at.ensures.front) ∙ sym c.number.ensures ∙ c.in-None.is)
