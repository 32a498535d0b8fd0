use Rattle.std.proofs.Common.{sym, ap, ◌∙◌}
use Rattle.std.specs.List.{prefix_len}
use Rattle.expr_grammar.specs.Lexing.{is_blank, is_in_line, begins_line_comment}
use Rattle.expr_grammar.proofs.Fronts.{first}
use Rattle.expr_grammar.proofs.Pieces.{blank_taken, line_taken}
use Rattle.expr_grammar.proofs.front.front_piece.Goals as goal

pub returns-then-is_blank : goal.returns-then-is_blank
returns-then-is_blank c =
    blank_taken c.args.text.now c.blank_len.result (ap (λ l. is_blank (first l)) (sym c.as_bytes-bytes.ensures.value) ∙ sym c.is_blank.ensures ∙ c.if-is_blank.true) (c.blank_len.ensures ∙ ap (prefix_len is_blank) c.as_bytes-bytes.ensures.value) c.requires

pub returns-then-opens_comment : goal.returns-then-opens_comment
returns-then-opens_comment c =
    line_taken c.args.text.now c.line_len.result (ap begins_line_comment (sym c.as_bytes-bytes.ensures.value) ∙ sym c.opens_comment.ensures ∙ c.if-opens_comment.true) (c.line_len.ensures ∙ ap (prefix_len is_in_line) c.as_bytes-bytes.ensures.value) c.requires
