use Rattle.expr_grammar.proofs.Pieces.{mark_taken, mark_stuck}
use Rattle.expr_grammar.proofs.front.mark_front.Goals as goal

pub returns-then-len-eq0 : goal.returns-then-len-eq0
returns-then-len-eq0 c =
    let r = c.requires in mark_stuck c.args.bytes.now r.blank r.line r.block r.digit r.letter r.quote c.mark_len-len.result c.mark_len-len.ensures c.if-len-eq0.true

pub returns-else-len-eq0 : goal.returns-else-len-eq0
returns-else-len-eq0 c =
    let r = c.requires in mark_taken c.args.bytes.now r.blank r.line r.block r.digit r.letter r.quote c.mark_len-len.result c.mark_len-len.ensures c.if-len-eq0.false
