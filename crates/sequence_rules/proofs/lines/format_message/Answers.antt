use Rattle.sequence_rules.proofs.LineLemmas.{format_on}
use Rattle.sequence_rules.proofs.lines.format_message.Goals as goal

pub loop-left-preserved : goal.loop-left-preserved
loop-left-preserved c =
    format_on _ _ _ _ _ _ _ _ _ _ c.loop-left.invariant c.in-Some.ensures.front c.loop-left-test.true c.first_of.ensures c.in_ok-push_piece.ensures c.numbers_after-numbers.ensures
