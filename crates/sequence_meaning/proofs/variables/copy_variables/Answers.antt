use Rattle.std.proofs.Common.{refl, arith}
use Rattle.sequence_meaning.proofs.AnswerLemmas.{answered_more}
use Rattle.sequence_meaning.proofs.variables.copy_variables.Goals as goal

pub loop-index-preserved : goal.loop-index-preserved
loop-index-preserved c = record {
  same = answered_more _ c.loop-index.index _ _ _ _ c.in-Some.ensures c.in_ok-name.ensures refl c.in_ok-push.ensures.ok c.loop-index.invariant.same;
  within = omega (arith, c.len.ensures);
}
