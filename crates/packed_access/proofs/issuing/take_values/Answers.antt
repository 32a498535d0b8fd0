use Rattle.std.proofs.Common.{arith}
use Rattle.packed_access.proofs.FillLemmas.{filled_next}
use Rattle.packed_access.proofs.issuing.take_values.Goals as goal

pub loop-index-preserved : goal.loop-index-preserved
loop-index-preserved g c = record {
  log = filled_next _ c.args.log.now c.loop-index.log c.take.new.self c.loop-index.index c.value-word.result c.pending_place.result (let a = c.loop-index.auto.index in let b = c.count_came-index.ensures in omega (arith, a, b)) c.loop-index.invariant.log c.pending_place.ensures c.value-word.ensures c.take.ensures.answer.so;
  sound = c.take.ensures.answer.sound;
}
