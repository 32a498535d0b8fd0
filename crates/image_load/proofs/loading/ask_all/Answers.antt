use Rattle.std.proofs.lemmas.Result.{err_from_is_err_and}
use Rattle.image_load.proofs.CallLemmas.{part_at}
use Rattle.image_load.proofs.loading.ask_all.Goals as goal

pub returns-in_err-slot-clause-asks : goal.returns-in_err-slot-clause-asks
returns-in_err-slot-clause-asks g c =
    let passed = err_from_is_err_and c.from_residual.result c.from_residual.ensures.1 in
    rw passed.1 (part_at c.args.read c.args.ap c.args.pieces.now c.loop-i.i _ _ _ _ _ c.loop-i-test.true c.unit_of.ensures.asks c.loop-i.invariant.calls c.in_err-slot.ensures.asks)
