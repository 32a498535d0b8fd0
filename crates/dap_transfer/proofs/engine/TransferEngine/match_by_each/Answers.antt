use Rattle.std.proofs.Common.{ap}
use Rattle.dap_transfer.specs.State.{TransferState}
use Rattle.dap_transfer.proofs.ValueMatches.{turned}
use Rattle.dap_transfer.proofs.engine.TransferEngine.match_by_each.Goals as goal

pub loop-turn-preserved : goal.loop-turn-preserved
loop-turn-preserved c =
    let turn = turned c.args.self.now c.loop-turn.self c.wire.new.self c.args.requested c.args.access c.turns-turns.result
    c.loop-turn.turn c.in-Ok.value c.self.inside.mask
    c.loop-turn-test.true c.loop-turn.invariant.only_line c.wire.ensures.after c.loop-turn.invariant.rest
    c.in-Ok.ensures.answer (ap (λ (p : TransferState). p.mask) c.self.view_is) c.if-value-self.false in
    record { only_line = turn.0; turns_is = c.loop-turn.invariant.turns_is; rest = turn.1 }
