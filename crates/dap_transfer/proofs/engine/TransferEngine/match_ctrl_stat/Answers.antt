use Rattle.std.proofs.Common.{ap}
use Rattle.dap_transfer.specs.State.{TransferState}
use Rattle.dap_transfer.proofs.Polls.{ctrl_ended}
use Rattle.dap_transfer.proofs.engine.TransferEngine.match_ctrl_stat.Goals as goal

pub returns-clause-end : goal.returns-clause-end
returns-clause-end c =
    ctrl_ended c.args.self.now c.args.access c.args.requested c.requires.read c.requires.ctrl_stat c.requires.free _ _ _ _ _ _ _ _
    (ap (λ (p : TransferState). p.line.target) c.self.view_is) (ap (λ (p : TransferState). p.mask) c.self.view_is) (ap (λ (p : TransferState). p.line.number) c.self.view_is)
    c.turns-turns.ensures c.poll-end.ensures c.match_response.ensures
