use Rattle.std.proofs.Common.{false, true}
use Rattle.std.proofs.lemmas.Result.{err_from_is_err_and}
use Rattle.image_load.specs.Pieces.{asked_all}
use Rattle.image_load.proofs.CallLemmas.{part_first, asks_then}
use Rattle.image_load.proofs.loading.ask_both.Goals as goal

pub returns-clause-asks : goal.returns-clause-asks
returns-clause-asks g c =
    asks_then (asked_all false c.args.ap c.args.pieces.now) (asked_all true c.args.ap c.args.pieces.now) (g.A.Access.reported c.args.access.now).asks.calls (g.A.Access.reported c.ask_all.new.access).asks.calls
    (g.A.Access.reported c.ask_all-2.new.access).asks.calls c.ask_all-2.result c.in_ok-ask_all.ensures.asks c.ask_all-2.ensures.asks

pub returns-in_err-ask_all-clause-asks : goal.returns-in_err-ask_all-clause-asks
returns-in_err-ask_all-clause-asks g c =
    let passed = err_from_is_err_and c.from_residual.result c.from_residual.ensures.1 in
    rw passed.1 (part_first (asked_all false c.args.ap c.args.pieces.now) (asked_all true c.args.ap c.args.pieces.now) _ _ c.in_err-ask_all.ensures.asks)
