use Rattle.std.proofs.Common.{◌∙◌, true}
use Rattle.std.proofs.lemmas.Result.{err_from_is_err_and}
use Rattle.access_calls.specs.Reported.{world_from}
use Rattle.target_calls.specs.Asks.{unit_ask}
use Rattle.target_calls.specs.declared.calls.Asked.{Asked}
use Rattle.rom_scan.proofs.AskLemmas.{gives_result, stops_asking, stops_making}
use Rattle.rom_scan.proofs.asking.ask_now.Goals as goal

pub returns-in_err-slot-clause-gives : goal.returns-in_err-slot-clause-gives
returns-in_err-slot-clause-gives g c =
    let passed = err_from_is_err_and c.from_residual.result c.from_residual.ensures.1 in
    rw (passed.1, passed.2) (λ m answered written b l whole.
    stops_asking Asked (world_from m answered) (g.A.Access.reported c.args.access.now) (g.A.Access.reported c.ask.new.self) (unit_ask c.args.unit true) written c.in_err-slot.field-0.0 c.requires.may.no_end
    c.in_err-slot.ensures.calls (c.in_err-slot.ensures.stops m answered b l c.requires.may.no_end) whole)

pub returns-in_err-flush-clause-gives : goal.returns-in_err-flush-clause-gives
returns-in_err-flush-clause-gives g c =
    let passed = err_from_is_err_and c.from_residual-in_err-flush.result c.from_residual-in_err-flush.ensures.1 in
    rw (passed.1, passed.2) (λ m answered written b l whole.
    stops_making (world_from m answered) (g.A.Access.reported c.args.access.now).asks.calls (g.A.Access.reported c.ask.new.self).asks.calls (g.A.Access.reported c.flush.new.self).asks.calls (unit_ask c.args.unit true)
    (g.A.Access.reported c.flush.new.self).lines written c.in_err-flush.field-0.0 c.in_ok-slot.ensures.calls c.in_err-flush.ensures.calls (c.in_err-flush.ensures.stops m answered (c.in_ok-slot.ensures.ends.keeps.on m b) l c.in_ok-slot.ensures.ends.no_end) whole)

pub returns-clause-gives : goal.returns-clause-gives
returns-clause-gives g c = λ m answered written b l whole.
    let l2 = c.in-Ok.ensures.ends.keeps.goes.left answered l in
    gives_result (world_from m answered) (g.A.Access.reported c.args.access.now).asks.calls (g.A.Access.reported c.flush.new.self).asks.calls (g.A.Access.reported c.value.new.self).asks.calls (unit_ask c.args.unit true) written
    c.in-Slot.slot.index c.in-Ok.value (c.in_ok-flush.ensures.calls ∙ c.in_ok-slot.ensures.calls) c.in-Ok.ensures.calls
    (rw c.in_ok-flush.ensures.calls (c.in_ok-flush.ensures.whole m answered (c.in_ok-slot.ensures.ends.keeps.on m b) l2))
    (rw c.in-Slot.is at c.in_ok-slot.ensures.slot)
    (c.in-Ok.ensures.value m answered (c.in_ok-flush.ensures.ends.keeps.on m (c.in_ok-slot.ensures.ends.keeps.on m b)) l) whole
