use Rattle.std.proofs.Common.{rules, ◌≡◌, ◌∙◌, ◌+◌, [], length, Ok, Err, true, sym, arith}
use Rattle.access_calls.specs.Reported.{world_from}
use Rattle.target_calls.specs.Asks.{unit_ask}
use Rattle.sequels.proofs.MeetingLemmas.{whole_after}
use Rattle.rom_scan.specs.Walk.{component, scanned_port}
use Rattle.rom_scan.proofs.EndLemmas.{ends_as, ends_asked, ends_on, ends_stop}
use Rattle.rom_scan.proofs.FullLemmas.{at_full}
use Rattle.rom_scan.proofs.ScanLemmas.{base_none, base_some, base_stops, lists_on}
use Rattle.rom_scan.proofs.scanning.list_all.Goals as goal

pub returns-in-Err-clause-gives : goal.returns-in-Err-clause-gives
returns-in-Err-clause-gives g c = λ m answered b l whole.
    let a = g.A.Access.reported c.ask_now.new.access in
    let before = g.K.Sink.written c.args.sink.now in
    base_stops (world_from m answered) c.args.ap (g.A.Access.reported c.args.access.now).asks.calls before (unit_ask c.base_unit.result true) c.base_unit.ensures.asks a.lines a.asks.calls c.in-Err.stop
    (c.in-Err.ensures.gives m answered before b l whole)

pub returns-then-is_no_base-clause-gives : goal.returns-then-is_no_base-clause-gives
returns-then-is_no_base-clause-gives g c = λ m answered b l whole.
    let a = g.A.Access.reported c.ask_now.new.access in
    let before = g.K.Sink.written c.args.sink.now in
    base_none (world_from m answered) c.args.ap (g.A.Access.reported c.args.access.now).asks.calls before (unit_ask c.base_unit.result true) c.base_unit.ensures.asks a.asks.calls c.in-Ok.base
    (c.in-Ok.ensures.gives m answered before b l whole) a.lines 1 (sym c.is_no_base.ensures ∙ c.if-is_no_base.true)

pub returns-in-Ok-list_from-clause-gives : goal.returns-in-Ok-list_from-clause-gives
returns-in-Ok-list_from-clause-gives g c = λ m answered b l whole.
    let w = world_from m answered in
    let e = c.in-Ok-list_from.ensures in
    let old = (g.A.Access.reported c.args.access.now).asks.calls in
    let mid = (g.A.Access.reported c.ask_now.new.access).asks.calls in
    let a = g.A.Access.reported c.list_from.new.access in
    let before = g.K.Sink.written c.args.sink.now in
    let now = g.K.Sink.written c.list_from.new.sink in
    let rest = component 1024 c.args.ap 7 c.page_of.result [] in
    let r = base_some w c.args.ap old before (unit_ask c.base_unit.result true) c.base_unit.ensures.asks mid c.in-Ok.base (c.in-Ok.ensures.gives m answered before b (e.ends.ends.keeps.goes.left answered l) whole) c.page_of.result
    (sym c.is_no_base.ensures ∙ c.if-is_no_base.false) c.page_of.ensures.page in
    lists_on w a.lines (scanned_port 1024 c.args.ap) rest (Ok (1 + c.in-Ok-list_from.more)) old mid a.asks.calls before before now whole r
    (e.gives m answered (c.in-Ok.ensures.ends.keeps.on m b) l (whole_after w (scanned_port 1024 c.args.ap) rest old mid before before whole r))

pub returns-in-Err-list_from-clause-gives : goal.returns-in-Err-list_from-clause-gives
returns-in-Err-list_from-clause-gives g c = λ m answered b l whole.
    let w = world_from m answered in
    let e = c.in-Err-list_from.ensures in
    let old = (g.A.Access.reported c.args.access.now).asks.calls in
    let mid = (g.A.Access.reported c.ask_now.new.access).asks.calls in
    let a = g.A.Access.reported c.list_from.new.access in
    let before = g.K.Sink.written c.args.sink.now in
    let now = g.K.Sink.written c.list_from.new.sink in
    let rest = component 1024 c.args.ap 7 c.page_of.result [] in
    let r = base_some w c.args.ap old before (unit_ask c.base_unit.result true) c.base_unit.ensures.asks mid c.in-Ok.base (c.in-Ok.ensures.gives m answered before b (e.ends.ends.keeps.goes.left answered l) whole) c.page_of.result
    (sym c.is_no_base.ensures ∙ c.if-is_no_base.false) c.page_of.ensures.page in
    lists_on w a.lines (scanned_port 1024 c.args.ap) rest (Err c.in-Err-list_from.end) old mid a.asks.calls before before now whole r
    (e.gives m answered (c.in-Ok.ensures.ends.keeps.on m b) l (whole_after w (scanned_port 1024 c.args.ap) rest old mid before before whole r))

pub returns-in-Err-list_from-clause-full : goal.returns-in-Err-list_from-clause-full
returns-in-Err-list_from-clause-full g c =
    let old = length (g.A.Access.reported c.args.access.now).asks.calls in
    let mid = length (g.A.Access.reported c.ask_now.new.access).asks.calls in
    let new = length (g.A.Access.reported c.list_from.new.access).asks.calls in
    at_full (Err c.in-Err-list_from.end) (new + c.args.units.now ≡ mid + c.list_from.new.units) (new + c.args.units.now ≡ old + (c.list_from.new.units + 1))
    (λ full. (let count = c.in-Ok.ensures.count in omega (arith, full, count))) c.in-Err-list_from.ensures.full

pub returns-in-Err-clause-ends : goal.returns-in-Err-clause-ends
returns-in-Err-clause-ends g c = record {
  counts = search rules;
  ends = ends_stop g.A.Access.begun g.A.Access.reported g.A.Access.identity g.K.Sink.written g.K.Sink.faults c.in-Err.stop _ _ _ c.in-Err.ensures.ends;
}

pub returns-then-is_no_base-clause-ends : goal.returns-then-is_no_base-clause-ends
returns-then-is_no_base-clause-ends g c = record {
  counts = search rules;
  ends = ends_asked g.A.Access.begun g.A.Access.reported g.A.Access.identity g.K.Sink.written g.K.Sink.faults c.in-Ok.base 1 _ _ _ c.in-Ok.ensures.ends;
}

pub returns-in-Ok-list_from-clause-ends : goal.returns-in-Ok-list_from-clause-ends
returns-in-Ok-list_from-clause-ends g c = record {
  counts = search rules;
  ends =
      ends_on g.A.Access.begun g.A.Access.reported g.A.Access.identity g.K.Sink.written g.K.Sink.faults 1 (Ok (1 + c.in-Ok-list_from.more)) _ _ _ _ _ _ (ends_asked g.A.Access.begun g.A.Access.reported g.A.Access.identity g.K.Sink.written g.K.Sink.faults c.in-Ok.base 1 _ _ _ c.in-Ok.ensures.ends)
      (ends_as g.A.Access.begun g.A.Access.reported g.A.Access.identity g.K.Sink.written g.K.Sink.faults _ _ _ _ _ _ c.in-Ok-list_from.ensures.ends.ends);
}

pub returns-in-Err-list_from-clause-ends : goal.returns-in-Err-list_from-clause-ends
returns-in-Err-list_from-clause-ends g c = record {
  counts = search rules;
  ends =
      ends_on g.A.Access.begun g.A.Access.reported g.A.Access.identity g.K.Sink.written g.K.Sink.faults 1 (Err c.in-Err-list_from.end) _ _ _ _ _ _ (ends_asked g.A.Access.begun g.A.Access.reported g.A.Access.identity g.K.Sink.written g.K.Sink.faults c.in-Ok.base 1 _ _ _ c.in-Ok.ensures.ends) c.in-Err-list_from.ensures.ends.ends;
}
