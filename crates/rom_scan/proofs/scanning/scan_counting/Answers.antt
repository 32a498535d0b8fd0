use Rattle.std.proofs.Common.{◌≡◌, ◌∙◌, ◌+◌, inl, inr, length, arith, rules}
use Rattle.access_calls.specs.Reported.{world_from}
use Rattle.rom_scan.specs.Walk.{Listed, Full, scanned_port}
use Rattle.rom_scan.specs.declared.scan_end.ScanEnd.TheVariants as e
use Rattle.access_calls.proofs.KeepLemmas.{keeps_on}
use Rattle.rom_scan.proofs.EndLemmas.{ends_at}
use Rattle.rom_scan.proofs.FullLemmas.{full_at}
use Rattle.rom_scan.proofs.ScanLemmas.{end_at, finish_count, finished, lists_at, stops_finishing}
use Rattle.rom_scan.proofs.scanning.scan_counting.Goals as goal

pub returns-in-Ok-finish-clause-gives : goal.returns-in-Ok-finish-clause-gives
returns-in-Ok-finish-clause-gives g c = λ m answered b l whole.
    let h = c.in-Ok.ensures.gives m answered b (c.in-Ok-finish.ensures.ends.keeps.goes.left answered l) whole in (
      h.0,
      finished (world_from m answered) (scanned_port 1024 c.args.ap) (g.A.Access.reported c.args.access.now).asks.calls (g.K.Sink.written c.args.sink.now) (g.K.Sink.written c.list_all.new.sink) (Listed h.0)
          (g.A.Access.reported c.list_all.new.access) (g.A.Access.reported c.finish.new.self) c.in-Ok.ensures.ends.ends.end c.in-Ok-finish.ensures.calls h.1,
    )

pub returns-in-Err-clause-gives : goal.returns-in-Err-clause-gives
returns-in-Err-clause-gives g c = λ m answered b l whole.
    let h = c.in-Ok.ensures.gives m answered b (c.in-Err.ensures.ends.keeps.goes.left answered l) whole in
    inr (stops_finishing (world_from m answered) (scanned_port 1024 c.args.ap) (g.A.Access.reported c.args.access.now).asks.calls (g.K.Sink.written c.args.sink.now) (g.K.Sink.written c.list_all.new.sink) (Listed h.0)
    (g.A.Access.reported c.list_all.new.access) (g.A.Access.reported c.finish.new.self) c.in-Ok.ensures.ends.ends.end c.in-Err.ensures.calls h.1 c.in-Err.stop whole
    (c.in-Err.ensures.stops m answered (c.in-Ok.ensures.ends.ends.keeps.on m b) l c.in-Ok.ensures.ends.ends.end))

pub returns-in-Ok-finish-2-clause-gives : goal.returns-in-Ok-finish-2-clause-gives
returns-in-Ok-finish-2-clause-gives g c = λ m answered b l whole.
    let w = world_from m answered in
    let a = g.A.Access.reported c.list_all.new.access in
    let old = (g.A.Access.reported c.args.access.now).asks.calls in
    let before = g.K.Sink.written c.args.sink.now in
    let now = g.K.Sink.written c.list_all.new.sink in
    finished w (scanned_port 1024 c.args.ap) old before now Full a (g.A.Access.reported c.finish-in-Err-Full.new.self)
    (end_at c.in-Err-Full.field-0 e.Full a.end c.in-Err-Full.field-0-is c.in-Err-Full.ensures.ends.ends.end) c.in-Ok-finish-2.ensures.calls
    (lists_at w a.lines (scanned_port 1024 c.args.ap) c.in-Err-Full.field-0 e.Full old a.asks.calls before now c.in-Err-Full.field-0-is
    (c.in-Err-Full.ensures.gives m answered b (c.in-Ok-finish-2.ensures.ends.keeps.goes.left answered l) whole))

pub returns-in-Err-finish-clause-gives : goal.returns-in-Err-finish-clause-gives
returns-in-Err-finish-clause-gives g c = λ m answered b l whole.
    let w = world_from m answered in
    let a = g.A.Access.reported c.list_all.new.access in
    let old = (g.A.Access.reported c.args.access.now).asks.calls in
    let before = g.K.Sink.written c.args.sink.now in
    let now = g.K.Sink.written c.list_all.new.sink in
    let none = end_at c.in-Err-Full.field-0 e.Full a.end c.in-Err-Full.field-0-is c.in-Err-Full.ensures.ends.ends.end in
    inr (stops_finishing w (scanned_port 1024 c.args.ap) old before now Full a (g.A.Access.reported c.finish-in-Err-Full.new.self) none c.in-Err-finish.ensures.calls
    (lists_at w a.lines (scanned_port 1024 c.args.ap) c.in-Err-Full.field-0 e.Full old a.asks.calls before now c.in-Err-Full.field-0-is
    (c.in-Err-Full.ensures.gives m answered b (c.in-Err-finish.ensures.ends.keeps.goes.left answered l) whole))
    c.in-Err-finish.stop whole
    (c.in-Err-finish.ensures.stops m answered (c.in-Err-Full.ensures.ends.ends.keeps.on m b) l none))

pub returns-in-Err-WriteFault-clause-gives : goal.returns-in-Err-WriteFault-clause-gives
returns-in-Err-WriteFault-clause-gives g c = λ m answered b l whole.
    let a = g.A.Access.reported c.list_all.new.access in
    lists_at (world_from m answered) a.lines (scanned_port 1024 c.args.ap) c.in-Err-WriteFault.field-0 e.WriteFault (g.A.Access.reported c.args.access.now).asks.calls a.asks.calls (g.K.Sink.written c.args.sink.now) (g.K.Sink.written c.list_all.new.sink)
    c.in-Err-WriteFault.field-0-is (c.in-Err-WriteFault.ensures.gives m answered b l whole)

pub returns-in-Err-Stop-clause-gives : goal.returns-in-Err-Stop-clause-gives
returns-in-Err-Stop-clause-gives g c = λ m answered b l whole.
    let a = g.A.Access.reported c.list_all.new.access in
    inl (lists_at (world_from m answered) a.lines (scanned_port 1024 c.args.ap) c.in-Err-Stop.field-0 (e.Stop c.in-Err-Stop.stop) (g.A.Access.reported c.args.access.now).asks.calls a.asks.calls (g.K.Sink.written c.args.sink.now) (g.K.Sink.written c.list_all.new.sink)
    c.in-Err-Stop.field-0-is (c.in-Err-Stop.ensures.gives m answered b l whole))

pub returns-in-Ok-finish-2-clause-full : goal.returns-in-Ok-finish-2-clause-full
returns-in-Ok-finish-2-clause-full g c =
    let a = g.A.Access.reported c.list_all.new.access in
    let old = length (g.A.Access.reported c.args.access.now).asks.calls in
    let full = full_at c.in-Err-Full.field-0 e.Full (length (g.A.Access.reported c.list_all.new.access).asks.calls + c.args.units.now ≡ old + c.list_all.new.units) c.in-Err-Full.field-0-is c.in-Err-Full.ensures.full in
    let count = finish_count a (g.A.Access.reported c.finish-in-Err-Full.new.self) (end_at c.in-Err-Full.field-0 e.Full a.end c.in-Err-Full.field-0-is c.in-Err-Full.ensures.ends.ends.end) c.in-Ok-finish-2.ensures.calls in
    omega (arith, full, count)

pub returns-in-Ok-finish-clause-ends : goal.returns-in-Ok-finish-clause-ends
returns-in-Ok-finish-clause-ends g c = record {
  counts = record {
    asked = finish_count (g.A.Access.reported c.list_all.new.access) (g.A.Access.reported c.finish.new.self) c.in-Ok.ensures.ends.ends.end c.in-Ok-finish.ensures.calls ∙ c.in-Ok.ensures.ends.counts.asked;
    few = c.in-Ok.ensures.ends.counts.few;
  };
  ends =
      let ends = c.in-Ok.ensures.ends.ends in
      let done = c.in-Ok-finish.ensures.ends in
      record { end = done.no_end; lines = ends.lines; cause = ends.cause; keeps = keeps_on _ _ _ _ _ _ ends.keeps done.keeps };
}

pub returns-in-Err-clause-ends : goal.returns-in-Err-clause-ends
returns-in-Err-clause-ends g c = record {
  counts = search rules;
  ends =
      let ends = c.in-Ok.ensures.ends.ends in
      let done = c.in-Err.ensures.ends in
      record { end = search rules; lines = ends.lines; cause = ends.cause; keeps = keeps_on _ _ _ _ _ _ ends.keeps done.keeps };
}

pub returns-in-Ok-finish-2-clause-ends : goal.returns-in-Ok-finish-2-clause-ends
returns-in-Ok-finish-2-clause-ends g c = record {
  counts = search rules;
  ends =
      let ends = ends_at g.A.Access.begun g.A.Access.reported g.A.Access.identity g.K.Sink.written g.K.Sink.faults _ _ _ _ _ _ c.in-Err-Full.field-0-is c.in-Err-Full.ensures.ends.ends in
      let done = c.in-Ok-finish-2.ensures.ends in
      record { end = done.no_end; lines = ends.lines; cause = ends.cause; keeps = keeps_on _ _ _ _ _ _ ends.keeps done.keeps };
}

pub returns-in-Err-finish-clause-ends : goal.returns-in-Err-finish-clause-ends
returns-in-Err-finish-clause-ends g c = record {
  counts = search rules;
  ends =
      let ends = ends_at g.A.Access.begun g.A.Access.reported g.A.Access.identity g.K.Sink.written g.K.Sink.faults _ _ _ _ _ _ c.in-Err-Full.field-0-is c.in-Err-Full.ensures.ends.ends in
      let done = c.in-Err-finish.ensures.ends in
      record { end = search rules; lines = ends.lines; cause = ends.cause; keeps = keeps_on _ _ _ _ _ _ ends.keeps done.keeps };
}

pub returns-in-Err-Stop-clause-ends : goal.returns-in-Err-Stop-clause-ends
returns-in-Err-Stop-clause-ends g c = record {
  counts = search rules;
  ends = ends_at g.A.Access.begun g.A.Access.reported g.A.Access.identity g.K.Sink.written g.K.Sink.faults _ _ _ _ _ _ c.in-Err-Stop.field-0-is c.in-Err-Stop.ensures.ends.ends;
}

pub returns-in-Err-WriteFault-clause-ends : goal.returns-in-Err-WriteFault-clause-ends
returns-in-Err-WriteFault-clause-ends g c = record {
  counts = search rules;
  ends = ends_at g.A.Access.begun g.A.Access.reported g.A.Access.identity g.K.Sink.written g.K.Sink.faults _ _ _ _ _ _ c.in-Err-WriteFault.field-0-is c.in-Err-WriteFault.ensures.ends.ends;
}
