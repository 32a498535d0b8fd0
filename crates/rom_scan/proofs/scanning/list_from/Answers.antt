use Rattle.std.proofs.Common.{rules, ◌≡◌, ◌+◌, ℕ, [], Result, length, Ok, Err, sym, subst, arith}
use Rattle.std.proofs.lemmas.Result.{err_from_is_err_and}
use Rattle.access_calls.specs.Reported.{world_from}
use Rattle.sequels.specs.Meeting.{Reaches}
use Rattle.sequels.proofs.MeetingLemmas.{reaches_as, whole_after}
use Rattle.rom_scan.specs.Scans.{ScanComesTo}
use Rattle.rom_scan.specs.declared.scan_end.ScanEnd.{ScanEnd}
use Rattle.rom_scan.specs.Tables.{unwound, walk_from_component}
use Rattle.rom_scan.specs.Walk.{component}
use Rattle.rom_scan.proofs.EndLemmas.{ends_as, ends_on}
use Rattle.rom_scan.proofs.FullLemmas.{at_full}
use Rattle.rom_scan.proofs.ScanLemmas.{left_start, lists_as, lists_at, lists_done, lists_end, none_open, root_at}
use Rattle.rom_scan.proofs.StepLemmas.{walks_on}
use Rattle.rom_scan.proofs.scanning.list_from.Goals as goal

pub walk-requires-clause-tables : goal.walk-requires-clause-tables
walk-requires-clause-tables g c = c.in_ok-words.ensures.open (none_open c.new-tables.result c.new-tables.ensures)

pub walk-requires-clause-may : goal.walk-requires-clause-may
walk-requires-clause-may g c =
    let start = left_start c.new-tables.result c.new-listed.result c.new-tables.ensures c.new-listed.ensures in
    let count = c.in_ok-words.ensures.count in
    let few = c.requires.may.few in
    record { few = omega (arith, start, count, few); no_end = c.in_ok-words.ensures.ends.ends.end }

pub returns-in_err-words-clause-gives : goal.returns-in_err-words-clause-gives
returns-in_err-words-clause-gives g c = λ m answered b l whole.
    let w = world_from m answered in
    let a = g.A.Access.reported c.arrive.new.access in
    let old = (g.A.Access.reported c.args.access.now).asks.calls in
    let before = g.K.Sink.written c.args.sink.now in
    let now = g.K.Sink.written c.arrive.new.sink in
    let s = walk_from_component 1024 c.args.ap c.new-tables.result c.args.address c.new-listed.result in
    let passed = err_from_is_err_and c.from_residual.result c.from_residual.ensures.1 in
    lists_as w a.lines (component 1024 c.args.ap 7 c.args.address []) s c.from_residual.result old a.asks.calls before now
    (root_at c.args.ap c.args.address c.new-tables.result c.new-listed.result c.new-tables.ensures c.new-listed.ensures)
    (subst (λ (x : Result ℕ ScanEnd). ScanComesTo w a.lines s x old a.asks.calls before now) (sym passed.1)
    (lists_at w a.lines s c.in_err-words.field-0.0 passed.0 old a.asks.calls before now (sym passed.2)
    (lists_end w a.lines c.args.ap s c.in_err-words.field-0.0 c.arrive.new.tables c.arrive.new.listed old a.asks.calls before now
    (c.in_err-words.ensures.gives m answered b l whole))))

pub returns-in-Ok-clause-gives : goal.returns-in-Ok-clause-gives
returns-in-Ok-clause-gives g c = λ m answered b l whole.
    let w = world_from m answered in
    let n = c.args.ap in
    let e = c.in-Ok.ensures in
    let old = (g.A.Access.reported c.args.access.now).asks.calls in
    let mid = (g.A.Access.reported c.arrive.new.access).asks.calls in
    let a = g.A.Access.reported c.walk.new.access in
    let before = g.K.Sink.written c.args.sink.now in
    let then = g.K.Sink.written c.arrive.new.sink in
    let now = g.K.Sink.written c.walk.new.sink in
    let s = component 1024 n 7 c.args.address [] in
    let rest = unwound 1024 n c.arrive.new.tables c.arrive.new.listed in
    let r : Reaches w (component 1024 n 7 c.args.address []) old mid before then (unwound 1024 n c.arrive.new.tables c.arrive.new.listed) =
    reaches_as w (walk_from_component 1024 n c.new-tables.result c.args.address c.new-listed.result) s rest old mid before then
    (sym (root_at n c.args.address c.new-tables.result c.new-listed.result c.new-tables.ensures c.new-listed.ensures))
    (c.in_ok-words.ensures.gives m answered b (e.ends.ends.keeps.goes.left answered l) whole) in
    lists_done w a.lines n (c.in_ok-words.words + c.in-Ok.more) s c.walk.new.tables c.walk.new.listed old a.asks.calls before now
    (walks_on w a.lines n s rest (Ok c.in-Ok.more) c.walk.new.tables c.walk.new.listed old mid a.asks.calls before then now whole r
    (e.gives m answered (c.in_ok-words.ensures.ends.ends.keeps.on m b) l (whole_after w s rest old mid before then whole r)))
    e.none

pub returns-clause-gives : goal.returns-clause-gives
returns-clause-gives g c = λ m answered b l whole.
    let w = world_from m answered in
    let n = c.args.ap in
    let e = c.in-Err.ensures in
    let old = (g.A.Access.reported c.args.access.now).asks.calls in
    let mid = (g.A.Access.reported c.arrive.new.access).asks.calls in
    let a = g.A.Access.reported c.walk.new.access in
    let before = g.K.Sink.written c.args.sink.now in
    let then = g.K.Sink.written c.arrive.new.sink in
    let now = g.K.Sink.written c.walk.new.sink in
    let s = component 1024 n 7 c.args.address [] in
    let rest = unwound 1024 n c.arrive.new.tables c.arrive.new.listed in
    let r : Reaches w (component 1024 n 7 c.args.address []) old mid before then (unwound 1024 n c.arrive.new.tables c.arrive.new.listed) =
    reaches_as w (walk_from_component 1024 n c.new-tables.result c.args.address c.new-listed.result) s rest old mid before then
    (sym (root_at n c.args.address c.new-tables.result c.new-listed.result c.new-tables.ensures c.new-listed.ensures))
    (c.in_ok-words.ensures.gives m answered b (e.ends.ends.keeps.goes.left answered l) whole) in
    lists_end w a.lines n s c.in-Err.end c.walk.new.tables c.walk.new.listed old a.asks.calls before now
    (walks_on w a.lines n s rest (Err c.in-Err.end) c.walk.new.tables c.walk.new.listed old mid a.asks.calls before then now whole r
    (e.gives m answered (c.in_ok-words.ensures.ends.ends.keeps.on m b) l (whole_after w s rest old mid before then whole r)))

pub returns-in_err-words-clause-full : goal.returns-in_err-words-clause-full
returns-in_err-words-clause-full g c =
    let passed = err_from_is_err_and c.from_residual.result c.from_residual.ensures.1 in
    rw (passed.1, passed.2) (let old = length (g.A.Access.reported c.args.access.now).asks.calls in
    let new = length (g.A.Access.reported c.arrive.new.access).asks.calls in
    at_full (Err c.in_err-words.field-0.0) (new ≡ old) (new + c.args.units.now ≡ old + c.args.units.now) (λ full. omega (arith, full)) c.in_err-words.ensures.full)

pub returns-clause-full : goal.returns-clause-full
returns-clause-full g c =
    let old = length (g.A.Access.reported c.args.access.now).asks.calls in
    let mid = length (g.A.Access.reported c.arrive.new.access).asks.calls in
    let new = length (g.A.Access.reported c.walk.new.access).asks.calls in
    at_full (Err c.in-Err.end) (new + c.args.units.now ≡ mid + c.walk.new.units) (new + c.args.units.now ≡ old + (c.walk.new.units + c.in_ok-words.words))
    (λ full. (let asked = c.in_ok-words.ensures.ends.counts.asked in omega (arith, full, asked))) c.in-Err.ensures.full

pub returns-in-Ok-clause-ends : goal.returns-in-Ok-clause-ends
returns-in-Ok-clause-ends g c = record {
  counts = let start = left_start c.new-tables.result c.new-listed.result c.new-tables.ensures c.new-listed.ensures in
      let count = c.in_ok-words.ensures.count in
      let asked = c.in_ok-words.ensures.ends.counts.asked in
      let more = c.in-Ok.ensures.count in
      let all = c.in-Ok.ensures.ends.counts.asked in
      record { asked = omega (arith, asked, all); few = omega (arith, start, count, asked, more, all) };
  ends =
      ends_on g.A.Access.begun g.A.Access.reported g.A.Access.identity g.K.Sink.written g.K.Sink.faults c.in_ok-words.words (Ok (c.in_ok-words.words + c.in-Ok.more)) _ _ _ _ _ _ c.in_ok-words.ensures.ends.ends (ends_as g.A.Access.begun g.A.Access.reported g.A.Access.identity g.K.Sink.written g.K.Sink.faults _ _ _ _ _ _ c.in-Ok.ensures.ends.ends);
}

pub returns-clause-ends : goal.returns-clause-ends
returns-clause-ends g c = record {
  counts = search rules;
  ends = ends_on g.A.Access.begun g.A.Access.reported g.A.Access.identity g.K.Sink.written g.K.Sink.faults c.in_ok-words.words (Err c.in-Err.end) _ _ _ _ _ _ c.in_ok-words.ensures.ends.ends c.in-Err.ensures.ends.ends;
}
