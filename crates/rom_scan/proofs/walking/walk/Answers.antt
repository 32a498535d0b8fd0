use Rattle.std.proofs.Common.{rules, ◌≡◌, ◌∙◌, ◌+◌, ◌∷◌, List, suc, length, Err, refl, ap, subst, arith}
use Rattle.std.specs.List.{All}
use Rattle.std.proofs.lemmas.List.Elements.{All-tail}
use Rattle.access_calls.proofs.KeepLemmas.{keeps_on, keeps_same}
use Rattle.access_calls.specs.Reported.{world_from}
use Rattle.sequels.specs.Meeting.{Reaches}
use Rattle.sequels.proofs.MeetingLemmas.{reaches_on, reaches_same, reaches_to, whole_after}
use Rattle.rom_scan.specs.Arrivals.{IsOpenTable, reads_left}
use Rattle.rom_scan.specs.Tables.{unwound}
use Rattle.rom_scan.specs.declared.tables.Table.{Table}
use Rattle.rom_scan.proofs.FullLemmas.{at_full}
use Rattle.rom_scan.proofs.ScanLemmas.{caused_on}
use Rattle.rom_scan.proofs.StepLemmas.{closed_table, left_tail, walks_on}
use Rattle.rom_scan.proofs.WrittenLemmas.{more_written, none_written, written_on}
use Rattle.rom_scan.proofs.walking.walk.Goals as goal

pub tables-init : goal.tables-init
tables-init g c = record {
  so_far = λ m answered b l whole. reaches_same (world_from m answered) (unwound 1024 c.args.ap c.args.tables.now c.args.listed.now) (g.A.Access.reported c.args.access.now).asks.calls (g.K.Sink.written c.args.sink.now);
  sound = c.requires.tables;
  deep = c.requires.deep;
  count = omega arith;
  asked = omega arith;
  written = none_written _;
  faults = refl;
  units = refl;
  ended = c.requires.may.no_end;
  keeps = keeps_same _ _ _ _;
}

pub tables-preserved-in-Ok : goal.tables-preserved-in-Ok
tables-preserved-in-Ok g c =
    let inv = c.tables.invariant in
    let e = c.in-Ok.ensures in
    let n = c.args.ap in
    let old = (g.A.Access.reported c.args.access.now).asks.calls in
    let mid = (g.A.Access.reported c.tables.access).asks.calls in
    let new = (g.A.Access.reported c.step.new.access).asks.calls in
    let all = unwound 1024 n c.args.tables.now c.args.listed.now in
    record {
      so_far = λ m answered b l whole.
          let w = world_from m answered in
          let r = inv.so_far m answered b (e.ends.ends.keeps.goes.left answered l) whole in
          let q = subst (λ (ts : List Table). Reaches w (unwound 1024 n c.args.tables.now c.args.listed.now) old mid (g.K.Sink.written c.args.sink.now) (g.K.Sink.written c.tables.sink) (unwound 1024 n ts c.tables.listed)) c.in-Some.ensures r in
          reaches_on w (unwound 1024 n c.args.tables.now c.args.listed.now) (unwound 1024 n (c.in-Some.table ∷ c.pop.new.self) c.tables.listed) (unwound 1024 n c.step.new.tables c.step.new.listed) old mid new
          (g.K.Sink.written c.args.sink.now) (g.K.Sink.written c.tables.sink) (g.K.Sink.written c.step.new.sink) whole q
          (e.gives m answered (inv.keeps.on m b) l (whole_after w (unwound 1024 n c.args.tables.now c.args.listed.now) (unwound 1024 n c.tables.tables c.tables.listed) old mid (g.K.Sink.written c.args.sink.now) (g.K.Sink.written c.tables.sink) whole r));
      sound = e.open (All-tail IsOpenTable c.in-Some.table c.pop.new.self (subst (λ (ts : List Table). All IsOpenTable ts) c.in-Some.ensures inv.sound));
      deep = e.deep;
      count =
          let a = e.count in
          let d = inv.count in
          let same : reads_left c.tables.tables c.tables.listed ≡ reads_left (c.in-Some.table ∷ c.pop.new.self) c.tables.listed = ap (λ (ts : List Table). reads_left ts c.tables.listed) c.in-Some.ensures in
          omega (arith, a, d, same);
      asked = (let a = e.ends.counts.asked in let b = inv.asked in omega (arith, a, b));
      written = more_written _ _ _ inv.written e.ends.ends.lines;
      faults = e.ends.ends.cause ∙ inv.faults;
      units = inv.units;
      ended = e.ends.ends.end;
      keeps = keeps_on _ _ _ _ _ _ inv.keeps e.ends.ends.keeps;
    }

pub returns-in-Err-clause-gives : goal.returns-in-Err-clause-gives
returns-in-Err-clause-gives g c = λ m answered b l whole.
    let inv = c.tables.invariant in
    let e = c.in-Err.ensures in
    let w = world_from m answered in
    let n = c.args.ap in
    let old = (g.A.Access.reported c.args.access.now).asks.calls in
    let mid = (g.A.Access.reported c.tables.access).asks.calls in
    let new = (g.A.Access.reported c.step.new.access).asks.calls in
    let r = inv.so_far m answered b (e.ends.ends.keeps.goes.left answered l) whole in
    let q = subst (λ (ts : List Table). Reaches w (unwound 1024 n c.args.tables.now c.args.listed.now) old mid (g.K.Sink.written c.args.sink.now) (g.K.Sink.written c.tables.sink) (unwound 1024 n ts c.tables.listed)) c.in-Some.ensures r in
    walks_on w (g.A.Access.reported c.step.new.access).lines n (unwound 1024 n c.args.tables.now c.args.listed.now) (unwound 1024 n (c.in-Some.table ∷ c.pop.new.self) c.tables.listed) (Err c.in-Err.end) c.step.new.tables c.step.new.listed old mid new
    (g.K.Sink.written c.args.sink.now) (g.K.Sink.written c.tables.sink) (g.K.Sink.written c.step.new.sink) whole q
    (e.gives m answered (inv.keeps.on m b) l (whole_after w (unwound 1024 n c.args.tables.now c.args.listed.now) (unwound 1024 n c.tables.tables c.tables.listed) old mid (g.K.Sink.written c.args.sink.now) (g.K.Sink.written c.tables.sink) whole r))

pub tables-preserved : goal.tables-preserved
tables-preserved g c =
    let inv = c.tables.invariant in
    let n = c.args.ap in
    let none : c.in-Some.table.left ≡ 0 = (let le = c.if-table-gt0.false in omega (arith, le)) in
    let old = (g.A.Access.reported c.args.access.now).asks.calls in
    let mid = (g.A.Access.reported c.tables.access).asks.calls in
    record {
      so_far = λ m answered b l whole.
          let w = world_from m answered in
          reaches_to w (unwound 1024 n c.args.tables.now c.args.listed.now) (unwound 1024 n c.tables.tables c.tables.listed) (unwound 1024 n c.pop.new.self c.tables.listed) old mid (g.K.Sink.written c.args.sink.now) (g.K.Sink.written c.tables.sink)
          (ap (λ (ts : List Table). unwound 1024 n ts c.tables.listed) c.in-Some.ensures ∙ closed_table n c.in-Some.table c.pop.new.self c.tables.listed none)
          (inv.so_far m answered b l whole);
      sound = All-tail IsOpenTable c.in-Some.table c.pop.new.self (subst (λ (ts : List Table). All IsOpenTable ts) c.in-Some.ensures inv.sound);
      deep = (let long : length c.tables.tables ≡ suc (length c.pop.new.self) = ap (λ (ts : List Table). length ts) c.in-Some.ensures in let le = inv.deep in omega (arith, long, le));
      count =
          let d = inv.count in
          let same : reads_left c.tables.tables c.tables.listed ≡ reads_left (c.in-Some.table ∷ c.pop.new.self) c.tables.listed = ap (λ (ts : List Table). reads_left ts c.tables.listed) c.in-Some.ensures in
          let less = left_tail c.in-Some.table c.pop.new.self c.tables.listed in
          omega (arith, d, same, less);
      asked = inv.asked;
      written = inv.written;
      faults = inv.faults;
      units = inv.units;
      ended = inv.ended;
      keeps = inv.keeps;
    }

pub returns-in-None-clause-most : goal.returns-in-None-clause-most
returns-in-None-clause-most g c = (let same = c.tables.invariant.units in omega (arith, same))

pub overflow_add-units-in-Err : goal.overflow_add-units-in-Err
overflow_add-units-in-Err g c =
    let inv = c.tables.invariant in
    let same = inv.units in
    let room = c.requires.room in
    let count = inv.count in
    let asked = inv.asked in
    let few = c.requires.may.few in
    omega (arith, same, room, count, asked, few)

pub returns-in-Err-clause-full : goal.returns-in-Err-clause-full
returns-in-Err-clause-full g c =
    let old = length (g.A.Access.reported c.args.access.now).asks.calls in
    let mid = length (g.A.Access.reported c.tables.access).asks.calls in
    let new = length (g.A.Access.reported c.step.new.access).asks.calls in
    at_full (Err c.in-Err.end) (new ≡ mid + 1) (new + c.args.units.now ≡ old + (c.tables.units + (c.tables.asked + 1)))
    (λ full. (let same = c.tables.invariant.units in let asked = c.tables.invariant.asked in omega (arith, full, same, asked))) c.in-Err.ensures.full

pub returns-in-Err-clause-most : goal.returns-in-Err-clause-most
returns-in-Err-clause-most g c =
    let inv = c.tables.invariant in
    let same = inv.units in
    let count = inv.count in
    let asked = inv.asked in
    let few = c.requires.may.few in
    omega (arith, same, count, asked, few)

pub returns-in-Err-clause-ends : goal.returns-in-Err-clause-ends
returns-in-Err-clause-ends g c = record {
  counts = search rules;
  ends =
      let inv = c.tables.invariant in
      let e = c.in-Err.ensures.ends.ends in
      record {
        end = e.end;
        lines = written_on (Err c.in-Err.end) _ _ _ inv.written e.lines;
        cause = caused_on (Err c.in-Err.end) _ _ _ inv.faults e.cause;
        keeps = keeps_on _ _ _ _ _ _ inv.keeps e.keeps;
      };
}
