use Rattle.std.proofs.Common.{◌+◌, ◌<◌, ℕ, length, subst, arith, rules, ap, Err}
use Rattle.access_calls.specs.Reported.{world_from}
use Rattle.sequels.specs.Meeting.{Gave}
use Rattle.rom_scan.specs.Components.{component_at}
use Rattle.rom_scan.specs.Meets.{StopsIn}
use Rattle.rom_scan.proofs.ArriveLemmas.{arrive_done, arrive_left, arrive_stops, arrive_unlined, full_here, left_whole, opened_less, opened_sound}
use Rattle.rom_scan.proofs.EndLemmas.{ends_full, ends_stop}
use Rattle.rom_scan.proofs.WrittenLemmas.{one_written, unwritten}
use Rattle.rom_scan.proofs.walking.arrive.Goals as goal

pub returns-then-len-ge1024-clause-gives : goal.returns-then-len-ge1024-clause-gives
returns-then-len-ge1024-clause-gives g c = λ m answered b l whole.
    full_here (world_from m answered) c.args.ap c.args.tables.now c.args.address c.args.listed.now (g.A.Access.reported c.args.access.now).asks.calls (g.K.Sink.written c.args.sink.now)
    (let many = c.if-len-ge1024.true in let is = c.len.ensures in omega (arith, many, is))

pub returns-in-Err-clause-gives : goal.returns-in-Err-clause-gives
returns-in-Err-clause-gives g c = λ m answered b l whole.
    let w = world_from m answered in
    let old = (g.A.Access.reported c.args.access.now).asks.calls in
    let new = (g.A.Access.reported c.read_component.new.access).asks.calls in
    let before = g.K.Sink.written c.args.sink.now in
    let room : length c.args.listed.now < 1024 = (let few = c.if-len-ge1024.false in let is = c.len.ensures in omega (arith, few, is)) in
    arrive_stops w c.args.ap c.args.tables.now c.args.address c.args.listed.now old before c.requires.deep room (g.A.Access.reported c.read_component.new.access).lines new c.in-Err.stop
    (subst (λ (d : ℕ). StopsIn w (g.A.Access.reported c.read_component.new.access).lines (component_at c.args.ap c.args.address (1 + d)) old new before before c.in-Err.stop) c.len-2.ensures (c.in-Err.ensures.gives m answered before b l whole))

pub returns-in-Err-Failed-clause-gives : goal.returns-in-Err-Failed-clause-gives
returns-in-Err-Failed-clause-gives g c = λ m answered b l whole.
    let w = world_from m answered in
    let old = (g.A.Access.reported c.args.access.now).asks.calls in
    let new = (g.A.Access.reported c.read_component.new.access).asks.calls in
    let before = g.K.Sink.written c.args.sink.now in
    let room : length c.args.listed.now < 1024 = (let few = c.if-len-ge1024.false in let is = c.len.ensures in omega (arith, few, is)) in
    arrive_left w c.args.ap c.args.tables.now c.args.address c.args.listed.now old before c.requires.deep room new c.in-Ok.component (g.K.Sink.written c.write_component.new.sink) whole
    (subst (λ (d : ℕ). Gave w (component_at c.args.ap c.args.address (1 + d)) old new before before c.in-Ok.component) c.len-2.ensures (c.in-Ok.ensures.gives m answered before b l whole))
    c.in-Err-Failed.ensures.puts.text

pub returns-in-Err-OutOfMemory-clause-gives : goal.returns-in-Err-OutOfMemory-clause-gives
returns-in-Err-OutOfMemory-clause-gives g c = λ m answered b l whole.
    let w = world_from m answered in
    let old = (g.A.Access.reported c.args.access.now).asks.calls in
    let new = (g.A.Access.reported c.read_component.new.access).asks.calls in
    let before = g.K.Sink.written c.args.sink.now in
    let room : length c.args.listed.now < 1024 = (let few = c.if-len-ge1024.false in let is = c.len.ensures in omega (arith, few, is)) in
    arrive_unlined w c.args.ap c.args.tables.now c.args.address c.args.listed.now old before c.requires.deep room (g.A.Access.reported c.read_component.new.access).lines new c.in-Ok.component (g.K.Sink.written c.write_component.new.sink) whole
    (subst (λ (d : ℕ). Gave w (component_at c.args.ap c.args.address (1 + d)) old new before before c.in-Ok.component) c.len-2.ensures (c.in-Ok.ensures.gives m answered before b l whole))
    c.in-Err-OutOfMemory.ensures.puts.text

pub returns-in-Err-push-clause-gives : goal.returns-in-Err-push-clause-gives
returns-in-Err-push-clause-gives g c = λ m answered b l whole.
    let w = world_from m answered in
    let old = (g.A.Access.reported c.args.access.now).asks.calls in
    let new = (g.A.Access.reported c.read_component.new.access).asks.calls in
    let before = g.K.Sink.written c.args.sink.now in
    let room : length c.args.listed.now < 1024 = (let few = c.if-len-ge1024.false in let is = c.len.ensures in omega (arith, few, is)) in
    record {
      left = left_whole w c.args.ap c.args.tables.now c.args.address c.args.listed.now old before c.requires.deep room new c.in-Ok.component (g.K.Sink.written c.write_component.new.sink) whole
          (subst (λ (d : ℕ). Gave w (component_at c.args.ap c.args.address (1 + d)) old new before before c.in-Ok.component) c.len-2.ensures (c.in-Ok.ensures.gives m answered before b l whole))
          c.in-Ok-write_component.ensures.puts.text;
      cut = tt;
    }

pub returns-clause-gives : goal.returns-clause-gives
returns-clause-gives g c = λ m answered b l whole.
    let w = world_from m answered in
    let old = (g.A.Access.reported c.args.access.now).asks.calls in
    let new = (g.A.Access.reported c.read_component.new.access).asks.calls in
    let before = g.K.Sink.written c.args.sink.now in
    let room : length c.args.listed.now < 1024 = (let few = c.if-len-ge1024.false in let is = c.len.ensures in omega (arith, few, is)) in
    arrive_done w c.args.ap c.args.tables.now c.args.address c.args.listed.now old before c.requires.deep room new c.in-Ok.component (g.K.Sink.written c.write_component.new.sink) c.open_table.new.tables c.push.new.self whole
    (subst (λ (d : ℕ). Gave w (component_at c.args.ap c.args.address (1 + d)) old new before before c.in-Ok.component) c.len-2.ensures (c.in-Ok.ensures.gives m answered before b l whole))
    c.in-Ok-write_component.ensures.puts.text c.open_table.ensures c.in-Ok-push.ensures.ok

pub returns-clause-open : goal.returns-clause-open
returns-clause-open g c = opened_sound c.args.tables.now c.open_table.new.tables c.in-Ok.component c.open_table.ensures (rw c.in-Ok.ensures.address c.requires.page)

pub returns-clause-less : goal.returns-clause-less
returns-clause-less g c =
    let room : length c.args.listed.now < 1024 = (let few = c.if-len-ge1024.false in let is = c.len.ensures in omega (arith, few, is)) in
    opened_less c.args.tables.now c.open_table.new.tables c.args.listed.now c.push.new.self c.in-Ok.component c.open_table.ensures c.in-Ok-push.ensures.ok room

pub returns-then-len-ge1024-clause-ends : goal.returns-then-len-ge1024-clause-ends
returns-then-len-ge1024-clause-ends g c = record {
  counts = search rules;
  ends = ends_full g.A.Access.begun g.A.Access.reported g.A.Access.identity g.K.Sink.written g.K.Sink.faults _ _ c.requires.may.no_end;
}

pub returns-in-Err-clause-ends : goal.returns-in-Err-clause-ends
returns-in-Err-clause-ends g c = record {
  counts = search rules;
  ends = ends_stop g.A.Access.begun g.A.Access.reported g.A.Access.identity g.K.Sink.written g.K.Sink.faults c.in-Err.stop _ _ _ c.in-Err.ensures.ends;
}

pub returns-in-Err-OutOfMemory-clause-ends : goal.returns-in-Err-OutOfMemory-clause-ends
returns-in-Err-OutOfMemory-clause-ends g c = record {
  counts = search rules;
  ends =
      let e = c.in-Ok.ensures.ends in
      record {
        end = e.end;
        lines = unwritten _ _ (c.in-Err-OutOfMemory.ensures.unwritten (ap Err c.in-Err-OutOfMemory.field-0-is));
        cause = search rules;
        keeps = e.keeps;
      };
}

pub returns-in-Err-push-clause-ends : goal.returns-in-Err-push-clause-ends
returns-in-Err-push-clause-ends g c = record {
  counts = search rules;
  ends =
      let e = c.in-Ok.ensures.ends in
      record { end = e.end; lines = one_written _ _ c.in-Ok.component c.in-Ok-write_component.ensures.puts.text; cause = search rules; keeps = e.keeps };
}

pub returns-clause-ends : goal.returns-clause-ends
returns-clause-ends g c = record {
  counts = search rules;
  ends =
      let e = c.in-Ok.ensures.ends in
      record { end = e.end; lines = one_written _ _ c.in-Ok.component c.in-Ok-write_component.ensures.puts.text; cause = search rules; keeps = e.keeps };
}
