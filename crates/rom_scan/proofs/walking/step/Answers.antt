use Rattle.std.proofs.Common.{rules, ◌∙◌, ◌+◌, ◌∷◌, true, Ok, Err, refl, sym}
use Rattle.std.proofs.lemmas.Result.{err_from_is_err_and}
use Rattle.access_calls.specs.Reported.{world_from}
use Rattle.target_calls.specs.Asks.{unit_ask}
use Rattle.sequels.proofs.MeetingLemmas.{whole_after}
use Rattle.rom_scan.specs.Tables.{unwound, walk_from_component}
use Rattle.rom_scan.proofs.StepLemmas.{step_ends, step_knows, step_passes, step_stops, step_visits, walks_on}
use Rattle.rom_scan.proofs.EndLemmas.{ends_as, ends_asked, ends_on, ends_stop}
use Rattle.rom_scan.proofs.walking.step.Goals as goal

pub returns-in-Err-clause-gives : goal.returns-in-Err-clause-gives
returns-in-Err-clause-gives g c = λ m answered b l whole.
    step_stops (world_from m answered) c.args.ap c.args.table c.args.tables.now c.args.listed.now (g.A.Access.reported c.args.access.now).asks.calls (g.K.Sink.written c.args.sink.now) (unit_ask c.word_unit.result true) c.requires.some c.word_unit.ensures.asks
    (g.A.Access.reported c.ask_now.new.access).lines (g.A.Access.reported c.ask_now.new.access).asks.calls c.in-Err.stop (c.in-Err.ensures.gives m answered (g.K.Sink.written c.args.sink.now) b l whole)

pub returns-then-entry-eq0-clause-gives : goal.returns-then-entry-eq0-clause-gives
returns-then-entry-eq0-clause-gives g c = λ m answered b l whole.
    step_ends (world_from m answered) c.args.ap c.args.table c.args.tables.now c.args.listed.now (g.A.Access.reported c.args.access.now).asks.calls (g.K.Sink.written c.args.sink.now) (unit_ask c.word_unit.result true) c.requires.some c.word_unit.ensures.asks
    (g.A.Access.reported c.ask_now.new.access).asks.calls c.in-Ok.entry (c.in-Ok.ensures.gives m answered (g.K.Sink.written c.args.sink.now) b l whole) c.args.tables.now refl c.if-entry-eq0.true

pub returns-then-entry-eq0-2-clause-gives : goal.returns-then-entry-eq0-2-clause-gives
returns-then-entry-eq0-2-clause-gives g c = λ m answered b l whole.
    step_passes (world_from m answered) c.args.ap c.args.table c.args.tables.now c.args.listed.now (g.A.Access.reported c.args.access.now).asks.calls (g.K.Sink.written c.args.sink.now) (unit_ask c.word_unit.result true) c.requires.some c.word_unit.ensures.asks
    (g.A.Access.reported c.ask_now.new.access).asks.calls c.in-Ok.entry (c.in-Ok.ensures.gives m answered (g.K.Sink.written c.args.sink.now) b l whole) c.push.new.self c.push.ensures c.if-entry-eq0.false c.if-entry-eq0-2.true

pub returns-then-is_listed-clause-gives : goal.returns-then-is_listed-clause-gives
returns-then-is_listed-clause-gives g c = λ m answered b l whole.
    step_knows (world_from m answered) c.args.ap c.args.table c.args.tables.now c.args.listed.now (g.A.Access.reported c.args.access.now).asks.calls (g.K.Sink.written c.args.sink.now) (unit_ask c.word_unit.result true) c.requires.some c.word_unit.ensures.asks
    (g.A.Access.reported c.ask_now.new.access).asks.calls c.in-Ok.entry (c.in-Ok.ensures.gives m answered (g.K.Sink.written c.args.sink.now) b l whole) c.push.new.self c.push.ensures c.if-entry-eq0.false c.if-entry-eq0-2.false
    (rw (← c.named_by-address.ensures.named) (rw (← c.as_slice.ensures) (sym c.is_listed.ensures ∙ c.if-is_listed.true)))

pub returns-clause-gives : goal.returns-clause-gives
returns-clause-gives g c = λ m answered b l whole.
    let w = world_from m answered in
    let old = (g.A.Access.reported c.args.access.now).asks.calls in
    let mid = (g.A.Access.reported c.ask_now.new.access).asks.calls in
    let before = g.K.Sink.written c.args.sink.now in
    let l2 = c.in_ok-words.ensures.ends.ends.keeps.goes.left answered l in
    let r = step_visits w c.args.ap c.args.table c.args.tables.now c.args.listed.now old before (unit_ask c.word_unit.result true) c.requires.some c.word_unit.ensures.asks
    mid c.in-Ok.entry (c.in-Ok.ensures.gives m answered before b l2 whole) c.push.new.self c.named_by-address.result c.push.ensures c.named_by-address.ensures.named c.if-entry-eq0.false c.if-entry-eq0-2.false
    (rw (← c.named_by-address.ensures.named) (rw (← c.as_slice.ensures) (sym c.is_listed.ensures ∙ c.if-is_listed.false))) in
    walks_on w (g.A.Access.reported c.arrive.new.access).lines c.args.ap (unwound 1024 c.args.ap (c.args.table ∷ c.args.tables.now) c.args.listed.now) (walk_from_component 1024 c.args.ap c.push.new.self c.named_by-address.result c.args.listed.now) (Ok c.in_ok-words.words)
    c.arrive.new.tables c.arrive.new.listed old mid (g.A.Access.reported c.arrive.new.access).asks.calls before before (g.K.Sink.written c.arrive.new.sink) whole r
    (c.in_ok-words.ensures.gives m answered (c.in-Ok.ensures.ends.keeps.on m b) l
    (whole_after w (unwound 1024 c.args.ap (c.args.table ∷ c.args.tables.now) c.args.listed.now) (walk_from_component 1024 c.args.ap c.push.new.self c.named_by-address.result c.args.listed.now) old mid before before whole r))

pub returns-in_err-words-clause-gives : goal.returns-in_err-words-clause-gives
returns-in_err-words-clause-gives g c =
    let passed = err_from_is_err_and c.from_residual.result c.from_residual.ensures.1 in
    rw (passed.1, passed.2) (λ m answered b l whole.
    let w = world_from m answered in
    let old = (g.A.Access.reported c.args.access.now).asks.calls in
    let mid = (g.A.Access.reported c.ask_now.new.access).asks.calls in
    let before = g.K.Sink.written c.args.sink.now in
    let l2 = c.in_err-words.ensures.ends.ends.keeps.goes.left answered l in
    let r = step_visits w c.args.ap c.args.table c.args.tables.now c.args.listed.now old before (unit_ask c.word_unit.result true) c.requires.some c.word_unit.ensures.asks
    mid c.in-Ok.entry (c.in-Ok.ensures.gives m answered before b l2 whole) c.push.new.self c.named_by-address.result c.push.ensures c.named_by-address.ensures.named c.if-entry-eq0.false c.if-entry-eq0-2.false
    (rw (← c.named_by-address.ensures.named) (rw (← c.as_slice.ensures) (sym c.is_listed.ensures ∙ c.if-is_listed.false))) in
    walks_on w (g.A.Access.reported c.arrive.new.access).lines c.args.ap (unwound 1024 c.args.ap (c.args.table ∷ c.args.tables.now) c.args.listed.now) (walk_from_component 1024 c.args.ap c.push.new.self c.named_by-address.result c.args.listed.now) (Err c.in_err-words.field-0.0)
    c.arrive.new.tables c.arrive.new.listed old mid (g.A.Access.reported c.arrive.new.access).asks.calls before before (g.K.Sink.written c.arrive.new.sink) whole r
    (c.in_err-words.ensures.gives m answered (c.in-Ok.ensures.ends.keeps.on m b) l
    (whole_after w (unwound 1024 c.args.ap (c.args.table ∷ c.args.tables.now) c.args.listed.now) (walk_from_component 1024 c.args.ap c.push.new.self c.named_by-address.result c.args.listed.now) old mid before before whole r)))

pub returns-in-Err-clause-ends : goal.returns-in-Err-clause-ends
returns-in-Err-clause-ends g c = record {
  counts = search rules;
  ends = ends_stop g.A.Access.begun g.A.Access.reported g.A.Access.identity g.K.Sink.written g.K.Sink.faults c.in-Err.stop _ _ _ c.in-Err.ensures.ends;
}

pub returns-then-entry-eq0-clause-ends : goal.returns-then-entry-eq0-clause-ends
returns-then-entry-eq0-clause-ends g c = record {
  counts = search rules;
  ends = ends_asked g.A.Access.begun g.A.Access.reported g.A.Access.identity g.K.Sink.written g.K.Sink.faults c.in-Ok.entry 1 _ _ _ c.in-Ok.ensures.ends;
}

pub returns-then-entry-eq0-2-clause-ends : goal.returns-then-entry-eq0-2-clause-ends
returns-then-entry-eq0-2-clause-ends g c = record {
  counts = search rules;
  ends = ends_asked g.A.Access.begun g.A.Access.reported g.A.Access.identity g.K.Sink.written g.K.Sink.faults c.in-Ok.entry 1 _ _ _ c.in-Ok.ensures.ends;
}

pub returns-then-is_listed-clause-ends : goal.returns-then-is_listed-clause-ends
returns-then-is_listed-clause-ends g c = record {
  counts = search rules;
  ends = ends_asked g.A.Access.begun g.A.Access.reported g.A.Access.identity g.K.Sink.written g.K.Sink.faults c.in-Ok.entry 1 _ _ _ c.in-Ok.ensures.ends;
}

pub returns-clause-ends : goal.returns-clause-ends
returns-clause-ends g c = record {
  counts = search rules;
  ends =
      ends_on g.A.Access.begun g.A.Access.reported g.A.Access.identity g.K.Sink.written g.K.Sink.faults 1 (Ok (1 + c.in_ok-words.words)) _ _ _ _ _ _ (ends_asked g.A.Access.begun g.A.Access.reported g.A.Access.identity g.K.Sink.written g.K.Sink.faults c.in-Ok.entry 1 _ _ _ c.in-Ok.ensures.ends)
      (ends_as g.A.Access.begun g.A.Access.reported g.A.Access.identity g.K.Sink.written g.K.Sink.faults _ _ _ _ _ _ c.in_ok-words.ensures.ends.ends);
}

pub returns-in_err-words-clause-ends : goal.returns-in_err-words-clause-ends
returns-in_err-words-clause-ends g c =
    let passed = err_from_is_err_and c.from_residual.result c.from_residual.ensures.1 in
    rw (passed.1, passed.2) (record {
      counts = search rules;
      ends =
          ends_on g.A.Access.begun g.A.Access.reported g.A.Access.identity g.K.Sink.written g.K.Sink.faults 1 (Err c.in_err-words.field-0.0) _ _ _ _ _ _ (ends_asked g.A.Access.begun g.A.Access.reported g.A.Access.identity g.K.Sink.written g.K.Sink.faults c.in-Ok.entry 1 _ _ _ c.in-Ok.ensures.ends) c.in_err-words.ensures.ends.ends;
    })
