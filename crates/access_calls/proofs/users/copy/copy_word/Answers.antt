use Rattle.std.proofs.Common.{◌∙◌, ap, subst, Option, ℕ}
use Rattle.target_calls.specs.Asks.{settled_last}
use Rattle.access_calls.specs.Answers.{StopsCalls, StopsSettling}
use Rattle.access_calls.specs.Left.{answered_by}
use Rattle.access_calls.specs.Reported.{world_from}
use Rattle.access_calls.proofs.KeepLemmas.{left_by}
use Rattle.access_calls.proofs.CopyLemmas.{first_stops, was_read, second_stops, flush_stops, was_written, finished_done, finish_stops}
use Rattle.access_calls.proofs.users.copy.copy_word.Goals as goal

pub returns-in-Err-clause-answer : goal.returns-in-Err-clause-answer
returns-in-Err-clause-answer g c = λ m h. let a = g.A.Access.reported c.ask.new.access in
    first_stops (world_from m (answered_by a)) c.args.from c.args.to a c.in-Err.stop (g.K.Sink.written c.args.sink.now) _ _ c.requires.fresh c.read_word.ensures.answer
    (c.in-Err.ensures.stops m (answered_by a) h (left_by a))

pub returns-in-Err-value-clause-answer : goal.returns-in-Err-value-clause-answer
returns-in-Err-value-clause-answer g c = λ m h. let a = g.A.Access.reported c.value.new.self in
    first_stops (world_from m (answered_by a)) c.args.from c.args.to a c.in-Err-value.stop (g.K.Sink.written c.args.sink.now) _ _ c.requires.fresh c.read_word.ensures.answer
    (subst (λ calls. StopsCalls (world_from m (answered_by a)) calls a.lines c.in-Err-value.stop) c.in-Ok.ensures.calls
    (c.in-Err-value.ensures.stops m (answered_by a) (c.in-Ok.ensures.ends.keeps.on m h) (left_by a) c.in-Ok.ensures.ends.no_end))

pub returns-in-Err-ask-clause-answer : goal.returns-in-Err-ask-clause-answer
returns-in-Err-ask-clause-answer g c = λ m h. let a = g.A.Access.reported c.ask-2.new.access in
    let n : Option ℕ = answered_by a in
    let left = c.in-Err-ask.ensures.ends.keeps.goes.left n (left_by a) in
    let on = c.in-Ok.ensures.ends.keeps.on m h in
    second_stops (world_from m n) c.args.from c.args.to a c.in-Err-ask.stop (g.K.Sink.written c.args.sink.now) _ _ _
    (was_read (world_from m n) c.args.from _ _ _ _ _ _ c.requires.fresh c.read_word.ensures.answer c.in-Ok.ensures.calls c.in-Ok.ensures.slot c.in-Ok-value.ensures.calls (c.in-Ok-value.ensures.value m n on left))
    c.write_word.ensures.answer
    (c.in-Err-ask.ensures.stops m n (c.in-Ok-value.ensures.ends.keeps.on m on) (left_by a))

pub returns-in-Err-flush-clause-answer : goal.returns-in-Err-flush-clause-answer
returns-in-Err-flush-clause-answer g c = λ m h. let a = g.A.Access.reported c.flush.new.self in
    let n : Option ℕ = answered_by a in
    let left3 = c.in-Err-flush.ensures.ends.keeps.goes.left n (left_by a) in
    let left2 = c.in_default.ensures.ends.keeps.goes.left n left3 in
    let on = c.in-Ok.ensures.ends.keeps.on m h in
    let on2 = c.in-Ok-value.ensures.ends.keeps.on m on in
    flush_stops (world_from m n) c.args.from c.args.to a c.in-Err-flush.stop (g.K.Sink.written c.args.sink.now) _ _ _ _
    (was_read (world_from m n) c.args.from _ _ _ _ _ _ c.requires.fresh c.read_word.ensures.answer c.in-Ok.ensures.calls c.in-Ok.ensures.slot c.in-Ok-value.ensures.calls (c.in-Ok-value.ensures.value m n on left2))
    c.write_word.ensures.answer c.in_default.ensures.calls
    (c.in-Err-flush.ensures.stops m n (c.in_default.ensures.ends.keeps.on m on2) (left_by a) c.in_default.ensures.ends.no_end)

pub returns-in-Err-put-clause-answer : goal.returns-in-Err-put-clause-answer
returns-in-Err-put-clause-answer g c = λ m h. let a = g.A.Access.reported c.flush.new.self in
    let n : Option ℕ = answered_by a in
    let left3 = c.in_default-flush.ensures.ends.keeps.goes.left n (left_by a) in
    let left2 = c.in_default.ensures.ends.keeps.goes.left n left3 in
    let on = c.in-Ok.ensures.ends.keeps.on m h in
    let on2 = c.in-Ok-value.ensures.ends.keeps.on m on in
    let on3 = c.in_default.ensures.ends.keeps.on m on2 in
    let read = was_read (world_from m n) c.args.from _ _ _ _ _ _ c.requires.fresh c.read_word.ensures.answer c.in-Ok.ensures.calls c.in-Ok.ensures.slot c.in-Ok-value.ensures.calls (c.in-Ok-value.ensures.value m n on left2) in
    (was_written (world_from m n) c.args.from c.args.to (g.A.Access.reported c.value.new.self).asks.calls (g.A.Access.reported c.ask-2.new.access).asks.calls _ _ read c.write_word.ensures.answer c.in_default.ensures.calls (c.in_default-flush.ensures.whole m n on3 (left_by a))).whole.whole

pub returns-in-Ok-finish-clause-answer : goal.returns-in-Ok-finish-clause-answer
returns-in-Ok-finish-clause-answer g c = λ m h. let a = g.A.Access.reported c.finish.new.self in
    let n : Option ℕ = answered_by a in
    let left4 = c.in-Ok-finish.ensures.ends.keeps.goes.left n (left_by a) in
    let left3 = c.in_default-flush.ensures.ends.keeps.goes.left n left4 in
    let left2 = c.in_default.ensures.ends.keeps.goes.left n left3 in
    let on = c.in-Ok.ensures.ends.keeps.on m h in
    let on2 = c.in-Ok-value.ensures.ends.keeps.on m on in
    let on3 = c.in_default.ensures.ends.keeps.on m on2 in
    let on4 = c.in_default-flush.ensures.ends.keeps.on m on3 in
    let on5 = c.in-Ok-finish.ensures.ends.keeps.on m on4 in
    let read = was_read (world_from m n) c.args.from _ _ _ _ _ _ c.requires.fresh c.read_word.ensures.answer c.in-Ok.ensures.calls c.in-Ok.ensures.slot c.in-Ok-value.ensures.calls (c.in-Ok-value.ensures.value m n on left2) in
    finished_done g.A.Access.journal m n c.args.from c.args.to a _ (g.K.Sink.written c.args.sink.now) (g.K.Sink.written c.put.new.self) _
    (was_written (world_from m n) c.args.from c.args.to (g.A.Access.reported c.value.new.self).asks.calls (g.A.Access.reported c.ask-2.new.access).asks.calls _ _ read c.write_word.ensures.answer c.in_default.ensures.calls (c.in_default-flush.ensures.whole m n on3 left4))
    c.in_default-put.ensures.bytes
    (g.met.A.Access.stands c.finish.new.self m n on5 (left_by a)) c.in-Ok-finish.ensures.ends.no_end (ap (λ x. x.calls) c.in-Ok-finish.ensures.asks ∙ ap settled_last c.in_default-flush.ensures.calls)

pub returns-in-Err-finish-clause-answer : goal.returns-in-Err-finish-clause-answer
returns-in-Err-finish-clause-answer g c = λ m h. let a = g.A.Access.reported c.finish.new.self in
    let n : Option ℕ = answered_by a in
    let left4 = c.in-Err-finish.ensures.ends.keeps.goes.left n (left_by a) in
    let left3 = c.in_default-flush.ensures.ends.keeps.goes.left n left4 in
    let left2 = c.in_default.ensures.ends.keeps.goes.left n left3 in
    let on = c.in-Ok.ensures.ends.keeps.on m h in
    let on2 = c.in-Ok-value.ensures.ends.keeps.on m on in
    let on3 = c.in_default.ensures.ends.keeps.on m on2 in
    let on4 = c.in_default-flush.ensures.ends.keeps.on m on3 in
    let read = was_read (world_from m n) c.args.from _ _ _ _ _ _ c.requires.fresh c.read_word.ensures.answer c.in-Ok.ensures.calls c.in-Ok.ensures.slot c.in-Ok-value.ensures.calls (c.in-Ok-value.ensures.value m n on left2) in
    let whole = c.in_default-flush.ensures.whole m n on3 left4 in
    finish_stops (world_from m n) c.args.from c.args.to a c.in-Err-finish.stop (g.K.Sink.written c.args.sink.now) (g.K.Sink.written c.put.new.self) _ _
    (was_written (world_from m n) c.args.from c.args.to (g.A.Access.reported c.value.new.self).asks.calls (g.A.Access.reported c.ask-2.new.access).asks.calls _ _ read c.write_word.ensures.answer c.in_default.ensures.calls whole)
    c.in_default-put.ensures.bytes whole (subst (λ calls. StopsSettling (world_from m n) calls a.lines c.in-Err-finish.stop) c.in_default-flush.ensures.calls
    (c.in-Err-finish.ensures.stops m n on4 (left_by a) c.in_default-flush.ensures.ends.no_end))
