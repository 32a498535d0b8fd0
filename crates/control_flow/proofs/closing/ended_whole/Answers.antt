use Rattle.std.proofs.Common.{◌∙◌, ap, length, sym, subst, refl}
use Rattle.target_calls.specs.World.{stop}
use Rattle.target_calls.proofs.MarkLemmas.{length_marked, stop_marked}
use Rattle.access_calls.specs.Answers.{StopsCalls}
use Rattle.access_calls.specs.Left.{answered_by}
use Rattle.access_calls.specs.Reported.{began, world_from}
use Rattle.access_calls.proofs.KeepLemmas.{left_by}
use Rattle.sequence_rules.specs.Runs.{outcome_of}
use Rattle.function_calls.specs.Held.{late_state_of}
use Rattle.control_flow.specs.Answers.{HasNeeds, RunEndsAs, ran}
use Rattle.control_flow.proofs.EndRules.{answered_as, stopped_ended, stopped_short}
use Rattle.control_flow.proofs.RunLemmas.{left_closing, stops_closing, settles, closes, no_needs, finished_calls, skipped_is}
use Rattle.control_flow.proofs.closing.ended_whole.Goals as goal

pub returns-in-Err-clause-answer : goal.returns-in-Err-clause-answer
returns-in-Err-clause-answer g c = λ m written out q b is p.
    let a = g.A.Access.reported c.finish.new.self in
    let s = late_state_of c.args.held.now (g.A.Access.reported c.args.access.now).asks written in
    let r = ran c.ended_early.result a.asks written in
    subst (λ x. RunEndsAs x a.lines (outcome_of q) r × HasNeeds x a.asks out) (sym (c.ended_early.ensures.ending ∙ c.from.ensures)) (
      stops_closing (world_from m (answered_by a)) c.args.ending c.in-Err.stop s out q a.lines r is p (answered_as c.in-Err.stop a (stopped_ended c.in-Err.stop a.end c.in-Err.ensures.ends.end c.in-Err.ensures.ends.memory))
          (c.in-Err.ensures.stops m (answered_by a) b (left_by a) c.requires.open) (finished_calls (g.A.Access.reported c.args.access.now) _ c.requires.open c.in-Err.ensures.calls) refl,
      no_needs c.in-Err.stop a.asks out,
    )

pub returns-in-Ok-look_up_variables-clause-answer : goal.returns-in-Ok-look_up_variables-clause-answer
returns-in-Ok-look_up_variables-clause-answer g c = λ m written out q b is p.
    let a = g.A.Access.reported c.look_up_variables.new.access in
    let n = answered_by a in
    let s = late_state_of c.args.held.now (g.A.Access.reported c.args.access.now).asks written in
    let on = c.in-Ok.ensures.ends.keeps.on m b in
    closes (world_from m n) c.args.ending s out q a.lines _ (g.A.Access.reported c.finish.new.self).asks is p (c.in-Ok.ensures.whole m n b (c.in-Ok-look_up_variables.ensures.keeps.goes.left n (left_by a))) (record {
      variables = rw c.all.ensures at (c.in-Ok-look_up_variables.ensures.values m n on (left_by a));
      units = refl;
      skipped = c.skipped-in-Ok-look_up_variables.ensures.skipped ∙ skipped_is g.A.Access.journal a (began m n) c.in-Ok-look_up_variables.ensures.open (g.met.A.Access.stands c.look_up_variables.new.access m n (c.in-Ok-look_up_variables.ensures.keeps.on m on) (left_by a));
      few = c.skipped-in-Ok-look_up_variables.type_inv;
      finish = c.in-Ok.ensures.asks;
      asks = rw c.all.ensures at c.in-Ok-look_up_variables.ensures.asks;
      written = refl;
    })

pub returns-in-Err-look_up_variables-clause-answer : goal.returns-in-Err-look_up_variables-clause-answer
returns-in-Err-look_up_variables-clause-answer g c = λ m written out q b is p.
    let a = g.A.Access.reported c.look_up_variables.new.access in
    let n = answered_by a in
    let st = c.in-Err-look_up_variables.stop in
    let s = late_state_of c.args.held.now (g.A.Access.reported c.args.access.now).asks written in
    let r = ran c.ended_early-in-Err-look_up_variables.result a.asks written in
    let calls = finished_calls (g.A.Access.reported c.args.access.now) (g.A.Access.reported c.finish.new.self).asks.calls c.requires.open c.in-Ok.ensures.calls in
    let stops = c.in-Err-look_up_variables.ensures.stops m n (c.in-Ok.ensures.ends.keeps.on m b) (left_by a) in
    subst (λ x. RunEndsAs x a.lines (outcome_of q) r × HasNeeds x a.asks out) (sym (c.ended_early-in-Err-look_up_variables.ensures.ending ∙ c.from-in-Err-look_up_variables.ensures)) (
      stops_closing (world_from m n) c.args.ending st s out q a.lines r is p (answered_as st a c.in-Err-look_up_variables.ensures.end)
          (settles (world_from m n) s.rest.asks.calls a.lines st (subst (λ x. StopsCalls (world_from m n) x a.lines st) calls stops)) (c.in-Err-look_up_variables.ensures.calls ∙ calls) refl,
      no_needs st a.asks out,
    )

pub returns-in-Err-clause-goes : goal.returns-in-Err-clause-goes
returns-in-Err-clause-goes g c = λ m answered b left comes. absurd (stopped_short c.in-Err.stop c.ended_early.result.ending (c.ended_early.ensures.ending ∙ c.from.ensures) comes)

pub returns-in-Ok-look_up_variables-clause-goes : goal.returns-in-Ok-look_up_variables-clause-goes
returns-in-Ok-look_up_variables-clause-goes g c = λ m answered b left comes.
    let w = world_from m answered in
    let calls = finished_calls (g.A.Access.reported c.args.access.now) (g.A.Access.reported c.finish.new.self).asks.calls c.requires.open c.in-Ok.ensures.calls in
    ap (stop w) (c.in-Ok-look_up_variables.ensures.calls ∙ calls) ∙ stop_marked w (g.A.Access.reported c.args.access.now).asks.calls
    ∙ c.in-Ok.ensures.whole m answered b (c.in-Ok-look_up_variables.ensures.keeps.goes.left answered left)

pub returns-in-Err-look_up_variables-clause-goes : goal.returns-in-Err-look_up_variables-clause-goes
returns-in-Err-look_up_variables-clause-goes g c = λ m answered b left comes.
    absurd (stopped_short c.in-Err-look_up_variables.stop c.ended_early-in-Err-look_up_variables.result.ending (c.ended_early-in-Err-look_up_variables.ensures.ending ∙ c.from-in-Err-look_up_variables.ensures) comes)

pub returns-in-Err-clause-counted : goal.returns-in-Err-clause-counted
returns-in-Err-clause-counted g c = λ comes. absurd (stopped_short c.in-Err.stop c.ended_early.result.ending (c.ended_early.ensures.ending ∙ c.from.ensures) comes)

pub returns-in-Ok-look_up_variables-clause-counted : goal.returns-in-Ok-look_up_variables-clause-counted
returns-in-Ok-look_up_variables-clause-counted g c = λ comes.
    let calls = finished_calls (g.A.Access.reported c.args.access.now) (g.A.Access.reported c.finish.new.self).asks.calls c.requires.open c.in-Ok.ensures.calls in
    c.requires.counted ∙ sym (length_marked (g.A.Access.reported c.args.access.now).asks.calls) ∙ ap length (sym (c.in-Ok-look_up_variables.ensures.calls ∙ calls))

pub returns-in-Err-look_up_variables-clause-counted : goal.returns-in-Err-look_up_variables-clause-counted
returns-in-Err-look_up_variables-clause-counted g c = λ comes.
    absurd (stopped_short c.in-Err-look_up_variables.stop c.ended_early-in-Err-look_up_variables.result.ending (c.ended_early-in-Err-look_up_variables.ensures.ending ∙ c.from-in-Err-look_up_variables.ensures) comes)

pub returns-in-Err-clause-part : goal.returns-in-Err-clause-part
returns-in-Err-clause-part g c = λ m answered written out q b left is p never.
    let s = late_state_of c.args.held.now (g.A.Access.reported c.args.access.now).asks written in
    left_closing (world_from m answered) c.args.ending s out q _ is p (finished_calls (g.A.Access.reported c.args.access.now) _ c.requires.open c.in-Err.ensures.calls) refl

pub returns-in-Ok-look_up_variables-clause-part : goal.returns-in-Ok-look_up_variables-clause-part
returns-in-Ok-look_up_variables-clause-part g c = λ m answered written out q b left is p never. absurd (never c.requires.whole)

pub returns-in-Err-look_up_variables-clause-part : goal.returns-in-Err-look_up_variables-clause-part
returns-in-Err-look_up_variables-clause-part g c = λ m answered written out q b left is p never.
    let s = late_state_of c.args.held.now (g.A.Access.reported c.args.access.now).asks written in
    let calls = finished_calls (g.A.Access.reported c.args.access.now) (g.A.Access.reported c.finish.new.self).asks.calls c.requires.open c.in-Ok.ensures.calls in
    left_closing (world_from m answered) c.args.ending s out q _ is p (c.in-Err-look_up_variables.ensures.calls ∙ calls) refl
