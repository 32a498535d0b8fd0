use Rattle.std.proofs.Common.{◌∙◌, refl, sym, subst}
use Rattle.access_calls.specs.Left.{answered_by}
use Rattle.access_calls.specs.Reported.{began, world_from}
use Rattle.access_calls.proofs.KeepLemmas.{keeps_on, left_by}
use Rattle.seq_check.specs.Answers.{checked_trees}
use Rattle.sequence_rules.specs.Known.{known_part}
use Rattle.sequence_rules.specs.Runs.{program_of}
use Rattle.control_flow.specs.Answers.{EndBy, ran}
use Rattle.control_flow.proofs.RunLemmas.{skipped_is}
use Rattle.task_runs.proofs.GoLemmas.{caused_by, closes_as, closes_here, closes_not, ends_by, goes_so, is_going, knows_done, lines_by, nothing_closes, nothing_closes_as, part_so, skipped_by, some_follows, where_closed}
use Rattle.task_runs.proofs.TaskLemmas.{part_stays, stays}
use Rattle.task_runs.proofs.task.run_task.Goals as goal

pub returns-then-goes_on-clause-answer : goal.returns-then-goes_on-clause-answer
returns-then-goes_on-clause-answer g c = λ m known b knows.
    let a0 = g.A.Access.reported c.run-ended.new.access in
    let a = g.A.Access.reported c.follow-closed.new.access in
    let n = answered_by a in
    let p = program_of (checked_trees c.args.checked.now) c.args.start.now c.args.settings.now in
    let before = known_part known (g.K.Sink.written c.args.sink.now) in
    let mid = g.K.Sink.written c.run-ended.new.sink in
    let now = g.K.Sink.written c.follow-closed.new.sink in
    let going = is_going c.args.followed.now c.run-ended.result.ending (sym c.goes_on.ensures ∙ c.if-goes_on.true) in
    let on = c.run-ended.ensures.keeps.on m b in
    let whole = c.run-ended.ensures.whole m n b (c.follow-closed.ensures.ends.keeps.goes.left n (left_by a)) going.0 in
    goes_so c.args.followed.now m n p before a0 a c.run-ended.result c.follow-closed.result c.close.result known mid now (record {
      sequel = going.1.0;
      is = going.1.1;
      done = going.0;
      no_end = subst (λ x. EndBy x a0.end) going.0 c.run-ended.ensures.end;
      ends = c.run-ended.ensures.answer m known b knows;
      whole = whole;
      follows = c.follow-closed.ensures.gives going.1.0 going.1.1 m n on (left_by a) whole;
      end = c.follow-closed.ensures.ends.end;
      skipped = c.skipped.result;
      closes = c.close.ensures;
      knows = knows_done known c.run-ended.result.ending _ mid going.0 c.run-ended.ensures.lines knows;
      units = c.follow-closed.ensures.asked;
      skips = where_closed c.follow-closed.result a.end _ c.follow-closed.ensures.ends.end (λ none. (
        c.skipped.ensures.skipped ∙ skipped_is g.A.Access.journal a (began m n) none (g.met.A.Access.stands c.follow-closed.new.access m n (c.follow-closed.ensures.ends.keeps.on m on) (left_by a)),
        c.skipped.type_inv,
      ));
    }) refl

pub returns-then-goes_on-clause-part : goal.returns-then-goes_on-clause-part
returns-then-goes_on-clause-part g c = λ m n known b left knows never.
    let a0 = g.A.Access.reported c.run-ended.new.access in
    let a = g.A.Access.reported c.follow-closed.new.access in
    let p = program_of (checked_trees c.args.checked.now) c.args.start.now c.args.settings.now in
    let before = known_part known (g.K.Sink.written c.args.sink.now) in
    let mid = g.K.Sink.written c.run-ended.new.sink in
    let now = g.K.Sink.written c.follow-closed.new.sink in
    let going = is_going c.args.followed.now c.run-ended.result.ending (sym c.goes_on.ensures ∙ c.if-goes_on.true) in
    let on = c.run-ended.ensures.keeps.on m b in
    let whole = c.run-ended.ensures.whole m n b (c.follow-closed.ensures.ends.keeps.goes.left n left) going.0 in
    part_so c.args.followed.now m n p before a0 a c.run-ended.result c.follow-closed.result c.close.result known mid now (record {
      sequel = going.1.0;
      is = going.1.1;
      done = going.0;
      no_end = subst (λ x. EndBy x a0.end) going.0 c.run-ended.ensures.end;
      ends = c.run-ended.ensures.answer m known b knows;
      whole = whole;
      follows = c.follow-closed.ensures.gives going.1.0 going.1.1 m n on left whole;
      end = c.follow-closed.ensures.ends.end;
      skipped = c.skipped.result;
      closes = c.close.ensures;
      knows = knows_done known c.run-ended.result.ending _ mid going.0 c.run-ended.ensures.lines knows;
      units = c.follow-closed.ensures.asked;
      skips = where_closed c.follow-closed.result a.end _ c.follow-closed.ensures.ends.end (λ none. (
        c.skipped.ensures.skipped ∙ skipped_is g.A.Access.journal a (began m n) none (g.met.A.Access.stands c.follow-closed.new.access m n (c.follow-closed.ensures.ends.keeps.on m on) left),
        c.skipped.type_inv,
      ));
    }) never

pub returns-then-goes_on-clause-close : goal.returns-then-goes_on-clause-close
returns-then-goes_on-clause-close g c = λ m known b knows done.
    let a0 = g.A.Access.reported c.run-ended.new.access in
    let a = g.A.Access.reported c.follow-closed.new.access in
    let n = answered_by a in
    let p = program_of (checked_trees c.args.checked.now) c.args.start.now c.args.settings.now in
    let before = known_part known (g.K.Sink.written c.args.sink.now) in
    let mid = g.K.Sink.written c.run-ended.new.sink in
    let now = g.K.Sink.written c.follow-closed.new.sink in
    let going = is_going c.args.followed.now c.run-ended.result.ending (sym c.goes_on.ensures ∙ c.if-goes_on.true) in
    let on = c.run-ended.ensures.keeps.on m b in
    let whole = c.run-ended.ensures.whole m n b (c.follow-closed.ensures.ends.keeps.goes.left n (left_by a)) going.0 in
    closes_here c.args.followed.now m n p before a0 a c.run-ended.result c.follow-closed.result c.close.result known mid now (record {
      sequel = going.1.0;
      is = going.1.1;
      done = going.0;
      no_end = subst (λ x. EndBy x a0.end) going.0 c.run-ended.ensures.end;
      ends = c.run-ended.ensures.answer m known b knows;
      whole = whole;
      follows = c.follow-closed.ensures.gives going.1.0 going.1.1 m n on (left_by a) whole;
      end = c.follow-closed.ensures.ends.end;
      skipped = c.skipped.result;
      closes = c.close.ensures;
      knows = knows_done known c.run-ended.result.ending _ mid going.0 c.run-ended.ensures.lines knows;
      units = c.follow-closed.ensures.asked;
      skips = where_closed c.follow-closed.result a.end _ c.follow-closed.ensures.ends.end (λ none. (
        c.skipped.ensures.skipped ∙ skipped_is g.A.Access.journal a (began m n) none (g.met.A.Access.stands c.follow-closed.new.access m n (c.follow-closed.ensures.ends.keeps.on m on) (left_by a)),
        c.skipped.type_inv,
      ));
    }) done

pub returns-then-goes_on-clause-closes : goal.returns-then-goes_on-clause-closes
returns-then-goes_on-clause-closes g c = closes_as c.args.followed.now c.follow-closed.result c.run-ended.result c.skipped.result c.close.result c.close.ensures c.follow-closed.ensures.closes

pub returns-then-goes_on-clause-unclosed : goal.returns-then-goes_on-clause-unclosed
returns-then-goes_on-clause-unclosed g c =
    let going = is_going c.args.followed.now c.run-ended.result.ending (sym c.goes_on.ensures ∙ c.if-goes_on.true) in
    closes_not c.follow-closed.result c.run-ended.result c.skipped.result c.close.result going.0 c.close.ensures

pub returns-then-goes_on-clause-needs : goal.returns-then-goes_on-clause-needs
returns-then-goes_on-clause-needs g c = λ m known b knows none. absurd (some_follows c.args.followed.now c.run-ended.result.ending (sym c.goes_on.ensures ∙ c.if-goes_on.true) none)

pub returns-then-goes_on-clause-end : goal.returns-then-goes_on-clause-end
returns-then-goes_on-clause-end g c =
    let going = is_going c.args.followed.now c.run-ended.result.ending (sym c.goes_on.ensures ∙ c.if-goes_on.true) in
    ends_by c.follow-closed.result c.run-ended.result c.skipped.result c.close.result _ going.0 c.close.ensures c.follow-closed.ensures.ends.end

pub returns-then-goes_on-clause-skipped : goal.returns-then-goes_on-clause-skipped
returns-then-goes_on-clause-skipped g c = skipped_by c.follow-closed.result c.run-ended.result c.skipped.result c.close.result c.close.ensures ∙ c.skipped.ensures.skipped

pub returns-then-goes_on-clause-lines : goal.returns-then-goes_on-clause-lines
returns-then-goes_on-clause-lines g c =
    let going = is_going c.args.followed.now c.run-ended.result.ending (sym c.goes_on.ensures ∙ c.if-goes_on.true) in
    lines_by c.follow-closed.result c.run-ended.result c.skipped.result c.close.result _ _ _ going.0 c.close.ensures c.run-ended.ensures.lines c.follow-closed.ensures.ends.lines

pub returns-then-goes_on-clause-cause : goal.returns-then-goes_on-clause-cause
returns-then-goes_on-clause-cause g c =
    let going = is_going c.args.followed.now c.run-ended.result.ending (sym c.goes_on.ensures ∙ c.if-goes_on.true) in
    caused_by c.follow-closed.result c.run-ended.result c.skipped.result c.close.result _ _ _ going.0 c.close.ensures c.run-ended.ensures.cause c.follow-closed.ensures.ends.cause

pub returns-then-goes_on-clause-keeps : goal.returns-then-goes_on-clause-keeps
returns-then-goes_on-clause-keeps g c = keeps_on g.A.Access.begun g.A.Access.reported g.A.Access.identity _ _ _ c.run-ended.ensures.keeps c.follow-closed.ensures.ends.keeps

pub returns-else-goes_on-clause-answer : goal.returns-else-goes_on-clause-answer
returns-else-goes_on-clause-answer g c = λ m known b knows.
    let a = g.A.Access.reported c.run-ended.new.access in
    let p = program_of (checked_trees c.args.checked.now) c.args.start.now c.args.settings.now in
    let before = known_part known (g.K.Sink.written c.args.sink.now) in
    stays c.args.followed.now m (answered_by a) p before c.run-ended.result.ending a.lines (ran c.run-ended.result a.asks (known_part known (g.K.Sink.written c.run-ended.new.sink))) a.end
    (sym c.goes_on.ensures ∙ c.if-goes_on.false) refl c.run-ended.ensures.end (c.run-ended.ensures.answer m known b knows)

pub returns-else-goes_on-clause-part : goal.returns-else-goes_on-clause-part
returns-else-goes_on-clause-part g c = λ m n known b left knows never.
    part_stays c.args.followed.now (world_from m n) _ _ (c.run-ended.ensures.part m n known b left knows never)

pub returns-else-goes_on-clause-close : goal.returns-else-goes_on-clause-close
returns-else-goes_on-clause-close g c = λ m known b knows done. nothing_closes c.args.followed.now c.run-ended.result.ending _ _ (sym c.goes_on.ensures ∙ c.if-goes_on.false) done

pub returns-else-goes_on-clause-closes : goal.returns-else-goes_on-clause-closes
returns-else-goes_on-clause-closes g c = nothing_closes_as c.args.followed.now c.run-ended.result.ending (sym c.goes_on.ensures ∙ c.if-goes_on.false)

pub returns-else-goes_on-clause-needs : goal.returns-else-goes_on-clause-needs
returns-else-goes_on-clause-needs g c = λ m known b knows none. c.run-ended.ensures.needs m known b knows
