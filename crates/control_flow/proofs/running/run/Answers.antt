use Rattle.std.proofs.Common.{◌∙◌, refl, sym, subst}
use Rattle.access_calls.specs.Left.{answered_by}
use Rattle.access_calls.specs.Reported.{world_from}
use Rattle.access_calls.proofs.KeepLemmas.{left_by}
use Rattle.seq_check.specs.Answers.{checked_trees}
use Rattle.sequence_rules.specs.Runs.{late_meaning, meaning, outcome_of, program_of}
use Rattle.sequence_rules.proofs.Made.{late_pair}
use Rattle.sequence_rules.specs.Known.{known_part}
use Rattle.function_calls.specs.Held.{late_state_of}
use Rattle.control_flow.specs.Answers.{HasLines, RunEndsAs, ran}
use Rattle.control_flow.specs.Closing.{ComesToEnd}
use Rattle.access_calls.specs.declared.ended.Ending.TheVariants as ending
use Rattle.function_calls.proofs.WholeLines.{lines_none}
use Rattle.control_flow.proofs.EndRules.{answered_as, lines_ending, quiet_ending, stopped_short}
use Rattle.control_flow.proofs.RunLemmas.{at_end, at_start, is_broken, later_end, left_end, not_begun, stopped_ends}
use Rattle.control_flow.proofs.running.run.Goals as goal

pub returns-in_default-clause-answer : goal.returns-in_default-clause-answer
returns-in_default-clause-answer g c = λ m known b knows.
    let a = g.A.Access.reported c.args.access.now in
    let w = world_from m (answered_by a) in
    let p = program_of (checked_trees c.args.checked.now) c.args.start.now c.args.settings.now in
    let before = known_part known (g.K.Sink.written c.args.sink.now) in
    let r = ran c.ended_early.result a.asks before in
    subst (λ x. RunEndsAs x a.lines (outcome_of (meaning w p before)) r) (sym c.ended_early.ensures.ending) (not_begun w p before r c.requires.fresh refl)

pub returns-in-Ok-run_all-clause-answer : goal.returns-in-Ok-run_all-clause-answer
returns-in-Ok-run_all-clause-answer g c = λ m known b knows.
    let last = g.A.Access.reported c.ended_whole.new.access in
    let n = answered_by last in
    let w = world_from m n in
    let p = program_of (checked_trees c.args.checked.now) c.args.start.now c.args.settings.now in
    let before = known_part known (g.K.Sink.written c.args.sink.now) in
    let after = known_part known (g.K.Sink.written c.run_all.new.sink) in
    let now = late_state_of c.run_all.new.held (g.A.Access.reported c.run_all.new.access).asks after in
    let same = at_start g.A.Access.cost w p c.in-Ok.held (g.A.Access.reported c.args.access.now).asks before c.requires.fresh (c.in-Ok.ensures.state g.A.Access.cost w before) in
    (c.ended_whole.ensures.answer m after (late_meaning g.A.Access.cost w p before) (meaning w p before) (c.run_all.ensures.keeps.on m b) (at_end (ending.Done) now _ _ same (c.in-Ok-run_all.ensures.gives m n known b (c.ended_whole.ensures.keeps.goes.left n (left_by last)) knows)) (late_pair g.A.Access.cost w p before)).0

pub returns-in-Ok-run_all-clause-needs : goal.returns-in-Ok-run_all-clause-needs
returns-in-Ok-run_all-clause-needs g c = λ m known b knows.
    let last = g.A.Access.reported c.ended_whole.new.access in
    let n = answered_by last in
    let w = world_from m n in
    let p = program_of (checked_trees c.args.checked.now) c.args.start.now c.args.settings.now in
    let before = known_part known (g.K.Sink.written c.args.sink.now) in
    let after = known_part known (g.K.Sink.written c.run_all.new.sink) in
    let now = late_state_of c.run_all.new.held (g.A.Access.reported c.run_all.new.access).asks after in
    let same = at_start g.A.Access.cost w p c.in-Ok.held (g.A.Access.reported c.args.access.now).asks before c.requires.fresh (c.in-Ok.ensures.state g.A.Access.cost w before) in
    (c.ended_whole.ensures.answer m after (late_meaning g.A.Access.cost w p before) (meaning w p before) (c.run_all.ensures.keeps.on m b) (at_end (ending.Done) now _ _ same (c.in-Ok-run_all.ensures.gives m n known b (c.ended_whole.ensures.keeps.goes.left n (left_by last)) knows)) (late_pair g.A.Access.cost w p before)).1

pub returns-in-Ok-run_all-clause-cause : goal.returns-in-Ok-run_all-clause-cause
returns-in-Ok-run_all-clause-cause g c = quiet_ending _ _ _ c.in-Ok-run_all.ensures.ends.cause c.ended_whole.ensures.cause

pub returns-in-Ok-run_all-clause-lines : goal.returns-in-Ok-run_all-clause-lines
returns-in-Ok-run_all-clause-lines g c = lines_ending _ _ _ (c.in-Ok-run_all.ensures.ends.lines _ (lines_none _))

pub returns-in-Err-Halted-clause-answer : goal.returns-in-Err-Halted-clause-answer
returns-in-Err-Halted-clause-answer g c = λ m known b knows.
    let last = g.A.Access.reported c.ended_whole-in-Err-Halted.new.access in
    let n = answered_by last in
    let w = world_from m n in
    let p = program_of (checked_trees c.args.checked.now) c.args.start.now c.args.settings.now in
    let before = known_part known (g.K.Sink.written c.args.sink.now) in
    let after = known_part known (g.K.Sink.written c.run_all.new.sink) in
    let now = late_state_of c.run_all.new.held (g.A.Access.reported c.run_all.new.access).asks after in
    let same = at_start g.A.Access.cost w p c.in-Ok.held (g.A.Access.reported c.args.access.now).asks before c.requires.fresh (c.in-Ok.ensures.state g.A.Access.cost w before) in
    (c.ended_whole-in-Err-Halted.ensures.answer m after (late_meaning g.A.Access.cost w p before) (meaning w p before) (c.run_all.ensures.keeps.on m b) (at_end (ending.Halted c.in-Err-Halted.cause) now _ _ same (rw c.in-Err-Halted.field-0-is at (c.in-Err-Halted.ensures.gives m n known b (c.ended_whole-in-Err-Halted.ensures.keeps.goes.left n (left_by last)) knows))) (late_pair g.A.Access.cost w p before)).0

pub returns-in-Err-Halted-clause-needs : goal.returns-in-Err-Halted-clause-needs
returns-in-Err-Halted-clause-needs g c = λ m known b knows.
    let last = g.A.Access.reported c.ended_whole-in-Err-Halted.new.access in
    let n = answered_by last in
    let w = world_from m n in
    let p = program_of (checked_trees c.args.checked.now) c.args.start.now c.args.settings.now in
    let before = known_part known (g.K.Sink.written c.args.sink.now) in
    let after = known_part known (g.K.Sink.written c.run_all.new.sink) in
    let now = late_state_of c.run_all.new.held (g.A.Access.reported c.run_all.new.access).asks after in
    let same = at_start g.A.Access.cost w p c.in-Ok.held (g.A.Access.reported c.args.access.now).asks before c.requires.fresh (c.in-Ok.ensures.state g.A.Access.cost w before) in
    (c.ended_whole-in-Err-Halted.ensures.answer m after (late_meaning g.A.Access.cost w p before) (meaning w p before) (c.run_all.ensures.keeps.on m b) (at_end (ending.Halted c.in-Err-Halted.cause) now _ _ same (rw c.in-Err-Halted.field-0-is at (c.in-Err-Halted.ensures.gives m n known b (c.ended_whole-in-Err-Halted.ensures.keeps.goes.left n (left_by last)) knows))) (late_pair g.A.Access.cost w p before)).1

pub returns-in-Err-Halted-clause-cause : goal.returns-in-Err-Halted-clause-cause
returns-in-Err-Halted-clause-cause g c = quiet_ending _ _ _ (rw c.in-Err-Halted.field-0-is at c.in-Err-Halted.ensures.ends.cause) c.ended_whole-in-Err-Halted.ensures.cause

pub returns-in-Err-Halted-clause-lines : goal.returns-in-Err-Halted-clause-lines
returns-in-Err-Halted-clause-lines g c = lines_ending _ _ _ (rw c.in-Err-Halted.field-0-is at (c.in-Err-Halted.ensures.ends.lines _ (lines_none _)))

pub returns-in-Err-Stopped-clause-lines : goal.returns-in-Err-Stopped-clause-lines
returns-in-Err-Stopped-clause-lines g c = lines_ending _ _ _ (rw c.in-Err-Stopped.field-0-is at (c.in-Err-Stopped.ensures.ends.lines _ (lines_none _)))

pub returns-in-Err-Stopped-clause-answer : goal.returns-in-Err-Stopped-clause-answer
returns-in-Err-Stopped-clause-answer g c = λ m known b knows.
    let a = g.A.Access.reported c.run_all.new.access in
    let last = g.A.Access.reported c.stop_of-stop.new.access in
    let n = answered_by last in
    let w = world_from m n in
    let st = c.stop_of-stop.result in
    let p = program_of (checked_trees c.args.checked.now) c.args.start.now c.args.settings.now in
    let before = known_part known (g.K.Sink.written c.args.sink.now) in
    let after = known_part known (g.K.Sink.written c.run_all.new.sink) in
    let now = late_state_of c.run_all.new.held a.asks after in
    let r = ran c.ended_early-in-Err-Stopped.result last.asks after in
    let same = at_start g.A.Access.cost w p c.in-Ok.held (g.A.Access.reported c.args.access.now).asks before c.requires.fresh (c.in-Ok.ensures.state g.A.Access.cost w before) in
    subst (λ x. RunEndsAs x last.lines (outcome_of (meaning w p before)) r) (sym (c.ended_early-in-Err-Stopped.ensures.ending ∙ c.from.ensures))
    (stopped_ends w st a last r now (late_meaning g.A.Access.cost w p before) (meaning w p before) (late_pair g.A.Access.cost w p before) (answered_as st last c.stop_of-stop.ensures.by)
    (left_end w a now _ _ same (rw c.in-Err-Stopped.field-0-is at (c.in-Err-Stopped.ensures.gives m n known b (c.stop_of-stop.ensures.keeps.goes.left n (left_by last)) knows)))
    c.stop_of-stop.ensures.stop c.stop_of-stop.ensures.same c.stop_of-stop.ensures.calls refl)

pub returns-in-Err-OutOfMemory-clause-answer : goal.returns-in-Err-OutOfMemory-clause-answer
returns-in-Err-OutOfMemory-clause-answer g c = λ m known b knows.
    let a = g.A.Access.reported c.run_all.new.access in
    let n = answered_by a in
    let w = world_from m n in
    let p = program_of (checked_trees c.args.checked.now) c.args.start.now c.args.settings.now in
    let before = known_part known (g.K.Sink.written c.args.sink.now) in
    let after = known_part known (g.K.Sink.written c.run_all.new.sink) in
    let now = late_state_of c.run_all.new.held a.asks after in
    let r = ran c.ended_early-in-Err-OutOfMemory.result a.asks after in
    let same = at_start g.A.Access.cost w p c.in-Ok.held (g.A.Access.reported c.args.access.now).asks before c.requires.fresh (c.in-Ok.ensures.state g.A.Access.cost w before) in
    subst (λ x. RunEndsAs x a.lines (outcome_of (meaning w p before)) r) (sym c.ended_early-in-Err-OutOfMemory.ensures.ending)
    (is_broken w r now (late_meaning g.A.Access.cost w p before) (meaning w p before) (late_pair g.A.Access.cost w p before)
    (later_end w now _ _ same (rw c.in-Err-OutOfMemory.field-0-is at (c.in-Err-OutOfMemory.ensures.gives m n known b (left_by a) knows))) refl refl)

pub returns-in-Err-OutOfMemory-clause-lines : goal.returns-in-Err-OutOfMemory-clause-lines
returns-in-Err-OutOfMemory-clause-lines g c = lines_ending _ _ _ (rw c.in-Err-OutOfMemory.field-0-is at (c.in-Err-OutOfMemory.ensures.ends.lines _ (lines_none _)))

pub returns-clause-answer : goal.returns-clause-answer
returns-clause-answer g c = λ m known b knows.
    let a = g.A.Access.reported c.run_all.new.access in
    let n = answered_by a in
    let w = world_from m n in
    let p = program_of (checked_trees c.args.checked.now) c.args.start.now c.args.settings.now in
    let before = known_part known (g.K.Sink.written c.args.sink.now) in
    let after = known_part known (g.K.Sink.written c.run_all.new.sink) in
    let now = late_state_of c.run_all.new.held a.asks after in
    let r = ran c.ended_early-in-Err-WriteFault.result a.asks after in
    let same = at_start g.A.Access.cost w p c.in-Ok.held (g.A.Access.reported c.args.access.now).asks before c.requires.fresh (c.in-Ok.ensures.state g.A.Access.cost w before) in
    subst (λ x. RunEndsAs x a.lines (outcome_of (meaning w p before)) r) (sym c.ended_early-in-Err-WriteFault.ensures.ending)
    (is_broken w r now (late_meaning g.A.Access.cost w p before) (meaning w p before) (late_pair g.A.Access.cost w p before)
    (later_end w now _ _ same (rw c.in-Err-WriteFault.field-0-is at (c.in-Err-WriteFault.ensures.gives m n known b (left_by a) knows))) refl refl)

pub returns-clause-lines : goal.returns-clause-lines
returns-clause-lines g c = subst (λ x. HasLines x (g.K.Sink.written c.args.sink.now) (g.K.Sink.written c.run_all.new.sink)) (sym c.ended_early-in-Err-WriteFault.ensures.ending) tt

pub returns-in-Ok-run_all-clause-whole : goal.returns-in-Ok-run_all-clause-whole
returns-in-Ok-run_all-clause-whole g c = λ m answered b left is.
    c.ended_whole.ensures.goes m answered (c.run_all.ensures.keeps.on m b) left (subst ComesToEnd (sym is) tt)

pub returns-in-Err-Halted-clause-whole : goal.returns-in-Err-Halted-clause-whole
returns-in-Err-Halted-clause-whole g c = λ m answered b left is.
    c.ended_whole-in-Err-Halted.ensures.goes m answered (c.run_all.ensures.keeps.on m b) left (subst ComesToEnd (sym is) tt)

pub returns-in-Err-Stopped-clause-whole : goal.returns-in-Err-Stopped-clause-whole
returns-in-Err-Stopped-clause-whole g c = λ m answered b left is.
    absurd (stopped_short c.stop_of-stop.result c.ended_early-in-Err-Stopped.result.ending (c.ended_early-in-Err-Stopped.ensures.ending ∙ c.from.ensures) (subst ComesToEnd (sym is) tt))

pub returns-in-Ok-run_all-clause-counted : goal.returns-in-Ok-run_all-clause-counted
returns-in-Ok-run_all-clause-counted g c = λ is. c.ended_whole.ensures.counted (subst ComesToEnd (sym is) tt)

pub returns-in-Err-Halted-clause-counted : goal.returns-in-Err-Halted-clause-counted
returns-in-Err-Halted-clause-counted g c = λ is. c.ended_whole-in-Err-Halted.ensures.counted (subst ComesToEnd (sym is) tt)

pub returns-in-Err-Stopped-clause-counted : goal.returns-in-Err-Stopped-clause-counted
returns-in-Err-Stopped-clause-counted g c = λ is.
    absurd (stopped_short c.stop_of-stop.result c.ended_early-in-Err-Stopped.result.ending (c.ended_early-in-Err-Stopped.ensures.ending ∙ c.from.ensures) (subst ComesToEnd (sym is) tt))

pub returns-in_default-clause-part : goal.returns-in_default-clause-part
returns-in_default-clause-part g c = λ m n known b left knows never.
    let p = program_of (checked_trees c.args.checked.now) c.args.start.now c.args.settings.now in
    not_begun (world_from m n) p (known_part known (g.K.Sink.written c.args.sink.now)) _ c.requires.fresh refl

pub returns-in-Ok-run_all-clause-part : goal.returns-in-Ok-run_all-clause-part
returns-in-Ok-run_all-clause-part g c = λ m n known b left knows never.
    let w = world_from m n in
    let p = program_of (checked_trees c.args.checked.now) c.args.start.now c.args.settings.now in
    let before = known_part known (g.K.Sink.written c.args.sink.now) in
    let after = known_part known (g.K.Sink.written c.run_all.new.sink) in
    let now = late_state_of c.run_all.new.held (g.A.Access.reported c.run_all.new.access).asks after in
    let same = at_start g.A.Access.cost w p c.in-Ok.held (g.A.Access.reported c.args.access.now).asks before c.requires.fresh (c.in-Ok.ensures.state g.A.Access.cost w before) in
    c.ended_whole.ensures.part m n after (late_meaning g.A.Access.cost w p before) (meaning w p before) (c.run_all.ensures.keeps.on m b) left
    (at_end (ending.Done) now _ _ same ((c.in-Ok-run_all.ensures.gives m n known b (c.ended_whole.ensures.keeps.goes.left n left) knows))) (late_pair g.A.Access.cost w p before) never

pub returns-in-Err-Halted-clause-part : goal.returns-in-Err-Halted-clause-part
returns-in-Err-Halted-clause-part g c = λ m n known b left knows never.
    let w = world_from m n in
    let p = program_of (checked_trees c.args.checked.now) c.args.start.now c.args.settings.now in
    let before = known_part known (g.K.Sink.written c.args.sink.now) in
    let after = known_part known (g.K.Sink.written c.run_all.new.sink) in
    let now = late_state_of c.run_all.new.held (g.A.Access.reported c.run_all.new.access).asks after in
    let same = at_start g.A.Access.cost w p c.in-Ok.held (g.A.Access.reported c.args.access.now).asks before c.requires.fresh (c.in-Ok.ensures.state g.A.Access.cost w before) in
    c.ended_whole-in-Err-Halted.ensures.part m n after (late_meaning g.A.Access.cost w p before) (meaning w p before) (c.run_all.ensures.keeps.on m b) left
    (at_end (ending.Halted c.in-Err-Halted.cause) now _ _ same (rw c.in-Err-Halted.field-0-is at (c.in-Err-Halted.ensures.gives m n known b (c.ended_whole-in-Err-Halted.ensures.keeps.goes.left n left) knows))) (late_pair g.A.Access.cost w p before) never

pub returns-in-Err-Stopped-clause-part : goal.returns-in-Err-Stopped-clause-part
returns-in-Err-Stopped-clause-part g c = λ m n known b left knows never.
    let a = g.A.Access.reported c.run_all.new.access in
    let w = world_from m n in
    let p = program_of (checked_trees c.args.checked.now) c.args.start.now c.args.settings.now in
    let before = known_part known (g.K.Sink.written c.args.sink.now) in
    let after = known_part known (g.K.Sink.written c.run_all.new.sink) in
    let now = late_state_of c.run_all.new.held a.asks after in
    let same = at_start g.A.Access.cost w p c.in-Ok.held (g.A.Access.reported c.args.access.now).asks before c.requires.fresh (c.in-Ok.ensures.state g.A.Access.cost w before) in
    is_broken w (ran c.ended_early-in-Err-Stopped.result (g.A.Access.reported c.stop_of-stop.new.access).asks after) now (late_meaning g.A.Access.cost w p before) (meaning w p before) (late_pair g.A.Access.cost w p before)
    (left_end w a now _ _ same (rw c.in-Err-Stopped.field-0-is at (c.in-Err-Stopped.ensures.gives m n known b (c.stop_of-stop.ensures.keeps.goes.left n left) knows))).later c.stop_of-stop.ensures.calls refl

pub returns-in-Err-OutOfMemory-clause-part : goal.returns-in-Err-OutOfMemory-clause-part
returns-in-Err-OutOfMemory-clause-part g c = λ m n known b left knows never.
    let a = g.A.Access.reported c.run_all.new.access in
    let w = world_from m n in
    let p = program_of (checked_trees c.args.checked.now) c.args.start.now c.args.settings.now in
    let before = known_part known (g.K.Sink.written c.args.sink.now) in
    let after = known_part known (g.K.Sink.written c.run_all.new.sink) in
    let now = late_state_of c.run_all.new.held a.asks after in
    let same = at_start g.A.Access.cost w p c.in-Ok.held (g.A.Access.reported c.args.access.now).asks before c.requires.fresh (c.in-Ok.ensures.state g.A.Access.cost w before) in
    is_broken w (ran c.ended_early-in-Err-OutOfMemory.result a.asks after) now (late_meaning g.A.Access.cost w p before) (meaning w p before) (late_pair g.A.Access.cost w p before)
    (later_end w now _ _ same (rw c.in-Err-OutOfMemory.field-0-is at (c.in-Err-OutOfMemory.ensures.gives m n known b left knows))) refl refl

pub returns-clause-part : goal.returns-clause-part
returns-clause-part g c = λ m n known b left knows never.
    let a = g.A.Access.reported c.run_all.new.access in
    let w = world_from m n in
    let p = program_of (checked_trees c.args.checked.now) c.args.start.now c.args.settings.now in
    let before = known_part known (g.K.Sink.written c.args.sink.now) in
    let after = known_part known (g.K.Sink.written c.run_all.new.sink) in
    let now = late_state_of c.run_all.new.held a.asks after in
    let same = at_start g.A.Access.cost w p c.in-Ok.held (g.A.Access.reported c.args.access.now).asks before c.requires.fresh (c.in-Ok.ensures.state g.A.Access.cost w before) in
    is_broken w (ran c.ended_early-in-Err-WriteFault.result a.asks after) now (late_meaning g.A.Access.cost w p before) (meaning w p before) (late_pair g.A.Access.cost w p before)
    (later_end w now _ _ same (rw c.in-Err-WriteFault.field-0-is at (c.in-Err-WriteFault.ensures.gives m n known b left knows))) refl refl
