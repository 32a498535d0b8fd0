use Rattle.log_lines.specs.Places.{condition_spot}
use Rattle.run_events.specs.Events.{Event}
use Rattle.sequence_trees.specs.declared.spot.Part.TheVariants as part
use Rattle.std.proofs.Common.{List, Err}
use Rattle.logged_runs.specs.Seen.{NotesByTurns}
use Rattle.logged_runs.specs.Walk.{now, seen_so_far}
use Rattle.logged_runs.proofs.NoteLemmas.{unless_ended, unless_from, unless_to}
use Rattle.logged_runs.proofs.Units.{poll_not_counted, poll_seen_as}
use Rattle.logged_runs.proofs.controls.run_poll.Goals as goal

pub returns-in_err-count_step-clause-noted : goal.returns-in_err-count_step-clause-noted
returns-in_err-count_step-clause-noted c = λ turns.
    unless_ended _ c.count_step.new.walked.held.end c.in_err-count_step.field-0.0 _ c.from_residual.ensures.0
    (unless_to {A = Unit {0}} turns (seen_so_far c.args.walked.now) _ _ _ c.count_step.new.walked.held.end (Err c.in_err-count_step.field-0.0) c.count_step.ensures.seen
    (poll_not_counted c.count_step.new.walked.held.end c.in_err-count_step.field-0.0 turns (seen_so_far c.args.walked.now) (c.args.mask, c.args.requested) (condition_spot c.args.sequence.now c.args.path.now part.While) c.args.count
    (now c.args.walked.now c.args.target.now) _ (c.in_err-count_step.ensures.gives c.args.target.now)))

pub returns-clause-noted : goal.returns-clause-noted
returns-clause-noted c = λ turns.
    unless_from turns _ _ _ _ c.poll.new.self.held.end c.poll.result c.count_step.ensures.seen
    (poll_seen_as (λ (events : List Event). NotesByTurns turns (seen_so_far c.count_step.new.walked) (seen_so_far c.poll.new.self) (λ shows. events)) c.poll.new.self.held.end c.poll.result (c.args.mask, c.args.requested)
    (condition_spot c.args.sequence.now c.args.path.now part.While) c.args.count (now c.args.walked.now c.args.target.now) (now c.count_step.new.walked c.args.target.now) _ (c.in_ok-count_step.ensures.gives c.args.target.now) c.poll.ensures.gives (c.poll.ensures.noted turns))
