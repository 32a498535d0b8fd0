use Rattle.std.proofs.Common.{refl}
use Rattle.log_lines.specs.Places.{condition_spot}
use Rattle.logged_calls.specs.Held.{logged_state_of}
use Rattle.sequence_trees.specs.declared.spot.Part.TheVariants as part
use Rattle.logged_runs.specs.Walk.{now, seen_so_far}
use Rattle.logged_runs.proofs.NoteLemmas.{means_stopped, unless_ended}
use Rattle.logged_runs.proofs.Units.{ends_dropped, poll_gives, poll_noted, poll_stops}
use Rattle.logged_runs.proofs.walked.Walked.poll.Goals as goal

pub returns-in_err-value-clause-gives : goal.returns-in_err-value-clause-gives
returns-in_err-value-clause-gives c = means_stopped c.ask_poll.new.held.end _ _ _ c.from_residual.ensures.0 (ends_dropped c.ask_poll.new.held.end _ _ c.in_err-value.ensures.gives)

pub returns-in_err-value-clause-noted : goal.returns-in_err-value-clause-noted
returns-in_err-value-clause-noted c = λ turns.
    unless_ended _ c.ask_poll.new.held.end c.in_err-value.field-0.0 _ c.from_residual.ensures.0
    (poll_stops turns (seen_so_far c.args.self.now) _ (now c.args.self.now c.args.target.now) (logged_state_of c.ask_poll.new.held c.ask_poll.new.target) (condition_spot c.args.sequence.now c.args.path.now part.While) c.args.count refl refl refl refl
    c.ask_poll.new.held.end c.in_err-value.field-0.0 (c.in_err-value.ensures.noted _) c.in_err-value.ensures.polled)

pub returns-clause-gives : goal.returns-clause-gives
returns-clause-gives c = poll_gives c.cover_poll.new.self.held.end c.cover_poll.result _ _ _ c.in_ok-value.value c.in_ok-value.ensures.gives ((c.cover_poll.ensures c.args.count).state _) (c.cover_poll.ensures c.args.count).refused

pub returns-clause-noted : goal.returns-clause-noted
returns-clause-noted c = λ turns.
    poll_noted turns (seen_so_far c.args.self.now) _ (now c.args.self.now c.args.target.now) (logged_state_of c.ask_poll.new.held c.ask_poll.new.target) (condition_spot c.args.sequence.now c.args.path.now part.While) c.args.count refl refl refl refl
    (seen_so_far c.cover_poll.new.self) (now c.cover_poll.new.self c.ask_poll.new.target) c.cover_poll.new.self.held.end c.cover_poll.result c.in_ok-value.value (c.in_ok-value.ensures.noted _) c.in_ok-value.ensures.polled
    ((c.cover_poll.ensures c.args.count).state _) (c.cover_poll.ensures c.args.count).log (c.cover_poll.ensures c.args.count).refused (c.cover_poll.ensures c.args.count).noted
