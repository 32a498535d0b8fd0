use Rattle.std.proofs.Common.{◌∙◌, None}
use Rattle.run_events.specs.OfRuns.{events_in}
use Rattle.sequence_rules.specs.Runs.{meaning}
use Rattle.target_calls.specs.World.{start_world}
use Rattle.logged_runs.specs.Seen.{NotesByTurns}
use Rattle.logged_runs.specs.Walk.{now, seen_so_far}
use Rattle.logged_runs.proofs.Answering.{at_end, came_to, covered_at, error_at, log_at, places_at, timed_out_at}
use Rattle.logged_runs.proofs.logged.answer_run.Goals as goal

pub returns-clause-answer : goal.returns-clause-answer
returns-clause-answer c = λ p start target h units.
    let k = came_to c.args.walked.held.end c.args.ended c.in_ok-ending.ending (now c.args.walked target) (meaning (start_world start None) p None) h units c.in_ok-ending.ensures in
    record { ending = k.ending; calls = k.calls; skipped = k.skipped; target = k.target }

pub returns-clause-seen : goal.returns-clause-seen
returns-clause-seen c = λ turns p start first none h.
    let n = at_end (NotesByTurns turns first (seen_so_far c.args.walked) (λ shows. events_in shows (start_world start None) p None)) c.args.walked.held.end c.args.ended c.in_ok-ending.ending c.args.walked.held.units c.in_ok-ending.ensures h in
    record {
      log = c.in_ok-log.ensures ∙ log_at turns first (seen_so_far c.args.walked) (λ shows. events_in shows (start_world start None) p None) none n;
      coverage = covered_at turns first (seen_so_far c.args.walked) (λ shows. events_in shows (start_world start None) p None) none n;
      at = c.place_of_end.ensures _ (places_at turns first (seen_so_far c.args.walked) (λ shows. events_in shows (start_world start None) p None) none n);
      timed_out = timed_out_at turns first (seen_so_far c.args.walked) (λ shows. events_in shows (start_world start None) p None) none n;
      error_shown = error_at turns first (seen_so_far c.args.walked) (λ shows. events_in shows (start_world start None) p None) none n;
    }
