use Rattle.std.proofs.Common.{ℕ, Some, subst, sym}
use Rattle.run_events.specs.OfSteps.{poll_end}
use Rattle.target_machine.specs.Plain.{Answered}
use Rattle.logged_runs.specs.OfSteps.{while_spot}
use Rattle.logged_runs.specs.Walk.{CoversAll}
use Rattle.logged_runs.proofs.walked.Walked.cover_poll.Goals as goal

pub returns-then-value-eq0 : goal.returns-then-value-eq0
returns-then-value-eq0 c = λ count.
    subst (λ (v : ℕ). CoversAll c.args.self.now c.cover_timeout.new.self c.cover_timeout.result (poll_end (while_spot c.args.sequence.now c.args.path.now) count (Some (Answered v))))
    (sym c.if-value-eq0.true) (c.cover_timeout.ensures count)
