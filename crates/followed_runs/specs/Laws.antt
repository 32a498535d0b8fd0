-- Laws of runs with what follows them.
use Rattle.std.specs.Prelude.{◌≡◌, ◌⊎◌, ℕ, ◌+◌, ◌≤◌, List, Option}
use Rattle.target_calls.specs.World.{World}
use Rattle.target_machine.specs.State.{TargetState}
use Rattle.sequence_rules.specs.Late.{Grows}
use Rattle.sequence_rules.specs.Laws.{IsMadeIn}
use Rattle.sequence_rules.specs.Runs as runs
use Rattle.sequence_rules.specs.Runs.{Outcome, units_of}
use Rattle.sequels.specs.Limits.{GoesOnFrom}
use Rattle.followed_runs.specs.Followed.{Task, outcome_in_world, task_outcome, task_within}

-- The outcome with at most m units answered is cut short. It ends where unit m + 1 is asked, and the whole goes on from its calls. What it wrote
-- comes first in what the whole wrote.
pub record OutcomeIsCutShort (m : ℕ) (whole short : Outcome) : Type 0 where
  pub ending : short.ending ≡ runs.Unanswered
  pub units : units_of short ≡ m + 1
  pub calls : GoesOnFrom short.calls whole.calls
  pub lines : Grows short.written whole.written

-- It is the same where the whole asks at most m units.
pub record OutcomeIsWhole (m : ℕ) (whole short : Outcome) : Type 0 where
  pub units : units_of whole ≤ m
  pub same : short ≡ whole

-- with at most m units answered, the outcome is the same or is cut short
abbrev pub OutcomeIsLimited : ℕ → Outcome → Outcome → Type 0
OutcomeIsLimited m whole short = OutcomeIsWhole m whole short ⊎ OutcomeIsCutShort m whole short

-- Where at most m units are answered, a run with what follows it is either whole or cut short.
abbrev pub LimitsCutFollowedRuns : Type 0
LimitsCutFollowedRuns = (m : ℕ) (k : Task) (t : TargetState) (written : Option (List ℕ)) → OutcomeIsLimited m (task_outcome k t written) (task_within m k t written)

-- A run with what follows it is what its calls come to, made one after the other.
abbrev pub FollowedRunsAreMade : Type 0
FollowedRunsAreMade = (w : World) (k : Task) (written : Option (List ℕ)) → IsMadeIn w (outcome_in_world w k written)
