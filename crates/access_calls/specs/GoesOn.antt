-- What each call of an access keeps.
use Rattle.std.specs.Prelude.{◌≡◌, ℕ, ◌≤◌, Option, Some, None}
use Rattle.probe_core.specs.Runs.{KeepsRuns}
use Rattle.access_calls.specs.Causes.{HasStopCause}
use Rattle.access_calls.specs.Left.{IsLeft}
use Rattle.access_calls.specs.Reported.{AccessView}
use Rattle.access_calls.specs.declared.stop.Stop.{Stop}

-- nothing changed but what was asked
pub record IsSameButAsks (old new : AccessView) : Type 0 where
  pub same : new ≡ record old { asks = new.asks }

-- an access that had ended stays as it is, and else its end has its cause
abbrev pub StaysEnded : AccessView → AccessView → Option Stop → Type 0
StaysEnded old new None = HasStopCause old new new.end
StaysEnded old new (Some s) = IsSameButAsks old new

-- What each call keeps, and so each row of calls. The limits of the bench and whether it is observable stay, no count falls, and the log goes
-- on. Known results stay known, and the numbers of calls that may be answered only become fewer. An end stays, and has its cause.
pub record AccessGoesOn (old new : AccessView) : Type 0 where
  pub limits : new.bench.limits ≡ old.bench.limits
  pub faults : old.bench.faults ≤ new.bench.faults
  pub exchanges : old.bench.exchanges ≤ new.bench.exchanges
  pub runs : KeepsRuns old.state new.state
  pub known : old.known ≤ new.known
  pub left : (answered : Option ℕ) → IsLeft new answered → IsLeft old answered
  pub ended : StaysEnded old new old.end
