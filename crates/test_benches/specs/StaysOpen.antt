-- What stays of a bench that shows its log.
use Rattle.std.specs.Prelude.{◌≡◌}
use Rattle.probe_core.specs.Bench.{Reported}

-- the limits of a bench, the packets that it holds and the replies that wait are as they were
pub record StaysOpen (old new : Reported) : Type 0 where
  pub limits : new.limits ≡ old.limits
  pub held : new.held ≡ old.held
  pub waiting : new.waiting ≡ old.waiting
