-- What an access reports, and where it began.
use Rattle.std.specs.Prelude.{ℕ, List, Option}
use Rattle.target_machine.specs.State.{TargetState}
use Rattle.probe_core.specs.Bench.{BenchState}
use Rattle.probe_core.specs.Bench.{Reported as BenchReported}
use Rattle.probe_core.specs.Probe.{target_of}
use Rattle.target_calls.specs.NeedPoints.{Asks}
use Rattle.target_calls.specs.World.{World, start_world}
use Rattle.access_calls.specs.declared.stop.Stop.{Stop}

-- What an access reports at a moment.
pub record AccessView : Type 0 where
  -- what its bench reports, and the state of the bench where that is observable
  pub bench : BenchReported
  pub state : Option BenchState
  -- what was asked
  pub asks : Asks
  -- how many calls are known to have been answered
  pub came : ℕ
  -- how many of the first results `value` answers from now on, whatever comes
  pub known : ℕ
  -- its end, where it has ended, and at a cut how many units have their lines before it
  pub end : Option Stop
  pub lines : ℕ
  -- how many calls were skipped
  pub skipped : ℕ
  -- how many entries of the journal were issued, and how many of them are confirmed
  pub issued : ℕ
  pub confirmed : ℕ
  -- the packet and the reply that ended it
  pub sent : List ℕ
  pub got : List ℕ

-- Where an access began: the state of its bench at that moment, and how many of its calls are answered. All are, or so many, after which a retry
-- ends.
pub record Beginning : Type 0 where
  pub state : BenchState
  pub answered : Option ℕ

-- an access began so
abbrev pub began : BenchState → Option ℕ → Beginning
began m answered = record { state = m; answered = answered }

-- the world in which the calls of an access are made that began so
abbrev pub world_from : BenchState → Option ℕ → World
world_from m answered = start_world (target_of m.probe) answered

-- the target at the beginning
abbrev pub start_of : Beginning → TargetState
start_of b = target_of b.state.probe

-- the world at the beginning
abbrev pub world_of : Beginning → World
world_of b = world_from b.state b.answered
