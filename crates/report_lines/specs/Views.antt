-- What shows a target: a bench, or the target itself.
use Rattle.std.specs.Prelude.{◌≡◌, ℕ, Option, Some, None}
use Rattle.target_machine.specs.State.{TargetState}
use Rattle.probe_core.specs.Bench.{BenchState, IsAsBefore, Seen, no_exchange}
use Rattle.probe_core.specs.Probe.{target_of}

-- What is known of what shows a target: the target where it is observable, the bench that shows it, and which loan it is.
pub record View : Type 0 where
  pub target : Option TargetState
  pub bench : Seen
  pub identity : ℕ

-- the target of a bench, where it is observable
abbrev pub observed_target : Option BenchState → Option TargetState
observed_target None = None
observed_target (Some m) = Some (target_of m.probe)

-- a bench as what shows its target
abbrev pub bench_view : Seen → ℕ → View
bench_view bench identity = record { target = observed_target bench.state; bench = bench; identity = identity }

-- where a target shows itself no bench does, and so none fails
abbrev pub no_bench : Seen
no_bench = record {
  reported = record { limits = record { packet_size = 0; packet_count = 0 }; held = 0; waiting = 0; faults = 0; exchanges = 0; last = no_exchange };
  state = None;
}

-- a target as what shows itself
abbrev pub target_view : TargetState → View
target_view t = record { target = Some t; bench = no_bench; identity = 0 }

-- all is as it was except for the count of faults
pub record IsViewedAsBefore (old new : View) : Type 0 where
  pub target : new.target ≡ old.target
  pub bench : IsAsBefore old.bench new.bench
  pub identity : new.identity ≡ old.identity
