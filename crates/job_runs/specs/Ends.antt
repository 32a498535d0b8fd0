-- What shows how a run over a bench ends.
use Rattle.std.specs.Prelude.{◌≡◌, ℕ}
use Rattle.dap_base.specs.Causes.{Rose}
use Rattle.probe_core.specs.Bench.{Reported as BenchReported}
use Rattle.access_calls.specs.Causes.{HasResponse}
use Rattle.access_calls.specs.declared.ended.Ending.{Ending}
use Rattle.access_calls.specs.declared.ended.Ending.TheVariants as e

-- the bench's count of faults rose where the run ended because the bench failed, and else it is the same
abbrev pub HasBenchCause : Ending → ℕ → ℕ → Type 0
HasBenchCause (e.BenchFault issued confirmed) before now = Rose before now
HasBenchCause other before now = now ≡ before

-- The last exchange began since, and one of its replies has this transfer response for one of its commands.
pub record HasGotResponse (code : ℕ) (old new : BenchReported) : Type 0 where
  pub begun : Rose old.exchanges new.exchanges
  pub place : ℕ
  pub response : HasResponse code new.last place
