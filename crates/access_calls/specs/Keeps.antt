-- What a function over an access keeps of it, in one record.
use Rattle.std.specs.Prelude.{◌≡◌, ℕ}
use Rattle.probe_core.specs.Bench.{BenchState}
use Rattle.access_calls.specs.GoesOn.{AccessGoesOn}
use Rattle.access_calls.specs.Reported.{AccessView}

-- What each call keeps of its access, and so each row of calls. It keeps where it began, which loan its bench is, and what each call of an
-- access keeps. The number of calls that may still be answered is among that.
pub record KeepsAccess {S : Type 0} (begun : S → BenchState → Type 0) (reported : S → AccessView) (identity : S → ℕ) (old new : S) : Type 0 where
  pub on : (m : BenchState) → begun old m → begun new m
  pub same_bench : identity new ≡ identity old
  pub goes : AccessGoesOn (reported old) (reported new)
