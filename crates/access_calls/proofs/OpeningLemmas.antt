-- A bench that was just loaded.
use Rattle.std.proofs.Common.{◌≡◌, ◌∙◌, ℕ, ◌%◌, false, refl, ap, arith}
use Rattle.std.specs.Prelude.{bit_and, ◌==◌}
use Rattle.std.proofs.lemmas.Grind.{common_steps}
use Rattle.target_machine.specs.InRange.{IsJobInRange}
use Rattle.target_machine.specs.Start.{start}
use Rattle.target_machine.proofs.FreshLemmas.{start_is_fresh}
use Rattle.target_machine.proofs.StartRanges.{start_in_range}
use Rattle.probe_core.specs.Bench.{fresh}
use Rattle.probe_core.specs.Ranges.{IsBenchJob}
use Rattle.probe_core.specs.declared.job.BenchJob.{BenchJob}
use Rattle.access_calls.specs.Opening.{MayBegin}

odd_bit : (n : ℕ) → n % 2 ≡ 1 → (bit_and n 1 == 0) ≡ false
odd_bit n odd = (let low : bit_and n 1 ≡ n % 2 = grind (arith, common_steps) in ap (λ (k : ℕ). k == 0) (low ∙ odd))

pub loaded_may_begin : (job : BenchJob) → IsBenchJob job → IsJobInRange job.target → MayBegin (fresh job)
unfolding start
loaded_may_begin job sound ranges = record {
  mask = refl;
  dpidr = odd_bit job.target.dpidr sound.target.dpidr;
  fresh = start_is_fresh job.target sound.target;
  in_range = start_in_range job.target sound.target ranges;
  work = omega arith;
  retries = omega arith;
}
