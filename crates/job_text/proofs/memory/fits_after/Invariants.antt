use Rattle.std.proofs.Common.{◌≡◌, ◌+◌, ◌≤◌, drop}
use Rattle.std.specs.Prelude.{sum_by}
use Rattle.job_text.proofs.memory.fits_after.Given as goal

abbrev pub invariant-loop-region : goal.invariant-loop-region
invariant-loop-region l =
    (l.sum + sum_by (λ r. r.length) (drop l.region-index l.earlier) ≡ sum_by (λ r. r.length) l.earlier + l.length) × (l.sum ≤ 4294967295)
