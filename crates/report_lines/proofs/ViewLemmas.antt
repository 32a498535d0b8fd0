-- A bench as what shows its target.
use Rattle.std.proofs.Common.{◌≡◌, ℕ, Option, None, Some, Result, Ok, Err, IfOk, IfSome, ap}
use Rattle.target_machine.specs.Image.{image_part}
use Rattle.target_machine.specs.declared.image.ImageAsk.{ImageAsk}
use Rattle.target_machine.specs.declared.image.ImagePart.{ImagePart}
use Rattle.probe_core.specs.Bench.{BenchState, IsAsBefore, Seen}
use Rattle.probe_core.specs.Probe.{target_of}
use Rattle.report_lines.specs.Views.{IsViewedAsBefore, bench_view, observed_target}

-- the part that a bench shows is that of its target
pub shown_part : {E : Type 0} (s : Option BenchState) (r : Result ImagePart E) (ask : ImageAsk) → IfOk r (λ part. IfSome s (λ m. part ≡ image_part (target_of m.probe) ask)) → IfOk r (λ part. IfSome (observed_target s) (λ t. part ≡ image_part t ask))
shown_part s (Err e) ask h = tt
shown_part None (Ok part) ask h = tt
shown_part (Some m) (Ok part) ask h = h

-- a bench that is as it was shows its target as it did
pub viewed_bench : (a b : Seen) (i j : ℕ) → IsAsBefore a b → j ≡ i → IsViewedAsBefore (bench_view a i) (bench_view b j)
viewed_bench a b i j same loan = record { target = ap observed_target same.state; bench = same; identity = loan }
