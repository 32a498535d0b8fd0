use Rattle.std.proofs.Common.{◌≡◌, ◌+◌, ◌≤◌, ℕ, Option, None, drop, length, slice_index}
use Rattle.probe_core.specs.Bench.{BenchState}
use Rattle.target_calls.specs.World.{results}
use Rattle.access_calls.specs.Keeps.{KeepsAccess}
use Rattle.access_calls.specs.Left.{IsLeft}
use Rattle.access_calls.specs.Reported.{world_from}
use Rattle.image_load.specs.Pieces.{first_difference}
use Rattle.image_load.proofs.loading.compare_all.Given as goal

abbrev pub invariant-loop-i : goal.invariant-loop-i
invariant-loop-i g l = record {
  so_far : (m : BenchState) (answered : Option ℕ) → g.A.Access.begun l.fn.access m → IsLeft (g.A.Access.reported l.access) answered
      → first_difference l.pieces (λ k. slice_index (results (world_from m answered) (g.A.Access.reported l.fn.access).asks.calls) (l.first + k))
      ≡ first_difference (drop l.i l.pieces) (λ k. slice_index (results (world_from m answered) (g.A.Access.reported l.fn.access).asks.calls) (l.first + (l.i + k)));
  calls : (g.A.Access.reported l.access).asks.calls ≡ (g.A.Access.reported l.fn.access).asks.calls;
  known : l.first + length l.pieces ≤ (g.A.Access.reported l.access).known;
  ended : (g.A.Access.reported l.access).end ≡ None;
  keeps : KeepsAccess g.A.Access.begun g.A.Access.reported g.A.Access.identity l.fn.access l.access;
}
