use Rattle.std.proofs.Common.{◌≡◌, ◌≤◌, ◌-◌, ℕ, Option, None, take, length}
use Rattle.probe_core.specs.Bench.{BenchState}
use Rattle.access_calls.specs.Left.{IsLeft}
use Rattle.access_calls.specs.Reported.{world_from}
use Rattle.access_calls.specs.Keeps.{KeepsAccess}
use Rattle.sequence_rules.specs.Shared.{bindings_of}
use Rattle.sequence_rules.specs.Runs.{variables_of}
use Rattle.control_flow.specs.Closing.{AreAsked, numbers_in}
use Rattle.control_flow.proofs.closing.look_up_variables.Given as goal

abbrev pub invariant-loop-index : goal.invariant-loop-index
invariant-loop-index g l = record {
  so_far : (m : BenchState) (answered : Option ℕ) → g.A.Access.begun l.fn.access m → IsLeft (g.A.Access.reported l.access) answered
      → variables_of l.variables ≡ numbers_in (world_from m answered) (g.A.Access.reported l.fn.access).asks.calls (take l.index (bindings_of l.globals));
  within : l.index ≤ length (bindings_of l.globals);
  calls : (g.A.Access.reported l.access).asks.calls ≡ (g.A.Access.reported l.fn.access).asks.calls;
  asks : AreAsked (g.A.Access.reported l.fn.access).asks.fence (bindings_of l.globals) → (g.A.Access.reported l.access).asks ≡ (g.A.Access.reported l.fn.access).asks;
  ended : (g.A.Access.reported l.access).end ≡ None;
  keeps : KeepsAccess g.A.Access.begun g.A.Access.reported g.A.Access.identity l.fn.access l.access;
}

abbrev pub decreases-loop-index : goal.decreases-loop-index
decreases-loop-index g l = length (bindings_of l.globals) - l.index
