use Rattle.std.proofs.Common.{◌≡◌, ℕ, List, Option, Ok, drop}
use Rattle.probe_core.specs.Bench.{BenchState}
use Rattle.access_calls.specs.Left.{IsLeft}
use Rattle.access_calls.specs.Reported.{world_from}
use Rattle.target_calls.specs.declared.calls.Value.{Value}
use Rattle.access_calls.specs.Keeps.{KeepsAccess}
use Rattle.sequence_rules.specs.declared.bindings.Binding.{Binding}
use Rattle.sequence_rules.specs.Late.{late}
use Rattle.sequence_rules.specs.Values.{all_used}
use Rattle.function_calls.specs.Frame.{EndsUse}
use Rattle.function_calls.specs.Held.{state_with}
use Rattle.function_calls.proofs.UseLemmas.{with_rest_of}
use Rattle.function_calls.proofs.uses.use_values.Given as goal

abbrev pub invariant-loop-value : goal.invariant-loop-value
invariant-loop-value g l = record {
  same : (m : BenchState) (answered : Option ℕ) (globals locals : List (Binding Value)) (units lines steps : ℕ) (written : Option (List ℕ)) → g.A.Access.begun l.fn.access m → IsLeft (g.A.Access.reported l.access) answered
      → all_used (late g.A.Access.cost (world_from m answered)) l.values (state_with globals locals units lines steps (g.A.Access.reported l.fn.access).asks written)
      ≡ with_rest_of l.numbers.items (all_used (late g.A.Access.cost (world_from m answered)) (drop l.value-index l.values) (state_with globals locals units lines steps (g.A.Access.reported l.access).asks written));
  keeps : KeepsAccess g.A.Access.begun g.A.Access.reported g.A.Access.identity l.fn.access l.access;
  ends : EndsUse {T = Unit {0}} (Ok tt) (g.A.Access.reported l.fn.access) (g.A.Access.reported l.access);
}
