use Rattle.std.proofs.Common.{◌≡◌, ℕ, Bool, Option, drop, Ok}
use Rattle.expr_grammar.specs.Tree.{code_trees}
use Rattle.probe_core.specs.Bench.{BenchState}
use Rattle.access_calls.specs.Left.{IsLeft}
use Rattle.access_calls.specs.Reported.{world_from}
use Rattle.access_calls.specs.Keeps.{KeepsAccess}
use Rattle.seq_check.specs.Answers.{checked_trees}
use Rattle.sequence_rules.specs.Late.{late}
use Rattle.sequence_rules.specs.Steps.{debug_result}
use Rattle.sequence_rules.specs.Known.{Knows}
use Rattle.function_calls.specs.Frame.{EndsWriting}
use Rattle.function_calls.specs.Held.{late_state_seen}
use Rattle.control_flow.proofs.runner.Runner.define_all.Given as goal

abbrev pub invariant-loop-one : goal.invariant-loop-one
invariant-loop-one g l = record {
  same : (m : BenchState) (answered : Option ℕ) (known : Bool) → g.A.Access.begun l.fn.access m → IsLeft (g.A.Access.reported l.access) answered → Knows known (g.K.Sink.written l.fn.sink)
      → debug_result (late g.A.Access.cost (world_from m answered)) l.self.turn_us (checked_trees l.self.set.now) (code_trees l.code) (late_state_seen known l.fn.held (g.A.Access.reported l.fn.access).asks (g.K.Sink.written l.fn.sink))
      ≡ debug_result (late g.A.Access.cost (world_from m answered)) l.self.turn_us (checked_trees l.self.set.now) (code_trees (drop l.one-index l.code)) (late_state_seen known l.held (g.A.Access.reported l.access).asks (g.K.Sink.written l.sink));
  keeps : KeepsAccess g.A.Access.begun g.A.Access.reported g.A.Access.identity l.fn.access l.access;
  ends : EndsWriting {T = Unit {0}} g.K.Sink.written g.K.Sink.faults (Ok tt) l.held.units (g.A.Access.reported l.access) l.fn.sink l.sink;
}
