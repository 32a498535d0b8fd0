use Rattle.std.proofs.Common.{◌≡◌, ℕ, ◌+◌, ◌*◌, Bool, Option, option_map, drop, Ok}
use Rattle.probe_core.specs.Bench.{BenchState}
use Rattle.access_calls.specs.Left.{IsLeft}
use Rattle.access_calls.specs.Reported.{world_from}
use Rattle.access_calls.specs.Keeps.{KeepsAccess}
use Rattle.expr_grammar.specs.Tree.{tree, arg_tree, arg_trees, stmt_tree, code_trees}
use Rattle.seq_check.specs.Answers.{checked_trees}
use Rattle.sequence_trees.specs.Trees.{step_tree, steps_tree}
use Rattle.sequence_rules.specs.Late.{late}
use Rattle.sequence_rules.specs.Known.{Knows}
use Rattle.function_calls.specs.Frame.{EndsWriting}
use Rattle.function_calls.specs.Held.{late_state_seen}
use Rattle.control_flow.specs.Calls.{late_calls_of}
use Rattle.sequence_rules.specs.Steps as st
use Rattle.sequence_rules.specs.Values as v
use Rattle.sequence_rules.proofs.Sizes.{size, arg_size, args_size, stmt_size, block_size, cond_size, step_size, steps_size, all_size, budget}
use Rattle.control_flow.proofs.runner.Runner.+eval.Given as goal

abbrev pub decreases-evaluate : goal.decreases-evaluate
decreases-evaluate g l = budget l.depth (10 * all_size (checked_trees l.self.now.set.now).sequences + 20) + 10 * size (tree l.expr.now)

abbrev pub decreases-evaluate_unary : goal.decreases-evaluate_unary
decreases-evaluate_unary g l = budget l.depth (10 * all_size (checked_trees l.self.now.set.now).sequences + 20) + 10 * size (tree l.operand.now) + 5

abbrev pub decreases-evaluate_strict : goal.decreases-evaluate_strict
decreases-evaluate_strict g l = budget l.depth (10 * all_size (checked_trees l.self.now.set.now).sequences + 20) + 10 * size (tree l.left.now) + 10 * size (tree l.right.now) + 4

abbrev pub decreases-evaluate_and : goal.decreases-evaluate_and
decreases-evaluate_and g l = budget l.depth (10 * all_size (checked_trees l.self.now.set.now).sequences + 20) + 10 * size (tree l.left.now) + 10 * size (tree l.right.now) + 4

abbrev pub decreases-evaluate_or : goal.decreases-evaluate_or
decreases-evaluate_or g l = budget l.depth (10 * all_size (checked_trees l.self.now.set.now).sequences + 20) + 10 * size (tree l.left.now) + 10 * size (tree l.right.now) + 4

abbrev pub decreases-evaluate_binary : goal.decreases-evaluate_binary
decreases-evaluate_binary g l = budget l.depth (10 * all_size (checked_trees l.self.now.set.now).sequences + 20) + 10 * size (tree l.left.now) + 10 * size (tree l.right.now) + 5

abbrev pub decreases-evaluate_choice : goal.decreases-evaluate_choice
decreases-evaluate_choice g l = budget l.depth (10 * all_size (checked_trees l.self.now.set.now).sequences + 20) + 10 * size (tree l.test.now) + 10 * size (tree l.first.now) + 10 * size (tree l.second.now) + 5

abbrev pub decreases-assign : goal.decreases-assign
decreases-assign g l = budget l.depth (10 * all_size (checked_trees l.self.now.set.now).sequences + 20) + 10 * size (tree l.right.now) + 5

abbrev pub decreases-evaluate_argument : goal.decreases-evaluate_argument
decreases-evaluate_argument g l = budget l.depth (10 * all_size (checked_trees l.self.now.set.now).sequences + 20) + 10 * arg_size (arg_tree l.arg.now) + 1

abbrev pub decreases-push_value : goal.decreases-push_value
decreases-push_value g l = budget l.depth (10 * all_size (checked_trees l.self.now.set.now).sequences + 20) + 10 * size (tree l.expr.now) + 5

abbrev pub decreases-evaluate_arguments : goal.decreases-evaluate_arguments
decreases-evaluate_arguments g l = budget l.depth (10 * all_size (checked_trees l.self.now.set.now).sequences + 20) + 10 * args_size (arg_trees l.args.now) + 2

abbrev pub decreases-call_listed : goal.decreases-call_listed
decreases-call_listed g l = budget l.depth (10 * all_size (checked_trees l.self.now.set.now).sequences + 20) + 10 * args_size (arg_trees l.args.now) + 5

abbrev pub decreases-call_one : goal.decreases-call_one
decreases-call_one g l = budget l.depth (10 * all_size (checked_trees l.self.now.set.now).sequences + 20) + 10 * size (tree l.only.now) + 5

abbrev pub decreases-call_two : goal.decreases-call_two
decreases-call_two g l = budget l.depth (10 * all_size (checked_trees l.self.now.set.now).sequences + 20) + 10 * size (tree l.first.now) + 10 * size (tree l.second.now) + 5

abbrev pub decreases-call : goal.decreases-call
decreases-call g l = budget l.depth (10 * all_size (checked_trees l.self.now.set.now).sequences + 20) + 10 * args_size (arg_trees l.args.now) + 7

abbrev pub decreases-call_function : goal.decreases-call_function
decreases-call_function g l = budget l.depth (10 * all_size (checked_trees l.self.now.set.now).sequences + 20) + 4

abbrev pub decreases-call_sequence : goal.decreases-call_sequence
decreases-call_sequence g l = budget l.depth (10 * all_size (checked_trees l.self.now.set.now).sequences + 20) + 3

abbrev pub decreases-run_named : goal.decreases-run_named
decreases-run_named g l = budget l.depth (10 * all_size (checked_trees l.self.now.set.now).sequences + 20) + 2

abbrev pub decreases-run_sequence : goal.decreases-run_sequence
decreases-run_sequence g l = budget l.depth (10 * all_size (checked_trees l.self.now.set.now).sequences + 20) + 10 * steps_size (steps_tree l.steps.now) + 3

abbrev pub decreases-run_steps : goal.decreases-run_steps
decreases-run_steps g l = budget l.depth (10 * all_size (checked_trees l.self.now.set.now).sequences + 20) + 10 * steps_size (steps_tree l.steps.now) + 2

abbrev pub decreases-run_step : goal.decreases-run_step
decreases-run_step g l = budget l.depth (10 * all_size (checked_trees l.self.now.set.now).sequences + 20) + 10 * step_size (step_tree l.one.now)

abbrev pub decreases-run_block : goal.decreases-run_block
decreases-run_block g l = budget l.depth (10 * all_size (checked_trees l.self.now.set.now).sequences + 20) + 10 * block_size (code_trees l.code.now) + 2

abbrev pub decreases-run_statement : goal.decreases-run_statement
decreases-run_statement g l = budget l.depth (10 * all_size (checked_trees l.self.now.set.now).sequences + 20) + 10 * stmt_size (stmt_tree l.one.now)

abbrev pub decreases-declare : goal.decreases-declare
decreases-declare g l = budget l.depth (10 * all_size (checked_trees l.self.now.set.now).sequences + 20) + 10 * size (tree l.expr.now) + 5

abbrev pub decreases-run_expression : goal.decreases-run_expression
decreases-run_expression g l = budget l.depth (10 * all_size (checked_trees l.self.now.set.now).sequences + 20) + 10 * size (tree l.expr.now) + 5

abbrev pub decreases-run_control : goal.decreases-run_control
decreases-run_control g l = budget l.depth (10 * all_size (checked_trees l.self.now.set.now).sequences + 20) + 10 * cond_size (option_map tree l.cond.now) + 10 * cond_size (option_map tree l.repeat.now) + 10 * steps_size (steps_tree l.steps.now) + 5

abbrev pub decreases-test_condition : goal.decreases-test_condition
decreases-test_condition g l = budget l.depth (10 * all_size (checked_trees l.self.now.set.now).sequences + 20) + 10 * cond_size (option_map tree l.cond.now)

abbrev pub decreases-is_true : goal.decreases-is_true
decreases-is_true g l = budget l.depth (10 * all_size (checked_trees l.self.now.set.now).sequences + 20) + 10 * size (tree l.expr.now) + 5

abbrev pub decreases-repeat_steps : goal.decreases-repeat_steps
decreases-repeat_steps g l = budget l.depth (10 * all_size (checked_trees l.self.now.set.now).sequences + 20) + 10 * cond_size (option_map tree l.repeat.now) + 10 * steps_size (steps_tree l.steps.now) + 4

abbrev pub decreases-run_loop : goal.decreases-run_loop
decreases-run_loop g l = budget l.depth (10 * all_size (checked_trees l.self.now.set.now).sequences + 20) + 10 * size (tree l.expr.now) + 10 * steps_size (steps_tree l.steps.now) + 9

abbrev pub decreases-run_turns : goal.decreases-run_turns
decreases-run_turns g l = budget l.depth (10 * all_size (checked_trees l.self.now.set.now).sequences + 20) + 10 * size (tree l.expr.now) + 10 * steps_size (steps_tree l.steps.now) + 8

abbrev pub decreases-run_turn : goal.decreases-run_turn
decreases-run_turn g l = budget l.depth (10 * all_size (checked_trees l.self.now.set.now).sequences + 20) + 10 * size (tree l.expr.now) + 10 * steps_size (steps_tree l.steps.now) + 7

abbrev pub decreases-run_inside : goal.decreases-run_inside
decreases-run_inside g l = budget l.depth (10 * all_size (checked_trees l.self.now.set.now).sequences + 20) + 10 * steps_size (steps_tree l.steps.now) + 4

abbrev pub decreases-evaluate_operand : goal.decreases-evaluate_operand
decreases-evaluate_operand g l = budget l.depth (10 * all_size (checked_trees l.self.now.set.now).sequences + 20) + 10 * size (tree l.expr.now) + 1

abbrev pub decreases-evaluate_number : goal.decreases-evaluate_number
decreases-evaluate_number g l = budget l.depth (10 * all_size (checked_trees l.self.now.set.now).sequences + 20) + 10 * size (tree l.expr.now) + 2

abbrev pub decreases-evaluate_operands : goal.decreases-evaluate_operands
decreases-evaluate_operands g l = budget l.depth (10 * all_size (checked_trees l.self.now.set.now).sequences + 20) + 10 * size (tree l.left.now) + 10 * size (tree l.right.now) + 3

abbrev pub decreases-evaluate_truth : goal.decreases-evaluate_truth
decreases-evaluate_truth g l = budget l.depth (10 * all_size (checked_trees l.self.now.set.now).sequences + 20) + 10 * size (tree l.expr.now) + 3

abbrev pub invariant-evaluate_arguments-loop-arg : goal.invariant-evaluate_arguments-loop-arg
invariant-evaluate_arguments-loop-arg g l = record {
  same : (m : BenchState) (answered : Option ℕ) (known : Bool) → g.A.Access.begun l.fn.access m → IsLeft (g.A.Access.reported l.access) answered → Knows known (g.K.Sink.written l.fn.sink)
      → v.arguments (late g.A.Access.cost (world_from m answered)) (late_calls_of (late g.A.Access.cost (world_from m answered)) l.self l.depth) (arg_trees l.args) l.fn.values.items (late_state_seen known l.fn.held (g.A.Access.reported l.fn.access).asks (g.K.Sink.written l.fn.sink)) ≡ v.arguments (late g.A.Access.cost (world_from m answered)) (late_calls_of (late g.A.Access.cost (world_from m answered)) l.self l.depth) (arg_trees (drop l.arg-index l.args)) l.values.items (late_state_seen known l.held (g.A.Access.reported l.access).asks (g.K.Sink.written l.sink));
  keeps : KeepsAccess g.A.Access.begun g.A.Access.reported g.A.Access.identity l.fn.access l.access;
  ends : EndsWriting {T = Unit {0}} g.K.Sink.written g.K.Sink.faults (Ok tt) l.held.units (g.A.Access.reported l.access) l.fn.sink l.sink;
}

abbrev pub invariant-run_block-loop-one : goal.invariant-run_block-loop-one
invariant-run_block-loop-one g l = record {
  same : (m : BenchState) (answered : Option ℕ) (known : Bool) → g.A.Access.begun l.fn.access m → IsLeft (g.A.Access.reported l.access) answered → Knows known (g.K.Sink.written l.fn.sink)
      → st.block (late g.A.Access.cost (world_from m answered)) l.self.turn_us (late_calls_of (late g.A.Access.cost (world_from m answered)) l.self l.depth) (code_trees l.code) (late_state_seen known l.fn.held (g.A.Access.reported l.fn.access).asks (g.K.Sink.written l.fn.sink)) ≡ st.block (late g.A.Access.cost (world_from m answered)) l.self.turn_us (late_calls_of (late g.A.Access.cost (world_from m answered)) l.self l.depth) (code_trees (drop l.one-index l.code)) (late_state_seen known l.held (g.A.Access.reported l.access).asks (g.K.Sink.written l.sink));
  keeps : KeepsAccess g.A.Access.begun g.A.Access.reported g.A.Access.identity l.fn.access l.access;
  ends : EndsWriting {T = Unit {0}} g.K.Sink.written g.K.Sink.faults (Ok tt) l.held.units (g.A.Access.reported l.access) l.fn.sink l.sink;
}

abbrev pub invariant-run_steps-loop-one : goal.invariant-run_steps-loop-one
invariant-run_steps-loop-one g l = record {
  same : (m : BenchState) (answered : Option ℕ) (known : Bool) → g.A.Access.begun l.fn.access m → IsLeft (g.A.Access.reported l.access) answered → Knows known (g.K.Sink.written l.fn.sink)
      → st.steps_result (late g.A.Access.cost (world_from m answered)) l.self.turn_us (late_calls_of (late g.A.Access.cost (world_from m answered)) l.self l.depth) (steps_tree l.steps) (late_state_seen known l.fn.held (g.A.Access.reported l.fn.access).asks (g.K.Sink.written l.fn.sink)) ≡ st.steps_result (late g.A.Access.cost (world_from m answered)) l.self.turn_us (late_calls_of (late g.A.Access.cost (world_from m answered)) l.self l.depth) (steps_tree (drop l.one-index l.steps)) (late_state_seen known l.held (g.A.Access.reported l.access).asks (g.K.Sink.written l.sink));
  keeps : KeepsAccess g.A.Access.begun g.A.Access.reported g.A.Access.identity l.fn.access l.access;
  ends : EndsWriting {T = Unit {0}} g.K.Sink.written g.K.Sink.faults (Ok tt) l.held.units (g.A.Access.reported l.access) l.fn.sink l.sink;
}

abbrev pub invariant-run_turns-loop-left : goal.invariant-run_turns-loop-left
invariant-run_turns-loop-left g l = record {
  same : (m : BenchState) (answered : Option ℕ) (known : Bool) → g.A.Access.begun l.fn.access m → IsLeft (g.A.Access.reported l.access) answered → Knows known (g.K.Sink.written l.fn.sink)
      → st.turns (late g.A.Access.cost (world_from m answered)) (λ r. v.value (late g.A.Access.cost (world_from m answered)) (late_calls_of (late g.A.Access.cost (world_from m answered)) l.self l.depth) (tree l.expr) r) (λ r. st.inside (late g.A.Access.cost (world_from m answered)) (λ q. st.steps_result (late g.A.Access.cost (world_from m answered)) l.self.turn_us (late_calls_of (late g.A.Access.cost (world_from m answered)) l.self l.depth) (steps_tree l.steps) q) r) l.count (late_state_seen known l.fn.held (g.A.Access.reported l.fn.access).asks (g.K.Sink.written l.fn.sink)) ≡ st.turns (late g.A.Access.cost (world_from m answered)) (λ r. v.value (late g.A.Access.cost (world_from m answered)) (late_calls_of (late g.A.Access.cost (world_from m answered)) l.self l.depth) (tree l.expr) r) (λ r. st.inside (late g.A.Access.cost (world_from m answered)) (λ q. st.steps_result (late g.A.Access.cost (world_from m answered)) l.self.turn_us (late_calls_of (late g.A.Access.cost (world_from m answered)) l.self l.depth) (steps_tree l.steps) q) r) l.left (late_state_seen known l.held (g.A.Access.reported l.access).asks (g.K.Sink.written l.sink));
  keeps : KeepsAccess g.A.Access.begun g.A.Access.reported g.A.Access.identity l.fn.access l.access;
  ends : EndsWriting {T = Unit {0}} g.K.Sink.written g.K.Sink.faults (Ok tt) l.held.units (g.A.Access.reported l.access) l.fn.sink l.sink;
}

abbrev pub decreases-run_turns-loop-left : goal.decreases-run_turns-loop-left
decreases-run_turns-loop-left g l = l.left
