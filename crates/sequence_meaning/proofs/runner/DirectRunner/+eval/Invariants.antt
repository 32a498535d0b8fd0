use Rattle.std.proofs.Common.{◌≡◌, ◌+◌, ◌*◌, Bool, false, option_map, drop}
use Rattle.expr_grammar.specs.Tree.{tree, arg_tree, arg_trees, stmt_tree, code_trees}
use Rattle.seq_check.specs.Answers.{checked_trees}
use Rattle.sequence_trees.specs.Trees.{step_tree, steps_tree}
use Rattle.sequence_rules.specs.Direct.{direct}
use Rattle.sequence_rules.specs.Known.{Knows}
use Rattle.sequence_meaning.specs.Frame.{KeepsMadeAndKnown}
use Rattle.sequence_meaning.specs.Held.{state_seen, calls_of}
use Rattle.sequence_rules.specs.Steps as m
use Rattle.sequence_rules.specs.Values as v
use Rattle.sequence_rules.proofs.Sizes.{size, arg_size, args_size, stmt_size, block_size, cond_size, step_size, steps_size, all_size, budget}
use Rattle.sequence_meaning.proofs.runner.DirectRunner.+eval.Given as goal

abbrev pub decreases-evaluate : goal.decreases-evaluate
decreases-evaluate g l = budget l.depth (10 * all_size (checked_trees l.self.now.set.now).sequences + 20) + 10 * size (tree l.expr.now)

abbrev pub decreases-evaluate_operand : goal.decreases-evaluate_operand
decreases-evaluate_operand g l = budget l.depth (10 * all_size (checked_trees l.self.now.set.now).sequences + 20) + 10 * size (tree l.expr.now) + 1

abbrev pub decreases-evaluate_unary : goal.decreases-evaluate_unary
decreases-evaluate_unary g l = budget l.depth (10 * all_size (checked_trees l.self.now.set.now).sequences + 20) + 10 * size (tree l.operand.now) + 5

abbrev pub decreases-evaluate_strict : goal.decreases-evaluate_strict
decreases-evaluate_strict g l = budget l.depth (10 * all_size (checked_trees l.self.now.set.now).sequences + 20) + 10 * size (tree l.left.now) + 10 * size (tree l.right.now) + 4

abbrev pub decreases-evaluate_and : goal.decreases-evaluate_and
decreases-evaluate_and g l = budget l.depth (10 * all_size (checked_trees l.self.now.set.now).sequences + 20) + 10 * size (tree l.left.now) + 10 * size (tree l.right.now) + 4

abbrev pub decreases-evaluate_or : goal.decreases-evaluate_or
decreases-evaluate_or g l = budget l.depth (10 * all_size (checked_trees l.self.now.set.now).sequences + 20) + 10 * size (tree l.left.now) + 10 * size (tree l.right.now) + 4

abbrev pub decreases-evaluate_binary : goal.decreases-evaluate_binary
decreases-evaluate_binary g l = budget l.depth (10 * all_size (checked_trees l.self.now.set.now).sequences + 20) + 10 * size (tree l.left.now) + 10 * size (tree l.right.now) + 5

abbrev pub decreases-evaluate_choice : goal.decreases-evaluate_choice
decreases-evaluate_choice g l = budget l.depth (10 * all_size (checked_trees l.self.now.set.now).sequences + 20) + 10 * size (tree l.test.now) + 10 * size (tree l.first.now) + 10 * size (tree l.second.now) + 5

abbrev pub decreases-assign : goal.decreases-assign
decreases-assign g l = budget l.depth (10 * all_size (checked_trees l.self.now.set.now).sequences + 20) + 10 * size (tree l.right.now) + 5

abbrev pub decreases-evaluate_argument : goal.decreases-evaluate_argument
decreases-evaluate_argument g l = budget l.depth (10 * all_size (checked_trees l.self.now.set.now).sequences + 20) + 10 * arg_size (arg_tree l.arg.now) + 1

abbrev pub decreases-push_value : goal.decreases-push_value
decreases-push_value g l = budget l.depth (10 * all_size (checked_trees l.self.now.set.now).sequences + 20) + 10 * size (tree l.expr.now) + 5

abbrev pub decreases-evaluate_arguments : goal.decreases-evaluate_arguments
decreases-evaluate_arguments g l = budget l.depth (10 * all_size (checked_trees l.self.now.set.now).sequences + 20) + 10 * args_size (arg_trees l.args.now) + 2

abbrev pub decreases-call_with : goal.decreases-call_with
decreases-call_with g l = budget l.depth (10 * all_size (checked_trees l.self.now.set.now).sequences + 20) + 10 * args_size (arg_trees l.args.now) + 5

abbrev pub decreases-call_listed : goal.decreases-call_listed
decreases-call_listed g l = budget l.depth (10 * all_size (checked_trees l.self.now.set.now).sequences + 20) + 10 * args_size (arg_trees l.args.now) + 6

abbrev pub decreases-call_one : goal.decreases-call_one
decreases-call_one g l = budget l.depth (10 * all_size (checked_trees l.self.now.set.now).sequences + 20) + 10 * size (tree l.only.now) + 5

abbrev pub decreases-call_two : goal.decreases-call_two
decreases-call_two g l = budget l.depth (10 * all_size (checked_trees l.self.now.set.now).sequences + 20) + 10 * size (tree l.first.now) + 10 * size (tree l.second.now) + 5

abbrev pub decreases-call : goal.decreases-call
decreases-call g l = budget l.depth (10 * all_size (checked_trees l.self.now.set.now).sequences + 20) + 10 * args_size (arg_trees l.args.now) + 7

abbrev pub decreases-call_function : goal.decreases-call_function
decreases-call_function g l = budget l.depth (10 * all_size (checked_trees l.self.now.set.now).sequences + 20) + 4

abbrev pub decreases-call_sequence : goal.decreases-call_sequence
decreases-call_sequence g l = budget l.depth (10 * all_size (checked_trees l.self.now.set.now).sequences + 20) + 3

abbrev pub decreases-run_named : goal.decreases-run_named
decreases-run_named g l = budget l.depth (10 * all_size (checked_trees l.self.now.set.now).sequences + 20) + 2

abbrev pub decreases-run_sequence : goal.decreases-run_sequence
decreases-run_sequence g l = budget l.depth (10 * all_size (checked_trees l.self.now.set.now).sequences + 20) + 10 * steps_size (steps_tree l.steps.now) + 3

abbrev pub decreases-run_steps : goal.decreases-run_steps
decreases-run_steps g l = budget l.depth (10 * all_size (checked_trees l.self.now.set.now).sequences + 20) + 10 * steps_size (steps_tree l.steps.now) + 2

abbrev pub decreases-run_step : goal.decreases-run_step
decreases-run_step g l = budget l.depth (10 * all_size (checked_trees l.self.now.set.now).sequences + 20) + 10 * step_size (step_tree l.one.now)

abbrev pub decreases-run_block : goal.decreases-run_block
decreases-run_block g l = budget l.depth (10 * all_size (checked_trees l.self.now.set.now).sequences + 20) + 10 * block_size (code_trees l.code.now) + 2

abbrev pub decreases-run_statement : goal.decreases-run_statement
decreases-run_statement g l = budget l.depth (10 * all_size (checked_trees l.self.now.set.now).sequences + 20) + 10 * stmt_size (stmt_tree l.one.now)

abbrev pub decreases-declare : goal.decreases-declare
decreases-declare g l = budget l.depth (10 * all_size (checked_trees l.self.now.set.now).sequences + 20) + 10 * size (tree l.expr.now) + 5

abbrev pub decreases-run_expression : goal.decreases-run_expression
decreases-run_expression g l = budget l.depth (10 * all_size (checked_trees l.self.now.set.now).sequences + 20) + 10 * size (tree l.expr.now) + 5

abbrev pub decreases-run_control : goal.decreases-run_control
decreases-run_control g l = budget l.depth (10 * all_size (checked_trees l.self.now.set.now).sequences + 20) + 10 * cond_size (option_map tree l.cond.now) + 10 * cond_size (option_map tree l.repeat.now) + 10 * steps_size (steps_tree l.steps.now) + 5

abbrev pub decreases-test_condition : goal.decreases-test_condition
decreases-test_condition g l = budget l.depth (10 * all_size (checked_trees l.self.now.set.now).sequences + 20) + 10 * cond_size (option_map tree l.cond.now)

abbrev pub decreases-is_true : goal.decreases-is_true
decreases-is_true g l = budget l.depth (10 * all_size (checked_trees l.self.now.set.now).sequences + 20) + 10 * size (tree l.expr.now) + 5

abbrev pub decreases-repeat_steps : goal.decreases-repeat_steps
decreases-repeat_steps g l = budget l.depth (10 * all_size (checked_trees l.self.now.set.now).sequences + 20) + 10 * cond_size (option_map tree l.repeat.now) + 10 * steps_size (steps_tree l.steps.now) + 4

abbrev pub decreases-run_loop : goal.decreases-run_loop
decreases-run_loop g l = budget l.depth (10 * all_size (checked_trees l.self.now.set.now).sequences + 20) + 10 * size (tree l.expr.now) + 10 * steps_size (steps_tree l.steps.now) + 9

abbrev pub decreases-run_turns : goal.decreases-run_turns
decreases-run_turns g l = budget l.depth (10 * all_size (checked_trees l.self.now.set.now).sequences + 20) + 10 * size (tree l.expr.now) + 10 * steps_size (steps_tree l.steps.now) + 8

abbrev pub decreases-run_turn : goal.decreases-run_turn
decreases-run_turn g l = budget l.depth (10 * all_size (checked_trees l.self.now.set.now).sequences + 20) + 10 * size (tree l.expr.now) + 10 * steps_size (steps_tree l.steps.now) + 7

abbrev pub decreases-run_inside : goal.decreases-run_inside
decreases-run_inside g l = budget l.depth (10 * all_size (checked_trees l.self.now.set.now).sequences + 20) + 10 * steps_size (steps_tree l.steps.now) + 4

abbrev pub invariant-evaluate_arguments-loop-arg : goal.invariant-evaluate_arguments-loop-arg
invariant-evaluate_arguments-loop-arg g l = record {
  same : (known : Bool) → Knows known (g.K.Sink.written l.fn.sink) → v.arguments (direct false) (calls_of l.self l.depth) (arg_trees l.args) l.fn.numbers.items (state_seen known l.fn.held l.fn.target (g.K.Sink.written l.fn.sink)) ≡ v.arguments (direct false) (calls_of l.self l.depth) (arg_trees (drop l.arg-index l.args)) l.numbers.items (state_seen known l.held l.target (g.K.Sink.written l.sink));
  keeps : KeepsMadeAndKnown g.K.Sink.written l.fn.held l.fn.target l.fn.sink l.held l.target l.sink;
  faults : g.K.Sink.faults l.sink ≡ g.K.Sink.faults l.fn.sink;
}

abbrev pub invariant-run_block-loop-one : goal.invariant-run_block-loop-one
invariant-run_block-loop-one g l = record {
  same : (known : Bool) → Knows known (g.K.Sink.written l.fn.sink) → m.block (direct false) l.self.turn_us (calls_of l.self l.depth) (code_trees l.code) (state_seen known l.fn.held l.fn.target (g.K.Sink.written l.fn.sink)) ≡ m.block (direct false) l.self.turn_us (calls_of l.self l.depth) (code_trees (drop l.one-index l.code)) (state_seen known l.held l.target (g.K.Sink.written l.sink));
  keeps : KeepsMadeAndKnown g.K.Sink.written l.fn.held l.fn.target l.fn.sink l.held l.target l.sink;
  faults : g.K.Sink.faults l.sink ≡ g.K.Sink.faults l.fn.sink;
}

abbrev pub invariant-run_steps-loop-one : goal.invariant-run_steps-loop-one
invariant-run_steps-loop-one g l = record {
  same : (known : Bool) → Knows known (g.K.Sink.written l.fn.sink) → m.steps_result (direct false) l.self.turn_us (calls_of l.self l.depth) (steps_tree l.steps) (state_seen known l.fn.held l.fn.target (g.K.Sink.written l.fn.sink)) ≡ m.steps_result (direct false) l.self.turn_us (calls_of l.self l.depth) (steps_tree (drop l.one-index l.steps)) (state_seen known l.held l.target (g.K.Sink.written l.sink));
  keeps : KeepsMadeAndKnown g.K.Sink.written l.fn.held l.fn.target l.fn.sink l.held l.target l.sink;
  faults : g.K.Sink.faults l.sink ≡ g.K.Sink.faults l.fn.sink;
}

abbrev pub invariant-run_turns-loop-left : goal.invariant-run_turns-loop-left
invariant-run_turns-loop-left g l = record {
  same : (known : Bool) → Knows known (g.K.Sink.written l.fn.sink) → m.turns (direct false) (λ r. v.value (direct false) (calls_of l.self l.depth) (tree l.expr) r) (λ r. m.inside (direct false) (λ q. m.steps_result (direct false) l.self.turn_us (calls_of l.self l.depth) (steps_tree l.steps) q) r) l.count (state_seen known l.fn.held l.fn.target (g.K.Sink.written l.fn.sink)) ≡ m.turns (direct false) (λ r. v.value (direct false) (calls_of l.self l.depth) (tree l.expr) r) (λ r. m.inside (direct false) (λ q. m.steps_result (direct false) l.self.turn_us (calls_of l.self l.depth) (steps_tree l.steps) q) r) l.left (state_seen known l.held l.target (g.K.Sink.written l.sink));
  keeps : KeepsMadeAndKnown g.K.Sink.written l.fn.held l.fn.target l.fn.sink l.held l.target l.sink;
  faults : g.K.Sink.faults l.sink ≡ g.K.Sink.faults l.fn.sink;
}

abbrev pub decreases-run_turns-loop-left : goal.decreases-run_turns-loop-left
decreases-run_turns-loop-left g l = l.left
