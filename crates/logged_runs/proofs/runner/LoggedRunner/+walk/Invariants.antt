use Rattle.std.proofs.Common.{◌≡◌, ◌+◌, ◌*◌, ◌-◌, ◌≤◌, false, option_map, drop}
use Rattle.expr_grammar.specs.Tree.{tree, arg_tree, arg_trees, stmt_tree, code_trees}
use Rattle.log_lines.specs.Places.{condition_spot}
use Rattle.run_events.specs.OfSteps as os
use Rattle.run_events.specs.OfValues as o
use Rattle.seq_check.specs.Answers.{checked_trees}
use Rattle.sequence_trees.specs.Trees.{step_tree, steps_tree}
use Rattle.sequence_trees.specs.declared.spot.Part.TheVariants as part
use Rattle.sequence_rules.specs.Direct.{direct}
use Rattle.sequence_rules.specs.Steps as m
use Rattle.sequence_rules.specs.Values as v
use Rattle.sequence_rules.proofs.Sizes.{size, arg_size, args_size, stmt_size, block_size, cond_size, step_size, steps_size, all_size, budget}
use Rattle.logged_runs.specs.Seen.{NotesByTurns, SeenSoFar}
use Rattle.logged_runs.specs.Walk.{calls_in_walk, events_in_walk, now, seen_so_far, step_on_path}
use Rattle.logged_runs.proofs.Turns.{going}
use Rattle.logged_runs.proofs.runner.LoggedRunner.+walk.Given as goal

abbrev pub decreases-evaluate : goal.decreases-evaluate
decreases-evaluate l = budget l.depth (10 * all_size (checked_trees l.self.now.set.now).sequences + 20) + 10 * size (tree l.expr.now)

abbrev pub decreases-evaluate_unary : goal.decreases-evaluate_unary
decreases-evaluate_unary l = budget l.depth (10 * all_size (checked_trees l.self.now.set.now).sequences + 20) + 10 * size (tree l.operand.now) + 5

abbrev pub decreases-evaluate_strict : goal.decreases-evaluate_strict
decreases-evaluate_strict l = budget l.depth (10 * all_size (checked_trees l.self.now.set.now).sequences + 20) + 10 * size (tree l.left.now) + 10 * size (tree l.right.now) + 4

abbrev pub decreases-evaluate_and : goal.decreases-evaluate_and
decreases-evaluate_and l = budget l.depth (10 * all_size (checked_trees l.self.now.set.now).sequences + 20) + 10 * size (tree l.left.now) + 10 * size (tree l.right.now) + 4

abbrev pub decreases-evaluate_or : goal.decreases-evaluate_or
decreases-evaluate_or l = budget l.depth (10 * all_size (checked_trees l.self.now.set.now).sequences + 20) + 10 * size (tree l.left.now) + 10 * size (tree l.right.now) + 4

abbrev pub decreases-evaluate_binary : goal.decreases-evaluate_binary
decreases-evaluate_binary l = budget l.depth (10 * all_size (checked_trees l.self.now.set.now).sequences + 20) + 10 * size (tree l.left.now) + 10 * size (tree l.right.now) + 5

abbrev pub decreases-evaluate_choice : goal.decreases-evaluate_choice
decreases-evaluate_choice l = budget l.depth (10 * all_size (checked_trees l.self.now.set.now).sequences + 20) + 10 * size (tree l.test.now) + 10 * size (tree l.first.now) + 10 * size (tree l.second.now) + 5

abbrev pub decreases-assign : goal.decreases-assign
decreases-assign l = budget l.depth (10 * all_size (checked_trees l.self.now.set.now).sequences + 20) + 10 * size (tree l.right.now) + 5

abbrev pub decreases-evaluate_argument : goal.decreases-evaluate_argument
decreases-evaluate_argument l = budget l.depth (10 * all_size (checked_trees l.self.now.set.now).sequences + 20) + 10 * arg_size (arg_tree l.arg.now) + 1

abbrev pub decreases-push_value : goal.decreases-push_value
decreases-push_value l = budget l.depth (10 * all_size (checked_trees l.self.now.set.now).sequences + 20) + 10 * size (tree l.expr.now) + 5

abbrev pub decreases-evaluate_arguments : goal.decreases-evaluate_arguments
decreases-evaluate_arguments l = budget l.depth (10 * all_size (checked_trees l.self.now.set.now).sequences + 20) + 10 * args_size (arg_trees l.args.now) + 2

abbrev pub decreases-call : goal.decreases-call
decreases-call l = budget l.depth (10 * all_size (checked_trees l.self.now.set.now).sequences + 20) + 10 * args_size (arg_trees l.args.now) + 7

abbrev pub decreases-call_function : goal.decreases-call_function
decreases-call_function l = budget l.depth (10 * all_size (checked_trees l.self.now.set.now).sequences + 20) + 5

abbrev pub decreases-call_known : goal.decreases-call_known
decreases-call_known l = budget l.depth (10 * all_size (checked_trees l.self.now.set.now).sequences + 20) + 4

abbrev pub decreases-call_sequence : goal.decreases-call_sequence
decreases-call_sequence l = budget l.depth (10 * all_size (checked_trees l.self.now.set.now).sequences + 20) + 3

abbrev pub decreases-run_named : goal.decreases-run_named
decreases-run_named l = budget l.depth (10 * all_size (checked_trees l.self.now.set.now).sequences + 20) + 2

abbrev pub decreases-run_sequence : goal.decreases-run_sequence
decreases-run_sequence l = budget l.depth (10 * all_size (checked_trees l.self.now.set.now).sequences + 20) + 10 * steps_size (steps_tree l.steps.now) + 3

abbrev pub decreases-run_steps : goal.decreases-run_steps
decreases-run_steps l = budget l.depth (10 * all_size (checked_trees l.self.now.set.now).sequences + 20) + 10 * steps_size (steps_tree l.steps.now) + 2

abbrev pub decreases-run_inner : goal.decreases-run_inner
decreases-run_inner l = budget l.depth (10 * all_size (checked_trees l.self.now.set.now).sequences + 20) + 10 * step_size (step_tree l.step.now) + 1

abbrev pub decreases-run_step : goal.decreases-run_step
decreases-run_step l = budget l.depth (10 * all_size (checked_trees l.self.now.set.now).sequences + 20) + 10 * step_size (step_tree l.step.now)

abbrev pub decreases-run_block : goal.decreases-run_block
decreases-run_block l = budget l.depth (10 * all_size (checked_trees l.self.now.set.now).sequences + 20) + 10 * block_size (code_trees l.code.now) + 2

abbrev pub decreases-run_statement : goal.decreases-run_statement
decreases-run_statement l = budget l.depth (10 * all_size (checked_trees l.self.now.set.now).sequences + 20) + 10 * stmt_size (stmt_tree l.one.now) + 1

abbrev pub decreases-do_statement : goal.decreases-do_statement
decreases-do_statement l = budget l.depth (10 * all_size (checked_trees l.self.now.set.now).sequences + 20) + 10 * stmt_size (stmt_tree l.one.now)

abbrev pub decreases-declare : goal.decreases-declare
decreases-declare l = budget l.depth (10 * all_size (checked_trees l.self.now.set.now).sequences + 20) + 10 * size (tree l.expr.now) + 5

abbrev pub decreases-run_expression : goal.decreases-run_expression
decreases-run_expression l = budget l.depth (10 * all_size (checked_trees l.self.now.set.now).sequences + 20) + 10 * size (tree l.expr.now) + 5

abbrev pub decreases-run_control : goal.decreases-run_control
decreases-run_control l = budget l.depth (10 * all_size (checked_trees l.self.now.set.now).sequences + 20) + 10 * cond_size (option_map tree l.cond.now) + 10 * cond_size (option_map tree l.repeat.now) + 10 * steps_size (steps_tree l.steps.now) + 5

abbrev pub decreases-test_condition : goal.decreases-test_condition
decreases-test_condition l = budget l.depth (10 * all_size (checked_trees l.self.now.set.now).sequences + 20) + 10 * cond_size (option_map tree l.cond.now)

abbrev pub decreases-choose : goal.decreases-choose
decreases-choose l = budget l.depth (10 * all_size (checked_trees l.self.now.set.now).sequences + 20) + 10 * size (tree l.expr.now) + 5

abbrev pub decreases-repeat_steps : goal.decreases-repeat_steps
decreases-repeat_steps l = budget l.depth (10 * all_size (checked_trees l.self.now.set.now).sequences + 20) + 10 * cond_size (option_map tree l.repeat.now) + 10 * steps_size (steps_tree l.steps.now) + 4

abbrev pub decreases-begin_loop : goal.decreases-begin_loop
decreases-begin_loop l = budget l.depth (10 * all_size (checked_trees l.self.now.set.now).sequences + 20) + 10 * size (tree l.expr.now) + 10 * steps_size (steps_tree l.steps.now) + 10

abbrev pub decreases-run_loop : goal.decreases-run_loop
decreases-run_loop l = budget l.depth (10 * all_size (checked_trees l.self.now.set.now).sequences + 20) + 10 * size (tree l.expr.now) + 10 * steps_size (steps_tree l.steps.now) + 9

abbrev pub decreases-run_turns : goal.decreases-run_turns
decreases-run_turns l = budget l.depth (10 * all_size (checked_trees l.self.now.set.now).sequences + 20) + 10 * size (tree l.expr.now) + 10 * steps_size (steps_tree l.steps.now) + 8

abbrev pub decreases-run_turn : goal.decreases-run_turn
decreases-run_turn l = budget l.depth (10 * all_size (checked_trees l.self.now.set.now).sequences + 20) + 10 * size (tree l.expr.now) + 10 * steps_size (steps_tree l.steps.now) + 7

abbrev pub decreases-test_turn : goal.decreases-test_turn
decreases-test_turn l = budget l.depth (10 * all_size (checked_trees l.self.now.set.now).sequences + 20) + 10 * size (tree l.expr.now) + 10 * steps_size (steps_tree l.steps.now) + 6

abbrev pub decreases-run_inside : goal.decreases-run_inside
decreases-run_inside l = budget l.depth (10 * all_size (checked_trees l.self.now.set.now).sequences + 20) + 10 * steps_size (steps_tree l.steps.now) + 4

abbrev pub invariant-evaluate_arguments-loop-arg : goal.invariant-evaluate_arguments-loop-arg
invariant-evaluate_arguments-loop-arg l = record {
  same : v.arguments (direct false) (calls_in_walk l.self l.depth) (arg_trees l.args) l.fn.numbers.items (now l.fn.walked l.fn.target) ≡ v.arguments (direct false) (calls_in_walk l.self l.depth) (arg_trees (drop l.arg-index l.args)) l.numbers.items (now l.walked l.target);
  noted : (c : SeenSoFar) → NotesByTurns l.self.turns (seen_so_far l.walked) c (λ shows. o.arguments_events (calls_in_walk l.self l.depth) (events_in_walk shows l.self l.depth) (arg_trees (drop l.arg-index l.args)) l.numbers.items (now l.walked l.target)) → NotesByTurns l.self.turns (seen_so_far l.fn.walked) c (λ shows. o.arguments_events (calls_in_walk l.self l.depth) (events_in_walk shows l.self l.depth) (arg_trees l.args) l.fn.numbers.items (now l.fn.walked l.fn.target));
}

abbrev pub invariant-run_block-loop-one : goal.invariant-run_block-loop-one
invariant-run_block-loop-one l = record {
  same : m.block (direct false) l.self.turn_us (calls_in_walk l.self l.depth) (code_trees l.code) (now l.fn.walked l.fn.target) ≡ m.block (direct false) l.self.turn_us (calls_in_walk l.self l.depth) (code_trees (drop l.one-index l.code)) (now l.walked l.target);
  noted : (c : SeenSoFar) → NotesByTurns l.self.turns (seen_so_far l.walked) c (λ shows. os.block_events shows l.self.turn_us (calls_in_walk l.self l.depth) (events_in_walk shows l.self l.depth) (step_on_path l.sequence l.path) (code_trees (drop l.one-index l.code)) (now l.walked l.target)) → NotesByTurns l.self.turns (seen_so_far l.fn.walked) c (λ shows. os.block_events shows l.self.turn_us (calls_in_walk l.self l.depth) (events_in_walk shows l.self l.depth) (step_on_path l.sequence l.path) (code_trees l.code) (now l.fn.walked l.fn.target));
}

abbrev pub invariant-run_steps-loop-number : goal.invariant-run_steps-loop-number
invariant-run_steps-loop-number l = record {
  same : m.steps_result (direct false) l.self.turn_us (calls_in_walk l.self l.depth) (steps_tree l.steps) (now l.fn.walked l.fn.target) ≡ m.steps_result (direct false) l.self.turn_us (calls_in_walk l.self l.depth) (steps_tree (drop l.number l.steps)) (now l.walked l.target);
  noted : (c : SeenSoFar) → NotesByTurns l.self.turns (seen_so_far l.walked) c (λ shows. os.steps_events shows l.self.turn_us (calls_in_walk l.self l.depth) (events_in_walk shows l.self l.depth) (step_on_path l.sequence l.path) l.number (steps_tree (drop l.number l.steps)) (now l.walked l.target)) → NotesByTurns l.self.turns (seen_so_far l.fn.walked) c (λ shows. os.steps_events shows l.self.turn_us (calls_in_walk l.self l.depth) (events_in_walk shows l.self l.depth) (step_on_path l.sequence l.path) 0 (steps_tree l.steps) (now l.fn.walked l.fn.target));
}

abbrev pub invariant-run_turns-loop-made : goal.invariant-run_turns-loop-made
invariant-run_turns-loop-made l = record {
  same : m.turns (direct false) (λ r. v.value (direct false) (calls_in_walk l.self l.depth) (tree l.expr) r) (λ r. m.inside (direct false) (λ q. m.steps_result (direct false) l.self.turn_us (calls_in_walk l.self l.depth) (steps_tree l.steps) q) r) l.count (now l.fn.walked l.fn.target) ≡ m.turns (direct false) (λ r. v.value (direct false) (calls_in_walk l.self l.depth) (tree l.expr) r) (λ r. m.inside (direct false) (λ q. m.steps_result (direct false) l.self.turn_us (calls_in_walk l.self l.depth) (steps_tree l.steps) q) r) (l.count - l.made) (now l.walked l.target);
  noted : (c : SeenSoFar) → NotesByTurns l.self.turns (going l.self.turns (l.count - l.made) l.made l.mark (seen_so_far l.walked)) c (λ shows. os.turns_events shows (condition_spot l.sequence l.path part.While) (λ r. v.value (direct false) (calls_in_walk l.self l.depth) (tree l.expr) r) (λ r. o.value_events (calls_in_walk l.self l.depth) (events_in_walk shows l.self l.depth) (tree l.expr) r) (λ r. m.inside (direct false) (λ q. m.steps_result (direct false) l.self.turn_us (calls_in_walk l.self l.depth) (steps_tree l.steps) q) r) (λ r. os.steps_events shows l.self.turn_us (calls_in_walk l.self l.depth) (events_in_walk shows l.self l.depth) (step_on_path l.sequence l.path) 0 (steps_tree l.steps) r) l.made (l.count - l.made) (now l.walked l.target)) → NotesByTurns l.self.turns (seen_so_far l.fn.walked) c (λ shows. os.turns_events shows (condition_spot l.sequence l.path part.While) (λ r. v.value (direct false) (calls_in_walk l.self l.depth) (tree l.expr) r) (λ r. o.value_events (calls_in_walk l.self l.depth) (events_in_walk shows l.self l.depth) (tree l.expr) r) (λ r. m.inside (direct false) (λ q. m.steps_result (direct false) l.self.turn_us (calls_in_walk l.self l.depth) (steps_tree l.steps) q) r) (λ r. os.steps_events shows l.self.turn_us (calls_in_walk l.self l.depth) (events_in_walk shows l.self l.depth) (step_on_path l.sequence l.path) 0 (steps_tree l.steps) r) 0 l.count (now l.fn.walked l.fn.target));
  within : l.made ≤ l.count;
}

abbrev pub decreases-run_turns-loop-made : goal.decreases-run_turns-loop-made
decreases-run_turns-loop-made l = l.count - l.made
