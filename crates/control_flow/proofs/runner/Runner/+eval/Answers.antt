use Rattle.std.proofs.Common.{◌≡◌, ◌<◌, ◌≤◌, ◌+◌, ◌*◌, Err, Ok, false, nat_eq, true, option_map, refl, ap, unwrap_or, rules, arith}
use Rattle.expr_grammar.specs.Tree.{tree, arg_tree, arg_trees, stmt_tree, code_trees}
use Rattle.access_calls.specs.Reported.{world_from}
use Rattle.access_calls.proofs.KeepLemmas.{keeps_on}
use Rattle.seq_check.specs.Answers.{checked_trees}
use Rattle.sequence_trees.specs.Trees.{NoSteps, step_tree, steps_tree, steps_named}
use Rattle.sequence_rules.specs.Late.{late}
use Rattle.sequence_rules.specs.Steps.{after_counted, condition, counted_step, control_result, declared_variable, dropped_value, statement, turn}
use Rattle.sequence_rules.proofs.LateLemmas.{later_same}
use Rattle.sequence_rules.proofs.LoopLemmas as loop
use Rattle.sequence_rules.proofs.Made.{no_cost}
use Rattle.sequence_rules.specs.Values as v
use Rattle.sequence_rules.specs.Values.{all_used, appended_values, assigned_value, call_of, call_result, choice, conjunction, disjunction, numbers_of, of_unary, operands, strict_binary, truth_of, used_now, value}
use Rattle.sequence_rules.specs.Known.{known_part}
use Rattle.function_calls.specs.Frame.{IsReadyToCall}
use Rattle.function_calls.specs.Held.{late_state_of, late_state_seen}
use Rattle.code_check.proofs.TreeLemmas.{tree-Number, tree-Name, tree-Call}
use Rattle.function_calls.proofs.FrameLemmas.{call_changes, call_refused, call_same, ends_after, ends_moved, ends_passed, ready_after, writing_as, writing_by_call, writing_end, writing_on, writing_use}
use Rattle.function_calls.proofs.Leaves.{err_by, later_all_used, later_bind, later_both, later_cond, later_ok, later_use, passed, passed_by}
use Rattle.control_flow.specs.Calls.{late_calls_of}
use Rattle.control_flow.proofs.Exits.{called_later, later_sequence, later_value, later_inside, later_done, later_result, later_stored, later_variables, repeat_later, truth_later, turn_later, value_later}
use Rattle.control_flow.proofs.FewLemmas.{one_first, one_on, two_first, two_on}
use Rattle.control_flow.proofs.Parts.{called_as, called_none, repeated_on, sequence_none, stored_on, number_on, name_on}
use Rattle.control_flow.proofs.Loops.{declare_refused, args_next, args_fail, block_next, block_fail, done_next, done_fail, turns_fail, entered_fail, entered_as, sequence_on}
use Rattle.sequence_rules.proofs.Sizes.{arg_size, args_size, stmt_size, block_size, step_size, steps_size, all_size, arg_within, stmt_within, step_within, named_within, less_budget}
use Rattle.control_flow.proofs.runner.Runner.+eval.Goals as goal

pub evaluate-returns-in-Number : goal.evaluate-returns-in-Number
evaluate-returns-in-Number g t c =
    rw c.in-Number.is (rw (tree-Number c.in-Number.number) (writing_by_call (call_same c.requires.ready (λ w s. number_on g.A.Access.cost w (late_calls_of (late g.A.Access.cost w) c.args.self.now c.args.depth) c.in-Number.number s))))

pub evaluate-returns-in-Name : goal.evaluate-returns-in-Name
evaluate-returns-in-Name g t c =
    rw c.in-Name.is (rw (tree-Name c.in-Name.name) (writing_by_call (call_changes c.requires.ready refl (λ w asks written.
    let s = late_state_of c.args.held.now asks written in
    name_on g.A.Access.cost w (late_calls_of (late g.A.Access.cost w) c.args.self.now c.args.depth) c.in-Name.name.value c.get_visible.result s (rw (c.as_str.ensures, c.deref.ensures) at (c.get_visible.ensures s refl refl))))))

pub evaluate_operand-returns-in-Number : goal.evaluate_operand-returns-in-Number
evaluate_operand-returns-in-Number g t c =
    rw c.in-Number.is (rw (tree-Number c.in-Number.number) (writing_by_call (call_same c.requires.ready (λ w s. number_on g.A.Access.cost w (late_calls_of (late g.A.Access.cost w) c.args.self.now c.args.depth) c.in-Number.number s))))

pub evaluate_operand-returns-in-Name : goal.evaluate_operand-returns-in-Name
evaluate_operand-returns-in-Name g t c =
    rw c.in-Name.is (rw (tree-Name c.in-Name.name) (writing_by_call (call_changes c.requires.ready refl (λ w asks written.
    let s = late_state_of c.args.held.now asks written in
    name_on g.A.Access.cost w (late_calls_of (late g.A.Access.cost w) c.args.self.now c.args.depth) c.in-Name.name.value c.get_visible.result s (rw (c.as_str.ensures, c.deref.ensures) at (c.get_visible.ensures s refl refl))))))

pub evaluate-returns-in-Call : goal.evaluate-returns-in-Call
unfolding value
evaluate-returns-in-Call g t c =
    rw c.in-Call.is (rw (tree-Call c.in-Call.called c.in-Call.args) (rw (c.as_slice.ensures, c.deref-in-Call.ensures) at c.call.ensures))

pub evaluate_number-returns-in_err-value : goal.evaluate_number-returns-in_err-value
unfolding used_now
evaluate_number-returns-in_err-value g t c =
    writing_end _ (λ cost w x. later_use cost w x.0 x.1) c.from_residual.ensures.1 c.in_err-value.ensures

pub evaluate_number-returns : goal.evaluate_number-returns
unfolding used_now
evaluate_number-returns g t c =
    writing_use _ c.in_ok-value.ensures c.use_value.ensures

pub evaluate_choice-returns-in_err-number : goal.evaluate_choice-returns-in_err-number
unfolding choice
evaluate_choice-returns-in_err-number g t c =
    writing_end _ (λ cost w x. later_cond w x.1 (nat_eq x.0 0) _ _ (value_later c.args.self.now c.args.depth cost w (tree c.args.second.now) x.1) (value_later c.args.self.now c.args.depth cost w (tree c.args.first.now) x.1)) c.from_residual.ensures.1 c.in_err-number.ensures

pub assign-returns-in_err-value : goal.assign-returns-in_err-value
unfolding assigned_value
assign-returns-in_err-value g t c =
    writing_end _ (λ cost w x. later_stored cost w c.args.name.now x.0 x.1) c.from_residual.ensures.1 c.in_err-value.ensures

pub assign-returns : goal.assign-returns
unfolding assigned_value
assign-returns g t c =
    writing_on _ c.in_ok-value.ensures (writing_by_call (call_changes (ready_after c.in_ok-value.ensures.ends) c.store.ensures.units (λ w asks written.
    stored_on g.A.Access.cost w c.args.name.now c.in_ok-value.value _ _ (rw c.as_str.ensures at (c.store.ensures.state asks written)))))

pub evaluate_unary-returns-in_err-number : goal.evaluate_unary-returns-in_err-number
unfolding of_unary
evaluate_unary-returns-in_err-number g t c =
    writing_end _ (λ cost w x. later_ok w x.1 _) c.from_residual.ensures.1 c.in_err-number.ensures

pub evaluate_operands-returns-in_err-left : goal.evaluate_operands-returns-in_err-left
unfolding operands
evaluate_operands-returns-in_err-left g t c =
    writing_end _ (λ cost w x. later_bind w x.1 _ _ (value_later c.args.self.now c.args.depth cost w (tree c.args.right.now) x.1) (λ y. later_both cost w x.0 y.0 y.1)) c.from_residual.ensures.1 c.in_err-left.ensures

pub evaluate_operands-returns-in_err-right : goal.evaluate_operands-returns-in_err-right
unfolding operands
evaluate_operands-returns-in_err-right g t c =
    writing_on _ c.in_ok-left.ensures (writing_end _ (λ cost w y. later_both cost w c.in_ok-left.left y.0 y.1) c.from_residual-in_err-right.ensures.1 c.in_err-right.ensures)

pub evaluate_operands-returns : goal.evaluate_operands-returns
unfolding operands
evaluate_operands-returns g t c =
    writing_on _ c.in_ok-left.ensures (writing_use _ c.in_ok-right.ensures c.use_both.ensures)

pub evaluate_strict-returns-in_err-left : goal.evaluate_strict-returns-in_err-left
unfolding strict_binary
evaluate_strict-returns-in_err-left g t c =
    writing_end _ (λ cost w x. later_result cost w _ x.1) c.from_residual.ensures.1 c.in_err-left.ensures

pub evaluate_truth-returns-in_err-number : goal.evaluate_truth-returns-in_err-number
unfolding truth_of
evaluate_truth-returns-in_err-number g t c =
    writing_end _ (λ cost w x. later_ok w x.1 _) c.from_residual.ensures.1 c.in_err-number.ensures

pub evaluate_and-returns-in_err-number : goal.evaluate_and-returns-in_err-number
unfolding conjunction
evaluate_and-returns-in_err-number g t c =
    writing_end _ (λ cost w x. later_cond w x.1 (nat_eq x.0 0) _ _ (later_ok w x.1 _) (truth_later c.args.self.now c.args.depth cost w (tree c.args.right.now) x.1)) c.from_residual.ensures.1 c.in_err-number.ensures

pub evaluate_or-returns-in_err-number : goal.evaluate_or-returns-in_err-number
unfolding disjunction
evaluate_or-returns-in_err-number g t c =
    writing_end _ (λ cost w x. later_cond w x.1 (nat_eq x.0 0) _ _ (truth_later c.args.self.now c.args.depth cost w (tree c.args.right.now) x.1) (later_ok w x.1 _)) c.from_residual.ensures.1 c.in_err-number.ensures

pub push_value-returns-in_err-value : goal.push_value-returns-in_err-value
unfolding appended_values
push_value-returns-in_err-value g t c =
    writing_end _ (λ cost w x. later_ok w x.1 _) (err_by _ _ c.from_residual.result c.from_residual.ensures.1) c.in_err-value.ensures

pub push_value-returns-in-Err : goal.push_value-returns-in-Err
unfolding appended_values
push_value-returns-in-Err g t c =
    writing_on _ c.in_ok-value.ensures (writing_by_call (call_refused (ready_after c.in_ok-value.ensures.ends) (λ w asks written. later_same no_cost w _)))

pub run_expression-returns-in_err-evaluate : goal.run_expression-returns-in_err-evaluate
unfolding after_counted dropped_value
run_expression-returns-in_err-evaluate g t c =
    writing_on _ (writing_by_call (call_changes {p = λ m. counted_step m} c.requires.ready c.count_step.ensures.units (λ w asks written. c.in-Ok.ensures.gives g.A.Access.cost w asks written)))
    (writing_end _ (λ cost w x. later_ok w x.1 _) c.from_residual.ensures.1 c.in_err-evaluate.ensures)

pub call_listed-returns-in_err-evaluate_arguments : goal.call_listed-returns-in_err-evaluate_arguments
unfolding call_of numbers_of
call_listed-returns-in_err-evaluate_arguments g t c =
    writing_end _ (λ cost w x. called_later c.args.self.now c.args.depth cost w c.args.called.now.name (arg_trees c.args.args.now) x.0 x.1) c.from_residual.ensures.1 (writing_end (λ m y. all_used m y.0 y.1) (λ cost w y. later_all_used cost w y.0 y.1) refl (rw c.new-values.ensures.items at c.in_err-evaluate_arguments.ensures))

pub call_listed-returns-in_err-numbers : goal.call_listed-returns-in_err-numbers
unfolding call_of numbers_of
call_listed-returns-in_err-numbers g t c =
    writing_end _ (λ cost w x. called_later c.args.self.now c.args.depth cost w c.args.called.now.name (arg_trees c.args.args.now) x.0 x.1) c.from_residual-in_err-numbers.ensures.1
    (writing_use (λ m y. all_used m y.0 y.1) (rw c.new-values.ensures.items at c.in_ok-evaluate_arguments.ensures) (rw c.as_slice.ensures.value at c.in_err-numbers.ensures))

pub call_listed-returns : goal.call_listed-returns
unfolding call_of numbers_of
call_listed-returns g t c =
    writing_on _ (writing_use (λ m y. all_used m y.0 y.1) (rw c.new-values.ensures.items at c.in_ok-evaluate_arguments.ensures) (rw c.as_slice.ensures.value at c.in_ok-numbers.ensures))
    (writing_as (λ w s. called_as g.A.Access.cost w (late_calls_of (late g.A.Access.cost w) c.args.self.now c.args.depth) c.args.called.now.name (arg_trees c.args.args.now) _ s c.args.called.now.function c.text_of.result.now c.args.called.now.found c.text_of.ensures)
    (rw c.as_slice-2.ensures.value at c.call_function.ensures))

pub evaluate_arguments-evaluate_argument-requires : goal.evaluate_arguments-evaluate_argument-requires
evaluate_arguments-evaluate_argument-requires g t c =
    let less : arg_size (arg_tree c.arg-item.result) < args_size (arg_trees c.args.args.now) = arg_within c.args.args.now c.loop-arg.arg-index _ c.arg-item.result c.loop-arg-test.true c.arg-item.is in
    λ κs met. (omega (arith, less), Prim.search rules)

pub run_block-run_statement-requires : goal.run_block-run_statement-requires
run_block-run_statement-requires g t c =
    let less : stmt_size (stmt_tree c.one-item.result) < block_size (code_trees c.args.code.now) = stmt_within c.args.code.now c.loop-one.one-index _ c.one-item.result c.loop-one-test.true c.one-item.is in
    λ κs met. (omega (arith, less), Prim.search rules)

pub run_steps-run_step-requires : goal.run_steps-run_step-requires
run_steps-run_step-requires g t c =
    let less : step_size (step_tree c.one-item.result) < steps_size (steps_tree c.args.steps.now) = step_within c.args.steps.now c.loop-one.one-index _ c.one-item.result c.loop-one-test.true c.one-item.is in
    λ κs met. (omega (arith, less), Prim.search rules)

pub run_named-run_sequence-requires : goal.run_named-run_sequence-requires
run_named-run_sequence-requires g t c =
    let below : steps_size (unwrap_or (steps_named c.args.name.now (checked_trees c.args.self.now.set.now).sequences) NoSteps) ≤ all_size (checked_trees c.args.self.now.set.now).sequences = named_within c.args.name.now (checked_trees c.args.self.now.set.now).sequences in
    let same : steps_size (steps_tree c.steps_of.result.now) ≡ steps_size (unwrap_or (steps_named c.args.name.now (checked_trees c.args.self.now.set.now).sequences) NoSteps) = ap steps_size c.steps_of.ensures in
    let less = less_budget c.args.depth (10 * all_size (checked_trees c.args.self.now.set.now).sequences + 20) c.if-depth-eq0.false in
    λ κs met. (omega (arith, below, same, less), Prim.search rules)

pub evaluate_arguments-loop-arg-preserved : goal.evaluate_arguments-loop-arg-preserved
evaluate_arguments-loop-arg-preserved g t c =
    let i = c.loop-arg.invariant in
    let e = c.in_ok-evaluate_argument.ensures in
    record {
      same = λ m answered known b l knows. args_next g.A.Access.cost (world_from m answered) _ _ c.args.args.now c.loop-arg.arg-index _ c.arg-item.result _ _ _ _ (i.same m answered known b (e.keeps.goes.left answered l) knows) c.loop-arg-test.true c.arg-item.is (e.gives m answered known (i.keeps.on m b) l (i.ends.knows known knows));
      keeps = keeps_on _ _ _ _ _ _ i.keeps e.keeps;
      ends = ends_moved tt refl (ends_after i.ends e.ends);
    }

pub evaluate_arguments-returns-in_err-evaluate_argument : goal.evaluate_arguments-returns-in_err-evaluate_argument
evaluate_arguments-returns-in_err-evaluate_argument g t c = record {
  gives = λ m answered known b l knows.
      let i = c.loop-arg.invariant in
      passed_by _ _ _ _ _ _ c.from_residual.result c.from_residual.ensures.1
      (args_fail g.A.Access.cost (world_from m answered) _ _ c.in_err-evaluate_argument.field-0.0 _ c.args.args.now c.loop-arg.arg-index _ c.arg-item.result _ _ _ (later_sequence g.A.Access.cost (world_from m answered) c.args.self.now.turn_us (checked_trees c.args.self.now.set.now) c.args.depth) (i.same m answered known b (c.evaluate_argument.ensures.keeps.goes.left answered l) knows) c.loop-arg-test.true c.arg-item.is (c.in_err-evaluate_argument.ensures.gives m answered known (i.keeps.on m b) l (i.ends.knows known knows)));
  keeps = keeps_on _ _ _ _ _ _ c.loop-arg.invariant.keeps c.in_err-evaluate_argument.ensures.keeps;
  ends = ends_passed _ _ (err_by _ _ c.from_residual.result c.from_residual.ensures.1) (ends_after c.loop-arg.invariant.ends c.in_err-evaluate_argument.ensures.ends);
}

pub evaluate_arguments-returns : goal.evaluate_arguments-returns
evaluate_arguments-returns g t c = record {
  gives = λ m answered known b l knows. loop.args_over (late g.A.Access.cost (world_from m answered)) _ _ c.args.args.now c.loop-arg.arg-index _ _ (c.loop-arg.invariant.same m answered known b l knows) c.loop-arg-test.false;
  keeps = c.loop-arg.invariant.keeps;
  ends = ends_moved _ refl c.loop-arg.invariant.ends;
}

pub run_block-loop-one-preserved : goal.run_block-loop-one-preserved
run_block-loop-one-preserved g t c =
    let i = c.loop-one.invariant in
    let e = c.in_ok-run_statement.ensures in
    record {
      same = λ m answered known b l knows. block_next g.A.Access.cost (world_from m answered) _ c.args.self.now.turn_us _ c.args.code.now c.loop-one.one-index _ c.one-item.result _ _ (i.same m answered known b (e.keeps.goes.left answered l) knows) c.loop-one-test.true c.one-item.is (e.gives m answered known (i.keeps.on m b) l (i.ends.knows known knows));
      keeps = keeps_on _ _ _ _ _ _ i.keeps e.keeps;
      ends = ends_after i.ends e.ends;
    }

pub run_block-returns-in_err-run_statement : goal.run_block-returns-in_err-run_statement
run_block-returns-in_err-run_statement g t c = record {
  gives = λ m answered known b l knows.
      let i = c.loop-one.invariant in
      passed _ _ _ _ _ c.from_residual.result c.from_residual.ensures.1
      (block_fail g.A.Access.cost (world_from m answered) _ c.args.self.now.turn_us _ c.in_err-run_statement.field-0.0 _ c.args.code.now c.loop-one.one-index _ c.one-item.result _ _ (later_sequence g.A.Access.cost (world_from m answered) c.args.self.now.turn_us (checked_trees c.args.self.now.set.now) c.args.depth) (i.same m answered known b (c.run_statement.ensures.keeps.goes.left answered l) knows) c.loop-one-test.true c.one-item.is (c.in_err-run_statement.ensures.gives m answered known (i.keeps.on m b) l (i.ends.knows known knows)));
  keeps = keeps_on _ _ _ _ _ _ c.loop-one.invariant.keeps c.in_err-run_statement.ensures.keeps;
  ends = ends_passed _ c.from_residual.result c.from_residual.ensures.1 (ends_after c.loop-one.invariant.ends c.in_err-run_statement.ensures.ends);
}

pub run_block-returns : goal.run_block-returns
run_block-returns g t c = record {
  gives = λ m answered known b l knows. loop.block_over (late g.A.Access.cost (world_from m answered)) _ c.args.self.now.turn_us _ c.args.code.now c.loop-one.one-index _ (c.loop-one.invariant.same m answered known b l knows) c.loop-one-test.false;
  keeps = c.loop-one.invariant.keeps;
  ends = ends_moved _ refl c.loop-one.invariant.ends;
}

pub run_steps-loop-one-preserved : goal.run_steps-loop-one-preserved
run_steps-loop-one-preserved g t c =
    let i = c.loop-one.invariant in
    let e = c.in_ok-run_step.ensures in
    record {
      same = λ m answered known b l knows. done_next g.A.Access.cost (world_from m answered) _ c.args.self.now.turn_us _ c.args.steps.now c.loop-one.one-index _ c.one-item.result _ _ (i.same m answered known b (e.keeps.goes.left answered l) knows) c.loop-one-test.true c.one-item.is (e.gives m answered known (i.keeps.on m b) l (i.ends.knows known knows));
      keeps = keeps_on _ _ _ _ _ _ i.keeps e.keeps;
      ends = ends_after i.ends e.ends;
    }

pub run_steps-returns-in_err-run_step : goal.run_steps-returns-in_err-run_step
run_steps-returns-in_err-run_step g t c = record {
  gives = λ m answered known b l knows.
      let i = c.loop-one.invariant in
      passed _ _ _ _ _ c.from_residual.result c.from_residual.ensures.1
      (done_fail g.A.Access.cost (world_from m answered) _ c.args.self.now.turn_us _ c.in_err-run_step.field-0.0 _ c.args.steps.now c.loop-one.one-index _ c.one-item.result _ _ (later_sequence g.A.Access.cost (world_from m answered) c.args.self.now.turn_us (checked_trees c.args.self.now.set.now) c.args.depth) (i.same m answered known b (c.run_step.ensures.keeps.goes.left answered l) knows) c.loop-one-test.true c.one-item.is (c.in_err-run_step.ensures.gives m answered known (i.keeps.on m b) l (i.ends.knows known knows)));
  keeps = keeps_on _ _ _ _ _ _ c.loop-one.invariant.keeps c.in_err-run_step.ensures.keeps;
  ends = ends_passed _ c.from_residual.result c.from_residual.ensures.1 (ends_after c.loop-one.invariant.ends c.in_err-run_step.ensures.ends);
}

pub run_steps-returns : goal.run_steps-returns
run_steps-returns g t c = record {
  gives = λ m answered known b l knows. loop.done_over (late g.A.Access.cost (world_from m answered)) _ c.args.self.now.turn_us _ c.args.steps.now c.loop-one.one-index _ (c.loop-one.invariant.same m answered known b l knows) c.loop-one-test.false;
  keeps = c.loop-one.invariant.keeps;
  ends = ends_moved _ refl c.loop-one.invariant.ends;
}

pub run_sequence-returns-in_err-run_steps : goal.run_sequence-returns-in_err-run_steps
run_sequence-returns-in_err-run_steps g t c = record {
  gives = λ m answered known b l knows.
      passed _ _ _ _ _ c.from_residual.result c.from_residual.ensures.1
      (entered_fail g.A.Access.cost (world_from m answered) _ _ c.in_err-run_steps.field-0.0 _ _ _ (c.take_locals-locals.ensures.none _ _) (c.in_err-run_steps.ensures.gives m answered known b l knows));
  keeps = c.run_steps.ensures.keeps;
  ends = ends_passed _ c.from_residual.result c.from_residual.ensures.1 c.in_err-run_steps.ensures.ends;
}

pub run_sequence-returns : goal.run_sequence-returns
run_sequence-returns g t c = record {
  gives = λ m answered known b l knows.
      entered_as g.A.Access.cost (world_from m answered) _ _ _ _ _ _ _ _ _ (c.take_locals-locals.ensures.none _ _) (c.in_ok-run_steps.ensures.gives m answered known b l knows) c.dp-dp.ensures c.ap-ap.ensures c.control-control.ensures c.take_locals-locals.ensures.taken (c.give_back.ensures.state _ _);
  keeps = c.run_steps.ensures.keeps;
  ends = ends_moved tt c.give_back.ensures.units c.in_ok-run_steps.ensures.ends;
}

pub run_named-returns : goal.run_named-returns
run_named-returns g t c = record {
  gives = λ m answered known b l knows.
      sequence_on g.A.Access.cost (world_from m answered) c.args.self.now.turn_us (checked_trees c.args.self.now.set.now) (g.A.Access.reported c.run_sequence.new.access) c.args.depth c.args.name.now _ _ c.run_sequence.result (steps_tree c.steps_of.result.now) c.if-depth-eq0.false c.steps_of.ensures (c.run_sequence.ensures.gives m answered known b l knows);
  keeps = c.run_sequence.ensures.keeps;
  ends = c.run_sequence.ensures.ends;
}

pub run_named-returns-then-depth-eq0 : goal.run_named-returns-then-depth-eq0
run_named-returns-then-depth-eq0 g t c =
    let ready : IsReadyToCall c.args.held.now.units (g.A.Access.reported c.args.access.now) = Prim.search rules in
    writing_by_call (call_same ready (λ w s. sequence_none g.A.Access.cost w c.args.self.now.turn_us (checked_trees c.args.self.now.set.now) c.args.depth c.args.name.now s c.if-depth-eq0.true))

pub run_turn-returns-in_err-number : goal.run_turn-returns-in_err-number
unfolding turn
run_turn-returns-in_err-number g t c =
    writing_on {p = λ m. counted_step m} _ (writing_by_call (call_changes c.requires.ready c.count_step.ensures.units (λ w asks written. c.in-Ok.ensures.gives g.A.Access.cost w asks written))) (writing_end _ (λ cost w x. turn_later c.args.self.now c.args.depth cost w (steps_tree c.args.steps.now) x.0 x.1) c.from_residual.ensures.1 c.in_err-number.ensures)

pub declare-returns-in-Ok-declare : goal.declare-returns-in-Ok-declare
declare-returns-in-Ok-declare g t c = record {
  gives = λ m answered known b l knows.
      loop.declared_on (late g.A.Access.cost (world_from m answered)) c.args.name.now (v.value (late g.A.Access.cost (world_from m answered)) (late_calls_of (late g.A.Access.cost (world_from m answered)) c.args.self.now c.args.depth) (tree c.args.expr.now)) _ _ _ _ _ (c.in-Ok.ensures.gives _ _ _ _) (c.in_ok-value.ensures.gives m answered known b l knows) (c.in-Ok-declare.ensures.state _ _);
  keeps = c.evaluate.ensures.keeps;
  ends = ends_moved tt c.declare.ensures.units c.in_ok-value.ensures.ends;
}

pub declare-returns-in-Err-declare : goal.declare-returns-in-Err-declare
declare-returns-in-Err-declare g t c = record {
  gives = λ m answered known b l knows.
      declare_refused g.A.Access.cost (world_from m answered) c.args.name.now (v.value (late g.A.Access.cost (world_from m answered)) (late_calls_of (late g.A.Access.cost (world_from m answered)) c.args.self.now c.args.depth) (tree c.args.expr.now)) _ _ _ _ c.in_ok-value.value (c.in-Ok.ensures.gives _ _ _ _) (c.in_ok-value.ensures.gives m answered known b l knows) (c.in-Err-declare.ensures.same (g.A.Access.reported c.evaluate.new.access).asks (known_part known (g.K.Sink.written c.evaluate.new.sink)));
  keeps = c.evaluate.ensures.keeps;
  ends = (let e = c.in_ok-value.ensures.ends in record { end = e.end; counted = tt; knows = e.knows; lines = e.lines; cause = e.cause });
}

pub declare-returns-in_err-value : goal.declare-returns-in_err-value
unfolding after_counted declared_variable
declare-returns-in_err-value g t c =
    writing_on {p = λ m. counted_step m} _ (writing_by_call (call_changes c.requires.ready c.count_step.ensures.units (λ w asks written. c.in-Ok.ensures.gives g.A.Access.cost w asks written))) (writing_end _ (λ cost w x. later_variables w x.1 x.1.globals _) c.from_residual.ensures.1 c.in_err-value.ensures)

pub call_function-returns-in-None : goal.call_function-returns-in-None
call_function-returns-in-None g t c =
    let ready : IsReadyToCall c.args.held.now.units (g.A.Access.reported c.args.access.now) = Prim.search rules in
    rw c.in-None.is (writing_by_call (call_same ready (λ w s. called_none g.A.Access.cost w (late_calls_of (late g.A.Access.cost w) c.args.self.now c.args.depth) c.args.text.now c.args.numbers.now s)))

pub run_control-returns-in_err-test_condition : goal.run_control-returns-in_err-test_condition
unfolding control_result
run_control-returns-in_err-test_condition g t c =
    writing_end _ (λ cost w x. later_cond w x.1 x.0 _ _ (repeat_later c.args.self.now c.args.depth cost w (option_map tree c.args.repeat.now) c.args.timeout (steps_tree c.args.steps.now) x.1) (later_ok w x.1 _)) c.from_residual.ensures.1 c.in_err-test_condition.ensures

pub run_inside-returns : goal.run_inside-returns
run_inside-returns g t c = record {
  gives = λ m answered known b l knows.
      loop.inside_on (late g.A.Access.cost (world_from m answered)) _ _ _ _ _ (c.in_ok-run_steps.ensures.gives m answered known b l knows) c.local_count-count.ensures (c.cut_back.ensures.state (g.A.Access.reported c.run_steps.new.access).asks (known_part known (g.K.Sink.written c.run_steps.new.sink)));
  keeps = c.run_steps.ensures.keeps;
  ends = ends_moved tt c.cut_back.ensures.units c.in_ok-run_steps.ensures.ends;
}

pub repeat_steps-returns-in-Some : goal.repeat_steps-returns-in-Some
repeat_steps-returns-in-Some g t c = record {
  gives = λ m answered known b l knows.
      rw c.in-Some.is (repeated_on g.A.Access.cost (world_from m answered) (late_calls_of (late g.A.Access.cost (world_from m answered)) c.args.self.now c.args.depth) _ c.args.self.now.turn_us _ c.args.timeout _ (steps_tree c.args.steps.now) _ (late_state_seen known c.args.held.now (g.A.Access.reported c.args.access.now).asks (g.K.Sink.written c.args.sink.now)) _ c.run_loop.result c.turn_count.ensures.answer (c.run_loop.ensures.gives m answered known b l knows));
  keeps = c.run_loop.ensures.keeps;
  ends = c.run_loop.ensures.ends;
}

pub run_statement-returns-in-Declare : goal.run_statement-returns-in-Declare
unfolding statement
run_statement-returns-in-Declare g t c =
    rw c.in-Declare.is (rw c.deref.ensures at c.declare.ensures)

pub run_statement-returns-in-Plain : goal.run_statement-returns-in-Plain
unfolding statement
run_statement-returns-in-Plain g t c =
    rw c.in-Plain.is c.run_expression.ensures

pub call_one-returns-in_err-number : goal.call_one-returns-in_err-number
call_one-returns-in_err-number g t c = λ at. record {
  gives = λ m answered known b l knows.
      passed _ _ _ _ _ c.from_residual.result c.from_residual.ensures.1
      (one_first g.A.Access.cost (world_from m answered) (late_calls_of (late g.A.Access.cost (world_from m answered)) c.args.self.now c.args.depth) c.args.called.now.name _ c.in_err-number.field-0.0 at (tree c.args.only.now) _ _ (later_sequence g.A.Access.cost (world_from m answered) c.args.self.now.turn_us (checked_trees c.args.self.now.set.now) c.args.depth)
      (c.in_err-number.ensures.gives m answered known b l knows));
  keeps = c.evaluate_number.ensures.keeps;
  ends = ends_passed _ c.from_residual.result c.from_residual.ensures.1 c.in_err-number.ensures.ends;
}

pub call_one-returns : goal.call_one-returns
call_one-returns g t c = λ at. record {
  gives = λ m answered known b l knows.
      one_on g.A.Access.cost (world_from m answered) (late_calls_of (late g.A.Access.cost (world_from m answered)) c.args.self.now c.args.depth) c.args.called.now.name _ at (tree c.args.only.now) _ _ _ c.in_ok-number.number c.call_function.result c.args.called.now.function
      (c.in_ok-number.ensures.gives m answered known b (c.call_function.ensures.keeps.goes.left answered l) knows) c.args.called.now.found
      (c.call_function.ensures.gives m answered known (c.in_ok-number.ensures.keeps.on m b) l (c.in_ok-number.ensures.ends.knows known knows));
  keeps = keeps_on _ _ _ _ _ _ c.evaluate_number.ensures.keeps c.call_function.ensures.keeps;
  ends = ends_after c.in_ok-number.ensures.ends c.call_function.ensures.ends;
}

pub call_two-returns-in_err-first : goal.call_two-returns-in_err-first
call_two-returns-in_err-first g t c = λ at later. record {
  gives = λ m answered known b l knows.
      passed _ _ _ _ _ c.from_residual.result c.from_residual.ensures.1
      (two_first g.A.Access.cost (world_from m answered) (late_calls_of (late g.A.Access.cost (world_from m answered)) c.args.self.now c.args.depth) c.args.called.now.name _ c.in_err-first.field-0.0 at later (tree c.args.first.now) (tree c.args.second.now) _ _ (later_sequence g.A.Access.cost (world_from m answered) c.args.self.now.turn_us (checked_trees c.args.self.now.set.now) c.args.depth)
      (c.in_err-first.ensures.gives m answered known b l knows));
  keeps = c.evaluate_operands.ensures.keeps;
  ends = ends_passed _ c.from_residual.result c.from_residual.ensures.1 c.in_err-first.ensures.ends;
}

pub call_two-returns : goal.call_two-returns
call_two-returns g t c = λ at later. record {
  gives = λ m answered known b l knows.
      two_on g.A.Access.cost (world_from m answered) (late_calls_of (late g.A.Access.cost (world_from m answered)) c.args.self.now c.args.depth) c.args.called.now.name _ at later (tree c.args.first.now) (tree c.args.second.now) _ _ _ c.in_ok-first.first c.in_ok-first.second c.call_function.result c.args.called.now.function
      (c.in_ok-first.ensures.gives m answered known b (c.call_function.ensures.keeps.goes.left answered l) knows) c.args.called.now.found
      (c.call_function.ensures.gives m answered known (c.in_ok-first.ensures.keeps.on m b) l (c.in_ok-first.ensures.ends.knows known knows));
  keeps = keeps_on _ _ _ _ _ _ c.evaluate_operands.ensures.keeps c.call_function.ensures.keeps;
  ends = ends_after c.in_ok-first.ensures.ends c.call_function.ensures.ends;
}

pub run_turns-returns : goal.run_turns-returns
run_turns-returns g t c = record {
  gives = λ m answered known b l knows.
      loop.turns_none (late g.A.Access.cost (world_from m answered)) _ _ _ c.loop-left.left _ (c.loop-left.invariant.same m answered known b l knows) c.loop-left-test.false;
  keeps = c.loop-left.invariant.keeps;
  ends = ends_moved tt refl c.loop-left.invariant.ends;
}

pub run_turns-returns-in-Ok-false : goal.run_turns-returns-in-Ok-false
run_turns-returns-in-Ok-false g t c = record {
  gives = λ m answered known b l knows.
      let i = c.loop-left.invariant in
      let last = c.in-Ok-false.ensures.gives m answered known (i.keeps.on m b) l (i.ends.knows known knows) in
      loop.turns_over (late g.A.Access.cost (world_from m answered)) _ _ _ c.loop-left.left _ _ (i.same m answered known b (c.run_turn.ensures.keeps.goes.left answered l) knows) c.loop-left-test.true (rw c.in-Ok-false.field-0-test at last);
  keeps = keeps_on _ _ _ _ _ _ c.loop-left.invariant.keeps c.run_turn.ensures.keeps;
  ends = ends_moved tt refl (ends_after c.loop-left.invariant.ends c.in-Ok-false.ensures.ends);
}

pub run_turns-returns-in-Err : goal.run_turns-returns-in-Err
run_turns-returns-in-Err g t c = record {
  gives = λ m answered known b l knows.
      let i = c.loop-left.invariant in
      turns_fail g.A.Access.cost (world_from m answered) _ _ _ c.in-Err.end _ c.loop-left.left _ _ (λ s. later_value g.A.Access.cost (world_from m answered) _ (tree c.args.expr.now) s (later_sequence g.A.Access.cost (world_from m answered) c.args.self.now.turn_us (checked_trees c.args.self.now.set.now) c.args.depth)) (λ r. later_inside g.A.Access.cost (world_from m answered) _ r (λ q. later_done g.A.Access.cost (world_from m answered) c.args.self.now.turn_us _ (steps_tree c.args.steps.now) q (later_sequence g.A.Access.cost (world_from m answered) c.args.self.now.turn_us (checked_trees c.args.self.now.set.now) c.args.depth))) (i.same m answered known b (c.run_turn.ensures.keeps.goes.left answered l) knows) c.loop-left-test.true
      (c.in-Err.ensures.gives m answered known (i.keeps.on m b) l (i.ends.knows known knows));
  keeps = keeps_on _ _ _ _ _ _ c.loop-left.invariant.keeps c.run_turn.ensures.keeps;
  ends = ends_passed _ (Err c.in-Err.end) refl (ends_after c.loop-left.invariant.ends c.in-Err.ensures.ends);
}

pub run_turns-loop-left-preserved : goal.run_turns-loop-left-preserved
run_turns-loop-left-preserved g t c =
    let i = c.loop-left.invariant in
    let e = c.in-Ok-true.ensures in
    record {
      same = λ m answered known b l knows.
          let more = e.gives m answered known (i.keeps.on m b) l (i.ends.knows known knows) in
          loop.turns_on (late g.A.Access.cost (world_from m answered)) _ _ _ c.loop-left.left _ _ (i.same m answered known b (e.keeps.goes.left answered l) knows) c.loop-left-test.true (rw c.in-Ok-true.field-0-test at more);
      keeps = keeps_on _ _ _ _ _ _ i.keeps e.keeps;
      ends = ends_moved tt refl (ends_after i.ends e.ends);
    }

pub run_turn-returns-in_err-run_inside : goal.run_turn-returns-in_err-run_inside
unfolding turn
run_turn-returns-in_err-run_inside g t c =
    let some : nat_eq c.in_ok-number.number 0 ≡ false = grind arith in
    writing_on {p = λ m. counted_step m} _ (writing_by_call (call_changes c.requires.ready c.count_step.ensures.units (λ w asks written. c.in-Ok.ensures.gives g.A.Access.cost w asks written)))
    (writing_on _ c.in_ok-number.ensures (writing_as (λ w s. rw some refl) (writing_end (λ m y. Ok (true, y.1)) (λ cost w y. later_ok w y.1 true) c.from_residual-in_err-run_inside.ensures.1 c.in_err-run_inside.ensures)))

pub call_sequence-returns-in_err-run_named : goal.call_sequence-returns-in_err-run_named
unfolding call_result
call_sequence-returns-in_err-run_named g t c = writing_end _ (λ cost w x. later_ok w x.1 _) c.from_residual.ensures.1 c.in_err-run_named.ensures

pub is_true-returns-in_err-number : goal.is_true-returns-in_err-number
unfolding condition
is_true-returns-in_err-number g t c = writing_end _ (λ cost w x. later_ok w x.1 _) c.from_residual.ensures.1 c.in_err-number.ensures

pub call-returns-in-Some : goal.call-returns-in-Some
call-returns-in-Some g t c = rw c.in-Some.ensures.is (c.call_one.ensures c.in-Some.ensures.at)

pub call-returns-in-Some-both_numbers : goal.call-returns-in-Some-both_numbers
call-returns-in-Some-both_numbers g t c = rw c.in-Some-both_numbers.ensures.is (c.call_two.ensures c.in-Some-both_numbers.ensures.at c.in-Some-both_numbers.ensures.later)
