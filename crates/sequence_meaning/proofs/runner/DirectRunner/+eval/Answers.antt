use Rattle.std.proofs.Common.{◌≡◌, ℕ, List, false, Ok, subst, ◌<◌, ◌≤◌, ◌+◌, ◌*◌, ap, ◌∙◌, nat_eq, unwrap_or, rules, refl, arith}
use Rattle.std.proofs.lemmas.Grind.{common_steps}
use Rattle.expr_grammar.specs.Tree.{tree, arg_tree, arg_trees, stmt_tree, code_trees, one_number, two_numbers}
use Rattle.seq_check.specs.Answers.{checked_trees}
use Rattle.sequence_trees.specs.Trees.{NoSteps, step_tree, steps_tree, steps_named}
use Rattle.sequence_rules.specs.Direct.{direct}
use Rattle.sequence_rules.specs.Known.{known_part}
use Rattle.sequence_meaning.specs.Held.{calls_of, state_seen}
use Rattle.sequence_rules.specs.Steps.{statement}
use Rattle.sequence_rules.specs.Values as v
use Rattle.sequence_rules.specs.Variables.{set_visible}
use Rattle.sequence_meaning.specs.Frame.{RunsDirect}
use Rattle.sequence_meaning.specs.Parts.{call_meaning, inside_meaning, value_meaning}
use Rattle.sequence_meaning.proofs.Loops.{args_on, assigned_on, plain_on, turn_on, turn_over, declared_on, inside_on, entered_on, entered_fail, sequence_on, turns_on, turns_over, turns_fail}
use Rattle.sequence_rules.proofs.Sizes.{arg_size, args_size, stmt_size, block_size, step_size, steps_size, all_size, arg_within, stmt_within, step_within, named_within, less_budget}
use Rattle.sequence_meaning.proofs.FewLemmas.{ends_second, first_place, one_listed, second_place, two_listed, two_means, two_same}
use Rattle.sequence_meaning.proofs.FrameLemmas.{cause_on, caused_on, runs_with_sink, keeps_after, keeps_before, keeps_made, keeps_on, stopped_caused, stopped_means}
use Rattle.sequence_meaning.proofs.HeldLemmas.{between}
use Rattle.sequence_meaning.proofs.StopLemmas.{adds_value, adds_inside, ends_body, declare_first, declare_refused, declare_value, ends_test, ends_turn, plain_first, plain_value}
use Rattle.sequence_meaning.proofs.runner.DirectRunner.+eval.Goals as goal

pub evaluate_arguments-evaluate_argument-requires : goal.evaluate_arguments-evaluate_argument-requires
evaluate_arguments-evaluate_argument-requires g t c =
    let less : arg_size (arg_tree c.arg-item.result) < args_size (arg_trees c.args.args.now) = arg_within c.args.args.now c.loop-arg.arg-index _ c.arg-item.result c.loop-arg-test.true c.arg-item.is in
    λ κs met. (omega (arith, less), Prim.search rules)

pub evaluate_arguments-loop-arg-preserved : goal.evaluate_arguments-loop-arg-preserved
evaluate_arguments-loop-arg-preserved g t c = record {
  same = λ known knows.
      let first = state_seen known c.loop-arg.held c.loop-arg.target (g.K.Sink.written c.loop-arg.sink) in
      let next = state_seen known c.evaluate_argument.new.held c.evaluate_argument.new.target (g.K.Sink.written c.evaluate_argument.new.sink) in
      args_on c.args.self.now c.args.depth _ c.args.args.now c.loop-arg.arg-index _ c.loop-arg.numbers.items c.evaluate_argument.new.numbers.items first next (c.loop-arg.invariant.same known knows) c.loop-arg-test.true
      (subst (λ a. v.argument (direct false) (calls_of c.args.self.now c.args.depth) (arg_tree a) c.loop-arg.numbers.items first ≡ Ok (c.evaluate_argument.new.numbers.items, next)) c.arg-item.is (c.in_ok-evaluate_argument.ensures.gives known (c.loop-arg.invariant.keeps.knows known knows)));
  keeps = keeps_on c.loop-arg.invariant.keeps c.evaluate_argument.ensures.keeps;
  faults = c.in_ok-evaluate_argument.ensures.cause ∙ c.loop-arg.invariant.faults;
}

pub run_block-run_statement-requires : goal.run_block-run_statement-requires
run_block-run_statement-requires g t c =
    let less : stmt_size (stmt_tree c.one-item.result) < block_size (code_trees c.args.code.now) = stmt_within c.args.code.now c.loop-one.one-index _ c.one-item.result c.loop-one-test.true c.one-item.is in
    λ κs met. (omega (arith, less), Prim.search rules)

pub run_steps-run_step-requires : goal.run_steps-run_step-requires
run_steps-run_step-requires g t c =
    let less : step_size (step_tree c.one-item.result) < steps_size (steps_tree c.args.steps.now) = step_within c.args.steps.now c.loop-one.one-index _ c.one-item.result c.loop-one-test.true c.one-item.is in
    λ κs met. (omega (arith, less), Prim.search rules)

pub run_turns-loop-left-preserved : goal.run_turns-loop-left-preserved
run_turns-loop-left-preserved g t c = record {
  same = λ known knows.
      let more = c.in_ok-more.ensures.gives known (c.loop-left.invariant.keeps.knows known knows) in
      turns_on _ _ _ c.loop-left.left _ _ (c.loop-left.invariant.same known knows) c.loop-left-test.true (rw c.if-not-more.false at more);
  keeps = keeps_on c.loop-left.invariant.keeps c.run_turn.ensures.keeps;
  faults = c.in_ok-more.ensures.cause ∙ c.loop-left.invariant.faults;
}

pub run_named-run_sequence-requires : goal.run_named-run_sequence-requires
run_named-run_sequence-requires g t c =
    let below : steps_size (unwrap_or (steps_named c.args.name.now (checked_trees c.args.self.now.set.now).sequences) NoSteps) ≤ all_size (checked_trees c.args.self.now.set.now).sequences = named_within c.args.name.now (checked_trees c.args.self.now.set.now).sequences in
    let same : steps_size (steps_tree c.steps_of.result.now) ≡ steps_size (unwrap_or (steps_named c.args.name.now (checked_trees c.args.self.now.set.now).sequences) NoSteps) = ap steps_size c.steps_of.ensures in
    let less = less_budget c.args.depth (10 * all_size (checked_trees c.args.self.now.set.now).sequences + 20) c.if-depth-eq0.false in
    λ κs met. (omega (arith, below, same, less), Prim.search rules)

pub call_listed-returns : goal.call_listed-returns
call_listed-returns g t c = record {
  gives = λ known knows.
      between (call_meaning c.args.self.now c.args.depth c.args.called.now.name (arg_trees c.args.args.now)) c.call_with-answer.new.held.end c.call_with-answer.result _ _ _ _
      (c.take_numbers-numbers.ensures.state.state c.args.target.now (known_part known (g.K.Sink.written c.args.sink.now))) refl (c.call_with-answer.ensures.gives known knows);
  keeps = (let k = keeps_after (c.take_numbers-numbers.ensures.state.keeps _) c.call_with-answer.ensures.keeps in
      record { made = record { on = λ w made. record { world = (k.made.on w made).world } }; knows = k.knows });
  cause = c.call_with-answer.ensures.cause;
}

pub call_two-returns : goal.call_two-returns
call_two-returns g t c = λ at later. record {
  gives = λ known knows.
      let first = c.evaluate_operand.ensures.keeps.knows known knows in
      let second = c.evaluate_operand-2.ensures.keeps.knows known first in
      two_means c.args.self.now c.args.depth c.args.called.now.name at later (tree c.args.first.now) (tree c.args.second.now) _ _ _ _ _ _ c.args.called.now.function c.call_function.new.held.end c.call_function.result c.args.called.now.found
      (c.in_ok-first.ensures.gives known knows) (c.in_ok-second.ensures.gives known first) (c.call_function.ensures.gives known second);
  keeps = keeps_on c.evaluate_operand.ensures.keeps (keeps_on c.evaluate_operand-2.ensures.keeps c.call_function.ensures.keeps);
  cause = caused_on c.call_function.new.held.end c.call_function.result _ _ _ (c.in_ok-second.ensures.cause ∙ c.in_ok-first.ensures.cause) c.call_function.ensures.cause;
}

pub assign-returns : goal.assign-returns
assign-returns g t c = record {
  gives = λ known knows. assigned_on c.args.name.now _ _ _ c.in_ok-number.number (c.in_ok-number.ensures.gives known knows)
      (c.store.ensures.state c.evaluate.new.target (known_part known (g.K.Sink.written c.evaluate.new.sink))
      ∙ ap (λ (x : List ℕ). set_visible x c.in_ok-number.number (state_seen known c.evaluate.new.held c.evaluate.new.target (g.K.Sink.written c.evaluate.new.sink))) c.as_str.ensures);
  keeps = keeps_before c.evaluate.ensures.keeps (c.store.ensures.keeps _);
  cause = c.in_ok-number.ensures.cause;
}

pub declare-returns-in_err-count_step : goal.declare-returns-in_err-count_step
declare-returns-in_err-count_step g t c = record {
  gives = λ known knows. stopped_means _ _ _ _ c.from_residual.ensures.0 (declare_first c.args.self.now c.args.depth (tree c.args.expr.now) c.count_step.new.held.end _ _ c.args.name.now ((c.in_err-count_step.ensures c.args.target.now).gives (known_part known (g.K.Sink.written c.args.sink.now))));
  keeps = keeps_made (c.count_step.ensures c.args.target.now).keeps;
  cause = stopped_caused _ _ _ _ c.from_residual.ensures.0 ((c.in_err-count_step.ensures c.args.target.now).cause (g.K.Sink.faults c.args.sink.now));
}

pub declare-returns-in_err-number : goal.declare-returns-in_err-number
declare-returns-in_err-number g t c = record {
  gives = λ known knows. stopped_means _ _ _ _ c.from_residual-in_err-number.ensures.0 (declare_value c.args.self.now c.args.depth (tree c.args.expr.now) c.evaluate.new.held.end _ _ _ c.args.name.now ((c.in_ok-count_step.ensures c.args.target.now).gives (known_part known (g.K.Sink.written c.args.sink.now))) (c.in_err-number.ensures.gives known knows));
  keeps = keeps_after (c.count_step.ensures c.args.target.now).keeps c.evaluate.ensures.keeps;
  cause = stopped_caused _ _ _ _ c.from_residual-in_err-number.ensures.0 (c.in_err-number.ensures.cause);
}

pub declare-returns-in-Ok : goal.declare-returns-in-Ok
declare-returns-in-Ok g t c = record {
  gives = λ known knows.
      declared_on c.args.name.now (value_meaning c.args.self.now c.args.depth (tree c.args.expr.now)) _ _ _ _ _ ((c.in_ok-count_step.ensures c.args.target.now).gives (known_part known (g.K.Sink.written c.args.sink.now))) (c.in_ok-number.ensures.gives known knows) (c.in-Ok.ensures.state.state c.evaluate.new.target (known_part known (g.K.Sink.written c.evaluate.new.sink)));
  keeps = keeps_after (c.count_step.ensures c.args.target.now).keeps (keeps_before c.evaluate.ensures.keeps (c.in-Ok.ensures.state.keeps _));
  cause = c.in_ok-number.ensures.cause;
}

pub declare-returns-in-Err : goal.declare-returns-in-Err
declare-returns-in-Err g t c = record {
  gives = λ known knows.
      declare_refused c.args.self.now c.args.depth (tree c.args.expr.now) _ _ _ _ c.args.name.now _ ((c.in_ok-count_step.ensures c.args.target.now).gives (known_part known (g.K.Sink.written c.args.sink.now))) (c.in_ok-number.ensures.gives known knows) (c.in-Err.ensures.same.state c.evaluate.new.target (known_part known (g.K.Sink.written c.evaluate.new.sink)));
  keeps = (let k = keeps_after (c.count_step.ensures c.args.target.now).keeps (keeps_before c.evaluate.ensures.keeps (c.in-Err.ensures.same.keeps _)) in
      record { made = record { on = λ w made. record { world = (k.made.on w made).world } }; knows = k.knows });
  cause = c.in_ok-number.ensures.cause;
}

pub run_expression-returns-in_err-count_step : goal.run_expression-returns-in_err-count_step
run_expression-returns-in_err-count_step g t c = record {
  gives = λ known knows. stopped_means _ _ _ _ c.from_residual.ensures.0 (plain_first c.args.self.now c.args.depth (tree c.args.expr.now) c.count_step.new.held.end _ _ ((c.in_err-count_step.ensures c.args.target.now).gives (known_part known (g.K.Sink.written c.args.sink.now))));
  keeps = keeps_made (c.count_step.ensures c.args.target.now).keeps;
  cause = stopped_caused _ _ _ _ c.from_residual.ensures.0 ((c.in_err-count_step.ensures c.args.target.now).cause (g.K.Sink.faults c.args.sink.now));
}

pub run_expression-returns-in_err-evaluate : goal.run_expression-returns-in_err-evaluate
run_expression-returns-in_err-evaluate g t c = record {
  gives = λ known knows. stopped_means _ _ _ _ c.from_residual-in_err-evaluate.ensures.0 (plain_value c.args.self.now c.args.depth (tree c.args.expr.now) c.evaluate.new.held.end _ _ _ ((c.in_ok-count_step.ensures c.args.target.now).gives (known_part known (g.K.Sink.written c.args.sink.now))) (c.in_err-evaluate.ensures.gives known knows));
  keeps = keeps_after (c.count_step.ensures c.args.target.now).keeps c.evaluate.ensures.keeps;
  cause = stopped_caused _ _ _ _ c.from_residual-in_err-evaluate.ensures.0 (c.in_err-evaluate.ensures.cause);
}

pub run_expression-returns : goal.run_expression-returns
run_expression-returns g t c = record {
  gives = λ known knows. plain_on (value_meaning c.args.self.now c.args.depth (tree c.args.expr.now)) _ _ _ _ ((c.in_ok-count_step.ensures c.args.target.now).gives (known_part known (g.K.Sink.written c.args.sink.now))) (c.in_ok-evaluate.ensures.gives known knows);
  keeps = keeps_after (c.count_step.ensures c.args.target.now).keeps c.evaluate.ensures.keeps;
  cause = c.in_ok-evaluate.ensures.cause;
}

pub run_turn-returns-in_err-count_step : goal.run_turn-returns-in_err-count_step
run_turn-returns-in_err-count_step g t c = record {
  gives = λ known knows. stopped_means _ _ _ _ c.from_residual.ensures.0 (ends_turn c.args.self.now c.args.depth (tree c.args.expr.now) c.count_step.new.held.end _ _ (steps_tree c.args.steps.now) ((c.in_err-count_step.ensures c.args.target.now).gives (known_part known (g.K.Sink.written c.args.sink.now))));
  keeps = keeps_made (c.count_step.ensures c.args.target.now).keeps;
  cause = stopped_caused _ _ _ _ c.from_residual.ensures.0 ((c.in_err-count_step.ensures c.args.target.now).cause (g.K.Sink.faults c.args.sink.now));
}

pub run_turn-returns-in_err-number : goal.run_turn-returns-in_err-number
run_turn-returns-in_err-number g t c = record {
  gives = λ known knows. stopped_means _ _ _ _ c.from_residual-in_err-number.ensures.0 (ends_test c.args.self.now c.args.depth c.evaluate.new.held.end _ _ _ (tree c.args.expr.now) (steps_tree c.args.steps.now) ((c.in_ok-count_step.ensures c.args.target.now).gives (known_part known (g.K.Sink.written c.args.sink.now))) (c.in_err-number.ensures.gives known knows));
  keeps = keeps_after (c.count_step.ensures c.args.target.now).keeps c.evaluate.ensures.keeps;
  cause = stopped_caused _ _ _ _ c.from_residual-in_err-number.ensures.0 (c.in_err-number.ensures.cause);
}

pub run_turn-returns-then-number-eq0 : goal.run_turn-returns-then-number-eq0
run_turn-returns-then-number-eq0 g t c = record {
  gives = λ known knows. turn_over (value_meaning c.args.self.now c.args.depth (tree c.args.expr.now)) (inside_meaning c.args.self.now c.args.depth (steps_tree c.args.steps.now)) _ _ _ _ ((c.in_ok-count_step.ensures c.args.target.now).gives (known_part known (g.K.Sink.written c.args.sink.now))) (c.in_ok-number.ensures.gives known knows) c.if-number-eq0.true;
  keeps = keeps_after (c.count_step.ensures c.args.target.now).keeps c.evaluate.ensures.keeps;
  cause = c.in_ok-number.ensures.cause;
}

pub run_turn-returns-in_err-run_inside : goal.run_turn-returns-in_err-run_inside
run_turn-returns-in_err-run_inside g t c = record {
  gives = λ known knows.
      let some : nat_eq c.in_ok-number.number 0 ≡ false = grind arith in
      let second = c.evaluate.ensures.keeps.knows known knows in
      stopped_means _ _ _ _ c.from_residual-in_err-run_inside.ensures.0 (ends_body c.args.self.now c.args.depth c.run_inside.new.held.end _ _ _ _ (tree c.args.expr.now) (steps_tree c.args.steps.now) _ ((c.in_ok-count_step.ensures c.args.target.now).gives (known_part known (g.K.Sink.written c.args.sink.now))) (c.in_ok-number.ensures.gives known knows) some (c.in_err-run_inside.ensures.gives known second));
  keeps = keeps_after (c.count_step.ensures c.args.target.now).keeps (keeps_on c.evaluate.ensures.keeps c.run_inside.ensures.keeps);
  cause = stopped_caused _ _ _ _ c.from_residual-in_err-run_inside.ensures.0 (cause_on _ _ _ _ c.in_ok-number.ensures.cause c.in_err-run_inside.ensures.cause);
}

pub run_turn-returns : goal.run_turn-returns
run_turn-returns g t c = record {
  gives = λ known knows.
      let some : nat_eq c.in_ok-number.number 0 ≡ false = grind arith in
      let second = c.evaluate.ensures.keeps.knows known knows in
      turn_on (value_meaning c.args.self.now c.args.depth (tree c.args.expr.now)) (inside_meaning c.args.self.now c.args.depth (steps_tree c.args.steps.now)) _ _ _ _ _ ((c.in_ok-count_step.ensures c.args.target.now).gives (known_part known (g.K.Sink.written c.args.sink.now))) (c.in_ok-number.ensures.gives known knows) some (c.in_ok-run_inside.ensures.gives known second);
  keeps = keeps_after (c.count_step.ensures c.args.target.now).keeps (keeps_on c.evaluate.ensures.keeps c.run_inside.ensures.keeps);
  cause = c.in_ok-run_inside.ensures.cause ∙ c.in_ok-number.ensures.cause;
}

pub run_inside-returns : goal.run_inside-returns
run_inside-returns g t c = record {
  gives = λ known knows. inside_on _ _ _ _ _ (c.in_ok-run_steps.ensures.gives known knows) c.local_count-count.ensures (c.cut_back.ensures.state _ _);
  keeps = keeps_before c.run_steps.ensures.keeps (c.cut_back.ensures.keeps _);
  cause = c.in_ok-run_steps.ensures.cause;
}

pub run_turns-returns-then-not-more : goal.run_turns-returns-then-not-more
run_turns-returns-then-not-more g t c = record {
  gives = λ known knows.
      let last = c.in_ok-more.ensures.gives known (c.loop-left.invariant.keeps.knows known knows) in
      turns_over _ _ _ c.loop-left.left _ _ (c.loop-left.invariant.same known knows) c.loop-left-test.true (rw c.if-not-more.true at last);
  keeps = keeps_on c.loop-left.invariant.keeps c.run_turn.ensures.keeps;
  cause = c.in_ok-more.ensures.cause ∙ c.loop-left.invariant.faults;
}

pub run_turns-returns-in_err-more : goal.run_turns-returns-in_err-more
run_turns-returns-in_err-more g t c = record {
  gives = λ known knows.
      stopped_means _ _ _ _ c.from_residual.ensures.0 (turns_fail _ _ _ c.loop-left.left _ _ c.run_turn.new.held.end (c.loop-left.invariant.same known knows) c.loop-left-test.true
      (adds_value c.args.self.now c.args.depth (tree c.args.expr.now)) (adds_inside c.args.self.now c.args.depth (steps_tree c.args.steps.now)) (c.in_err-more.ensures.gives known (c.loop-left.invariant.keeps.knows known knows)));
  keeps = keeps_on c.loop-left.invariant.keeps c.run_turn.ensures.keeps;
  cause = stopped_caused _ _ _ _ c.from_residual.ensures.0 (cause_on _ _ _ _ c.loop-left.invariant.faults c.in_err-more.ensures.cause);
}

pub run_sequence-returns-in_err-run_steps : goal.run_sequence-returns-in_err-run_steps
run_sequence-returns-in_err-run_steps g t c = record {
  gives = λ known knows. stopped_means _ _ _ _ c.from_residual.ensures.0 (entered_fail _ _ _ _ c.run_steps.new.held.end (c.take_locals-locals.ensures.none.state _ _) (c.in_err-run_steps.ensures.gives known knows));
  keeps = keeps_after (c.take_locals-locals.ensures.none.keeps _) c.run_steps.ensures.keeps;
  cause = stopped_caused _ _ _ _ c.from_residual.ensures.0 (c.in_err-run_steps.ensures.cause);
}

pub run_sequence-returns : goal.run_sequence-returns
run_sequence-returns g t c = record {
  gives = λ known knows.
      entered_on _ _ _ _ _ _ _ _ _ (c.take_locals-locals.ensures.none.state _ _) (c.in_ok-run_steps.ensures.gives known knows) c.dp-dp.ensures c.ap-ap.ensures c.control-control.ensures c.take_locals-locals.ensures.taken (c.give_back.ensures.state _ _);
  keeps = keeps_after (c.take_locals-locals.ensures.none.keeps _) (keeps_before c.run_steps.ensures.keeps (c.give_back.ensures.keeps _));
  cause = c.in_ok-run_steps.ensures.cause;
}

pub run_named-returns : goal.run_named-returns
run_named-returns g t c = record {
  gives = λ known knows.
      sequence_on c.args.self.now.turn_us (checked_trees c.args.self.now.set.now) c.args.depth c.args.name.now _ _ c.run_sequence.new.held.end c.run_sequence.result (steps_tree c.steps_of.result.now) c.if-depth-eq0.false c.steps_of.ensures (c.run_sequence.ensures.gives known knows);
  keeps = c.run_sequence.ensures.keeps;
  cause = c.run_sequence.ensures.cause;
}

pub run_statement-returns-in-Empty : goal.run_statement-returns-in-Empty
unfolding statement
run_statement-returns-in-Empty g t c = rw c.in-Empty.is (runs_with_sink (c.count_step.ensures c.args.target.now))

pub call_two-returns-in_err-second : goal.call_two-returns-in_err-second
call_two-returns-in_err-second g t c = λ at later. record {
  gives = λ known knows.
      let first = c.evaluate_operand.ensures.keeps.knows known knows in
      stopped_means _ _ _ _ c.from_residual-in_err-second.ensures.0
      (ends_second c.args.self.now c.args.depth c.args.called.now.name c.evaluate_operand-2.new.held.end _ _ _ at later (tree c.args.first.now) (tree c.args.second.now) _
      (c.in_ok-first.ensures.gives known knows) (c.in_err-second.ensures.gives known first));
  keeps = keeps_on c.evaluate_operand.ensures.keeps c.evaluate_operand-2.ensures.keeps;
  cause = stopped_caused _ _ _ _ c.from_residual-in_err-second.ensures.0 (cause_on _ _ _ _ c.in_ok-first.ensures.cause c.in_err-second.ensures.cause);
}

pub call-returns-in-Number : goal.call-returns-in-Number
call-returns-in-Number g t c =
    let at = first_place c.args.called.now.name.at (arg_trees c.args.args.now) in
    let same : arg_trees c.args.args.now ≡ one_number at (tree c.in-Number.only) = Prim.search (rules, one_listed) in
    rw same
    (subst (λ e. RunsDirect (call_meaning c.args.self.now c.args.depth c.args.called.now.name (one_number at (tree e))) g.K.Sink.written g.K.Sink.faults c.args.held.now c.args.target.now c.args.sink.now c.call_one.new.held c.call_one.new.target c.call_one.new.sink c.call_one.result)
    (first_of (Prim.search rules, grind (arith, common_steps))) (c.call_one.ensures at))

pub call-returns-in-Number-2 : goal.call-returns-in-Number-2
call-returns-in-Number-2 g t c =
    let at = first_place c.args.called.now.name.at (arg_trees c.args.args.now) in
    let later = second_place c.args.called.now.name.at (arg_trees c.args.args.now) in
    let same : arg_trees c.args.args.now ≡ two_numbers at (tree c.in-Number-2.first) later (tree c.in-Number-2.second) = Prim.search (rules, two_listed) in
    rw same
    (two_same (λ e k. RunsDirect (call_meaning c.args.self.now c.args.depth c.args.called.now.name (two_numbers at (tree e) later (tree k))) g.K.Sink.written g.K.Sink.faults c.args.held.now c.args.target.now c.args.sink.now c.call_two.new.held c.call_two.new.target c.call_two.new.sink c.call_two.result)
    (first_of (Prim.search rules, grind (arith, common_steps))) (first_of (Prim.search rules, grind (arith, common_steps))) (c.call_two.ensures at later))
