use Rattle.std.proofs.Common.{◌≡◌, ◌∙◌, ◌+◌, ◌*◌, ◌<◌, ◌≤◌, ℕ, Bool, false, cond, List, [], ◌∷◌, ◌++◌, Option, OnOk, Ok, Err, nat_eq, unwrap_or, option_map, drop, get_or, ap, refl, sym, subst, rules, arith}
use Rattle.expr_grammar.specs.Tree.{tree, arg_tree, arg_trees, stmt_tree, code_trees}
use Rattle.expr_grammar.specs.declared.code.Arg.{Arg}
use Rattle.expr_grammar.specs.declared.code.Expr.{Expr}
use Rattle.expr_grammar.specs.declared.code.Name.{Name}
use Rattle.expr_grammar.specs.Tree as t
use Rattle.expr_grammar.specs.Tree.{Tree}
use Rattle.code_check.proofs.TreeLemmas.{tree-Binary, tree-Cond, tree-Name}
use Rattle.seq_check.proofs.StepLemmas.{step_tree-Control}
use Rattle.sequence_trees.specs.Trees as k
use Rattle.sequence_trees.specs.Trees.{CodeStep}
use Rattle.expr_grammar.specs.declared.code.Stmt.{Stmt}
use Rattle.sequence_trees.specs.declared.steps.CheckedStep.{CheckedStep}
use Rattle.sequence_rules.specs.Variables.{set_visible, visible}
use Rattle.log_lines.specs.Places.{condition_spot, spot_in_step}
use Rattle.run_events.specs.Events as e
use Rattle.run_events.specs.Events.{Event}
use Rattle.run_events.specs.OfSteps as os
use Rattle.run_events.specs.OfValues as o
use Rattle.seq_check.specs.Answers.{checked_trees}
use Rattle.sequence_trees.specs.Trees.{NoSteps, step_tree, steps_named, steps_tree}
use Rattle.sequence_trees.specs.declared.spot.Part.TheVariants as part
use Rattle.sequence_rules.specs.Direct.{Now, direct}
use Rattle.sequence_rules.specs.Machine.{State}
use Rattle.sequence_rules.specs.Polls as p
use Rattle.sequence_rules.specs.Steps as m
use Rattle.sequence_rules.specs.Values as v
use Rattle.sequence_rules.proofs.LoopLemmas as l
use Rattle.sequence_rules.proofs.Sizes.{arg_size, args_size, stmt_size, block_size, step_size, steps_size, all_size, arg_within, stmt_within, step_within, named_within, less_budget}
use Rattle.logged_calls.specs.Held.{CodeEndsAs, Means, Unless}
use Rattle.logged_calls.proofs.PollLemmas.{no_zero}
use Rattle.logged_runs.specs.Seen.{NotesByTurns}
use Rattle.logged_runs.specs.Walk.{calls_in_walk, events_in_walk, now, seen_so_far, step_on_path}
use Rattle.logged_runs.proofs.Ends.{assigned_on, declared_gives, declare_value, ends_counted, plain_value}
use Rattle.logged_runs.proofs.LoopEnds.{args_on, block_on, done_on, turns_fail, turns_none, turns_on, turns_over, sequence_on, entered_fail}
use Rattle.logged_runs.proofs.Loops.{args_head, args_none, block_head, block_none, steps_head, steps_none}
use Rattle.logged_runs.proofs.NoteLemmas.{event_then, is_zero, means_stopped, more_noted, notes_as, notes_event, notes_first, notes_from, notes_none, notes_second, notes_to, notes_value, or_refused, over_noted, part_stops, quiet_stops, quiet_then, refused, refused_ends, stop_noted, take_first, take_second, unless_as, unless_ended, unless_from, unless_stopped, value_then}
use Rattle.logged_runs.proofs.Turns.{loop_first, loop_last, loop_more, loop_over, loop_stops}
use Rattle.logged_runs.proofs.WalkLemmas.{and_needs, call_is, call_same, call_seen, called_ends, called_gives, condition_ends, condition_gives, deep_is, means_from, none_deep, or_needs, count_is, left_gives, named_is, strict_is, strict_needs, tested_ends, tested_false, tested_true, turn_ends, turn_gives}
use Rattle.logged_runs.proofs.runner.LoggedRunner.+walk.Goals as goal

pub evaluate_strict-returns-in_err-left-clause-noted : goal.evaluate_strict-returns-in_err-left-clause-noted
evaluate_strict-returns-in_err-left-clause-noted t c = unless_ended _ c.evaluate.new.walked.held.end c.in_err-left.field-0.0 _ c.from_residual.ensures.0
    (part_stops ℕ c.args.self.now.turns _ _ _ _ c.evaluate.new.walked.held.end c.in_err-left.field-0.0 c.in_err-left.field-0.0 _ _ c.in_err-left.ensures.gives c.in_err-left.ensures.noted)

pub evaluate_strict-returns-in_err-right-clause-noted : goal.evaluate_strict-returns-in_err-right-clause-noted
evaluate_strict-returns-in_err-right-clause-noted t c = unless_ended _ c.evaluate-2.new.walked.held.end c.in_err-right.field-0.0 _ c.from_residual-in_err-right.ensures.0
    (value_then {B = ℕ} c.args.self.now.turns _ _ _ _ _ c.evaluate-2.new.walked.held.end (Err c.in_err-right.field-0.0) _ c.in_ok-left.left _ c.in_ok-left.ensures.gives c.in_ok-left.ensures.noted c.in_err-right.ensures.noted)

pub evaluate_strict-returns-in-Some-clause-noted : goal.evaluate_strict-returns-in-Some-clause-noted
evaluate_strict-returns-in-Some-clause-noted t c = notes_value c.args.self.now.turns _ _ _ _ _ _ c.in_ok-left.left _ c.in_ok-left.ensures.gives c.in_ok-left.ensures.noted c.in_ok-right.ensures.noted

pub evaluate_strict-returns-in-None-clause-noted : goal.evaluate_strict-returns-in-None-clause-noted
evaluate_strict-returns-in-None-clause-noted t c = notes_value c.args.self.now.turns _ _ _ _ _ _ c.in_ok-left.left _ c.in_ok-left.ensures.gives c.in_ok-left.ensures.noted c.in_ok-right.ensures.noted

pub evaluate_and-returns-in_err-left-clause-noted : goal.evaluate_and-returns-in_err-left-clause-noted
evaluate_and-returns-in_err-left-clause-noted t c = unless_ended _ c.evaluate.new.walked.held.end c.in_err-left.field-0.0 _ c.from_residual.ensures.0
    (part_stops ℕ c.args.self.now.turns _ _ _ _ c.evaluate.new.walked.held.end c.in_err-left.field-0.0 c.in_err-left.field-0.0 _ _ c.in_err-left.ensures.gives c.in_err-left.ensures.noted)

pub evaluate_or-returns-in_err-left-clause-noted : goal.evaluate_or-returns-in_err-left-clause-noted
evaluate_or-returns-in_err-left-clause-noted t c = unless_ended _ c.evaluate.new.walked.held.end c.in_err-left.field-0.0 _ c.from_residual.ensures.0
    (part_stops ℕ c.args.self.now.turns _ _ _ _ c.evaluate.new.walked.held.end c.in_err-left.field-0.0 c.in_err-left.field-0.0 _ _ c.in_err-left.ensures.gives c.in_err-left.ensures.noted)

pub evaluate_choice-returns-in_err-number-clause-noted : goal.evaluate_choice-returns-in_err-number-clause-noted
evaluate_choice-returns-in_err-number-clause-noted t c = unless_ended _ c.evaluate.new.walked.held.end c.in_err-number.field-0.0 _ c.from_residual.ensures.0
    (part_stops ℕ c.args.self.now.turns _ _ _ _ c.evaluate.new.walked.held.end c.in_err-number.field-0.0 c.in_err-number.field-0.0 _ _ c.in_err-number.ensures.gives c.in_err-number.ensures.noted)

pub evaluate_and-returns-then-left-eq0-clause-noted : goal.evaluate_and-returns-then-left-eq0-clause-noted
evaluate_and-returns-then-left-eq0-clause-noted t c = notes_value c.args.self.now.turns _ _ _ _ _ _ c.in_ok-left.left _ c.in_ok-left.ensures.gives c.in_ok-left.ensures.noted (notes_first c.args.self.now.turns _ _ _ _ (nat_eq c.in_ok-left.left 0) (is_zero _ c.if-left-eq0.true) (notes_none c.args.self.now.turns _))

pub evaluate_and-returns-in_err-right-clause-noted : goal.evaluate_and-returns-in_err-right-clause-noted
evaluate_and-returns-in_err-right-clause-noted t c = unless_ended _ c.evaluate-2.new.walked.held.end c.in_err-right.field-0.0 _ c.from_residual-in_err-right.ensures.0
    (value_then {B = ℕ} c.args.self.now.turns _ _ _ _ _ c.evaluate-2.new.walked.held.end (Err c.in_err-right.field-0.0) _ c.in_ok-left.left _ c.in_ok-left.ensures.gives c.in_ok-left.ensures.noted
    (take_second {A = ℕ} c.args.self.now.turns _ _ _ _ c.evaluate-2.new.walked.held.end (Err c.in_err-right.field-0.0) (nat_eq c.in_ok-left.left 0) (no_zero _ c.if-left-eq0.false) c.in_err-right.ensures.noted))

pub evaluate_and-returns-clause-noted : goal.evaluate_and-returns-clause-noted
evaluate_and-returns-clause-noted t c = notes_value c.args.self.now.turns _ _ _ _ _ _ c.in_ok-left.left _ c.in_ok-left.ensures.gives c.in_ok-left.ensures.noted (notes_second c.args.self.now.turns _ _ _ _ (nat_eq c.in_ok-left.left 0) (no_zero _ c.if-left-eq0.false) c.in_ok-right.ensures.noted)

pub evaluate_or-returns-then-left-ne0-clause-noted : goal.evaluate_or-returns-then-left-ne0-clause-noted
evaluate_or-returns-then-left-ne0-clause-noted t c = notes_value c.args.self.now.turns _ _ _ _ _ _ c.in_ok-left.left _ c.in_ok-left.ensures.gives c.in_ok-left.ensures.noted (notes_second c.args.self.now.turns _ _ _ _ (nat_eq c.in_ok-left.left 0) (no_zero _ c.if-left-ne0.true) (notes_none c.args.self.now.turns _))

pub evaluate_or-returns-in_err-right-clause-noted : goal.evaluate_or-returns-in_err-right-clause-noted
evaluate_or-returns-in_err-right-clause-noted t c = unless_ended _ c.evaluate-2.new.walked.held.end c.in_err-right.field-0.0 _ c.from_residual-in_err-right.ensures.0
    (value_then {B = ℕ} c.args.self.now.turns _ _ _ _ _ c.evaluate-2.new.walked.held.end (Err c.in_err-right.field-0.0) _ c.in_ok-left.left _ c.in_ok-left.ensures.gives c.in_ok-left.ensures.noted
    (take_first {A = ℕ} c.args.self.now.turns _ _ _ _ c.evaluate-2.new.walked.held.end (Err c.in_err-right.field-0.0) (nat_eq c.in_ok-left.left 0) (is_zero _ c.if-left-ne0.false) c.in_err-right.ensures.noted))

pub evaluate_or-returns-clause-noted : goal.evaluate_or-returns-clause-noted
evaluate_or-returns-clause-noted t c = notes_value c.args.self.now.turns _ _ _ _ _ _ c.in_ok-left.left _ c.in_ok-left.ensures.gives c.in_ok-left.ensures.noted (notes_first c.args.self.now.turns _ _ _ _ (nat_eq c.in_ok-left.left 0) (is_zero _ c.if-left-ne0.false) c.in_ok-right.ensures.noted)

pub evaluate_binary-returns-in-And-clause-noted : goal.evaluate_binary-returns-in-And-clause-noted
evaluate_binary-returns-in-And-clause-noted t c = unless_as c.args.self.now.turns _ _ _ _ c.evaluate_and.new.walked.held.end c.evaluate_and.result (λ shows. and_needs c.args.op (v.value (direct false) (calls_in_walk c.args.self.now c.args.depth) (tree c.args.left.now) (now c.args.walked.now c.args.target.now)) (o.value_events (calls_in_walk c.args.self.now c.args.depth) (events_in_walk shows c.args.self.now c.args.depth) (tree c.args.left.now) (now c.args.walked.now c.args.target.now)) (λ r. o.value_events (calls_in_walk c.args.self.now c.args.depth) (events_in_walk shows c.args.self.now c.args.depth) (tree c.args.right.now) r) c.in-And.is) c.evaluate_and.ensures.noted

pub evaluate_binary-returns-in-Or-clause-noted : goal.evaluate_binary-returns-in-Or-clause-noted
evaluate_binary-returns-in-Or-clause-noted t c = unless_as c.args.self.now.turns _ _ _ _ c.evaluate_or.new.walked.held.end c.evaluate_or.result (λ shows. or_needs c.args.op (v.value (direct false) (calls_in_walk c.args.self.now c.args.depth) (tree c.args.left.now) (now c.args.walked.now c.args.target.now)) (o.value_events (calls_in_walk c.args.self.now c.args.depth) (events_in_walk shows c.args.self.now c.args.depth) (tree c.args.left.now) (now c.args.walked.now c.args.target.now)) (λ r. o.value_events (calls_in_walk c.args.self.now c.args.depth) (events_in_walk shows c.args.self.now c.args.depth) (tree c.args.right.now) r) c.in-Or.is) c.evaluate_or.ensures.noted

pub evaluate_binary-returns-in_default : goal.evaluate_binary-returns-in_default
evaluate_binary-returns-in_default t c = record {
  gives = subst (λ x. Means c.evaluate_strict.new.walked.held.end c.evaluate_strict.result (now c.evaluate_strict.new.walked c.evaluate_strict.new.target) x) (strict_is c.args.op (v.value (direct false) (calls_in_walk c.args.self.now c.args.depth) (tree c.args.left.now) (now c.args.walked.now c.args.target.now)) (v.value (direct false) (calls_in_walk c.args.self.now c.args.depth) (tree c.args.right.now)) c.in_default.not-And c.in_default.not-Or) c.evaluate_strict.ensures.gives;
  noted = unless_as c.args.self.now.turns _ _ _ _ c.evaluate_strict.new.walked.held.end c.evaluate_strict.result (λ shows. strict_needs c.args.op (v.value (direct false) (calls_in_walk c.args.self.now c.args.depth) (tree c.args.left.now) (now c.args.walked.now c.args.target.now)) (o.value_events (calls_in_walk c.args.self.now c.args.depth) (events_in_walk shows c.args.self.now c.args.depth) (tree c.args.left.now) (now c.args.walked.now c.args.target.now)) (λ r. o.value_events (calls_in_walk c.args.self.now c.args.depth) (events_in_walk shows c.args.self.now c.args.depth) (tree c.args.right.now) r) c.in_default.not-And c.in_default.not-Or) c.evaluate_strict.ensures.noted;
}

pub call_known-returns-in_default : goal.call_known-returns-in_default
call_known-returns-in_default t c = record {
  gives = subst (λ x. Means c.call_function.new.self.held.end c.call_function.result (now c.call_function.new.self c.call_function.new.target) x) (call_is (calls_in_walk c.args.self.now c.args.depth) (λ shows. events_in_walk shows c.args.self.now c.args.depth) c.args.function c.args.text.now c.args.numbers.now (now c.args.walked.now c.args.target.now) c.in_default.not-Sequence) c.call_function.ensures.gives;
  noted = unless_as c.args.self.now.turns _ _ _ _ c.call_function.new.self.held.end c.call_function.result (λ shows. call_seen (calls_in_walk c.args.self.now c.args.depth) (λ shows. events_in_walk shows c.args.self.now c.args.depth) shows c.args.function c.args.text.now c.args.numbers.now (now c.args.walked.now c.args.target.now) c.in_default.not-Sequence) (c.call_function.ensures.noted c.args.self.now.turns);
}

pub call_sequence-returns-in_err-run_named-clause-gives : goal.call_sequence-returns-in_err-run_named-clause-gives
call_sequence-returns-in_err-run_named-clause-gives t c = means_stopped c.run_named.new.walked.held.end _ _ _ c.from_residual-in_err-run_named.ensures.0 (called_ends c.args.self.now c.args.depth c.run_named.new.walked.held.end _ (now c.args.walked.now c.args.target.now) (now c.call.new.self c.args.target.now) c.args.name.now (c.in_ok-call.ensures.state _) c.in_err-run_named.ensures.gives)

pub call_sequence-returns-in_err-run_named-clause-noted : goal.call_sequence-returns-in_err-run_named-clause-noted
unfolding o.called_events
call_sequence-returns-in_err-run_named-clause-noted t c = unless_ended _ c.run_named.new.walked.held.end c.in_err-run_named.field-0.0 _ c.from_residual-in_err-run_named.ensures.0
    (event_then {A = ℕ} c.args.self.now.turns _ _ _ (e.Calls c.args.name.now) (λ q shows. (events_in_walk shows c.args.self.now c.args.depth) c.args.name.now q ++ e.events_after ((calls_in_walk c.args.self.now c.args.depth) c.args.name.now q) (λ done r. e.Returns ∷ [])) c.run_named.new.walked.held.end (Err c.in_err-run_named.field-0.0) (now c.args.walked.now c.args.target.now) (now c.call.new.self c.args.target.now) (c.in_ok-call.ensures.state _) (c.in_ok-call.ensures.noted c.args.self.now.turns)
    (part_stops ℕ c.args.self.now.turns _ _ _ _ c.run_named.new.walked.held.end c.in_err-run_named.field-0.0 c.in_err-run_named.field-0.0 _ _ c.in_err-run_named.ensures.gives c.in_err-run_named.ensures.noted))

pub call_sequence-returns-clause-gives : goal.call_sequence-returns-clause-gives
call_sequence-returns-clause-gives t c = called_gives c.args.self.now c.args.depth c.args.name.now (now c.args.walked.now c.args.target.now) (now c.call.new.self c.args.target.now) _ _ (c.in_ok-call.ensures.state _) c.in_ok-run_named.ensures.gives (c.in_ok-return_back.ensures.state _)

pub call_sequence-returns-clause-noted : goal.call_sequence-returns-clause-noted
unfolding o.called_events
call_sequence-returns-clause-noted t c = notes_event c.args.self.now.turns _ _ _ (e.Calls c.args.name.now) (λ q shows. (events_in_walk shows c.args.self.now c.args.depth) c.args.name.now q ++ e.events_after ((calls_in_walk c.args.self.now c.args.depth) c.args.name.now q) (λ done r. e.Returns ∷ [])) (now c.args.walked.now c.args.target.now) (now c.call.new.self c.args.target.now) (c.in_ok-call.ensures.state _) (c.in_ok-call.ensures.noted c.args.self.now.turns)
    (notes_value c.args.self.now.turns _ _ _ _ (λ done r shows. e.Returns ∷ []) _ _ _ c.in_ok-run_named.ensures.gives c.in_ok-run_named.ensures.noted (c.in_ok-return_back.ensures.noted c.args.self.now.turns))

pub run_named-returns-then-depth-eq0-clause-noted : goal.run_named-returns-then-depth-eq0-clause-noted
run_named-returns-then-depth-eq0-clause-noted t c = notes_as c.args.self.now.turns _ _ (λ shows. []) _ (λ shows. none_deep c.args.self.now c.args.depth c.args.name.now (now c.args.walked.now c.args.target.now) shows c.if-depth-eq0.true) (notes_none c.args.self.now.turns _)

pub run_named-returns-clause-gives : goal.run_named-returns-clause-gives
run_named-returns-clause-gives t c = sequence_on c.args.self.now c.args.depth c.args.name.now _ _ c.run_sequence.new.walked.held.end c.run_sequence.result (steps_tree c.steps_of.result.now) c.if-depth-eq0.false c.steps_of.ensures c.run_sequence.ensures.gives

pub run_named-returns-clause-noted : goal.run_named-returns-clause-noted
run_named-returns-clause-noted t c = unless_as c.args.self.now.turns _ _ _ _ c.run_sequence.new.walked.held.end c.run_sequence.result (λ shows. deep_is c.args.self.now c.args.depth c.args.name.now (now c.args.walked.now c.args.target.now) (steps_tree c.steps_of.result.now) shows c.if-depth-eq0.false c.steps_of.ensures) c.run_sequence.ensures.noted

pub run_named-run_sequence-requires : goal.run_named-run_sequence-requires
run_named-run_sequence-requires t c =
    let below : steps_size (unwrap_or (steps_named c.args.name.now (checked_trees c.args.self.now.set.now).sequences) NoSteps) ≤ all_size (checked_trees c.args.self.now.set.now).sequences = named_within c.args.name.now (checked_trees c.args.self.now.set.now).sequences in
    let same : steps_size (steps_tree c.steps_of.result.now) ≡ steps_size (unwrap_or (steps_named c.args.name.now (checked_trees c.args.self.now.set.now).sequences) NoSteps) = ap steps_size c.steps_of.ensures in
    let less = less_budget c.args.depth (10 * all_size (checked_trees c.args.self.now.set.now).sequences + 20) c.if-depth-eq0.false in
    (omega (arith, below, same, less), Prim.search rules)

pub run_sequence-returns-clause-gives : goal.run_sequence-returns-clause-gives
unfolding direct
run_sequence-returns-clause-gives t c = l.entered_on (direct false) _ _ _ _ _ _ _ _ _ (c.take_locals-locals.ensures.changes.state _) c.in_ok-run_steps.ensures.gives c.get_global-dp.ensures c.get_global-ap.ensures c.get_global-control.ensures c.take_locals-locals.ensures.taken (c.give_back.ensures.state _)

pub evaluate_arguments-evaluate_argument-requires : goal.evaluate_arguments-evaluate_argument-requires
evaluate_arguments-evaluate_argument-requires t c =
    let less : arg_size (arg_tree c.arg-item.result) < args_size (arg_trees c.args.args.now) = arg_within c.args.args.now c.loop-arg.arg-index _ c.arg-item.result c.loop-arg-test.true c.arg-item.is in
    (omega (arith, less), Prim.search rules)

pub evaluate_arguments-loop-arg-preserved : goal.evaluate_arguments-loop-arg-preserved
evaluate_arguments-loop-arg-preserved t c = record {
  same = args_on c.args.self.now c.args.depth _ c.args.args.now c.loop-arg.arg-index _ c.loop-arg.numbers.items c.evaluate_argument.new.numbers.items (now c.loop-arg.walked c.loop-arg.target) (now c.evaluate_argument.new.walked c.evaluate_argument.new.target) c.loop-arg.invariant.same c.loop-arg-test.true
      (subst (λ a. v.argument (direct false) (calls_in_walk c.args.self.now c.args.depth) (arg_tree a) c.loop-arg.numbers.items (now c.loop-arg.walked c.loop-arg.target) ≡ Ok (c.evaluate_argument.new.numbers.items, now c.evaluate_argument.new.walked c.evaluate_argument.new.target)) c.arg-item.is c.in_ok-evaluate_argument.ensures.gives);
  noted = more_noted c.args.self.now.turns (seen_so_far c.args.walked.now) (seen_so_far c.loop-arg.walked) (seen_so_far c.evaluate_argument.new.walked) (λ shows. o.argument_events (calls_in_walk c.args.self.now c.args.depth) (events_in_walk shows c.args.self.now c.args.depth) (arg_tree (get_or c.args.args.now c.loop-arg.arg-index _)) (now c.loop-arg.walked c.loop-arg.target)) _ _ (λ g r shows. o.arguments_events (calls_in_walk c.args.self.now c.args.depth) (events_in_walk shows c.args.self.now c.args.depth) (arg_trees (drop (c.loop-arg.arg-index + 1) c.args.args.now)) g r) _ c.evaluate_argument.new.numbers.items _ c.loop-arg.invariant.noted
      (λ shows. args_head (calls_in_walk c.args.self.now c.args.depth) (λ shows. events_in_walk shows c.args.self.now c.args.depth) c.args.args.now c.loop-arg.arg-index _ c.loop-arg.numbers.items (now c.loop-arg.walked c.loop-arg.target) c.loop-arg-test.true shows)
      (subst (λ a. v.argument (direct false) (calls_in_walk c.args.self.now c.args.depth) (arg_tree a) c.loop-arg.numbers.items (now c.loop-arg.walked c.loop-arg.target) ≡ Ok (c.evaluate_argument.new.numbers.items, now c.evaluate_argument.new.walked c.evaluate_argument.new.target)) c.arg-item.is c.in_ok-evaluate_argument.ensures.gives)
      (subst (λ a. NotesByTurns c.args.self.now.turns (seen_so_far c.loop-arg.walked) (seen_so_far c.evaluate_argument.new.walked) (λ shows. o.argument_events (calls_in_walk c.args.self.now c.args.depth) (events_in_walk shows c.args.self.now c.args.depth) (arg_tree a) (now c.loop-arg.walked c.loop-arg.target))) c.arg-item.is c.in_ok-evaluate_argument.ensures.noted);
}

pub evaluate_arguments-returns-clause-noted : goal.evaluate_arguments-returns-clause-noted
evaluate_arguments-returns-clause-noted t c = over_noted c.args.self.now.turns (seen_so_far c.args.walked.now) _ _ _ c.loop-arg.invariant.noted (λ shows. args_none (calls_in_walk c.args.self.now c.args.depth) (λ shows. events_in_walk shows c.args.self.now c.args.depth) c.args.args.now c.loop-arg.arg-index c.loop-arg.numbers.items (now c.loop-arg.walked c.loop-arg.target) c.loop-arg-test.false shows)

pub evaluate_choice-returns-then-number-eq0-clause-noted : goal.evaluate_choice-returns-then-number-eq0-clause-noted
evaluate_choice-returns-then-number-eq0-clause-noted t c = value_then {B = ℕ} c.args.self.now.turns _ _ _ _ _ c.evaluate-then-number-eq0.new.walked.held.end c.evaluate-then-number-eq0.result _ c.in_ok-number.number _ c.in_ok-number.ensures.gives c.in_ok-number.ensures.noted
    (take_first c.args.self.now.turns _ _ _ _ c.evaluate-then-number-eq0.new.walked.held.end c.evaluate-then-number-eq0.result (nat_eq c.in_ok-number.number 0) (is_zero _ c.if-number-eq0.true) c.evaluate-then-number-eq0.ensures.noted)

pub evaluate_choice-returns-else-number-eq0-clause-noted : goal.evaluate_choice-returns-else-number-eq0-clause-noted
evaluate_choice-returns-else-number-eq0-clause-noted t c = value_then {B = ℕ} c.args.self.now.turns _ _ _ _ _ c.evaluate-else-number-eq0.new.walked.held.end c.evaluate-else-number-eq0.result _ c.in_ok-number.number _ c.in_ok-number.ensures.gives c.in_ok-number.ensures.noted
    (take_second c.args.self.now.turns _ _ _ _ c.evaluate-else-number-eq0.new.walked.held.end c.evaluate-else-number-eq0.result (nat_eq c.in_ok-number.number 0) (no_zero _ c.if-number-eq0.false) c.evaluate-else-number-eq0.ensures.noted)

pub assign-returns-clause-gives : goal.assign-returns-clause-gives
assign-returns-clause-gives t c = assigned_on c.args.name.now _ c.in_ok-number.number _ (now c.store.new.self c.evaluate.new.target) _ c.in_ok-number.ensures.gives
    (c.store.ensures.state _ ∙ ap (λ (n : List ℕ). set_visible n c.in_ok-number.number (now c.evaluate.new.walked c.evaluate.new.target)) c.as_str.ensures) (c.in_ok-assign.ensures.state _)

pub assign-returns-clause-noted : goal.assign-returns-clause-noted
assign-returns-clause-noted t c = notes_value c.args.self.now.turns _ _ _ _ _ _ c.in_ok-number.number _ c.in_ok-number.ensures.gives c.in_ok-number.ensures.noted
    (notes_from c.args.self.now.turns _ _ _ _ c.store.ensures.seen (notes_as c.args.self.now.turns _ _ _ _ (λ shows. ap (λ (n : List ℕ). e.Assigns n c.in_ok-number.number ∷ []) c.as_str-2.ensures) (c.in_ok-assign.ensures.noted c.args.self.now.turns)))

pub call-returns-in_err-evaluate_arguments-clause-noted : goal.call-returns-in_err-evaluate_arguments-clause-noted
call-returns-in_err-evaluate_arguments-clause-noted t c =
    unless_ended _ c.evaluate_arguments.new.walked.held.end c.in_err-evaluate_arguments.field-0.0 _ c.from_residual.ensures.0
    (part_stops {A = List ℕ} ℕ c.args.self.now.turns (seen_so_far c.args.walked.now) (seen_so_far c.evaluate_arguments.new.walked) (λ shows. o.arguments_events (calls_in_walk c.args.self.now c.args.depth) (events_in_walk shows c.args.self.now c.args.depth) (arg_trees c.args.args.now) [] (now c.args.walked.now c.args.target.now)) _ c.evaluate_arguments.new.walked.held.end c.in_err-evaluate_arguments.field-0.0 c.in_err-evaluate_arguments.field-0.0 (v.arguments (direct false) (calls_in_walk c.args.self.now c.args.depth) (arg_trees c.args.args.now) [] (now c.args.walked.now c.args.target.now)) (now c.evaluate_arguments.new.walked c.evaluate_arguments.new.target)
    (subst (λ (n : List ℕ). CodeEndsAs c.evaluate_arguments.new.walked.held.end (now c.evaluate_arguments.new.walked c.evaluate_arguments.new.target) (v.arguments (direct false) (calls_in_walk c.args.self.now c.args.depth) (arg_trees c.args.args.now) n (now c.args.walked.now c.args.target.now))) c.new-numbers.ensures.items c.in_err-evaluate_arguments.ensures.gives)
    (subst (λ (n : List ℕ). Unless {A = List ℕ} c.evaluate_arguments.new.walked.held.end (Err c.in_err-evaluate_arguments.field-0.0) (NotesByTurns c.args.self.now.turns (seen_so_far c.args.walked.now) (seen_so_far c.evaluate_arguments.new.walked) (λ shows. o.arguments_events (calls_in_walk c.args.self.now c.args.depth) (events_in_walk shows c.args.self.now c.args.depth) (arg_trees c.args.args.now) n (now c.args.walked.now c.args.target.now)))) c.new-numbers.ensures.items c.in_err-evaluate_arguments.ensures.noted))

pub call-returns-clause-noted : goal.call-returns-clause-noted
call-returns-clause-noted t c =
    value_then {A = List ℕ} {B = ℕ} c.args.self.now.turns (seen_so_far c.args.walked.now) (seen_so_far c.evaluate_arguments.new.walked) (seen_so_far c.call_function.new.walked) (λ shows. o.arguments_events (calls_in_walk c.args.self.now c.args.depth) (events_in_walk shows c.args.self.now c.args.depth) (arg_trees c.args.args.now) [] (now c.args.walked.now c.args.target.now)) _ c.call_function.new.walked.held.end c.call_function.result
    (v.arguments (direct false) (calls_in_walk c.args.self.now c.args.depth) (arg_trees c.args.args.now) [] (now c.args.walked.now c.args.target.now)) c.evaluate_arguments.new.numbers.items (now c.evaluate_arguments.new.walked c.evaluate_arguments.new.target)
    (subst (λ (n : List ℕ). v.arguments (direct false) (calls_in_walk c.args.self.now c.args.depth) (arg_trees c.args.args.now) n (now c.args.walked.now c.args.target.now) ≡ Ok (c.evaluate_arguments.new.numbers.items, (now c.evaluate_arguments.new.walked c.evaluate_arguments.new.target))) c.new-numbers.ensures.items c.in_ok-evaluate_arguments.ensures.gives)
    (subst (λ (n : List ℕ). NotesByTurns c.args.self.now.turns (seen_so_far c.args.walked.now) (seen_so_far c.evaluate_arguments.new.walked) (λ shows. o.arguments_events (calls_in_walk c.args.self.now c.args.depth) (events_in_walk shows c.args.self.now c.args.depth) (arg_trees c.args.args.now) n (now c.args.walked.now c.args.target.now))) c.new-numbers.ensures.items c.in_ok-evaluate_arguments.ensures.noted)
    (unless_as c.args.self.now.turns _ _ _ _ c.call_function.new.walked.held.end c.call_function.result (λ shows. call_same (calls_in_walk c.args.self.now c.args.depth) (λ shows. events_in_walk shows c.args.self.now c.args.depth) shows c.args.called.now.function _ _ _ _ _ _ c.args.called.now.found c.text_of.ensures c.as_slice.ensures.value) c.call_function.ensures.noted)

pub run_sequence-returns-clause-noted : goal.run_sequence-returns-clause-noted
run_sequence-returns-clause-noted t c =
    let events : State ℕ Now → (ℕ → Bool) → List Event = (λ (q : State ℕ Now) (shows : ℕ → Bool). os.steps_events shows c.args.self.now.turn_us (calls_in_walk c.args.self.now c.args.depth) (events_in_walk shows c.args.self.now c.args.depth) (step_on_path c.args.name.now []) 0 (steps_tree c.args.steps.now) q) in
    notes_from c.args.self.now.turns _ _ _ _ c.take_locals-locals.ensures.changes.seen (notes_to c.args.self.now.turns _ _ _ _ c.give_back.ensures.seen
    (subst (λ (q : State ℕ Now). NotesByTurns c.args.self.now.turns (seen_so_far c.take_locals-locals.new.self) (seen_so_far c.run_steps.new.walked) (events q)) (c.take_locals-locals.ensures.changes.state _) c.in_ok-run_steps.ensures.noted))

pub run_sequence-returns-in_err-run_steps-clause-noted : goal.run_sequence-returns-in_err-run_steps-clause-noted
run_sequence-returns-in_err-run_steps-clause-noted t c =
    unless_ended _ c.run_steps.new.walked.held.end c.in_err-run_steps.field-0.0 _ c.from_residual.ensures.0
    (let events : State ℕ Now → (ℕ → Bool) → List Event = (λ (q : State ℕ Now) (shows : ℕ → Bool). os.steps_events shows c.args.self.now.turn_us (calls_in_walk c.args.self.now c.args.depth) (events_in_walk shows c.args.self.now c.args.depth) (step_on_path c.args.name.now []) 0 (steps_tree c.args.steps.now) q) in
    unless_from {A = Unit {0}} c.args.self.now.turns _ _ _ _ c.run_steps.new.walked.held.end (Err c.in_err-run_steps.field-0.0) c.take_locals-locals.ensures.changes.seen
    (unless_as {A = Unit {0}} c.args.self.now.turns _ _ _ _ c.run_steps.new.walked.held.end (Err c.in_err-run_steps.field-0.0) (λ shows. ap (λ (q : State ℕ Now). events q shows) (c.take_locals-locals.ensures.changes.state _)) c.in_err-run_steps.ensures.noted))

pub evaluate_arguments-returns-in_err-evaluate_argument-clause-noted : goal.evaluate_arguments-returns-in_err-evaluate_argument-clause-noted
evaluate_arguments-returns-in_err-evaluate_argument-clause-noted t c = unless_ended _ c.evaluate_argument.new.walked.held.end c.in_err-evaluate_argument.field-0.0 _ c.from_residual.ensures.0
    (stop_noted {A = List ℕ} (Unit {0}) c.args.self.now.turns (seen_so_far c.args.walked.now) (seen_so_far c.loop-arg.walked) (seen_so_far c.evaluate_argument.new.walked) (λ shows. o.argument_events (calls_in_walk c.args.self.now c.args.depth) (events_in_walk shows c.args.self.now c.args.depth) (arg_tree (get_or c.args.args.now c.loop-arg.arg-index _)) (now c.loop-arg.walked c.loop-arg.target)) _ _ (λ g r shows. o.arguments_events (calls_in_walk c.args.self.now c.args.depth) (events_in_walk shows c.args.self.now c.args.depth) (arg_trees (drop (c.loop-arg.arg-index + 1) c.args.args.now)) g r)
    c.evaluate_argument.new.walked.held.end c.in_err-evaluate_argument.field-0.0 c.in_err-evaluate_argument.field-0.0 (v.argument (direct false) (calls_in_walk c.args.self.now c.args.depth) (arg_tree (get_or c.args.args.now c.loop-arg.arg-index _)) c.loop-arg.numbers.items (now c.loop-arg.walked c.loop-arg.target)) (now c.evaluate_argument.new.walked c.evaluate_argument.new.target) c.loop-arg.invariant.noted (λ shows. args_head (calls_in_walk c.args.self.now c.args.depth) (λ shows. events_in_walk shows c.args.self.now c.args.depth) c.args.args.now c.loop-arg.arg-index _ c.loop-arg.numbers.items (now c.loop-arg.walked c.loop-arg.target) c.loop-arg-test.true shows)
    (subst (λ (a : Arg). CodeEndsAs c.evaluate_argument.new.walked.held.end (now c.evaluate_argument.new.walked c.evaluate_argument.new.target) (v.argument (direct false) (calls_in_walk c.args.self.now c.args.depth) (arg_tree a) c.loop-arg.numbers.items (now c.loop-arg.walked c.loop-arg.target))) c.arg-item.is c.in_err-evaluate_argument.ensures.gives)
    (subst (λ (a : Arg). Unless {A = List ℕ} c.evaluate_argument.new.walked.held.end (Err c.in_err-evaluate_argument.field-0.0) (NotesByTurns c.args.self.now.turns (seen_so_far c.loop-arg.walked) (seen_so_far c.evaluate_argument.new.walked) (λ shows. o.argument_events (calls_in_walk c.args.self.now c.args.depth) (events_in_walk shows c.args.self.now c.args.depth) (arg_tree a) (now c.loop-arg.walked c.loop-arg.target)))) c.arg-item.is c.in_err-evaluate_argument.ensures.noted))

pub run_block-loop-one-preserved : goal.run_block-loop-one-preserved
run_block-loop-one-preserved t c = record {
  same = block_on c.args.self.now c.args.depth _ c.args.code.now c.loop-one.one-index _ (now c.loop-one.walked c.loop-one.target) (now c.run_statement.new.walked c.run_statement.new.target) c.loop-one.invariant.same c.loop-one-test.true
      (subst (λ (a : Stmt). m.statement (direct false) c.args.self.now.turn_us (calls_in_walk c.args.self.now c.args.depth) (stmt_tree a) (now c.loop-one.walked c.loop-one.target) ≡ Ok (tt, (now c.run_statement.new.walked c.run_statement.new.target))) c.one-item.is c.in_ok-run_statement.ensures.gives);
  noted = more_noted c.args.self.now.turns (seen_so_far c.args.walked.now) (seen_so_far c.loop-one.walked) (seen_so_far c.run_statement.new.walked) (λ shows. os.statement_events shows c.args.self.now.turn_us (calls_in_walk c.args.self.now c.args.depth) (events_in_walk shows c.args.self.now c.args.depth) (step_on_path c.args.sequence.now c.args.path.now) (stmt_tree (get_or c.args.code.now c.loop-one.one-index _)) (now c.loop-one.walked c.loop-one.target)) _ _ (λ g r shows. os.block_events shows c.args.self.now.turn_us (calls_in_walk c.args.self.now c.args.depth) (events_in_walk shows c.args.self.now c.args.depth) (step_on_path c.args.sequence.now c.args.path.now) (code_trees (drop (c.loop-one.one-index + 1) c.args.code.now)) r) _ tt _ c.loop-one.invariant.noted
      (λ shows. block_head (calls_in_walk c.args.self.now c.args.depth) (λ shows. events_in_walk shows c.args.self.now c.args.depth) c.args.self.now.turn_us (step_on_path c.args.sequence.now c.args.path.now) c.args.code.now c.loop-one.one-index _ (now c.loop-one.walked c.loop-one.target) c.loop-one-test.true shows)
      (subst (λ (a : Stmt). m.statement (direct false) c.args.self.now.turn_us (calls_in_walk c.args.self.now c.args.depth) (stmt_tree a) (now c.loop-one.walked c.loop-one.target) ≡ Ok (tt, (now c.run_statement.new.walked c.run_statement.new.target))) c.one-item.is c.in_ok-run_statement.ensures.gives)
      (subst (λ (a : Stmt). NotesByTurns c.args.self.now.turns (seen_so_far c.loop-one.walked) (seen_so_far c.run_statement.new.walked) (λ shows. os.statement_events shows c.args.self.now.turn_us (calls_in_walk c.args.self.now c.args.depth) (events_in_walk shows c.args.self.now c.args.depth) (step_on_path c.args.sequence.now c.args.path.now) (stmt_tree a) (now c.loop-one.walked c.loop-one.target))) c.one-item.is c.in_ok-run_statement.ensures.noted);
}

pub run_block-returns-clause-noted : goal.run_block-returns-clause-noted
run_block-returns-clause-noted t c = over_noted c.args.self.now.turns (seen_so_far c.args.walked.now) _ _ _ c.loop-one.invariant.noted (λ shows. block_none (calls_in_walk c.args.self.now c.args.depth) (λ shows. events_in_walk shows c.args.self.now c.args.depth) c.args.self.now.turn_us (step_on_path c.args.sequence.now c.args.path.now) c.args.code.now c.loop-one.one-index (now c.loop-one.walked c.loop-one.target) c.loop-one-test.false shows)

pub run_block-returns-in_err-run_statement-clause-noted : goal.run_block-returns-in_err-run_statement-clause-noted
run_block-returns-in_err-run_statement-clause-noted t c = unless_ended _ c.run_statement.new.walked.held.end c.in_err-run_statement.field-0.0 _ c.from_residual.ensures.0
    (stop_noted {A = Unit {0}} (Unit {0}) c.args.self.now.turns (seen_so_far c.args.walked.now) (seen_so_far c.loop-one.walked) (seen_so_far c.run_statement.new.walked) (λ shows. os.statement_events shows c.args.self.now.turn_us (calls_in_walk c.args.self.now c.args.depth) (events_in_walk shows c.args.self.now c.args.depth) (step_on_path c.args.sequence.now c.args.path.now) (stmt_tree (get_or c.args.code.now c.loop-one.one-index _)) (now c.loop-one.walked c.loop-one.target)) _ _ (λ g r shows. os.block_events shows c.args.self.now.turn_us (calls_in_walk c.args.self.now c.args.depth) (events_in_walk shows c.args.self.now c.args.depth) (step_on_path c.args.sequence.now c.args.path.now) (code_trees (drop (c.loop-one.one-index + 1) c.args.code.now)) r)
    c.run_statement.new.walked.held.end c.in_err-run_statement.field-0.0 c.in_err-run_statement.field-0.0 (m.statement (direct false) c.args.self.now.turn_us (calls_in_walk c.args.self.now c.args.depth) (stmt_tree (get_or c.args.code.now c.loop-one.one-index _)) (now c.loop-one.walked c.loop-one.target)) (now c.run_statement.new.walked c.run_statement.new.target) c.loop-one.invariant.noted (λ shows. block_head (calls_in_walk c.args.self.now c.args.depth) (λ shows. events_in_walk shows c.args.self.now c.args.depth) c.args.self.now.turn_us (step_on_path c.args.sequence.now c.args.path.now) c.args.code.now c.loop-one.one-index _ (now c.loop-one.walked c.loop-one.target) c.loop-one-test.true shows)
    (subst (λ (a : Stmt). CodeEndsAs c.run_statement.new.walked.held.end (now c.run_statement.new.walked c.run_statement.new.target) (m.statement (direct false) c.args.self.now.turn_us (calls_in_walk c.args.self.now c.args.depth) (stmt_tree a) (now c.loop-one.walked c.loop-one.target))) c.one-item.is c.in_err-run_statement.ensures.gives)
    (subst (λ (a : Stmt). Unless {A = Unit {0}} c.run_statement.new.walked.held.end (Err c.in_err-run_statement.field-0.0) (NotesByTurns c.args.self.now.turns (seen_so_far c.loop-one.walked) (seen_so_far c.run_statement.new.walked) (λ shows. os.statement_events shows c.args.self.now.turn_us (calls_in_walk c.args.self.now c.args.depth) (events_in_walk shows c.args.self.now c.args.depth) (step_on_path c.args.sequence.now c.args.path.now) (stmt_tree a) (now c.loop-one.walked c.loop-one.target)))) c.one-item.is c.in_err-run_statement.ensures.noted))

pub run_block-run_statement-requires : goal.run_block-run_statement-requires
run_block-run_statement-requires t c =
    let less : stmt_size (stmt_tree c.one-item.result) < block_size (code_trees c.args.code.now) = stmt_within c.args.code.now c.loop-one.one-index _ c.one-item.result c.loop-one-test.true c.one-item.is in
    (omega (arith, less), Prim.search rules)

pub run_steps-loop-number-preserved : goal.run_steps-loop-number-preserved
run_steps-loop-number-preserved t c = record {
  same = done_on c.args.self.now c.args.depth _ c.args.steps.now c.loop-number.number _ (now c.loop-number.walked c.loop-number.target) (now c.run_inner.new.walked c.run_inner.new.target) c.loop-number.invariant.same c.loop-number-test.true
      (subst (λ (a : CheckedStep). m.step (direct false) c.args.self.now.turn_us (calls_in_walk c.args.self.now c.args.depth) (step_tree a) (now c.loop-number.walked c.loop-number.target) ≡ Ok (tt, (now c.run_inner.new.walked c.run_inner.new.target))) c.index-steps-number.is c.in_ok-run_inner.ensures.gives);
  noted = more_noted c.args.self.now.turns (seen_so_far c.args.walked.now) (seen_so_far c.loop-number.walked) (seen_so_far c.run_inner.new.walked) (λ shows. os.step_events shows c.args.self.now.turn_us (calls_in_walk c.args.self.now c.args.depth) (events_in_walk shows c.args.self.now c.args.depth) (os.inner_step (step_on_path c.args.sequence.now c.args.path.now) c.loop-number.number) (step_tree (get_or c.args.steps.now c.loop-number.number _)) (now c.loop-number.walked c.loop-number.target)) _ _ (λ g r shows. os.steps_events shows c.args.self.now.turn_us (calls_in_walk c.args.self.now c.args.depth) (events_in_walk shows c.args.self.now c.args.depth) (step_on_path c.args.sequence.now c.args.path.now) (c.loop-number.number + 1) (steps_tree (drop (c.loop-number.number + 1) c.args.steps.now)) r) _ tt _ c.loop-number.invariant.noted
      (λ shows. steps_head (calls_in_walk c.args.self.now c.args.depth) (λ shows. events_in_walk shows c.args.self.now c.args.depth) c.args.self.now.turn_us (step_on_path c.args.sequence.now c.args.path.now) c.args.steps.now c.loop-number.number _ (now c.loop-number.walked c.loop-number.target) c.loop-number-test.true shows)
      (subst (λ (a : CheckedStep). m.step (direct false) c.args.self.now.turn_us (calls_in_walk c.args.self.now c.args.depth) (step_tree a) (now c.loop-number.walked c.loop-number.target) ≡ Ok (tt, (now c.run_inner.new.walked c.run_inner.new.target))) c.index-steps-number.is c.in_ok-run_inner.ensures.gives)
      (subst (λ (a : CheckedStep). NotesByTurns c.args.self.now.turns (seen_so_far c.loop-number.walked) (seen_so_far c.run_inner.new.walked) (λ shows. os.step_events shows c.args.self.now.turn_us (calls_in_walk c.args.self.now c.args.depth) (events_in_walk shows c.args.self.now c.args.depth) (os.inner_step (step_on_path c.args.sequence.now c.args.path.now) c.loop-number.number) (step_tree a) (now c.loop-number.walked c.loop-number.target))) c.index-steps-number.is c.in_ok-run_inner.ensures.noted);
}

pub run_steps-returns-clause-noted : goal.run_steps-returns-clause-noted
run_steps-returns-clause-noted t c = over_noted c.args.self.now.turns (seen_so_far c.args.walked.now) _ _ _ c.loop-number.invariant.noted (λ shows. steps_none (calls_in_walk c.args.self.now c.args.depth) (λ shows. events_in_walk shows c.args.self.now c.args.depth) c.args.self.now.turn_us (step_on_path c.args.sequence.now c.args.path.now) c.args.steps.now c.loop-number.number (now c.loop-number.walked c.loop-number.target) c.loop-number-test.false shows)

pub run_steps-returns-in_err-run_inner-clause-noted : goal.run_steps-returns-in_err-run_inner-clause-noted
run_steps-returns-in_err-run_inner-clause-noted t c = unless_ended _ c.run_inner.new.walked.held.end c.in_err-run_inner.field-0.0 _ c.from_residual.ensures.0
    (stop_noted {A = Unit {0}} (Unit {0}) c.args.self.now.turns (seen_so_far c.args.walked.now) (seen_so_far c.loop-number.walked) (seen_so_far c.run_inner.new.walked) (λ shows. os.step_events shows c.args.self.now.turn_us (calls_in_walk c.args.self.now c.args.depth) (events_in_walk shows c.args.self.now c.args.depth) (os.inner_step (step_on_path c.args.sequence.now c.args.path.now) c.loop-number.number) (step_tree (get_or c.args.steps.now c.loop-number.number _)) (now c.loop-number.walked c.loop-number.target)) _ _ (λ g r shows. os.steps_events shows c.args.self.now.turn_us (calls_in_walk c.args.self.now c.args.depth) (events_in_walk shows c.args.self.now c.args.depth) (step_on_path c.args.sequence.now c.args.path.now) (c.loop-number.number + 1) (steps_tree (drop (c.loop-number.number + 1) c.args.steps.now)) r)
    c.run_inner.new.walked.held.end c.in_err-run_inner.field-0.0 c.in_err-run_inner.field-0.0 (m.step (direct false) c.args.self.now.turn_us (calls_in_walk c.args.self.now c.args.depth) (step_tree (get_or c.args.steps.now c.loop-number.number _)) (now c.loop-number.walked c.loop-number.target)) (now c.run_inner.new.walked c.run_inner.new.target) c.loop-number.invariant.noted (λ shows. steps_head (calls_in_walk c.args.self.now c.args.depth) (λ shows. events_in_walk shows c.args.self.now c.args.depth) c.args.self.now.turn_us (step_on_path c.args.sequence.now c.args.path.now) c.args.steps.now c.loop-number.number _ (now c.loop-number.walked c.loop-number.target) c.loop-number-test.true shows)
    (subst (λ (a : CheckedStep). CodeEndsAs c.run_inner.new.walked.held.end (now c.run_inner.new.walked c.run_inner.new.target) (m.step (direct false) c.args.self.now.turn_us (calls_in_walk c.args.self.now c.args.depth) (step_tree a) (now c.loop-number.walked c.loop-number.target))) c.index-steps-number.is c.in_err-run_inner.ensures.gives)
    (subst (λ (a : CheckedStep). Unless {A = Unit {0}} c.run_inner.new.walked.held.end (Err c.in_err-run_inner.field-0.0) (NotesByTurns c.args.self.now.turns (seen_so_far c.loop-number.walked) (seen_so_far c.run_inner.new.walked) (λ shows. os.step_events shows c.args.self.now.turn_us (calls_in_walk c.args.self.now c.args.depth) (events_in_walk shows c.args.self.now c.args.depth) (os.inner_step (step_on_path c.args.sequence.now c.args.path.now) c.loop-number.number) (step_tree a) (now c.loop-number.walked c.loop-number.target)))) c.index-steps-number.is c.in_err-run_inner.ensures.noted))

pub run_steps-run_inner-requires : goal.run_steps-run_inner-requires
run_steps-run_inner-requires t c =
    let less : step_size (step_tree c.index-steps-number.result) < steps_size (steps_tree c.args.steps.now) = step_within c.args.steps.now c.loop-number.number _ c.index-steps-number.result c.loop-number-test.true c.index-steps-number.is in
    (omega (arith, less), Prim.search rules)

pub run_inner-returns-clause-noted : goal.run_inner-returns-clause-noted
run_inner-returns-clause-noted t c = unless_as c.args.self.now.turns _ _ _ _ c.run_step.new.walked.held.end c.run_step.result
    (λ shows. ap (λ (x : List ℕ). os.step_events shows c.args.self.now.turn_us (calls_in_walk c.args.self.now c.args.depth) (events_in_walk shows c.args.self.now c.args.depth) (step_on_path c.args.sequence.now x) (step_tree c.args.step.now) (now c.args.walked.now c.args.target.now)) (c.as_slice.ensures ∙ c.in-Ok.ensures)) c.run_step.ensures.noted

pub run_statement-returns-clause-gives : goal.run_statement-returns-clause-gives
run_statement-returns-clause-gives t c = means_from (λ q. m.statement (direct false) c.args.self.now.turn_us (calls_in_walk c.args.self.now c.args.depth) (stmt_tree c.args.one.now) q) c.do_statement.new.walked.held.end c.do_statement.result _ (now c.args.walked.now c.args.target.now) (now c.begin.new.self c.args.target.now) (c.in_ok-begin.ensures.state _) c.do_statement.ensures.gives

pub run_statement-returns-clause-noted : goal.run_statement-returns-clause-noted
unfolding os.statement_events
run_statement-returns-clause-noted t c = event_then c.args.self.now.turns _ _ _ (e.Begins (spot_in_step c.args.sequence.now c.args.path.now part.Block (os.statement_place (stmt_tree c.args.one.now))) (stmt_tree c.args.one.now)) (λ q shows. e.events_after (m.counted_step (direct false) q) (λ done r. os.done_events shows c.args.self.now.turn_us (calls_in_walk c.args.self.now c.args.depth) (events_in_walk shows c.args.self.now c.args.depth) (stmt_tree c.args.one.now) r)) c.do_statement.new.walked.held.end c.do_statement.result (now c.args.walked.now c.args.target.now) (now c.begin.new.self c.args.target.now)
    (c.in_ok-begin.ensures.state _) (c.in_ok-begin.ensures.noted c.args.self.now.turns) c.do_statement.ensures.noted

pub declare-returns-in_err-count_step-clause-gives : goal.declare-returns-in_err-count_step-clause-gives
declare-returns-in_err-count_step-clause-gives t c = means_stopped c.count_step.new.walked.held.end _ _ _ c.from_residual.ensures.0 (ends_counted c.count_step.new.walked.held.end _ (now c.args.walked.now c.args.target.now) _ (c.in_err-count_step.ensures.gives c.args.target.now))

pub declare-returns-in_err-count_step-clause-noted : goal.declare-returns-in_err-count_step-clause-noted
declare-returns-in_err-count_step-clause-noted t c = unless_ended _ c.count_step.new.walked.held.end c.in_err-count_step.field-0.0 _ c.from_residual.ensures.0
    (quiet_stops (Unit {0}) c.args.self.now.turns _ _ _ c.count_step.new.walked.held.end c.in_err-count_step.field-0.0 (m.counted_step (direct false) (now c.args.walked.now c.args.target.now)) _ (c.in_err-count_step.ensures.gives c.args.target.now) c.count_step.ensures.seen)

pub run_expression-returns-in_err-count_step-clause-gives : goal.run_expression-returns-in_err-count_step-clause-gives
run_expression-returns-in_err-count_step-clause-gives t c = means_stopped c.count_step.new.walked.held.end _ _ _ c.from_residual.ensures.0 (ends_counted c.count_step.new.walked.held.end _ (now c.args.walked.now c.args.target.now) _ (c.in_err-count_step.ensures.gives c.args.target.now))

pub run_expression-returns-in_err-count_step-clause-noted : goal.run_expression-returns-in_err-count_step-clause-noted
run_expression-returns-in_err-count_step-clause-noted t c = unless_ended _ c.count_step.new.walked.held.end c.in_err-count_step.field-0.0 _ c.from_residual.ensures.0
    (quiet_stops (Unit {0}) c.args.self.now.turns _ _ _ c.count_step.new.walked.held.end c.in_err-count_step.field-0.0 (m.counted_step (direct false) (now c.args.walked.now c.args.target.now)) _ (c.in_err-count_step.ensures.gives c.args.target.now) c.count_step.ensures.seen)

pub declare-returns-in_err-number-clause-gives : goal.declare-returns-in_err-number-clause-gives
declare-returns-in_err-number-clause-gives t c = means_stopped c.evaluate.new.walked.held.end _ _ _ c.from_residual-in_err-number.ensures.0 (declare_value c.args.self.now c.args.depth (tree c.args.expr.now) c.evaluate.new.walked.held.end _ _ _ c.args.name.now (c.in_ok-count_step.ensures.gives c.args.target.now) c.in_err-number.ensures.gives)

pub declare-returns-in_err-number-clause-noted : goal.declare-returns-in_err-number-clause-noted
declare-returns-in_err-number-clause-noted t c = unless_ended _ c.evaluate.new.walked.held.end c.in_err-number.field-0.0 _ c.from_residual-in_err-number.ensures.0
    (quiet_then {A = Unit {0}} {B = Unit {0}} c.args.self.now.turns _ _ _ _ c.evaluate.new.walked.held.end (Err c.in_err-number.field-0.0) (m.counted_step (direct false) (now c.args.walked.now c.args.target.now)) tt _ (c.in_ok-count_step.ensures.gives c.args.target.now) c.count_step.ensures.seen
    (part_stops (Unit {0}) c.args.self.now.turns _ _ _ _ c.evaluate.new.walked.held.end c.in_err-number.field-0.0 c.in_err-number.field-0.0 _ _ c.in_err-number.ensures.gives c.in_err-number.ensures.noted))

pub declare-returns-clause-gives : goal.declare-returns-clause-gives
declare-returns-clause-gives t c = declared_gives c.args.name.now (λ r. v.value (direct false) (calls_in_walk c.args.self.now c.args.depth) (tree c.args.expr.now) r) (now c.args.walked.now c.args.target.now) _ _ (now c.declare.new.self c.evaluate.new.target) (now c.assign.new.self c.evaluate.new.target) c.in_ok-number.number c.assign.new.self.held.end c.assign.result
    (c.in_ok-count_step.ensures.gives c.args.target.now) c.in_ok-number.ensures.gives (c.in-Ok.ensures.state _) (c.assign.ensures.state _) c.assign.ensures.refused

pub declare-returns-clause-noted : goal.declare-returns-clause-noted
declare-returns-clause-noted t c = quiet_then {A = Unit {0}} {B = Unit {0}} c.args.self.now.turns _ _ _ _ c.assign.new.self.held.end c.assign.result (m.counted_step (direct false) (now c.args.walked.now c.args.target.now)) tt _ (c.in_ok-count_step.ensures.gives c.args.target.now) c.count_step.ensures.seen
    (value_then {A = ℕ} {B = Unit {0}} c.args.self.now.turns _ _ _ _ _ c.assign.new.self.held.end c.assign.result _ c.in_ok-number.number _ c.in_ok-number.ensures.gives c.in_ok-number.ensures.noted
    (unless_from c.args.self.now.turns _ _ _ _ c.assign.new.self.held.end c.assign.result c.in-Ok.ensures.seen (or_refused _ c.assign.new.self.held.end c.assign.result
    (subst (λ (n : List ℕ). OnOk c.assign.result (NotesByTurns c.args.self.now.turns (seen_so_far c.declare.new.self) (seen_so_far c.assign.new.self) (λ shows. e.Assigns n c.in_ok-number.number ∷ []))) c.as_str.ensures (c.assign.ensures.noted c.args.self.now.turns)) c.assign.ensures.refused)))

pub run_expression-returns-in_err-evaluate-clause-gives : goal.run_expression-returns-in_err-evaluate-clause-gives
run_expression-returns-in_err-evaluate-clause-gives t c = means_stopped c.evaluate.new.walked.held.end _ _ _ c.from_residual-in_err-evaluate.ensures.0 (plain_value c.args.self.now c.args.depth (tree c.args.expr.now) c.evaluate.new.walked.held.end _ _ _ (c.in_ok-count_step.ensures.gives c.args.target.now) c.in_err-evaluate.ensures.gives)

pub run_expression-returns-in_err-evaluate-clause-noted : goal.run_expression-returns-in_err-evaluate-clause-noted
run_expression-returns-in_err-evaluate-clause-noted t c = unless_ended _ c.evaluate.new.walked.held.end c.in_err-evaluate.field-0.0 _ c.from_residual-in_err-evaluate.ensures.0
    (quiet_then {A = Unit {0}} {B = Unit {0}} c.args.self.now.turns _ _ _ _ c.evaluate.new.walked.held.end (Err c.in_err-evaluate.field-0.0) (m.counted_step (direct false) (now c.args.walked.now c.args.target.now)) tt _ (c.in_ok-count_step.ensures.gives c.args.target.now) c.count_step.ensures.seen
    (unless_stopped ℕ (Unit {0}) _ _ c.evaluate.new.walked.held.end c.in_err-evaluate.field-0.0 c.in_err-evaluate.field-0.0 (λ h. h) c.in_err-evaluate.ensures.noted))

pub run_expression-returns-clause-noted : goal.run_expression-returns-clause-noted
run_expression-returns-clause-noted t c = quiet_then {A = Unit {0}} {B = Unit {0}} c.args.self.now.turns _ _ _ _ c.evaluate.new.walked.held.end (Ok tt) (m.counted_step (direct false) (now c.args.walked.now c.args.target.now)) tt _ (c.in_ok-count_step.ensures.gives c.args.target.now) c.count_step.ensures.seen
    (c.in_ok-evaluate.ensures.noted)

pub run_control-returns-in_err-chosen-clause-noted : goal.run_control-returns-in_err-chosen-clause-noted
unfolding os.controlled_events
run_control-returns-in_err-chosen-clause-noted t c = unless_ended _ c.test_condition.new.walked.held.end c.in_err-chosen.field-0.0 _ c.from_residual.ensures.0
    (part_stops (Unit {0}) c.args.self.now.turns _ _ _ _ c.test_condition.new.walked.held.end c.in_err-chosen.field-0.0 c.in_err-chosen.field-0.0 _ _ c.in_err-chosen.ensures.gives c.in_err-chosen.ensures.noted)

pub run_control-returns-then-chosen-clause-noted : goal.run_control-returns-then-chosen-clause-noted
unfolding os.controlled_events
run_control-returns-then-chosen-clause-noted t c = value_then {A = Bool} {B = Unit {0}} c.args.self.now.turns _ _ _ _ _ c.repeat_steps.new.walked.held.end c.repeat_steps.result _ c.in_ok-chosen.chosen _ c.in_ok-chosen.ensures.gives c.in_ok-chosen.ensures.noted
    (take_first c.args.self.now.turns _ _ _ _ c.repeat_steps.new.walked.held.end c.repeat_steps.result c.in_ok-chosen.chosen c.if-chosen.true c.repeat_steps.ensures.noted)

pub run_control-returns-else-chosen-clause-noted : goal.run_control-returns-else-chosen-clause-noted
unfolding os.controlled_events
run_control-returns-else-chosen-clause-noted t c = notes_value c.args.self.now.turns _ _ _ _ _ _ c.in_ok-chosen.chosen _ c.in_ok-chosen.ensures.gives c.in_ok-chosen.ensures.noted (notes_second c.args.self.now.turns _ _ _ _ c.in_ok-chosen.chosen c.if-chosen.false (notes_none c.args.self.now.turns _))

pub choose-returns-in_err-number-clause-gives : goal.choose-returns-in_err-number-clause-gives
choose-returns-in_err-number-clause-gives t c = means_stopped c.evaluate.new.walked.held.end _ _ _ c.from_residual-in_err-number.ensures.0 (condition_ends c.args.self.now c.args.depth c.evaluate.new.walked.held.end _ (now c.args.walked.now c.args.target.now) (now c.test.new.self c.args.target.now) (tree c.args.expr.now) (c.in_ok-test.ensures.state _) c.in_err-number.ensures.gives)

pub choose-returns-in_err-number-clause-noted : goal.choose-returns-in_err-number-clause-noted
unfolding os.condition_events
choose-returns-in_err-number-clause-noted t c = unless_ended _ c.evaluate.new.walked.held.end c.in_err-number.field-0.0 _ c.from_residual-in_err-number.ensures.0
    (event_then {A = Bool} c.args.self.now.turns _ _ _ (e.Tests (condition_spot c.args.sequence.now c.args.path.now part.If) (tree c.args.expr.now)) (λ q shows. (o.value_events (calls_in_walk c.args.self.now c.args.depth) (events_in_walk shows c.args.self.now c.args.depth) (tree c.args.expr.now) q) ++ e.events_after (v.value (direct false) (calls_in_walk c.args.self.now c.args.depth) (tree c.args.expr.now) q) (λ n r. e.Chooses (condition_spot c.args.sequence.now c.args.path.now part.If) n ∷ [])) c.evaluate.new.walked.held.end (Err c.in_err-number.field-0.0) (now c.args.walked.now c.args.target.now) (now c.test.new.self c.args.target.now) (c.in_ok-test.ensures.state _) (c.in_ok-test.ensures.noted c.args.self.now.turns)
    (part_stops Bool c.args.self.now.turns _ _ _ _ c.evaluate.new.walked.held.end c.in_err-number.field-0.0 c.in_err-number.field-0.0 _ _ c.in_err-number.ensures.gives c.in_err-number.ensures.noted))

pub choose-returns-clause-gives : goal.choose-returns-clause-gives
choose-returns-clause-gives t c = condition_gives c.args.self.now c.args.depth (tree c.args.expr.now) (now c.args.walked.now c.args.target.now) (now c.test.new.self c.args.target.now) _ _ c.in_ok-number.number _ (c.in_ok-test.ensures.state _) c.in_ok-number.ensures.gives (c.in_ok-choose.ensures.state _) refl

pub choose-returns-clause-noted : goal.choose-returns-clause-noted
unfolding os.condition_events
choose-returns-clause-noted t c = notes_event c.args.self.now.turns _ _ _ (e.Tests (condition_spot c.args.sequence.now c.args.path.now part.If) (tree c.args.expr.now)) (λ q shows. (o.value_events (calls_in_walk c.args.self.now c.args.depth) (events_in_walk shows c.args.self.now c.args.depth) (tree c.args.expr.now) q) ++ e.events_after (v.value (direct false) (calls_in_walk c.args.self.now c.args.depth) (tree c.args.expr.now) q) (λ n r. e.Chooses (condition_spot c.args.sequence.now c.args.path.now part.If) n ∷ [])) (now c.args.walked.now c.args.target.now) (now c.test.new.self c.args.target.now) (c.in_ok-test.ensures.state _) (c.in_ok-test.ensures.noted c.args.self.now.turns)
    (notes_value c.args.self.now.turns _ _ _ _ (λ n r shows. e.Chooses (condition_spot c.args.sequence.now c.args.path.now part.If) n ∷ []) _ c.in_ok-number.number _ c.in_ok-number.ensures.gives c.in_ok-number.ensures.noted (c.in_ok-choose.ensures.noted c.args.self.now.turns))

pub begin_loop-returns-clause-gives : goal.begin_loop-returns-clause-gives
begin_loop-returns-clause-gives t c = means_from (λ q. m.loop_result (direct false) c.args.self.now.turn_us (calls_in_walk c.args.self.now c.args.depth) (p.poll_of (tree c.args.expr.now) (steps_tree c.args.steps.now)) (tree c.args.expr.now) c.args.count (λ q. m.steps_result (direct false) c.args.self.now.turn_us (calls_in_walk c.args.self.now c.args.depth) (steps_tree c.args.steps.now) q) q) c.run_loop.new.walked.held.end c.run_loop.result _ (now c.args.walked.now c.args.target.now) (now c.begin_loop.new.self c.args.target.now) (c.in_ok-begin_loop.ensures.state _) c.run_loop.ensures.gives

pub begin_loop-returns-clause-noted : goal.begin_loop-returns-clause-noted
begin_loop-returns-clause-noted t c = event_then c.args.self.now.turns _ _ _ (e.Loops (condition_spot c.args.sequence.now c.args.path.now part.While) (tree c.args.expr.now) c.args.count) (λ q shows. os.loop_events shows c.args.self.now.turn_us (calls_in_walk c.args.self.now c.args.depth) (events_in_walk shows c.args.self.now c.args.depth) (condition_spot c.args.sequence.now c.args.path.now part.While) (p.poll_of (tree c.args.expr.now) (steps_tree c.args.steps.now)) (tree c.args.expr.now) c.args.count (λ r. m.inside (direct false) (λ q. m.steps_result (direct false) c.args.self.now.turn_us (calls_in_walk c.args.self.now c.args.depth) (steps_tree c.args.steps.now) q) r) (λ q. os.steps_events shows c.args.self.now.turn_us (calls_in_walk c.args.self.now c.args.depth) (events_in_walk shows c.args.self.now c.args.depth) (step_on_path c.args.sequence.now c.args.path.now) 0 (steps_tree c.args.steps.now) q) q) c.run_loop.new.walked.held.end c.run_loop.result (now c.args.walked.now c.args.target.now) (now c.begin_loop.new.self c.args.target.now)
    (c.in_ok-begin_loop.ensures.state _) (c.in_ok-begin_loop.ensures.noted c.args.self.now.turns) c.run_loop.ensures.noted

pub run_turns-loop-made-init : goal.run_turns-loop-made-init
run_turns-loop-made-init t c = record {
  same = ap (λ n. m.turns (direct false) (λ r. v.value (direct false) (calls_in_walk c.args.self.now c.args.depth) (tree c.args.expr.now) r) (λ r. m.inside (direct false) (λ q. m.steps_result (direct false) c.args.self.now.turn_us (calls_in_walk c.args.self.now c.args.depth) (steps_tree c.args.steps.now) q) r) n (now c.args.walked.now c.args.target.now)) (count_is c.args.count);
  noted = λ x h. loop_first c.args.self.now.turns (condition_spot c.args.sequence.now c.args.path.now part.While) (λ r. v.value (direct false) (calls_in_walk c.args.self.now c.args.depth) (tree c.args.expr.now) r) (λ shows r. o.value_events (calls_in_walk c.args.self.now c.args.depth) (events_in_walk shows c.args.self.now c.args.depth) (tree c.args.expr.now) r) (λ r. m.inside (direct false) (λ q. m.steps_result (direct false) c.args.self.now.turn_us (calls_in_walk c.args.self.now c.args.depth) (steps_tree c.args.steps.now) q) r) (λ shows r. os.steps_events shows c.args.self.now.turn_us (calls_in_walk c.args.self.now c.args.depth) (events_in_walk shows c.args.self.now c.args.depth) (step_on_path c.args.sequence.now c.args.path.now) 0 (steps_tree c.args.steps.now) r) c.args.count c.mark-mark.result (seen_so_far c.args.walked.now) (now c.args.walked.now c.args.target.now) x h;
  within = omega arith;
}

pub run_turns-loop-made-preserved : goal.run_turns-loop-made-preserved
run_turns-loop-made-preserved t c = record {
  same = turns_on (λ r. v.value (direct false) (calls_in_walk c.args.self.now c.args.depth) (tree c.args.expr.now) r) (λ r. m.inside (direct false) (λ q. m.steps_result (direct false) c.args.self.now.turn_us (calls_in_walk c.args.self.now c.args.depth) (steps_tree c.args.steps.now) q) r) _ c.args.count c.loop-made.made (now c.loop-made.walked c.loop-made.target) (now c.run_turn.new.walked c.run_turn.new.target) c.loop-made.invariant.same c.loop-made-test.true (subst (λ (b : Bool). m.turn (direct false) (λ r. v.value (direct false) (calls_in_walk c.args.self.now c.args.depth) (tree c.args.expr.now) r) (λ r. m.inside (direct false) (λ q. m.steps_result (direct false) c.args.self.now.turn_us (calls_in_walk c.args.self.now c.args.depth) (steps_tree c.args.steps.now) q) r) (now c.loop-made.walked c.loop-made.target) ≡ Ok (b, (now c.run_turn.new.walked c.run_turn.new.target))) c.if-not-more.false c.in_ok-more.ensures.gives);
  noted = λ x h. loop_more c.args.self.now.turns (condition_spot c.args.sequence.now c.args.path.now part.While) (λ r. v.value (direct false) (calls_in_walk c.args.self.now c.args.depth) (tree c.args.expr.now) r) (λ shows r. o.value_events (calls_in_walk c.args.self.now c.args.depth) (events_in_walk shows c.args.self.now c.args.depth) (tree c.args.expr.now) r) (λ r. m.inside (direct false) (λ q. m.steps_result (direct false) c.args.self.now.turn_us (calls_in_walk c.args.self.now c.args.depth) (steps_tree c.args.steps.now) q) r) (λ shows r. os.steps_events shows c.args.self.now.turn_us (calls_in_walk c.args.self.now c.args.depth) (events_in_walk shows c.args.self.now c.args.depth) (step_on_path c.args.sequence.now c.args.path.now) 0 (steps_tree c.args.steps.now) r) c.args.count c.loop-made.made c.loop-made.mark (seen_so_far c.args.walked.now) (seen_so_far c.loop-made.walked) c.drop_turn.new.log (now c.loop-made.walked c.loop-made.target) _ c.drop_turn.ensures c.loop-made.invariant.noted c.mark-mark-in-loop-made.result (seen_so_far c.run_turn.new.walked) (now c.run_turn.new.walked c.run_turn.new.target) c.loop-made-test.true c.mark-mark-in-loop-made.ensures.len c.mark-mark-in-loop-made.ensures.depth
      (subst (λ (b : Bool). m.turn (direct false) (λ r. v.value (direct false) (calls_in_walk c.args.self.now c.args.depth) (tree c.args.expr.now) r) (λ r. m.inside (direct false) (λ q. m.steps_result (direct false) c.args.self.now.turn_us (calls_in_walk c.args.self.now c.args.depth) (steps_tree c.args.steps.now) q) r) (now c.loop-made.walked c.loop-made.target) ≡ Ok (b, (now c.run_turn.new.walked c.run_turn.new.target))) c.if-not-more.false c.in_ok-more.ensures.gives) c.in_ok-more.ensures.noted x h;
  within = omega (arith, c.loop-made-test.true);
}

pub run_turns-returns-then-not-more-clause-gives : goal.run_turns-returns-then-not-more-clause-gives
run_turns-returns-then-not-more-clause-gives t c = left_gives c.leave_loop.new.self.held.end c.leave_loop.result (now c.leave_loop.new.self c.run_turn.new.target) (now c.run_turn.new.walked c.run_turn.new.target) _
    (turns_over (λ r. v.value (direct false) (calls_in_walk c.args.self.now c.args.depth) (tree c.args.expr.now) r) (λ r. m.inside (direct false) (λ q. m.steps_result (direct false) c.args.self.now.turn_us (calls_in_walk c.args.self.now c.args.depth) (steps_tree c.args.steps.now) q) r) _ c.args.count c.loop-made.made (now c.loop-made.walked c.loop-made.target) (now c.run_turn.new.walked c.run_turn.new.target) c.loop-made.invariant.same c.loop-made-test.true (subst (λ (b : Bool). m.turn (direct false) (λ r. v.value (direct false) (calls_in_walk c.args.self.now c.args.depth) (tree c.args.expr.now) r) (λ r. m.inside (direct false) (λ q. m.steps_result (direct false) c.args.self.now.turn_us (calls_in_walk c.args.self.now c.args.depth) (steps_tree c.args.steps.now) q) r) (now c.loop-made.walked c.loop-made.target) ≡ Ok (b, (now c.run_turn.new.walked c.run_turn.new.target))) c.if-not-more.true c.in_ok-more.ensures.gives)) (c.leave_loop.ensures.state _)
    c.leave_loop.ensures.refused

pub run_turns-returns-then-not-more-clause-noted : goal.run_turns-returns-then-not-more-clause-noted
run_turns-returns-then-not-more-clause-noted t c = loop_last c.args.self.now.turns (condition_spot c.args.sequence.now c.args.path.now part.While) (λ r. v.value (direct false) (calls_in_walk c.args.self.now c.args.depth) (tree c.args.expr.now) r) (λ shows r. o.value_events (calls_in_walk c.args.self.now c.args.depth) (events_in_walk shows c.args.self.now c.args.depth) (tree c.args.expr.now) r) (λ r. m.inside (direct false) (λ q. m.steps_result (direct false) c.args.self.now.turn_us (calls_in_walk c.args.self.now c.args.depth) (steps_tree c.args.steps.now) q) r) (λ shows r. os.steps_events shows c.args.self.now.turn_us (calls_in_walk c.args.self.now c.args.depth) (events_in_walk shows c.args.self.now c.args.depth) (step_on_path c.args.sequence.now c.args.path.now) 0 (steps_tree c.args.steps.now) r) c.args.count c.loop-made.made c.loop-made.mark (seen_so_far c.args.walked.now) (seen_so_far c.loop-made.walked) c.drop_turn.new.log (now c.loop-made.walked c.loop-made.target) _ c.drop_turn.ensures c.loop-made.invariant.noted (seen_so_far c.run_turn.new.walked) (seen_so_far c.leave_loop.new.self) c.leave_loop.new.self.held.end c.leave_loop.result (now c.run_turn.new.walked c.run_turn.new.target) c.loop-made-test.true
    (subst (λ (b : Bool). m.turn (direct false) (λ r. v.value (direct false) (calls_in_walk c.args.self.now c.args.depth) (tree c.args.expr.now) r) (λ r. m.inside (direct false) (λ q. m.steps_result (direct false) c.args.self.now.turn_us (calls_in_walk c.args.self.now c.args.depth) (steps_tree c.args.steps.now) q) r) (now c.loop-made.walked c.loop-made.target) ≡ Ok (b, (now c.run_turn.new.walked c.run_turn.new.target))) c.if-not-more.true c.in_ok-more.ensures.gives) c.in_ok-more.ensures.noted
    (or_refused _ c.leave_loop.new.self.held.end c.leave_loop.result (c.leave_loop.ensures.noted c.args.self.now.turns) c.leave_loop.ensures.refused)

pub run_turns-returns-in_err-more-clause-gives : goal.run_turns-returns-in_err-more-clause-gives
run_turns-returns-in_err-more-clause-gives t c = means_stopped c.run_turn.new.walked.held.end _ _ _ c.from_residual.ensures.0 (turns_fail (λ r. v.value (direct false) (calls_in_walk c.args.self.now c.args.depth) (tree c.args.expr.now) r) (λ r. m.inside (direct false) (λ q. m.steps_result (direct false) c.args.self.now.turn_us (calls_in_walk c.args.self.now c.args.depth) (steps_tree c.args.steps.now) q) r) _ c.args.count c.loop-made.made (now c.loop-made.walked c.loop-made.target) (now c.run_turn.new.walked c.run_turn.new.target) c.run_turn.new.walked.held.end c.loop-made.invariant.same c.loop-made-test.true c.in_err-more.ensures.gives)

pub run_turns-returns-in_err-more-clause-noted : goal.run_turns-returns-in_err-more-clause-noted
run_turns-returns-in_err-more-clause-noted t c = unless_ended _ c.run_turn.new.walked.held.end c.in_err-more.field-0.0 _ c.from_residual.ensures.0
    (loop_stops c.args.self.now.turns (condition_spot c.args.sequence.now c.args.path.now part.While) (λ r. v.value (direct false) (calls_in_walk c.args.self.now c.args.depth) (tree c.args.expr.now) r) (λ shows r. o.value_events (calls_in_walk c.args.self.now c.args.depth) (events_in_walk shows c.args.self.now c.args.depth) (tree c.args.expr.now) r) (λ r. m.inside (direct false) (λ q. m.steps_result (direct false) c.args.self.now.turn_us (calls_in_walk c.args.self.now c.args.depth) (steps_tree c.args.steps.now) q) r) (λ shows r. os.steps_events shows c.args.self.now.turn_us (calls_in_walk c.args.self.now c.args.depth) (events_in_walk shows c.args.self.now c.args.depth) (step_on_path c.args.sequence.now c.args.path.now) 0 (steps_tree c.args.steps.now) r) c.args.count c.loop-made.made c.loop-made.mark (seen_so_far c.args.walked.now) (seen_so_far c.loop-made.walked) c.drop_turn.new.log (now c.loop-made.walked c.loop-made.target) _ c.drop_turn.ensures c.loop-made.invariant.noted (Unit {0}) (seen_so_far c.run_turn.new.walked) c.run_turn.new.walked.held.end c.in_err-more.field-0.0 (now c.run_turn.new.walked c.run_turn.new.target) c.loop-made-test.true c.in_err-more.ensures.gives c.in_err-more.ensures.noted)

pub run_turns-returns-clause-gives : goal.run_turns-returns-clause-gives
run_turns-returns-clause-gives t c = left_gives c.time_out.new.self.held.end c.time_out.result (now c.time_out.new.self c.loop-made.target) (now c.loop-made.walked c.loop-made.target) _ (turns_none (λ r. v.value (direct false) (calls_in_walk c.args.self.now c.args.depth) (tree c.args.expr.now) r) (λ r. m.inside (direct false) (λ q. m.steps_result (direct false) c.args.self.now.turn_us (calls_in_walk c.args.self.now c.args.depth) (steps_tree c.args.steps.now) q) r) _ c.args.count c.loop-made.made (now c.loop-made.walked c.loop-made.target) c.loop-made.invariant.same c.loop-made-test.false) (c.time_out.ensures.state _) c.time_out.ensures.refused

pub run_turns-returns-clause-noted : goal.run_turns-returns-clause-noted
run_turns-returns-clause-noted t c = loop_over c.args.self.now.turns (condition_spot c.args.sequence.now c.args.path.now part.While) (λ r. v.value (direct false) (calls_in_walk c.args.self.now c.args.depth) (tree c.args.expr.now) r) (λ shows r. o.value_events (calls_in_walk c.args.self.now c.args.depth) (events_in_walk shows c.args.self.now c.args.depth) (tree c.args.expr.now) r) (λ r. m.inside (direct false) (λ q. m.steps_result (direct false) c.args.self.now.turn_us (calls_in_walk c.args.self.now c.args.depth) (steps_tree c.args.steps.now) q) r) (λ shows r. os.steps_events shows c.args.self.now.turn_us (calls_in_walk c.args.self.now c.args.depth) (events_in_walk shows c.args.self.now c.args.depth) (step_on_path c.args.sequence.now c.args.path.now) 0 (steps_tree c.args.steps.now) r) c.args.count c.loop-made.made c.loop-made.mark (seen_so_far c.args.walked.now) (seen_so_far c.loop-made.walked) (seen_so_far c.time_out.new.self) (now c.loop-made.walked c.loop-made.target) _ c.time_out.new.self.held.end c.time_out.result c.loop-made-test.false c.loop-made.invariant.noted
    (or_refused _ c.time_out.new.self.held.end c.time_out.result (c.time_out.ensures.noted c.args.self.now.turns) c.time_out.ensures.refused)

pub run_turn-returns-in_err-count_step-clause-gives : goal.run_turn-returns-in_err-count_step-clause-gives
run_turn-returns-in_err-count_step-clause-gives t c = means_stopped c.count_step.new.walked.held.end _ _ _ c.from_residual-in_err-count_step.ensures.0 (turn_ends (λ r. v.value (direct false) (calls_in_walk c.args.self.now c.args.depth) (tree c.args.expr.now) r) (λ r. m.inside (direct false) (λ q. m.steps_result (direct false) c.args.self.now.turn_us (calls_in_walk c.args.self.now c.args.depth) (steps_tree c.args.steps.now) q) r) c.count_step.new.walked.held.end _ (now c.args.walked.now c.args.target.now) (now c.turn.new.self c.args.target.now) (c.in_ok-turn.ensures.state _) (c.in_err-count_step.ensures.gives c.args.target.now))

pub run_turn-returns-in_err-count_step-clause-noted : goal.run_turn-returns-in_err-count_step-clause-noted
unfolding os.turn_events
run_turn-returns-in_err-count_step-clause-noted t c = unless_ended _ c.count_step.new.walked.held.end c.in_err-count_step.field-0.0 _ c.from_residual-in_err-count_step.ensures.0
    (event_then {A = Bool} c.args.self.now.turns _ _ _ (e.Turns (condition_spot c.args.sequence.now c.args.path.now part.While) c.args.number) (λ q shows. e.events_after (m.counted_step (direct false) q) (λ done r. os.tested_events shows (condition_spot c.args.sequence.now c.args.path.now part.While) (λ r. v.value (direct false) (calls_in_walk c.args.self.now c.args.depth) (tree c.args.expr.now) r) (o.value_events (calls_in_walk c.args.self.now c.args.depth) (events_in_walk shows c.args.self.now c.args.depth) (tree c.args.expr.now)) (λ r. m.inside (direct false) (λ q. m.steps_result (direct false) c.args.self.now.turn_us (calls_in_walk c.args.self.now c.args.depth) (steps_tree c.args.steps.now) q) r) (λ q. os.steps_events shows c.args.self.now.turn_us (calls_in_walk c.args.self.now c.args.depth) (events_in_walk shows c.args.self.now c.args.depth) (step_on_path c.args.sequence.now c.args.path.now) 0 (steps_tree c.args.steps.now) q) r)) c.count_step.new.walked.held.end (Err c.in_err-count_step.field-0.0) (now c.args.walked.now c.args.target.now) (now c.turn.new.self c.args.target.now) (c.in_ok-turn.ensures.state _) (c.in_ok-turn.ensures.noted c.args.self.now.turns)
    (quiet_stops Bool c.args.self.now.turns _ _ _ c.count_step.new.walked.held.end c.in_err-count_step.field-0.0 (m.counted_step (direct false) (now c.turn.new.self c.args.target.now)) _ (c.in_err-count_step.ensures.gives c.args.target.now) c.count_step.ensures.seen))

pub run_turn-returns-clause-gives : goal.run_turn-returns-clause-gives
run_turn-returns-clause-gives t c = turn_gives (λ r. v.value (direct false) (calls_in_walk c.args.self.now c.args.depth) (tree c.args.expr.now) r) (λ r. m.inside (direct false) (λ q. m.steps_result (direct false) c.args.self.now.turn_us (calls_in_walk c.args.self.now c.args.depth) (steps_tree c.args.steps.now) q) r) c.test_turn.new.walked.held.end c.test_turn.result (now c.args.walked.now c.args.target.now) (now c.turn.new.self c.args.target.now) (now c.count_step.new.walked c.args.target.now) _ (c.in_ok-turn.ensures.state _) (c.in_ok-count_step.ensures.gives c.args.target.now) c.test_turn.ensures.gives

pub run_turn-returns-clause-noted : goal.run_turn-returns-clause-noted
unfolding os.turn_events
run_turn-returns-clause-noted t c = event_then c.args.self.now.turns _ _ _ (e.Turns (condition_spot c.args.sequence.now c.args.path.now part.While) c.args.number) (λ q shows. e.events_after (m.counted_step (direct false) q) (λ done r. os.tested_events shows (condition_spot c.args.sequence.now c.args.path.now part.While) (λ r. v.value (direct false) (calls_in_walk c.args.self.now c.args.depth) (tree c.args.expr.now) r) (o.value_events (calls_in_walk c.args.self.now c.args.depth) (events_in_walk shows c.args.self.now c.args.depth) (tree c.args.expr.now)) (λ r. m.inside (direct false) (λ q. m.steps_result (direct false) c.args.self.now.turn_us (calls_in_walk c.args.self.now c.args.depth) (steps_tree c.args.steps.now) q) r) (λ q. os.steps_events shows c.args.self.now.turn_us (calls_in_walk c.args.self.now c.args.depth) (events_in_walk shows c.args.self.now c.args.depth) (step_on_path c.args.sequence.now c.args.path.now) 0 (steps_tree c.args.steps.now) q) r)) c.test_turn.new.walked.held.end c.test_turn.result (now c.args.walked.now c.args.target.now) (now c.turn.new.self c.args.target.now) (c.in_ok-turn.ensures.state _) (c.in_ok-turn.ensures.noted c.args.self.now.turns)
    (quiet_then {A = Unit {0}} {B = Bool} c.args.self.now.turns _ _ _ _ c.test_turn.new.walked.held.end c.test_turn.result (m.counted_step (direct false) (now c.turn.new.self c.args.target.now)) tt _ (c.in_ok-count_step.ensures.gives c.args.target.now) c.count_step.ensures.seen c.test_turn.ensures.noted)

pub test_turn-returns-in_err-number-clause-noted : goal.test_turn-returns-in_err-number-clause-noted
unfolding os.tested_events
test_turn-returns-in_err-number-clause-noted t c = unless_ended _ c.evaluate.new.walked.held.end c.in_err-number.field-0.0 _ c.from_residual.ensures.0
    (part_stops Bool c.args.self.now.turns _ _ _ _ c.evaluate.new.walked.held.end c.in_err-number.field-0.0 c.in_err-number.field-0.0 _ _ c.in_err-number.ensures.gives c.in_err-number.ensures.noted)

pub test_turn-returns-in_err-find-clause-gives : goal.test_turn-returns-in_err-find-clause-gives
test_turn-returns-in_err-find-clause-gives t c = means_stopped c.find.new.self.held.end _ _ _ c.from_residual-in_err-find.ensures.0 (refused_ends c.find.new.self.held.end _ _ ((c.in_err-find.ensures (condition_spot c.args.sequence.now c.args.path.now part.While)).refused))

pub test_turn-returns-in_err-find-clause-noted : goal.test_turn-returns-in_err-find-clause-noted
test_turn-returns-in_err-find-clause-noted t c = unless_ended _ c.find.new.self.held.end c.in_err-find.field-0.0 _ c.from_residual-in_err-find.ensures.0
    (refused Bool _ c.find.new.self.held.end c.in_err-find.field-0.0 ((c.in_err-find.ensures (condition_spot c.args.sequence.now c.args.path.now part.While)).refused))

pub test_turn-returns-then-number-eq0-clause-gives : goal.test_turn-returns-then-number-eq0-clause-gives
test_turn-returns-then-number-eq0-clause-gives t c = tested_false (λ r. v.value (direct false) (calls_in_walk c.args.self.now c.args.depth) (tree c.args.expr.now) r) (λ r. m.inside (direct false) (λ q. m.steps_result (direct false) c.args.self.now.turn_us (calls_in_walk c.args.self.now c.args.depth) (steps_tree c.args.steps.now) q) r) (now c.args.walked.now c.args.target.now) _ _ c.in_ok-number.number c.in_ok-number.ensures.gives (is_zero _ c.if-number-eq0.true) ((c.in_ok-find.ensures (condition_spot c.args.sequence.now c.args.path.now part.While)).state _)

pub test_turn-returns-then-number-eq0-clause-noted : goal.test_turn-returns-then-number-eq0-clause-noted
unfolding os.tested_events
test_turn-returns-then-number-eq0-clause-noted t c = notes_value c.args.self.now.turns _ _ _ _ _ _ c.in_ok-number.number _ c.in_ok-number.ensures.gives c.in_ok-number.ensures.noted
    (notes_event c.args.self.now.turns _ _ _ (e.Finds (condition_spot c.args.sequence.now c.args.path.now part.While) c.in_ok-number.number) (λ q shows. cond (nat_eq c.in_ok-number.number 0) [] (os.steps_events shows c.args.self.now.turn_us (calls_in_walk c.args.self.now c.args.depth) (events_in_walk shows c.args.self.now c.args.depth) (step_on_path c.args.sequence.now c.args.path.now) 0 (steps_tree c.args.steps.now) q)) (now c.evaluate.new.walked c.evaluate.new.target) (now c.find.new.self c.evaluate.new.target) ((c.in_ok-find.ensures (condition_spot c.args.sequence.now c.args.path.now part.While)).state _) ((c.in_ok-find.ensures (condition_spot c.args.sequence.now c.args.path.now part.While)).noted c.args.self.now.turns) (notes_first c.args.self.now.turns _ _ _ _ (nat_eq c.in_ok-number.number 0) (is_zero _ c.if-number-eq0.true) (notes_none c.args.self.now.turns _)))

pub test_turn-returns-in_err-run_inside-clause-gives : goal.test_turn-returns-in_err-run_inside-clause-gives
test_turn-returns-in_err-run_inside-clause-gives t c = means_stopped c.run_inside.new.walked.held.end _ _ _ c.from_residual-in_err-run_inside.ensures.0 (tested_ends (λ r. v.value (direct false) (calls_in_walk c.args.self.now c.args.depth) (tree c.args.expr.now) r) (λ r. m.inside (direct false) (λ q. m.steps_result (direct false) c.args.self.now.turn_us (calls_in_walk c.args.self.now c.args.depth) (steps_tree c.args.steps.now) q) r) c.run_inside.new.walked.held.end _ (now c.args.walked.now c.args.target.now) _ (now c.find.new.self c.evaluate.new.target) c.in_ok-number.number c.in_ok-number.ensures.gives (no_zero _ c.if-number-eq0.false) ((c.in_ok-find.ensures (condition_spot c.args.sequence.now c.args.path.now part.While)).state _) c.in_err-run_inside.ensures.gives)

pub test_turn-returns-in_err-run_inside-clause-noted : goal.test_turn-returns-in_err-run_inside-clause-noted
unfolding os.tested_events
test_turn-returns-in_err-run_inside-clause-noted t c = unless_ended _ c.run_inside.new.walked.held.end c.in_err-run_inside.field-0.0 _ c.from_residual-in_err-run_inside.ensures.0
    (value_then {A = ℕ} {B = Bool} c.args.self.now.turns _ _ _ _ _ c.run_inside.new.walked.held.end (Err c.in_err-run_inside.field-0.0) _ c.in_ok-number.number _ c.in_ok-number.ensures.gives c.in_ok-number.ensures.noted
    (event_then {A = Bool} c.args.self.now.turns _ _ _ (e.Finds (condition_spot c.args.sequence.now c.args.path.now part.While) c.in_ok-number.number) (λ q shows. cond (nat_eq c.in_ok-number.number 0) [] (os.steps_events shows c.args.self.now.turn_us (calls_in_walk c.args.self.now c.args.depth) (events_in_walk shows c.args.self.now c.args.depth) (step_on_path c.args.sequence.now c.args.path.now) 0 (steps_tree c.args.steps.now) q)) c.run_inside.new.walked.held.end (Err c.in_err-run_inside.field-0.0) (now c.evaluate.new.walked c.evaluate.new.target) (now c.find.new.self c.evaluate.new.target) ((c.in_ok-find.ensures (condition_spot c.args.sequence.now c.args.path.now part.While)).state _) ((c.in_ok-find.ensures (condition_spot c.args.sequence.now c.args.path.now part.While)).noted c.args.self.now.turns)
    (take_second {A = Bool} c.args.self.now.turns _ _ _ _ c.run_inside.new.walked.held.end (Err c.in_err-run_inside.field-0.0) (nat_eq c.in_ok-number.number 0) (no_zero _ c.if-number-eq0.false)
    (unless_stopped (Unit {0}) Bool _ _ c.run_inside.new.walked.held.end c.in_err-run_inside.field-0.0 c.in_err-run_inside.field-0.0 (λ h. h) c.in_err-run_inside.ensures.noted))))

pub test_turn-returns-clause-gives : goal.test_turn-returns-clause-gives
test_turn-returns-clause-gives t c = tested_true (λ r. v.value (direct false) (calls_in_walk c.args.self.now c.args.depth) (tree c.args.expr.now) r) (λ r. m.inside (direct false) (λ q. m.steps_result (direct false) c.args.self.now.turn_us (calls_in_walk c.args.self.now c.args.depth) (steps_tree c.args.steps.now) q) r) (now c.args.walked.now c.args.target.now) _ (now c.find.new.self c.evaluate.new.target) _ c.in_ok-number.number c.in_ok-number.ensures.gives (no_zero _ c.if-number-eq0.false) ((c.in_ok-find.ensures (condition_spot c.args.sequence.now c.args.path.now part.While)).state _) c.in_ok-run_inside.ensures.gives

pub test_turn-returns-clause-noted : goal.test_turn-returns-clause-noted
unfolding os.tested_events
test_turn-returns-clause-noted t c = notes_value c.args.self.now.turns _ _ _ _ _ _ c.in_ok-number.number _ c.in_ok-number.ensures.gives c.in_ok-number.ensures.noted
    (notes_event c.args.self.now.turns _ _ _ (e.Finds (condition_spot c.args.sequence.now c.args.path.now part.While) c.in_ok-number.number) (λ q shows. cond (nat_eq c.in_ok-number.number 0) [] (os.steps_events shows c.args.self.now.turn_us (calls_in_walk c.args.self.now c.args.depth) (events_in_walk shows c.args.self.now c.args.depth) (step_on_path c.args.sequence.now c.args.path.now) 0 (steps_tree c.args.steps.now) q)) (now c.evaluate.new.walked c.evaluate.new.target) (now c.find.new.self c.evaluate.new.target) ((c.in_ok-find.ensures (condition_spot c.args.sequence.now c.args.path.now part.While)).state _) ((c.in_ok-find.ensures (condition_spot c.args.sequence.now c.args.path.now part.While)).noted c.args.self.now.turns) (notes_second c.args.self.now.turns _ _ _ _ (nat_eq c.in_ok-number.number 0) (no_zero _ c.if-number-eq0.false) c.in_ok-run_inside.ensures.noted))

pub run_inside-returns-clause-gives : goal.run_inside-returns-clause-gives
run_inside-returns-clause-gives t c = l.inside_on (direct false) _ _ _ _ _ c.in_ok-run_steps.ensures.gives c.local_count-count.ensures (c.cut_back.ensures.state _)

pub run_inside-returns-clause-noted : goal.run_inside-returns-clause-noted
run_inside-returns-clause-noted t c = notes_to c.args.self.now.turns _ _ _ _ c.cut_back.ensures.seen c.in_ok-run_steps.ensures.noted

pub repeat_steps-returns-in-Some-clause-noted : goal.repeat_steps-returns-in-Some-clause-noted
unfolding os.repeat_events
repeat_steps-returns-in-Some-clause-noted t c = unless_as c.args.self.now.turns _ _ _ _ c.begin_loop.new.walked.held.end c.begin_loop.result
    (λ shows. ap (λ (k : ℕ). e.Loops (condition_spot c.args.sequence.now c.args.path.now part.While) (tree c.in-Some.expr) k ∷ os.loop_events shows c.args.self.now.turn_us (calls_in_walk c.args.self.now c.args.depth) (events_in_walk shows c.args.self.now c.args.depth) (condition_spot c.args.sequence.now c.args.path.now part.While) (p.poll_of (tree c.in-Some.expr) (steps_tree c.args.steps.now)) (tree c.in-Some.expr) k (λ r. m.inside (direct false) (λ q. m.steps_result (direct false) c.args.self.now.turn_us (calls_in_walk c.args.self.now c.args.depth) (steps_tree c.args.steps.now) q) r) (λ q. os.steps_events shows c.args.self.now.turn_us (calls_in_walk c.args.self.now c.args.depth) (events_in_walk shows c.args.self.now c.args.depth) (step_on_path c.args.sequence.now c.args.path.now) 0 (steps_tree c.args.steps.now) q) (now c.args.walked.now c.args.target.now)) c.turn_count.ensures.answer
    ∙ ap (λ (x : Option Expr). os.repeat_events shows c.args.self.now.turn_us (calls_in_walk c.args.self.now c.args.depth) (events_in_walk shows c.args.self.now c.args.depth) (step_on_path c.args.sequence.now c.args.path.now) (option_map tree x) c.args.timeout (steps_tree c.args.steps.now) (λ r. m.inside (direct false) (λ q. m.steps_result (direct false) c.args.self.now.turn_us (calls_in_walk c.args.self.now c.args.depth) (steps_tree c.args.steps.now) q) r) (λ q. os.steps_events shows c.args.self.now.turn_us (calls_in_walk c.args.self.now c.args.depth) (events_in_walk shows c.args.self.now c.args.depth) (step_on_path c.args.sequence.now c.args.path.now) 0 (steps_tree c.args.steps.now) q) (now c.args.walked.now c.args.target.now)) (sym c.in-Some.is)) c.begin_loop.ensures.noted

pub evaluate-returns-in-Binary-clause-noted : goal.evaluate-returns-in-Binary-clause-noted
unfolding o.value_events
evaluate-returns-in-Binary-clause-noted u c =
    let whole : tree c.args.expr.now ≡ t.Binary c.in-Binary.op (tree c.deref-in-Binary.result.now) (tree c.deref-in-Binary-2.result.now) =
    ap tree c.in-Binary.is ∙ tree-Binary c.in-Binary.op c.in-Binary.left c.in-Binary.right ∙ ap (λ (x : Expr). t.Binary c.in-Binary.op (tree x) (tree c.in-Binary.right.value)) (sym c.deref-in-Binary.ensures)
    ∙ ap (λ (x : Expr). t.Binary c.in-Binary.op (tree c.deref-in-Binary.result.now) (tree x)) (sym c.deref-in-Binary-2.ensures) in
    subst (λ (x : Tree). Unless c.evaluate_binary.new.walked.held.end c.evaluate_binary.result (NotesByTurns c.args.self.now.turns (seen_so_far c.args.walked.now) (seen_so_far c.evaluate_binary.new.walked) (λ shows. o.value_events (calls_in_walk c.args.self.now c.args.depth) (events_in_walk shows c.args.self.now c.args.depth) x (now c.args.walked.now c.args.target.now)))) (sym whole) c.evaluate_binary.ensures.noted

pub evaluate-returns-in-Cond-clause-noted : goal.evaluate-returns-in-Cond-clause-noted
unfolding o.value_events
evaluate-returns-in-Cond-clause-noted u c =
    let whole : tree c.args.expr.now ≡ t.Cond (tree c.deref-in-Cond.result.now) (tree c.deref-in-Cond-2.result.now) (tree c.deref-in-Cond-3.result.now) =
    ap tree c.in-Cond.is ∙ tree-Cond c.in-Cond.test c.in-Cond.first c.in-Cond.second ∙ ap (λ (x : Expr). t.Cond (tree x) (tree c.in-Cond.first.value) (tree c.in-Cond.second.value)) (sym c.deref-in-Cond.ensures)
    ∙ ap (λ (x : Expr). t.Cond (tree c.deref-in-Cond.result.now) (tree x) (tree c.in-Cond.second.value)) (sym c.deref-in-Cond-2.ensures)
    ∙ ap (λ (x : Expr). t.Cond (tree c.deref-in-Cond.result.now) (tree c.deref-in-Cond-2.result.now) (tree x)) (sym c.deref-in-Cond-3.ensures) in
    subst (λ (x : Tree). Unless c.evaluate_choice.new.walked.held.end c.evaluate_choice.result (NotesByTurns c.args.self.now.turns (seen_so_far c.args.walked.now) (seen_so_far c.evaluate_choice.new.walked) (λ shows. o.value_events (calls_in_walk c.args.self.now c.args.depth) (events_in_walk shows c.args.self.now c.args.depth) x (now c.args.walked.now c.args.target.now)))) (sym whole) c.evaluate_choice.ensures.noted

pub evaluate-returns-in-Name-clause-gives : goal.evaluate-returns-in-Name-clause-gives
evaluate-returns-in-Name-clause-gives u c =
    let whole : tree c.args.expr.now ≡ t.Named c.deref.result.now = ap tree c.in-Name.is ∙ tree-Name c.in-Name.name ∙ ap (λ (x : Name). t.Named x) (sym c.deref.ensures) in
    subst (λ (x : Tree). v.value (direct false) (calls_in_walk c.args.self.now c.args.depth) x (now c.args.walked.now c.args.target.now) ≡ Ok (c.get_visible.result, (now c.args.walked.now c.args.target.now))) (sym whole)
    (named_is (calls_in_walk c.args.self.now c.args.depth) c.deref.result.now (now c.args.walked.now c.args.target.now) c.get_visible.result (c.get_visible.ensures c.args.target.now ∙ ap (λ (n : List ℕ). unwrap_or (visible n (now c.args.walked.now c.args.target.now)) 0) c.as_str.ensures))

pub run_loop-returns-in-Some-clause-noted : goal.run_loop-returns-in-Some-clause-noted
unfolding os.loop_events
run_loop-returns-in-Some-clause-noted t c = unless_as c.args.self.now.turns _ _ _ _ c.run_poll.new.walked.held.end c.run_poll.result
    (λ shows. ap (λ (x : Option (ℕ × ℕ)). os.loop_events shows c.args.self.now.turn_us (calls_in_walk c.args.self.now c.args.depth) (events_in_walk shows c.args.self.now c.args.depth) (condition_spot c.args.sequence.now c.args.path.now part.While) x (tree c.args.expr.now) c.args.count (λ r. m.inside (direct false) (λ q. m.steps_result (direct false) c.args.self.now.turn_us (calls_in_walk c.args.self.now c.args.depth) (steps_tree c.args.steps.now) q) r) (λ q. os.steps_events shows c.args.self.now.turn_us (calls_in_walk c.args.self.now c.args.depth) (events_in_walk shows c.args.self.now c.args.depth) (step_on_path c.args.sequence.now c.args.path.now) 0 (steps_tree c.args.steps.now) q) (now c.args.walked.now c.args.target.now)) (sym c.in-Some.is ∙ c.poll_of.ensures)) (c.run_poll.ensures.noted c.args.self.now.turns)

pub run_sequence-returns-in_err-run_steps-clause-gives : goal.run_sequence-returns-in_err-run_steps-clause-gives
run_sequence-returns-in_err-run_steps-clause-gives t c = means_stopped c.run_steps.new.walked.held.end _ _ _ c.from_residual.ensures.0 (entered_fail _ _ _ _ c.run_steps.new.walked.held.end (c.take_locals-locals.ensures.changes.state _) c.in_err-run_steps.ensures.gives)

pub run_step-returns-in-Control-clause-noted : goal.run_step-returns-in-Control-clause-noted
unfolding os.step_events
run_step-returns-in-Control-clause-noted t c =
    let a = c.in-Control in
    let whole : step_tree c.args.step.now ≡ k.Control (option_map tree c.deref.result.now) (option_map tree c.deref-in-Control.result.now) a.timeout (steps_tree c.as_slice-in-Control.result.now) =
    ap step_tree c.in-Control.is ∙ step_tree-Control a.cond a.repeat a.timeout a.steps
    ∙ ap (λ (x : Option Expr). k.Control (option_map tree x) (option_map tree a.repeat.value) a.timeout (steps_tree a.steps)) (sym c.deref.ensures)
    ∙ ap (λ (x : Option Expr). k.Control (option_map tree c.deref.result.now) (option_map tree x) a.timeout (steps_tree a.steps)) (sym c.deref-in-Control.ensures)
    ∙ ap (λ (x : List CheckedStep). k.Control (option_map tree c.deref.result.now) (option_map tree c.deref-in-Control.result.now) a.timeout (steps_tree x)) (sym c.as_slice-in-Control.ensures) in
    unless_as c.args.self.now.turns _ _ _ _ c.run_control.new.walked.held.end c.run_control.result
    (λ shows. ap (λ (x : CodeStep). os.step_events shows c.args.self.now.turn_us (calls_in_walk c.args.self.now c.args.depth) (events_in_walk shows c.args.self.now c.args.depth) (step_on_path c.args.sequence.now c.args.path.now) x (now c.args.walked.now c.args.target.now)) (sym whole)) c.run_control.ensures.noted
