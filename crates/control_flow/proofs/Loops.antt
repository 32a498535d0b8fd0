-- Loops of the evaluator, one turn at a time.
use Rattle.std.proofs.Common.{◌≡◌, ℕ, ◌+◌, ◌-◌, ◌<◌, false, List, [], ◌∷◌, ◌++◌, length, drop, get_or, unwrap_or, Result, Ok, codes, refl, sym, ap, subst, ◌∙◌, arith}
use Rattle.expr_grammar.specs.declared.code.Arg.{Arg}
use Rattle.expr_grammar.specs.declared.code.Name.{Name}
use Rattle.expr_grammar.specs.declared.code.Stmt as statement
use Rattle.expr_grammar.specs.Tree.{arg_tree, arg_trees, stmt_tree, code_trees}
use Rattle.sequence_trees.specs.declared.steps.CheckedStep.{CheckedStep}
use Rattle.sequence_trees.specs.Trees.{CodeSteps, SetTrees, NoSteps, step_tree, steps_tree, steps_named}
use Rattle.target_calls.specs.declared.calls.Value.{Value}
use Rattle.target_calls.specs.declared.calls.Value.TheVariants.{Number}
use Rattle.target_calls.specs.NeedPoints.{Costs}
use Rattle.target_calls.specs.World.{World}
use Rattle.access_calls.specs.Reported.{AccessView}
use Rattle.sequence_rules.specs.declared.bindings.Binding.{Binding}
use Rattle.sequence_rules.specs.Late.{Late, late, Later}
use Rattle.sequence_rules.specs.Machine.{State, Out, end_state, with_locals, with_variables}
use Rattle.sequence_rules.specs.Variables.{bound_variable, value_named, set_in}
use Rattle.sequence_rules.specs.Values.{argument, arguments, chained_values}
use Rattle.sequence_rules.specs.Steps.{in_order, counted_step, after_counted, declared_variable, block, step, steps_result, turn, turns, sequence_result, sequence_at}
use Rattle.sequence_rules.specs.Steps as steps
use Rattle.sequence_rules.proofs.LoopLemmas as loop
use Rattle.function_calls.specs.declared.end.End.{End}
use Rattle.function_calls.specs.Ends.{EndsLate, MeansLate}
use Rattle.function_calls.proofs.Leaves.{After, ends_on, later_cond, later_ok}
use Rattle.control_flow.proofs.Exits.{CallsLater, later_arguments, later_block, later_done, later_turns, later_variables}

abbrev S : Type 0
S = State Value Late

abbrev O : Type 0 → Type 0
O A = Out Value Late A

module _ (cost : Costs) (w : World) where
  -- ---- an item more

  pub args_next : (seq : List ℕ → S → O (Unit {0})) (total : O (List Value)) (xs : List Arg) (i : ℕ) (d a : Arg) (got now : List Value) (s r : S) → total ≡ arguments (late cost w) seq (arg_trees (drop i xs)) got s → i < length xs → a ≡ get_or xs i d
      → argument (late cost w) seq (arg_tree a) got s ≡ Ok (now, r) → total ≡ arguments (late cost w) seq (arg_trees (drop (i + 1) xs)) now r
  args_next seq total xs i d a got now s r same h item is = loop.args_on (late cost w) seq total xs i d got now s r same h (subst (λ x. argument (late cost w) seq (arg_tree x) got s ≡ Ok (now, r)) item is)

  pub block_next : (seq : List ℕ → S → O (Unit {0})) (turn_us : ℕ) (total : O (Unit {0})) (xs : List statement.Stmt) (i : ℕ) (d a : statement.Stmt) (s r : S) → total ≡ block (late cost w) turn_us seq (code_trees (drop i xs)) s → i < length xs → a ≡ get_or xs i d
      → steps.statement (late cost w) turn_us seq (stmt_tree a) s ≡ Ok (tt, r) → total ≡ block (late cost w) turn_us seq (code_trees (drop (i + 1) xs)) r
  block_next seq turn_us total xs i d a s r same h item is = loop.block_on (late cost w) seq turn_us total xs i d s r same h (subst (λ x. steps.statement (late cost w) turn_us seq (stmt_tree x) s ≡ Ok (tt, r)) item is)

  pub done_next : (seq : List ℕ → S → O (Unit {0})) (turn_us : ℕ) (total : O (Unit {0})) (xs : List CheckedStep) (i : ℕ) (d a : CheckedStep) (s r : S) → total ≡ steps_result (late cost w) turn_us seq (steps_tree (drop i xs)) s → i < length xs → a ≡ get_or xs i d
      → step (late cost w) turn_us seq (step_tree a) s ≡ Ok (tt, r) → total ≡ steps_result (late cost w) turn_us seq (steps_tree (drop (i + 1) xs)) r
  done_next seq turn_us total xs i d a s r same h item is = loop.done_on (late cost w) seq turn_us total xs i d s r same h (subst (λ x. step (late cost w) turn_us seq (step_tree x) s ≡ Ok (tt, r)) item is)

  -- ---- an item ended

  pub args_fail : (seq : List ℕ → S → O (Unit {0})) (reached : AccessView) (e : End) (total : O (List Value)) (xs : List Arg) (i : ℕ) (d a : Arg) (got : List Value) (s r : S) → CallsLater w seq → total ≡ arguments (late cost w) seq (arg_trees (drop i xs)) got s → i < length xs → a ≡ get_or xs i d
      → EndsLate w reached e r (argument (late cost w) seq (arg_tree a) got s) → EndsLate w reached e r total
  unfolding chained_values
  args_fail seq reached e total xs i d a got s r q same h item is =
      rw (same ∙ loop.args_more (late cost w) seq xs i d got s h) (ends_on w reached e r (argument (late cost w) seq (arg_tree (get_or xs i d)) got s) _ (subst (λ x. EndsLate w reached e r (argument (late cost w) seq (arg_tree x) got s)) item is) (λ x. later_arguments cost w seq (arg_trees (drop (i + 1) xs)) x.0 x.1 q))

  pub block_fail : (seq : List ℕ → S → O (Unit {0})) (turn_us : ℕ) (reached : AccessView) (e : End) (total : O (Unit {0})) (xs : List statement.Stmt) (i : ℕ) (d a : statement.Stmt) (s r : S) → CallsLater w seq → total ≡ block (late cost w) turn_us seq (code_trees (drop i xs)) s → i < length xs → a ≡ get_or xs i d
      → EndsLate w reached e r (steps.statement (late cost w) turn_us seq (stmt_tree a) s) → EndsLate w reached e r total
  unfolding in_order
  block_fail seq turn_us reached e total xs i d a s r q same h item is =
      rw (same ∙ loop.block_more (late cost w) seq turn_us xs i d s h) (ends_on w reached e r (steps.statement (late cost w) turn_us seq (stmt_tree (get_or xs i d)) s) _ (subst (λ x. EndsLate w reached e r (steps.statement (late cost w) turn_us seq (stmt_tree x) s)) item is) (λ x. later_block cost w turn_us seq (code_trees (drop (i + 1) xs)) x.1 q))

  pub done_fail : (seq : List ℕ → S → O (Unit {0})) (turn_us : ℕ) (reached : AccessView) (e : End) (total : O (Unit {0})) (xs : List CheckedStep) (i : ℕ) (d a : CheckedStep) (s r : S) → CallsLater w seq → total ≡ steps_result (late cost w) turn_us seq (steps_tree (drop i xs)) s → i < length xs → a ≡ get_or xs i d
      → EndsLate w reached e r (step (late cost w) turn_us seq (step_tree a) s) → EndsLate w reached e r total
  unfolding in_order
  done_fail seq turn_us reached e total xs i d a s r q same h item is =
      rw (same ∙ loop.done_more (late cost w) seq turn_us xs i d s h) (ends_on w reached e r (step (late cost w) turn_us seq (step_tree (get_or xs i d)) s) _ (subst (λ x. EndsLate w reached e r (step (late cost w) turn_us seq (step_tree x) s)) item is) (λ x. later_done cost w turn_us seq (steps_tree (drop (i + 1) xs)) x.1 q))

  pub turns_fail : (test : S → O Value) (body : S → O (Unit {0})) (reached : AccessView) (e : End) (total : O (Unit {0})) (left : ℕ) (s now : S) → ((r : S) → After w r (test r)) → ((r : S) → After w r (body r)) → total ≡ turns (late cost w) test body left s → 0 < left
      → EndsLate w reached e now (turn (late cost w) test body s) → EndsLate w reached e now total
  turns_fail test body reached e total left s now k l same pos h =
      rw (same ∙ loop.turns_more (late cost w) test body left s pos) (ends_on w reached e now (turn (late cost w) test body s) _ h (λ x. later_cond w x.1 x.0 _ _ (later_turns cost w test body (left - 1) x.1 k l) (later_ok w x.1 tt)))

  pub entered_fail : (body : S → O (Unit {0})) (reached : AccessView) (e : End) (s r q : S) → r ≡ with_locals s [] → EndsLate w reached e q (body r) → EndsLate w reached e q (sequence_result (late cost w) body s)
  unfolding sequence_result
  entered_fail body reached e s r q none h = ends_on w reached e q (body (with_locals s [])) _ (subst (λ x. EndsLate w reached e q (body x)) none h) (λ x. later_variables w x.1 _ s.locals)

  -- memory was refused for a declaration
  pub declare_refused : (name : Name) (f : S → O Value) (s k r o : S) (v : Value) → counted_step (late cost w) s ≡ Ok (tt, k) → f k ≡ Ok (v, r) → o ≡ r → Later w o.rest (end_state (after_counted (late cost w) (λ q. declared_variable (late cost w) name (f q)) s)).rest
  unfolding after_counted declared_variable
  declare_refused name f s k r o v h i j = rw h (rw i (rw j ((later_variables w r r.globals (r.locals ++ bound_variable name.text v ∷ [])).so)))

  -- a called sequence gives back; no value is used
  pub entered_as : (body : S → O (Unit {0})) (s r q p : S) (dp ap control : Value) (outer : List (Binding Value)) → r ≡ with_locals s [] → body r ≡ Ok (tt, q)
      → dp ≡ unwrap_or (value_named s.globals (codes "__dp")) (Number 0) → ap ≡ unwrap_or (value_named s.globals (codes "__ap")) (Number 0) → control ≡ unwrap_or (value_named s.globals (codes "__errorcontrol")) (Number 0)
      → outer ≡ s.locals → p ≡ with_variables q (set_in (set_in (set_in q.globals (codes "__dp") dp) (codes "__ap") ap) (codes "__errorcontrol") control) outer
      → sequence_result (late cost w) body s ≡ Ok (tt, p)
  unfolding late
  entered_as body s r q p dp ap control outer none is d a e same at = loop.entered_on (late cost w) body s r q p dp ap control outer none is d a e same at

  careless : (late cost w).is_watchful ≡ false
  unfolding late
  careless = refl

  pub sequence_on : (turn_us : ℕ) (set : SetTrees) (reached : AccessView) (d : ℕ) (name : List ℕ) (s now : S) (result : Result (Unit {0}) End) (steps : CodeSteps) → ¬ (d ≡ 0) → steps ≡ unwrap_or (steps_named name set.sequences) NoSteps
      → MeansLate w reached result now (sequence_result (late cost w) (λ r. steps_result (late cost w) turn_us (λ n q. sequence_at (late cost w) turn_us set (d - 1) n q) steps r) s)
      → MeansLate w reached result now (sequence_at (late cost w) turn_us set d name s)
  sequence_on turn_us set reached d name s now result steps some is h =
      subst (λ o. MeansLate w reached result now o) (ap (λ k. sequence_result (late cost w) (λ r. steps_result (late cost w) turn_us (λ n q. sequence_at (late cost w) turn_us set (d - 1) n q) k r) s) is
      ∙ sym (loop.sequence_is (late cost w) turn_us set careless d name s (omega (arith, some)))) h
