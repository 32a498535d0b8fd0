-- What is seen of lists of arguments, statements and steps, one item at a time.
use Rattle.std.proofs.Common.{◌≡◌, ℕ, suc, ◌+◌, ◌<◌, ◌≤◌, Bool, false, List, [], ◌++◌, length, drop, get_or, sym, ap, ◌∙◌, arith}
use Rattle.std.proofs.lemmas.List.{drop_all, drop_more}
use Rattle.expr_grammar.specs.declared.code.Arg.{Arg}
use Rattle.expr_grammar.specs.declared.code.Stmt as statement
use Rattle.expr_grammar.specs.Tree.{arg_tree, arg_trees, stmt_tree, code_trees}
use Rattle.sequence_trees.specs.Order.{SetStep}
use Rattle.sequence_trees.specs.declared.steps.CheckedStep.{CheckedStep}
use Rattle.sequence_trees.specs.Trees.{step_tree, steps_tree}
use Rattle.sequence_rules.specs.Direct.{Now, direct}
use Rattle.sequence_rules.specs.Machine.{State, Out}
use Rattle.sequence_rules.specs.Steps.{step}
use Rattle.sequence_rules.specs.Steps as steps
use Rattle.sequence_rules.specs.Values.{argument}
use Rattle.run_events.specs.Events.{Event, events_after}
use Rattle.run_events.specs.OfSteps.{block_events, inner_step, statement_events, step_events, steps_events}
use Rattle.run_events.specs.OfValues.{argument_events, arguments_events}

abbrev S : Type 0
S = State ℕ Now

module _ (seq : List ℕ → S → Out ℕ Now (Unit {0})) (seen : (ℕ → Bool) → List ℕ → S → List Event) where
  pub args_head : (xs : List Arg) (i : ℕ) (d : Arg) (got : List ℕ) (s : S) → i < length xs → (shows : ℕ → Bool)
      → argument_events seq (seen shows) (arg_tree (get_or xs i d)) s ++ events_after (argument (direct false) seq (arg_tree (get_or xs i d)) got s) (λ g r. arguments_events seq (seen shows) (arg_trees (drop (i + 1) xs)) g r)
      ≡ arguments_events seq (seen shows) (arg_trees (drop i xs)) got s
  unfolding arguments_events
  args_head xs i d got s h shows = ap (λ l. arguments_events seq (seen shows) (arg_trees l) got s) (sym (drop_more xs i d h))

  pub args_none : (xs : List Arg) (i : ℕ) (got : List ℕ) (s : S) → length xs ≤ i → (shows : ℕ → Bool) → [] ≡ arguments_events seq (seen shows) (arg_trees (drop i xs)) got s
  unfolding arguments_events
  args_none xs i got s h shows = ap (λ l. arguments_events seq (seen shows) (arg_trees l) got s) (sym (drop_all i xs h))

  module _ (turn_us : ℕ) (at : SetStep) where
    pub block_head : (xs : List statement.Stmt) (i : ℕ) (d : statement.Stmt) (s : S) → i < length xs → (shows : ℕ → Bool)
        → statement_events shows turn_us seq (seen shows) at (stmt_tree (get_or xs i d)) s ++ events_after (steps.statement (direct false) turn_us seq (stmt_tree (get_or xs i d)) s) (λ done r. block_events shows turn_us seq (seen shows) at (code_trees (drop (i + 1) xs)) r)
        ≡ block_events shows turn_us seq (seen shows) at (code_trees (drop i xs)) s
    unfolding block_events
    block_head xs i d s h shows = ap (λ l. block_events shows turn_us seq (seen shows) at (code_trees l) s) (sym (drop_more xs i d h))

    pub block_none : (xs : List statement.Stmt) (i : ℕ) (s : S) → length xs ≤ i → (shows : ℕ → Bool) → [] ≡ block_events shows turn_us seq (seen shows) at (code_trees (drop i xs)) s
    unfolding block_events
    block_none xs i s h shows = ap (λ l. block_events shows turn_us seq (seen shows) at (code_trees l) s) (sym (drop_all i xs h))

    pub steps_head : (xs : List CheckedStep) (i : ℕ) (d : CheckedStep) (s : S) → i < length xs → (shows : ℕ → Bool)
        → step_events shows turn_us seq (seen shows) (inner_step at i) (step_tree (get_or xs i d)) s ++ events_after (step (direct false) turn_us seq (step_tree (get_or xs i d)) s) (λ done r. steps_events shows turn_us seq (seen shows) at (i + 1) (steps_tree (drop (i + 1) xs)) r)
        ≡ steps_events shows turn_us seq (seen shows) at i (steps_tree (drop i xs)) s
    unfolding steps_events
    steps_head xs i d s h shows =
        let next : i + 1 ≡ suc i = omega arith in
        ap (λ n. step_events shows turn_us seq (seen shows) (inner_step at i) (step_tree (get_or xs i d)) s ++ events_after (step (direct false) turn_us seq (step_tree (get_or xs i d)) s) (λ done r. steps_events shows turn_us seq (seen shows) at n (steps_tree (drop (i + 1) xs)) r)) next
        ∙ ap (λ l. steps_events shows turn_us seq (seen shows) at i (steps_tree l) s) (sym (drop_more xs i d h))

    pub steps_none : (xs : List CheckedStep) (i : ℕ) (s : S) → length xs ≤ i → (shows : ℕ → Bool) → [] ≡ steps_events shows turn_us seq (seen shows) at i (steps_tree (drop i xs)) s
    unfolding steps_events
    steps_none xs i s h shows = ap (λ l. steps_events shows turn_us seq (seen shows) at i (steps_tree l) s) (sym (drop_all i xs h))
