-- Loops of a walk, one turn at a time: what the meaning comes to.
use Rattle.std.proofs.Common.{◌≡◌, ℕ, ◌+◌, ◌-◌, ◌<◌, ◌≤◌, true, false, List, [], length, drop, get_or, unwrap_or, Result, Ok, refl, sym, ap, subst, ◌∙◌, arith}
use Rattle.expr_grammar.specs.declared.code.Arg.{Arg}
use Rattle.expr_grammar.specs.declared.code.Stmt as statement
use Rattle.expr_grammar.specs.Tree.{arg_tree, arg_trees, stmt_tree, code_trees}
use Rattle.seq_check.specs.Answers.{checked_trees}
use Rattle.sequence_trees.specs.declared.steps.CheckedStep.{CheckedStep}
use Rattle.sequence_trees.specs.Trees.{CodeSteps, NoSteps, step_tree, steps_tree, steps_named}
use Rattle.sequence_rules.specs.Direct.{Now, direct}
use Rattle.sequence_rules.specs.Machine.{State, Out, with_locals}
use Rattle.sequence_rules.specs.Values.{argument, arguments, chained_values}
use Rattle.sequence_rules.specs.Steps.{in_order, statement, block, step, steps_result, turn, turns, sequence_result}
use Rattle.sequence_rules.proofs.LoopLemmas as l
use Rattle.logged_calls.specs.Held.{CodeEndsAs, Means}
use Rattle.logged_calls.specs.declared.held.LoggedEnd.{LoggedEnd}
use Rattle.logged_calls.specs.declared.held.Stopped.{Stopped}
use Rattle.logged_calls.proofs.EndLemmas.{ends_on}
use Rattle.logged_runs.specs.declared.runner.LoggedRunner.{LoggedRunner}
use Rattle.logged_runs.specs.Walk.{calls_in_walk}

abbrev S : Type 0
S = State ℕ Now

abbrev O : Type 0 → Type 0
O A = Out ℕ Now A

module _ (runner : LoggedRunner) (depth : ℕ) where
  pub args_on : (total : O (List ℕ)) (xs : List Arg) (i : ℕ) (d : Arg) (got now : List ℕ) (s r : S) → total ≡ arguments (direct false) (calls_in_walk runner depth) (arg_trees (drop i xs)) got s → i < length xs
      → argument (direct false) (calls_in_walk runner depth) (arg_tree (get_or xs i d)) got s ≡ Ok (now, r) → total ≡ arguments (direct false) (calls_in_walk runner depth) (arg_trees (drop (i + 1) xs)) now r
  args_on total xs i d got now s r same h is = l.args_on (direct false) (calls_in_walk runner depth) total xs i d got now s r same h is

  pub args_fail : (total : O (List ℕ)) (xs : List Arg) (i : ℕ) (d : Arg) (got : List ℕ) (s r : S) (end : LoggedEnd) → total ≡ arguments (direct false) (calls_in_walk runner depth) (arg_trees (drop i xs)) got s → i < length xs
      → CodeEndsAs end r (argument (direct false) (calls_in_walk runner depth) (arg_tree (get_or xs i d)) got s) → CodeEndsAs end r total
  unfolding chained_values
  args_fail total xs i d got s r end same h is = rw (same ∙ l.args_more (direct false) (calls_in_walk runner depth) xs i d got s h) (ends_on end r (argument (direct false) (calls_in_walk runner depth) (arg_tree (get_or xs i d)) got s) _ is)

  pub args_over : (total : O (List ℕ)) (xs : List Arg) (i : ℕ) (got : List ℕ) (s : S) → total ≡ arguments (direct false) (calls_in_walk runner depth) (arg_trees (drop i xs)) got s → length xs ≤ i → total ≡ Ok (got, s)
  args_over total xs i got s same h = l.args_over (direct false) (calls_in_walk runner depth) total xs i got s same h

  pub block_on : (total : O (Unit {0})) (xs : List statement.Stmt) (i : ℕ) (d : statement.Stmt) (s r : S) → total ≡ block (direct false) runner.turn_us (calls_in_walk runner depth) (code_trees (drop i xs)) s → i < length xs
      → statement (direct false) runner.turn_us (calls_in_walk runner depth) (stmt_tree (get_or xs i d)) s ≡ Ok (tt, r) → total ≡ block (direct false) runner.turn_us (calls_in_walk runner depth) (code_trees (drop (i + 1) xs)) r
  block_on total xs i d s r same h is = l.block_on (direct false) (calls_in_walk runner depth) runner.turn_us total xs i d s r same h is

  pub block_fail : (total : O (Unit {0})) (xs : List statement.Stmt) (i : ℕ) (d : statement.Stmt) (s r : S) (end : LoggedEnd) → total ≡ block (direct false) runner.turn_us (calls_in_walk runner depth) (code_trees (drop i xs)) s → i < length xs
      → CodeEndsAs end r (statement (direct false) runner.turn_us (calls_in_walk runner depth) (stmt_tree (get_or xs i d)) s) → CodeEndsAs end r total
  unfolding in_order
  block_fail total xs i d s r end same h is = rw (same ∙ l.block_more (direct false) (calls_in_walk runner depth) runner.turn_us xs i d s h) (ends_on end r (statement (direct false) runner.turn_us (calls_in_walk runner depth) (stmt_tree (get_or xs i d)) s) _ is)

  pub block_over : (total : O (Unit {0})) (xs : List statement.Stmt) (i : ℕ) (s : S) → total ≡ block (direct false) runner.turn_us (calls_in_walk runner depth) (code_trees (drop i xs)) s → length xs ≤ i → total ≡ Ok (tt, s)
  block_over total xs i s same h = l.block_over (direct false) (calls_in_walk runner depth) runner.turn_us total xs i s same h

  pub done_on : (total : O (Unit {0})) (xs : List CheckedStep) (i : ℕ) (d : CheckedStep) (s r : S) → total ≡ steps_result (direct false) runner.turn_us (calls_in_walk runner depth) (steps_tree (drop i xs)) s → i < length xs
      → step (direct false) runner.turn_us (calls_in_walk runner depth) (step_tree (get_or xs i d)) s ≡ Ok (tt, r) → total ≡ steps_result (direct false) runner.turn_us (calls_in_walk runner depth) (steps_tree (drop (i + 1) xs)) r
  done_on total xs i d s r same h is = l.done_on (direct false) (calls_in_walk runner depth) runner.turn_us total xs i d s r same h is

  pub done_fail : (total : O (Unit {0})) (xs : List CheckedStep) (i : ℕ) (d : CheckedStep) (s r : S) (end : LoggedEnd) → total ≡ steps_result (direct false) runner.turn_us (calls_in_walk runner depth) (steps_tree (drop i xs)) s → i < length xs
      → CodeEndsAs end r (step (direct false) runner.turn_us (calls_in_walk runner depth) (step_tree (get_or xs i d)) s) → CodeEndsAs end r total
  unfolding in_order
  done_fail total xs i d s r end same h is = rw (same ∙ l.done_more (direct false) (calls_in_walk runner depth) runner.turn_us xs i d s h) (ends_on end r (step (direct false) runner.turn_us (calls_in_walk runner depth) (step_tree (get_or xs i d)) s) _ is)

  pub done_over : (total : O (Unit {0})) (xs : List CheckedStep) (i : ℕ) (s : S) → total ≡ steps_result (direct false) runner.turn_us (calls_in_walk runner depth) (steps_tree (drop i xs)) s → length xs ≤ i → total ≡ Ok (tt, s)
  done_over total xs i s same h = l.done_over (direct false) (calls_in_walk runner depth) runner.turn_us total xs i s same h

module _ (test : S → O ℕ) (body : S → O (Unit {0})) where
  -- so many turns are left: as many as the count is over those that were made
  less : (count made : ℕ) → made < count → count - made - 1 ≡ count - (made + 1)
  less count made h = omega arith

  some : (count made : ℕ) → made < count → 0 < count - made
  some count made h = omega arith

  pub turns_on : (total : O (Unit {0})) (count made : ℕ) (s now : S) → total ≡ turns (direct false) test body (count - made) s → made < count → turn (direct false) test body s ≡ Ok (true, now) → total ≡ turns (direct false) test body (count - (made + 1)) now
  turns_on total count made s now same h is = l.turns_on (direct false) test body total (count - made) s now same (some count made h) is ∙ ap (λ n. turns (direct false) test body n now) (less count made h)

  pub turns_over : (total : O (Unit {0})) (count made : ℕ) (s now : S) → total ≡ turns (direct false) test body (count - made) s → made < count → turn (direct false) test body s ≡ Ok (false, now) → total ≡ Ok (tt, now)
  turns_over total count made s now same h is = l.turns_over (direct false) test body total (count - made) s now same (some count made h) is

  pub turns_none : (total : O (Unit {0})) (count made : ℕ) (s : S) → total ≡ turns (direct false) test body (count - made) s → count ≤ made → total ≡ Ok (tt, s)
  turns_none total count made s same h = l.turns_none (direct false) test body total (count - made) s same (omega arith)

  pub turns_fail : (total : O (Unit {0})) (count made : ℕ) (s now : S) (end : LoggedEnd) → total ≡ turns (direct false) test body (count - made) s → made < count → CodeEndsAs end now (turn (direct false) test body s) → CodeEndsAs end now total
  turns_fail total count made s now end same h is = rw (same ∙ l.turns_more (direct false) test body (count - made) s (some count made h)) (ends_on end now (turn (direct false) test body s) _ is)

-- ---- sequences

module _ (body : S → O (Unit {0})) where
  pub entered_fail : (s r q : S) (end : LoggedEnd) → r ≡ with_locals s [] → CodeEndsAs end q (body r) → CodeEndsAs end q (sequence_result (direct false) body s)
  unfolding sequence_result
  entered_fail s r q end none h = ends_on end q (body (with_locals s [])) _ (subst (λ x. CodeEndsAs end q (body x)) none h)

careless : (direct false).is_watchful ≡ false
unfolding direct
careless = refl

pub sequence_on : (runner : LoggedRunner) (d : ℕ) (name : List ℕ) (s now : S) (e : LoggedEnd) (result : Result (Unit {0}) Stopped) (steps : CodeSteps) → ¬ (d ≡ 0) → steps ≡ unwrap_or (steps_named name (checked_trees runner.set.now).sequences) NoSteps
    → Means e result now (sequence_result (direct false) (λ r. steps_result (direct false) runner.turn_us (calls_in_walk runner (d - 1)) steps r) s) → Means e result now (calls_in_walk runner d name s)
sequence_on runner d name s now e result steps some is h =
    let is_one : 0 < d = omega (arith, some) in
    subst (λ o. Means e result now o) (sym (l.sequence_is (direct false) runner.turn_us (checked_trees runner.set.now) careless d name s is_one))
    (subst (λ k. Means e result now (sequence_result (direct false) (λ r. steps_result (direct false) runner.turn_us (calls_in_walk runner (d - 1)) k r) s)) is h)

pub ruleset looping = (args_on, args_fail, args_over, block_on, block_fail, block_over, done_on, done_fail, done_over)

pub ruleset turning = (turns_on, turns_over, turns_none, turns_fail)
