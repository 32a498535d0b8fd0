-- The debug variables one after the other, and whole runs.
use Rattle.std.proofs.Common.{◌≡◌, ℕ, ◌+◌, ◌<◌, ◌≤◌, Bool, false, List, [], ◌∷◌, ◌++◌, length, drop, get_or, unwrap_or, Result, Ok, Err, refl, sym, ap, subst, ◌∙◌}
use Rattle.std.proofs.lemmas.List.{append_assoc, append-nil, drop_all, drop_more}
use Rattle.dap_base.specs.Outcome.{◌>>=◌}
use Rattle.expr_grammar.specs.declared.code.Name.{Name}
use Rattle.expr_grammar.specs.declared.code.Stmt as statement
use Rattle.expr_grammar.specs.Tree as t
use Rattle.expr_grammar.specs.Tree.{Tree, StmtTree, stmt_tree, code_trees}
use Rattle.seq_check.specs.Answers.{checked_trees}
use Rattle.sequence_trees.specs.declared.spot.Part.TheVariants as part
use Rattle.sequence_trees.specs.Trees.{CodeSteps, SetTrees, NoSteps, steps_named}
use Rattle.sequence_rules.specs.Calls.{guarded_rest}
use Rattle.sequence_rules.specs.Direct.{Now, direct}
use Rattle.sequence_rules.specs.Machine.{State, Out}
use Rattle.sequence_rules.specs.Steps.{steps_result, steps_at, sequence_at, debug_result, run_of}
use Rattle.sequence_rules.specs.Values.{value, stored_value}
use Rattle.sequence_rules.specs.Variables.{set_visible}
use Rattle.sequence_rules.proofs.LoopLemmas.{tail_two}
use Rattle.sequence_rules.proofs.NowLemmas.{steps_found}
use Rattle.run_events.specs.Events.{Event, Assigns, Begins, events_after}
use Rattle.run_events.specs.OfRuns.{at_debugvars, debugged_events, run_events}
use Rattle.run_events.specs.OfSteps.{steps_events}
use Rattle.run_events.specs.OfValues.{value_events}
use Rattle.logged_calls.specs.Held.{CodeEndsAs, Means}
use Rattle.logged_calls.specs.declared.held.LoggedEnd.{LoggedEnd}
use Rattle.logged_calls.specs.declared.held.Stopped.{Stopped}
use Rattle.logged_calls.proofs.EndLemmas.{ends_on}
use Rattle.logged_runs.specs.declared.runner.LoggedRunner.{LoggedRunner}
use Rattle.logged_runs.specs.Walk.{calls_in_walk, debug_statement_in_walk, definition_in_walk, events_in_walk, one_events, step_on_path}
use Rattle.sequence_trees.specs.Order.{spot_at}

abbrev S : Type 0
S = State ℕ Now

abbrev O : Type 0 → Type 0
O A = Out ℕ Now A

-- what is seen of an assignment, and then of the rest
ended : {A : Type 0} (o : O A) (f : S → List Event) → events_after (o >>= λ y. Ok (tt, y.1)) (λ (done : Unit {0}) q. f q) ≡ events_after o (λ n q. f q)
ended (Ok x) f = refl
ended (Err e) f = refl

assigned_then : (seen : List Event) (o : O ℕ) (name : List ℕ) (st : ℕ → S → O ℕ) (f : S → List Event)
    → (seen ++ events_after o (λ n r. Assigns name n ∷ [])) ++ events_after (o >>= λ x. st x.0 x.1 >>= λ y. Ok (tt, y.1)) (λ (done : Unit {0}) q. f q) ≡ seen ++ events_after o (λ n r. Assigns name n ∷ events_after (st n r) (λ n q. f q))
assigned_then seen (Ok x) name st f =
    append_assoc seen (Assigns name x.0 ∷ []) _ ∙ ap (λ xs. seen ++ Assigns name x.0 ∷ xs) (ended (st x.0 x.1) f)
assigned_then seen (Err e) name st f = append-nil (seen ++ [])

module _ (runner : LoggedRunner) where
  abbrev run_us : ℕ
  run_us = runner.turn_us

  abbrev all : SetTrees
  all = checked_trees runner.set.now

  debug_first : (st : StmtTree) (code : List StmtTree) (s : S) → debug_result (direct false) run_us all (st ∷ code) s ≡ (debug_statement_in_walk runner st s >>= λ y. debug_result (direct false) run_us all code y.1)
  unfolding debug_result
  debug_first (t.Empty at) code s = refl
  debug_first (t.Declare name e) code s = tail_two {V = ℕ} {T = Now} {A = ℕ} {B = ℕ} {C = Unit {0}} (value (direct false) (λ n q. sequence_at (direct false) run_us all 0 n q) e s) (λ x. stored_value (direct false) name x.0 x.1) (λ q. debug_result (direct false) run_us all code q)
  debug_first (t.Plain at e) code s = refl

  debug_more : (xs : List statement.Stmt) (i : ℕ) (d : statement.Stmt) (s : S) → i < length xs
      → debug_result (direct false) run_us all (code_trees (drop i xs)) s ≡ (debug_statement_in_walk runner (stmt_tree (get_or xs i d)) s >>= λ y. debug_result (direct false) run_us all (code_trees (drop (i + 1) xs)) y.1)
  debug_more xs i d s h = rw (drop_more xs i d h) (debug_first (stmt_tree (get_or xs i d)) (code_trees (drop (i + 1) xs)) s)

  pub debug_on : (total : O (Unit {0})) (xs : List statement.Stmt) (i : ℕ) (d : statement.Stmt) (s r : S) → total ≡ debug_result (direct false) run_us all (code_trees (drop i xs)) s → i < length xs
      → debug_statement_in_walk runner (stmt_tree (get_or xs i d)) s ≡ Ok (tt, r) → total ≡ debug_result (direct false) run_us all (code_trees (drop (i + 1) xs)) r
  debug_on total xs i d s r same h is = same ∙ debug_more xs i d s h ∙ ap (λ o. o >>= λ y. debug_result (direct false) run_us all (code_trees (drop (i + 1) xs)) y.1) is

  pub debug_fail : (total : O (Unit {0})) (xs : List statement.Stmt) (i : ℕ) (d : statement.Stmt) (s r : S) (end : LoggedEnd) → total ≡ debug_result (direct false) run_us all (code_trees (drop i xs)) s → i < length xs
      → CodeEndsAs end r (debug_statement_in_walk runner (stmt_tree (get_or xs i d)) s) → CodeEndsAs end r total
  debug_fail total xs i d s r end same h is = rw (same ∙ debug_more xs i d s h) (ends_on end r (debug_statement_in_walk runner (stmt_tree (get_or xs i d)) s) _ is)

  pub debug_over : (total : O (Unit {0})) (xs : List statement.Stmt) (i : ℕ) (s : S) → total ≡ debug_result (direct false) run_us all (code_trees (drop i xs)) s → length xs ≤ i → total ≡ Ok (tt, s)
  unfolding debug_result
  debug_over total xs i s same h = same ∙ rw (drop_all i xs h) refl

  -- the value of a debug variable is not come to
  pub defines_on : (end : LoggedEnd) (s r : S) (name : Name) (e : Tree) → CodeEndsAs end r (value (direct false) (calls_in_walk runner 0) e s) → CodeEndsAs end r (definition_in_walk runner name e s)
  defines_on end s r name e h = ends_on end r _ _ h

  pub defined_on : (name : Name) (e : Tree) (s r k : S) (n : ℕ) → value (direct false) (calls_in_walk runner 0) e s ≡ Ok (n, r) → k ≡ set_visible name.text n r → definition_in_walk runner name e s ≡ Ok (tt, k)
  unfolding stored_value guarded_rest direct
  defined_on name e s r k n is set = rw is (ap (λ x. Ok (tt, x)) (sym set))

  -- ---- what is seen of them

  first_seen : (shows : ℕ → Bool) (st : StmtTree) (code : List StmtTree) (s : S)
      → one_events shows runner st s ++ events_after (debug_statement_in_walk runner st s) (λ done r. debugged_events shows run_us all code r) ≡ debugged_events shows run_us all (st ∷ code) s
  unfolding debugged_events
  first_seen shows (t.Empty at) code s = refl
  first_seen shows (t.Declare name e) code s = ap (λ xs. Begins (spot_at at_debugvars part.Debugvars name.at) (t.Declare name e) ∷ xs) (assigned_then (value_events (calls_in_walk runner 0) (events_in_walk shows runner 0) e s) (value (direct false) (calls_in_walk runner 0) e s) name.text (λ n r. stored_value (direct false) name n r) (λ q. debugged_events shows run_us all code q))
  first_seen shows (t.Plain at e) code s = refl

  pub debug_head : (xs : List statement.Stmt) (i : ℕ) (d : statement.Stmt) (s : S) → i < length xs → (shows : ℕ → Bool)
      → one_events shows runner (stmt_tree (get_or xs i d)) s ++ events_after (debug_statement_in_walk runner (stmt_tree (get_or xs i d)) s) (λ done r. debugged_events shows run_us all (code_trees (drop (i + 1) xs)) r)
      ≡ debugged_events shows run_us all (code_trees (drop i xs)) s
  debug_head xs i d s h shows = first_seen shows (stmt_tree (get_or xs i d)) (code_trees (drop (i + 1) xs)) s ∙ ap (λ l. debugged_events shows run_us all (code_trees l) s) (sym (drop_more xs i d h))

  pub debug_none : (xs : List statement.Stmt) (i : ℕ) (s : S) → length xs ≤ i → (shows : ℕ → Bool) → [] ≡ debugged_events shows run_us all (code_trees (drop i xs)) s
  unfolding debugged_events
  debug_none xs i s h shows = ap (λ l. debugged_events shows run_us all (code_trees l) s) (sym (drop_all i xs h))

  -- ---- the run

  pub run_first : (end : LoggedEnd) (start : List ℕ) (s r : S) → CodeEndsAs end r (debug_result (direct false) run_us all all.debugvars s) → CodeEndsAs end r (run_of (direct false) run_us all start s)
  unfolding run_of
  run_first end start s r h = ends_on end r _ _ h

  pub run_on : (start : List ℕ) (s r now : S) (e : LoggedEnd) (result : Result (Unit {0}) Stopped) (steps : CodeSteps) → debug_result (direct false) run_us all all.debugvars s ≡ Ok (tt, r) → steps ≡ unwrap_or (steps_named start all.sequences) NoSteps
      → Means e result now (steps_result (direct false) run_us (calls_in_walk runner 31) steps r) → Means e result now (run_of (direct false) run_us all start s)
  unfolding run_of
  run_on start s r now e result steps debug is h =
      let f : CodeSteps × S → O (Unit {0}) = λ y. steps_result (direct false) run_us (λ n q. sequence_at (direct false) run_us all 31 n q) y.0 y.1 in
      let found : (steps_at (direct false) run_us all start r >>= f) ≡ steps_result (direct false) run_us (λ n q. sequence_at (direct false) run_us all 31 n q) steps r =
      ap (λ o. o >>= f) (steps_found run_us all start r) ∙ ap (λ k. steps_result (direct false) run_us (λ n q. sequence_at (direct false) run_us all 31 n q) k r) (sym is) in
      subst (λ o. Means e result now o) (sym (ap (λ o. o >>= λ x. steps_at (direct false) run_us all start x.1 >>= f) debug ∙ found)) h

  -- what is seen of a run
  pub run_seen : (shows : ℕ → Bool) (start : List ℕ) (s : S) (steps : CodeSteps) → steps ≡ unwrap_or (steps_named start all.sequences) NoSteps
      → debugged_events shows run_us all all.debugvars s ++ events_after (debug_result (direct false) run_us all all.debugvars s) (λ done r. steps_events shows run_us (calls_in_walk runner 31) (events_in_walk shows runner 31) (step_on_path start []) 0 steps r)
      ≡ run_events shows run_us all start s
  unfolding run_events
  run_seen shows start s steps is = ap (λ x. debugged_events shows run_us all all.debugvars s ++ events_after (debug_result (direct false) run_us all all.debugvars s) (λ done r. steps_events shows run_us (calls_in_walk runner 31) (events_in_walk shows runner 31) (step_on_path start []) 0 x r)) is
