-- The debug variables one after the other, and whole runs of the evaluator.
use Rattle.std.proofs.Common.{◌≡◌, ℕ, ◌+◌, ◌<◌, ◌≤◌, List, ◌∷◌, length, drop, get_or, Option, None, Some, unwrap_or, Result, Ok, refl, sym, ap, subst, ◌∙◌}
use Rattle.std.proofs.lemmas.List.{drop_all, drop_more}
use Rattle.dap_base.specs.Outcome.{◌>>=◌}
use Rattle.expr_grammar.specs.declared.code.Name.{Name}
use Rattle.expr_grammar.specs.declared.code.Stmt as statement
use Rattle.expr_grammar.specs.Tree as t
use Rattle.expr_grammar.specs.Tree.{StmtTree, stmt_tree, code_trees}
use Rattle.target_calls.specs.declared.calls.Value.{Value}
use Rattle.target_calls.specs.NeedPoints.{Costs}
use Rattle.target_calls.specs.World.{World}
use Rattle.sequence_trees.specs.Trees.{CodeSteps, SetTrees, NoSteps, steps_named}
use Rattle.access_calls.specs.Reported.{AccessView}
use Rattle.sequence_rules.specs.Calls.{value_or_missing, guarded_rest, missing}
use Rattle.sequence_rules.specs.Late.{Late, late}
use Rattle.sequence_rules.specs.Machine.{State, Out}
use Rattle.sequence_rules.specs.Steps.{steps_result, steps_at, sequence_at, debug_result, run_of}
use Rattle.sequence_rules.specs.Values.{value, stored_value}
use Rattle.sequence_rules.specs.Variables.{set_visible}
use Rattle.sequence_rules.proofs.LoopLemmas.{tail_two}
use Rattle.function_calls.specs.declared.end.End.{End}
use Rattle.function_calls.specs.Ends.{EndsLate, MeansLate}
use Rattle.function_calls.proofs.Leaves.{ends_on, later_bind}
use Rattle.control_flow.specs.Calls.{late_debug_statement}
use Rattle.control_flow.proofs.Exits.{later_debugged, later_done, later_sequence, later_steps_at}

abbrev S : Type 0
S = State Value Late

abbrev O : Type 0 → Type 0
O A = Out Value Late A

-- a value is dropped
abbrev without_value : Value × S → O (Unit {0})
without_value y = Ok (tt, y.1)

-- a debug variable that gets a value
pub put_on : (cost : Costs) (w : World) (name : Name) (v : Value) (s now : S) → now ≡ set_visible name.text v s → (stored_value (late cost w) name v s >>= without_value) ≡ Ok (tt, now)
unfolding stored_value guarded_rest late
put_on cost w name v s now at = rw at refl

module _ (cost : Costs) (w : World) (turn_us : ℕ) (set : SetTrees) where
  -- ---- the debug variables

  debug_first : (st : StmtTree) (code : List StmtTree) (s : S) → debug_result (late cost w) turn_us set (st ∷ code) s ≡ (late_debug_statement (late cost w) turn_us set st s >>= λ y. debug_result (late cost w) turn_us set code y.1)
  unfolding debug_result
  debug_first (t.Empty at) code s = refl
  debug_first (t.Declare name e) code s = tail_two {V = Value} {T = Late} {A = Value} {B = Value} {C = Unit {0}} (value (late cost w) (λ n q. sequence_at (late cost w) turn_us set 0 n q) e s) (λ x. stored_value (late cost w) name x.0 x.1) (λ q. debug_result (late cost w) turn_us set code q)
  debug_first (t.Plain at e) code s = refl

  debug_more : (xs : List statement.Stmt) (i : ℕ) (d : statement.Stmt) (s : S) → i < length xs
      → debug_result (late cost w) turn_us set (code_trees (drop i xs)) s ≡ (late_debug_statement (late cost w) turn_us set (stmt_tree (get_or xs i d)) s >>= λ y. debug_result (late cost w) turn_us set (code_trees (drop (i + 1) xs)) y.1)
  debug_more xs i d s h = rw (drop_more xs i d h) (debug_first (stmt_tree (get_or xs i d)) (code_trees (drop (i + 1) xs)) s)

  pub debug_on : (total : O (Unit {0})) (xs : List statement.Stmt) (i : ℕ) (d : statement.Stmt) (s r : S) → total ≡ debug_result (late cost w) turn_us set (code_trees (drop i xs)) s → i < length xs
      → late_debug_statement (late cost w) turn_us set (stmt_tree (get_or xs i d)) s ≡ Ok (tt, r) → total ≡ debug_result (late cost w) turn_us set (code_trees (drop (i + 1) xs)) r
  debug_on total xs i d s r same h is = same ∙ debug_more xs i d s h ∙ ap (λ o. o >>= λ y. debug_result (late cost w) turn_us set (code_trees (drop (i + 1) xs)) y.1) is

  pub debug_fail : (reached : AccessView) (total : O (Unit {0})) (xs : List statement.Stmt) (i : ℕ) (d : statement.Stmt) (s r : S) (e : End) → total ≡ debug_result (late cost w) turn_us set (code_trees (drop i xs)) s → i < length xs
      → EndsLate w reached e r (late_debug_statement (late cost w) turn_us set (stmt_tree (get_or xs i d)) s) → EndsLate w reached e r total
  debug_fail reached total xs i d s r e same h is =
      rw (same ∙ debug_more xs i d s h) (ends_on w reached e r (late_debug_statement (late cost w) turn_us set (stmt_tree (get_or xs i d)) s) _ is (λ y. later_debugged cost w turn_us set (code_trees (drop (i + 1) xs)) y.1))

  pub debug_over : (total : O (Unit {0})) (xs : List statement.Stmt) (i : ℕ) (s : S) → total ≡ debug_result (late cost w) turn_us set (code_trees (drop i xs)) s → length xs ≤ i → total ≡ Ok (tt, s)
  unfolding debug_result
  debug_over total xs i s same h = same ∙ rw (drop_all i xs h) refl

  pub debug_next : (total : O (Unit {0})) (xs : List statement.Stmt) (i : ℕ) (d a : statement.Stmt) (s r : S) → total ≡ debug_result (late cost w) turn_us set (code_trees (drop i xs)) s → i < length xs → a ≡ get_or xs i d
      → late_debug_statement (late cost w) turn_us set (stmt_tree a) s ≡ Ok (tt, r) → total ≡ debug_result (late cost w) turn_us set (code_trees (drop (i + 1) xs)) r
  debug_next total xs i d a s r same h item is = debug_on total xs i d s r same h (subst (λ x. late_debug_statement (late cost w) turn_us set (stmt_tree x) s ≡ Ok (tt, r)) item is)

  pub debug_end : (reached : AccessView) (total : O (Unit {0})) (xs : List statement.Stmt) (i : ℕ) (d a : statement.Stmt) (s r : S) (e : End) → total ≡ debug_result (late cost w) turn_us set (code_trees (drop i xs)) s → i < length xs → a ≡ get_or xs i d
      → EndsLate w reached e r (late_debug_statement (late cost w) turn_us set (stmt_tree a) s) → EndsLate w reached e r total
  debug_end reached total xs i d a s r e same h item is = debug_fail reached total xs i d s r e same h (subst (λ x. EndsLate w reached e r (late_debug_statement (late cost w) turn_us set (stmt_tree x) s)) item is)

  -- ---- the run

  given_steps : (o : Option CodeSteps) (s : S) → value_or_missing (late cost w) NoSteps o s ≡ Ok (unwrap_or o NoSteps, s)
  unfolding value_or_missing missing late
  given_steps None s = refl
  given_steps (Some steps) s = refl

  steps_found : (name : List ℕ) (s : S) → steps_at (late cost w) turn_us set name s ≡ Ok (unwrap_or (steps_named name set.sequences) NoSteps, s)
  unfolding steps_at
  steps_found name s = given_steps (steps_named name set.sequences) s

  pub run_on : (reached : AccessView) (start : List ℕ) (s r now : S) (result : Result (Unit {0}) End) (steps : CodeSteps) → debug_result (late cost w) turn_us set set.debugvars s ≡ Ok (tt, r) → steps ≡ unwrap_or (steps_named start set.sequences) NoSteps
      → MeansLate w reached result now (steps_result (late cost w) turn_us (λ n q. sequence_at (late cost w) turn_us set 31 n q) steps r) → MeansLate w reached result now (run_of (late cost w) turn_us set start s)
  unfolding run_of
  run_on reached start s r now result steps debug is h =
      let f : CodeSteps × S → O (Unit {0}) = λ y. steps_result (late cost w) turn_us (λ n q. sequence_at (late cost w) turn_us set 31 n q) y.0 y.1 in
      let found : (steps_at (late cost w) turn_us set start r >>= f) ≡ steps_result (late cost w) turn_us (λ n q. sequence_at (late cost w) turn_us set 31 n q) steps r =
      ap (λ o. o >>= f) (steps_found start r) ∙ ap (λ k. steps_result (late cost w) turn_us (λ n q. sequence_at (late cost w) turn_us set 31 n q) k r) (sym is) in
      subst (λ o. MeansLate w reached result now o) (sym (ap (λ o. o >>= λ x. steps_at (late cost w) turn_us set start x.1 >>= f) debug ∙ found)) h

  -- the debug variables ended
  pub run_first : (reached : AccessView) (start : List ℕ) (s now : S) (e : End) → EndsLate w reached e now (debug_result (late cost w) turn_us set set.debugvars s) → EndsLate w reached e now (run_of (late cost w) turn_us set start s)
  unfolding run_of
  run_first reached start s now e h =
      ends_on w reached e now (debug_result (late cost w) turn_us set set.debugvars s) _ h
      (λ x. later_bind w x.1 (steps_at (late cost w) turn_us set start x.1) _ (later_steps_at cost w turn_us set start x.1) (λ y. later_done cost w turn_us (λ n q. sequence_at (late cost w) turn_us set 31 n q) y.0 y.1 (later_sequence cost w turn_us set 31)))
