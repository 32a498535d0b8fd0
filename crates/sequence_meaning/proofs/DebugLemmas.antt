-- The debug variables one after the other, and whole runs.
use Rattle.std.proofs.Common.{◌≡◌, ℕ, ◌+◌, ◌<◌, ◌≤◌, false, List, ◌∷◌, length, drop, get_or, unwrap_or, Result, Ok, refl, sym, ap, subst, ◌∙◌}
use Rattle.std.proofs.lemmas.List.{drop_all, drop_more}
use Rattle.dap_base.specs.Outcome.{◌>>=◌}
use Rattle.expr_grammar.specs.declared.code.Stmt as statement
use Rattle.expr_grammar.specs.Tree as t
use Rattle.expr_grammar.specs.declared.code.Name.{Name}
use Rattle.expr_grammar.specs.Tree.{Tree, StmtTree, stmt_tree, code_trees}
use Rattle.sequence_trees.specs.Trees.{CodeSteps, SetTrees, NoSteps, steps_named}
use Rattle.sequence_rules.specs.Direct.{Now, direct}
use Rattle.sequence_rules.specs.Machine.{State, Out}
use Rattle.sequence_rules.specs.Steps.{steps_result, steps_at, sequence_at, debug_result, run_of}
use Rattle.sequence_rules.specs.Values.{value, stored_value}
use Rattle.sequence_meaning.specs.declared.end.DirectEnd.{DirectEnd}
use Rattle.sequence_meaning.specs.declared.end.Stopped.{Stopped}
use Rattle.sequence_meaning.specs.Held.{EndsDirect, MeansDirect}
use Rattle.sequence_meaning.specs.Starting.{debugged_one, defined_variable}
use Rattle.sequence_rules.specs.Laws.{Adds}
use Rattle.sequence_rules.proofs.Adding.{adds_direct}
use Rattle.sequence_rules.proofs.Goes as g
use Rattle.sequence_rules.proofs.LoopLemmas.{tail_two}
use Rattle.sequence_meaning.proofs.StopLemmas.{ends_on}
use Rattle.sequence_rules.proofs.NowLemmas.{steps_found}

abbrev S : Type 0
S = State ℕ Now

abbrev O : Type 0 → Type 0
O A = Out ℕ Now A

module _ (turn_us : ℕ) (set : SetTrees) where
  -- ---- the debug variables

  debug_first : (st : StmtTree) (code : List StmtTree) (s : S) → debug_result (direct false) turn_us set (st ∷ code) s ≡ (debugged_one turn_us set st s >>= λ y. debug_result (direct false) turn_us set code y.1)
  unfolding debug_result
  debug_first (t.Empty at) code s = refl
  debug_first (t.Declare name e) code s = tail_two {V = ℕ} {T = Now} {A = ℕ} {B = ℕ} {C = Unit {0}} (value (direct false) (λ n q. sequence_at (direct false) turn_us set 0 n q) e s) (λ x. stored_value (direct false) name x.0 x.1) (λ q. debug_result (direct false) turn_us set code q)
  debug_first (t.Plain at e) code s = refl

  debug_more : (xs : List statement.Stmt) (i : ℕ) (d : statement.Stmt) (s : S) → i < length xs
      → debug_result (direct false) turn_us set (code_trees (drop i xs)) s ≡ (debugged_one turn_us set (stmt_tree (get_or xs i d)) s >>= λ y. debug_result (direct false) turn_us set (code_trees (drop (i + 1) xs)) y.1)
  debug_more xs i d s h = rw (drop_more xs i d h) (debug_first (stmt_tree (get_or xs i d)) (code_trees (drop (i + 1) xs)) s)

  pub debug_on : (total : O (Unit {0})) (xs : List statement.Stmt) (i : ℕ) (d : statement.Stmt) (s r : S) → total ≡ debug_result (direct false) turn_us set (code_trees (drop i xs)) s → i < length xs
      → debugged_one turn_us set (stmt_tree (get_or xs i d)) s ≡ Ok (tt, r) → total ≡ debug_result (direct false) turn_us set (code_trees (drop (i + 1) xs)) r
  debug_on total xs i d s r same h is = same ∙ debug_more xs i d s h ∙ ap (λ o. o >>= λ y. debug_result (direct false) turn_us set (code_trees (drop (i + 1) xs)) y.1) is

  pub debug_fail : (total : O (Unit {0})) (xs : List statement.Stmt) (i : ℕ) (d : statement.Stmt) (s r : S) (end : DirectEnd) → total ≡ debug_result (direct false) turn_us set (code_trees (drop i xs)) s → i < length xs
      → EndsDirect end r (debugged_one turn_us set (stmt_tree (get_or xs i d)) s) → EndsDirect end r total
  debug_fail total xs i d s r end same h is = rw (same ∙ debug_more xs i d s h) (ends_on end r (debugged_one turn_us set (stmt_tree (get_or xs i d)) s) _ (λ x. g.goes_debugged (direct false) Adds (adds_direct false) turn_us set (code_trees (drop (i + 1) xs)) x.1) is)

  -- the value of a debug variable is not come to
  pub defines_on : (end : DirectEnd) (s r : S) (name : Name) (e : Tree) → EndsDirect end r (value (direct false) (λ n q. sequence_at (direct false) turn_us set 0 n q) e s) → EndsDirect end r (defined_variable turn_us set name e s)
  defines_on end s r name e h =
      ends_on end r _ _ (λ x. g.goes_bind (direct false) Adds (adds_direct false) x.1 _ _ (g.goes_stored (direct false) Adds (adds_direct false) name x.0 x.1) (λ y. g.goes_ok (direct false) Adds (adds_direct false) y.1 _)) h

  -- the debug variables are not come to
  pub run_first : (end : DirectEnd) (start : List ℕ) (s r : S) → EndsDirect end r (debug_result (direct false) turn_us set set.debugvars s) → EndsDirect end r (run_of (direct false) turn_us set start s)
  unfolding run_of
  run_first end start s r h =
      ends_on end r _ _ (λ x. g.goes_bind (direct false) Adds (adds_direct false) x.1 _ _ (g.goes_steps_at (direct false) Adds (adds_direct false) turn_us set start x.1)
      (λ y. g.goes_done (direct false) Adds (adds_direct false) (λ n q. sequence_at (direct false) turn_us set 31 n q) (λ n q. g.goes_sequence (direct false) Adds (adds_direct false) turn_us set 31 n q) turn_us y.0 y.1)) h

  pub debug_over : (total : O (Unit {0})) (xs : List statement.Stmt) (i : ℕ) (s : S) → total ≡ debug_result (direct false) turn_us set (code_trees (drop i xs)) s → length xs ≤ i → total ≡ Ok (tt, s)
  unfolding debug_result
  debug_over total xs i s same h = same ∙ rw (drop_all i xs h) refl

  -- ---- the run

  pub run_on : (start : List ℕ) (s r now : S) (e : DirectEnd) (result : Result (Unit {0}) Stopped) (steps : CodeSteps) → debug_result (direct false) turn_us set set.debugvars s ≡ Ok (tt, r) → steps ≡ unwrap_or (steps_named start set.sequences) NoSteps
      → MeansDirect e result now (steps_result (direct false) turn_us (λ n q. sequence_at (direct false) turn_us set 31 n q) steps r) → MeansDirect e result now (run_of (direct false) turn_us set start s)
  unfolding run_of
  run_on start s r now e result steps debug is h =
      let f : CodeSteps × S → O (Unit {0}) = λ y. steps_result (direct false) turn_us (λ n q. sequence_at (direct false) turn_us set 31 n q) y.0 y.1 in
      let found : (steps_at (direct false) turn_us set start r >>= f) ≡ steps_result (direct false) turn_us (λ n q. sequence_at (direct false) turn_us set 31 n q) steps r =
      ap (λ o. o >>= f) (steps_found turn_us set start r) ∙ ap (λ k. steps_result (direct false) turn_us (λ n q. sequence_at (direct false) turn_us set 31 n q) k r) (sym is) in
      subst (λ o. MeansDirect e result now o) (sym (ap (λ o. o >>= λ x. steps_at (direct false) turn_us set start x.1 >>= f) debug ∙ found)) h

pub ruleset debugging = (debug_on, debug_fail, debug_over)
