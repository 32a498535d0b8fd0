-- Loops of the direct runner, one turn at a time.
use Rattle.std.proofs.Common.{◌≡◌, ℕ, zero, suc, ◌+◌, ◌-◌, ◌<◌, ◌≤◌, true, false, List, [], ◌∷◌, ◌++◌, length, drop, take, get_or, nat_eq, unwrap_or, Result, Ok, codes, refl, sym, ap, subst, ◌∙◌, arith}
use Rattle.std.proofs.lemmas.List.{drop_all, drop_more}
use Rattle.expr_grammar.specs.declared.code.Arg.{Arg}
use Rattle.expr_grammar.specs.declared.code.Name.{Name}
use Rattle.expr_grammar.specs.declared.code.Stmt as statement
use Rattle.expr_grammar.specs.Tree.{arg_tree, arg_trees, stmt_tree, code_trees}
use Rattle.sequence_trees.specs.declared.steps.CheckedStep.{CheckedStep}
use Rattle.sequence_trees.specs.Trees.{CodeSteps, SetTrees, NoSteps, step_tree, steps_tree, steps_named}
use Rattle.sequence_meaning.specs.declared.end.DirectEnd.{DirectEnd}
use Rattle.sequence_meaning.specs.declared.end.Stopped.{Stopped}
use Rattle.sequence_rules.specs.Direct.{Now, direct}
use Rattle.sequence_rules.specs.declared.bindings.Binding.{Binding}
use Rattle.sequence_rules.specs.Machine.{State, Out, with_locals, with_variables}
use Rattle.sequence_rules.specs.Variables.{bound_variable, value_named, set_in, set_visible}
use Rattle.dap_base.specs.Outcome.{◌>>=◌}
use Rattle.sequence_rules.specs.Values.{argument, arguments, assigned_value, chained_values, stored_value, used_now}
use Rattle.sequence_rules.specs.Steps.{in_order, counted_step, after_counted, declared_variable, dropped_value, inside, statement, block, step, steps_result, turn, turns, given_back, sequence_result, steps_at, sequence_at}
use Rattle.sequence_rules.specs.Calls.{guarded_rest, use_now}
use Rattle.sequence_rules.specs.Laws.{Adds}
use Rattle.sequence_rules.specs.Steady.{Goes}
use Rattle.sequence_rules.proofs.Adding.{adds_direct, adds_same}
use Rattle.sequence_rules.proofs.Goes as g
use Rattle.sequence_rules.proofs.NowLemmas.{steps_found}
use Rattle.sequence_meaning.specs.declared.runner.DirectRunner.{DirectRunner}
use Rattle.sequence_meaning.specs.Held.{EndsDirect, MeansDirect, calls_of}
use Rattle.sequence_meaning.proofs.FrameLemmas.{frames}
use Rattle.sequence_meaning.proofs.StopLemmas.{adds_ok, adds_cond, adds_sequence, adds_done, ends_on}

abbrev S : Type 0
S = State ℕ Now

abbrev O : Type 0 → Type 0
O A = Out ℕ Now A

module _ (runner : DirectRunner) (depth : ℕ) where
  args_more : (xs : List Arg) (i : ℕ) (d : Arg) (got : List ℕ) (s : S) → i < length xs
      → arguments (direct false) (calls_of runner depth) (arg_trees (drop i xs)) got s ≡ chained_values (direct false) (argument (direct false) (calls_of runner depth) (arg_tree (get_or xs i d)) got s) (λ g r. arguments (direct false) (calls_of runner depth) (arg_trees (drop (i + 1) xs)) g r)
  unfolding arguments
  args_more xs i d got s h = rw (drop_more xs i d h) refl

  pub args_on : (total : O (List ℕ)) (xs : List Arg) (i : ℕ) (d : Arg) (got now : List ℕ) (s r : S) → total ≡ arguments (direct false) (calls_of runner depth) (arg_trees (drop i xs)) got s → i < length xs
      → argument (direct false) (calls_of runner depth) (arg_tree (get_or xs i d)) got s ≡ Ok (now, r) → total ≡ arguments (direct false) (calls_of runner depth) (arg_trees (drop (i + 1) xs)) now r
  unfolding chained_values
  args_on total xs i d got now s r same h is = same ∙ args_more xs i d got s h ∙ rw is refl

  pub args_fail : (total : O (List ℕ)) (xs : List Arg) (i : ℕ) (d : Arg) (got : List ℕ) (s r : S) (end : DirectEnd) → total ≡ arguments (direct false) (calls_of runner depth) (arg_trees (drop i xs)) got s → i < length xs
      → EndsDirect end r (argument (direct false) (calls_of runner depth) (arg_tree (get_or xs i d)) got s) → EndsDirect end r total
  unfolding chained_values
  args_fail total xs i d got s r end same h is = rw (same ∙ args_more xs i d got s h) (ends_on end r (argument (direct false) (calls_of runner depth) (arg_tree (get_or xs i d)) got s) _ (λ x. g.goes_arguments (direct false) Adds (adds_direct false) (calls_of runner depth) (adds_sequence runner depth) (arg_trees (drop (i + 1) xs)) x.0 x.1) is)

  pub args_over : (total : O (List ℕ)) (xs : List Arg) (i : ℕ) (got : List ℕ) (s : S) → total ≡ arguments (direct false) (calls_of runner depth) (arg_trees (drop i xs)) got s → length xs ≤ i → total ≡ Ok (got, s)
  unfolding arguments
  args_over total xs i got s same h = same ∙ rw (drop_all i xs h) refl

module _ (runner : DirectRunner) (depth : ℕ) where
  block_more : (xs : List statement.Stmt) (i : ℕ) (d : statement.Stmt) (s : S) → i < length xs
      → block (direct false) runner.turn_us (calls_of runner depth) (code_trees (drop i xs)) s ≡ in_order (direct false) (statement (direct false) runner.turn_us (calls_of runner depth) (stmt_tree (get_or xs i d)) s) (λ r. block (direct false) runner.turn_us (calls_of runner depth) (code_trees (drop (i + 1) xs)) r)
  unfolding block
  block_more xs i d s h = rw (drop_more xs i d h) refl

  pub block_on : (total : O (Unit {0})) (xs : List statement.Stmt) (i : ℕ) (d : statement.Stmt) (s r : S) → total ≡ block (direct false) runner.turn_us (calls_of runner depth) (code_trees (drop i xs)) s → i < length xs
      → statement (direct false) runner.turn_us (calls_of runner depth) (stmt_tree (get_or xs i d)) s ≡ Ok (tt, r) → total ≡ block (direct false) runner.turn_us (calls_of runner depth) (code_trees (drop (i + 1) xs)) r
  unfolding in_order
  block_on total xs i d s r same h is = same ∙ block_more xs i d s h ∙ rw is refl

  pub block_fail : (total : O (Unit {0})) (xs : List statement.Stmt) (i : ℕ) (d : statement.Stmt) (s r : S) (end : DirectEnd) → total ≡ block (direct false) runner.turn_us (calls_of runner depth) (code_trees (drop i xs)) s → i < length xs
      → EndsDirect end r (statement (direct false) runner.turn_us (calls_of runner depth) (stmt_tree (get_or xs i d)) s) → EndsDirect end r total
  unfolding in_order
  block_fail total xs i d s r end same h is = rw (same ∙ block_more xs i d s h) (ends_on end r (statement (direct false) runner.turn_us (calls_of runner depth) (stmt_tree (get_or xs i d)) s) _ (λ x. g.goes_block (direct false) Adds (adds_direct false) (calls_of runner depth) (adds_sequence runner depth) runner.turn_us (code_trees (drop (i + 1) xs)) x.1) is)

  pub block_over : (total : O (Unit {0})) (xs : List statement.Stmt) (i : ℕ) (s : S) → total ≡ block (direct false) runner.turn_us (calls_of runner depth) (code_trees (drop i xs)) s → length xs ≤ i → total ≡ Ok (tt, s)
  unfolding block
  block_over total xs i s same h = same ∙ rw (drop_all i xs h) refl

  done_more : (xs : List CheckedStep) (i : ℕ) (d : CheckedStep) (s : S) → i < length xs
      → steps_result (direct false) runner.turn_us (calls_of runner depth) (steps_tree (drop i xs)) s ≡ in_order (direct false) (step (direct false) runner.turn_us (calls_of runner depth) (step_tree (get_or xs i d)) s) (λ r. steps_result (direct false) runner.turn_us (calls_of runner depth) (steps_tree (drop (i + 1) xs)) r)
  unfolding steps_result
  done_more xs i d s h = rw (drop_more xs i d h) refl

  pub done_on : (total : O (Unit {0})) (xs : List CheckedStep) (i : ℕ) (d : CheckedStep) (s r : S) → total ≡ steps_result (direct false) runner.turn_us (calls_of runner depth) (steps_tree (drop i xs)) s → i < length xs
      → step (direct false) runner.turn_us (calls_of runner depth) (step_tree (get_or xs i d)) s ≡ Ok (tt, r) → total ≡ steps_result (direct false) runner.turn_us (calls_of runner depth) (steps_tree (drop (i + 1) xs)) r
  unfolding in_order
  done_on total xs i d s r same h is = same ∙ done_more xs i d s h ∙ rw is refl

  pub done_fail : (total : O (Unit {0})) (xs : List CheckedStep) (i : ℕ) (d : CheckedStep) (s r : S) (end : DirectEnd) → total ≡ steps_result (direct false) runner.turn_us (calls_of runner depth) (steps_tree (drop i xs)) s → i < length xs
      → EndsDirect end r (step (direct false) runner.turn_us (calls_of runner depth) (step_tree (get_or xs i d)) s) → EndsDirect end r total
  unfolding in_order
  done_fail total xs i d s r end same h is = rw (same ∙ done_more xs i d s h) (ends_on end r (step (direct false) runner.turn_us (calls_of runner depth) (step_tree (get_or xs i d)) s) _ (λ x. adds_done runner depth (steps_tree (drop (i + 1) xs)) x.1) is)

  pub done_over : (total : O (Unit {0})) (xs : List CheckedStep) (i : ℕ) (s : S) → total ≡ steps_result (direct false) runner.turn_us (calls_of runner depth) (steps_tree (drop i xs)) s → length xs ≤ i → total ≡ Ok (tt, s)
  unfolding steps_result
  done_over total xs i s same h = same ∙ rw (drop_all i xs h) refl

module _ (test : S → O ℕ) (body : S → O (Unit {0})) where
  pub turns_on : (total : O (Unit {0})) (left : ℕ) (s now : S) → total ≡ turns (direct false) test body left s → 0 < left
      → turn (direct false) test body s ≡ Ok (true, now) → total ≡ turns (direct false) test body (left - 1) now
  unfolding turns
  turns_on total zero s now same pos is = absurd (omega arith)
  turns_on total (suc k) s now same pos is =
      let less : suc k - 1 ≡ k = omega arith in
      rw less (same ∙ rw is refl)

  pub turns_over : (total : O (Unit {0})) (left : ℕ) (s now : S) → total ≡ turns (direct false) test body left s → 0 < left
      → turn (direct false) test body s ≡ Ok (false, now) → total ≡ Ok (tt, now)
  unfolding turns
  turns_over total zero s now same pos is = absurd (omega arith)
  turns_over total (suc k) s now same pos is = same ∙ rw is refl

  pub turns_fail : (total : O (Unit {0})) (left : ℕ) (s now : S) (end : DirectEnd) → total ≡ turns (direct false) test body left s → 0 < left
      → ((r : S) → Goes Adds r (test r)) → ((r : S) → Goes Adds r (body r)) → EndsDirect end now (turn (direct false) test body s) → EndsDirect end now total
  unfolding turns
  turns_fail total zero s now end same pos t b h = absurd (omega arith)
  turns_fail total (suc k) s now end same pos t b h =
      rw same (ends_on end now (turn (direct false) test body s) _ (λ x. adds_cond x.1 x.0 _ _ (g.goes_turns (direct false) Adds (adds_direct false) test body k x.1 t b) (adds_ok x.1 _)) h)

  pub turns_none : (total : O (Unit {0})) (left : ℕ) (s : S) → total ≡ turns (direct false) test body left s → (0 < left → ⊥) → total ≡ Ok (tt, s)
  unfolding turns
  turns_none total zero s same none = same
  turns_none total (suc k) s same none = absurd (none (omega arith))

-- ---- scopes

pub declared_on : (name : Name) (f : S → O ℕ) (s k r o : S) (n : ℕ) → counted_step (direct false) s ≡ Ok (tt, k) → f k ≡ Ok (n, r) → o ≡ with_locals r (r.locals ++ bound_variable name.text n ∷ [])
    → after_counted (direct false) (λ q. declared_variable (direct false) name (f q)) s ≡ Ok (tt, o)
unfolding after_counted declared_variable
declared_on name f s k r o n h i j = rw h (rw i (rw j refl))

-- an expression whose value is dropped
pub plain_on : (f : S → O ℕ) (s k r : S) (n : ℕ) → counted_step (direct false) s ≡ Ok (tt, k) → f k ≡ Ok (n, r) → after_counted (direct false) (λ q. dropped_value (direct false) (f q)) s ≡ Ok (tt, r)
unfolding after_counted dropped_value
plain_on f s k r n h i = rw h (rw i refl)

-- a value that is stored
pub assigned_on : (name : Name) (out : O ℕ) (r o : S) (n : ℕ) → out ≡ Ok (n, r) → o ≡ set_visible name.text n r → assigned_value (direct false) name out ≡ Ok (n, o)
unfolding assigned_value stored_value guarded_rest direct
assigned_on name out r o n h i = rw h (rw i refl)

-- the last turn, as its condition is 0
pub turn_over : (test : S → O ℕ) (body : S → O (Unit {0})) (s k r : S) (n : ℕ) → counted_step (direct false) s ≡ Ok (tt, k) → test k ≡ Ok (n, r) → n ≡ 0 → turn (direct false) test body s ≡ Ok (false, r)
unfolding turn used_now use_now direct
turn_over test body s k r n h i z = rw h (rw i (rw z refl))

-- a turn after which another may follow
pub turn_on : (test : S → O ℕ) (body : S → O (Unit {0})) (s k r o : S) (n : ℕ) → counted_step (direct false) s ≡ Ok (tt, k) → test k ≡ Ok (n, r) → nat_eq n 0 ≡ false → body r ≡ Ok (tt, o)
    → turn (direct false) test body s ≡ Ok (true, o)
unfolding turn used_now use_now direct
turn_on test body s k r o n h i some b = rw h (rw i (rw some (rw b refl)))

pub inside_on : (body : S → O (Unit {0})) (s r o : S) (n : ℕ) → body s ≡ Ok (tt, r) → n ≡ length s.locals → o ≡ with_locals r (take n r.locals) → inside (direct false) body s ≡ Ok (tt, o)
unfolding inside
inside_on body s r o n h i j = rw h (rw j (rw i refl))

-- ---- sequences

entered_same : (f g : S → O (Unit {0})) (s : S) → ((r : S) → f r ≡ g r) → sequence_result (direct false) f s ≡ sequence_result (direct false) g s
unfolding sequence_result
entered_same f g s h = ap (λ (o : O (Unit {0})). o >>= λ x. Ok (tt, with_variables x.1 (given_back (direct false) s.globals x.1.globals) s.locals)) (h (with_locals s []))

module _ (turn_us : ℕ) (set : SetTrees) where
  pub sequence_on : (d : ℕ) (name : List ℕ) (s now : S) (e : DirectEnd) (result : Result (Unit {0}) Stopped) (steps : CodeSteps) → ¬ (d ≡ 0) → steps ≡ unwrap_or (steps_named name set.sequences) NoSteps
      → MeansDirect e result now (sequence_result (direct false) (λ r. steps_result (direct false) turn_us (λ n q. sequence_at (direct false) turn_us set (d - 1) n q) steps r) s)
      → MeansDirect e result now (sequence_at (direct false) turn_us set d name s)
  unfolding sequence_at
  sequence_on zero name s now e result steps some is h = absurd (some refl)
  sequence_on (suc d) name s now e result steps some is h =
      let less : suc d - 1 ≡ d = omega arith in
      let body : S → O (Unit {0}) = λ r. steps_at (direct false) turn_us set name r >>= λ x. steps_result (direct false) turn_us (λ n q. sequence_at (direct false) turn_us set d n q) x.0 x.1 in
      let same : sequence_result (direct false) (λ r. steps_result (direct false) turn_us (λ n q. sequence_at (direct false) turn_us set d n q) steps r) s ≡ sequence_result (direct false) body s =
      entered_same _ body s (λ r. ap (λ k. steps_result (direct false) turn_us (λ n q. sequence_at (direct false) turn_us set d n q) k r) is
      ∙ ap (λ o. o >>= λ x. steps_result (direct false) turn_us (λ n q. sequence_at (direct false) turn_us set d n q) x.0 x.1) (sym (steps_found turn_us set name r))) in
      subst (λ o. MeansDirect e result now o) same
      (subst (λ k. MeansDirect e result now (sequence_result (direct false) (λ r. steps_result (direct false) turn_us (λ n q. sequence_at (direct false) turn_us set k n q) steps r) s)) less h)

module _ (body : S → O (Unit {0})) where
  pub entered_on : (s r q p : S) (dp ap control : ℕ) (outer : List (Binding ℕ)) → r ≡ with_locals s [] → body r ≡ Ok (tt, q)
      → dp ≡ unwrap_or (value_named s.globals (codes "__dp")) 0 → ap ≡ unwrap_or (value_named s.globals (codes "__ap")) 0 → control ≡ unwrap_or (value_named s.globals (codes "__errorcontrol")) 0
      → outer ≡ s.locals → p ≡ with_variables q (set_in (set_in (set_in q.globals (codes "__dp") dp) (codes "__ap") ap) (codes "__errorcontrol") control) outer
      → sequence_result (direct false) body s ≡ Ok (tt, p)
  unfolding sequence_result direct
  entered_on s r q p dp ap control outer none is d a e same at =
      rw (sym none) (rw is (rw at (rw d (rw a (rw e (rw same refl))))))

  pub entered_fail : (s r q : S) (end : DirectEnd) → r ≡ with_locals s [] → EndsDirect end q (body r) → EndsDirect end q (sequence_result (direct false) body s)
  unfolding sequence_result
  entered_fail s r q end none h = ends_on end q (body (with_locals s [])) _ (λ x. record { so = adds_same x.1.rest }) (subst (λ x. EndsDirect end q (body x)) none h)

pub ruleset turning = (turns_on, turns_over, turns_fail, turns_none, frames)

pub ruleset loops = (args_on, args_fail, args_over, block_on, block_fail, block_over, done_on, done_fail, done_over, frames)
