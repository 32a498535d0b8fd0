-- Loops over lists and turns, scopes, and calls of sequences, on any machine: what is left of the whole after one item more, and after a
-- part whose value is dropped. For runners that go over a list by an index, count turns down, and swap the variables of a sequence.
use Rattle.std.proofs.Common.{◌≡◌, ℕ, zero, suc, ◌+◌, ◌-◌, ◌<◌, ◌≤◌, Bool, true, false, cond, List, [], ◌∷◌, ◌++◌, length, drop, take, get_or, Option, None, Some, unwrap_or, Ok, Err, codes, refl, sym, ap, subst, ◌∙◌, arith}
use Rattle.std.proofs.lemmas.List.{drop_all, drop_more}
use Rattle.dap_base.specs.Outcome.{◌>>=◌}
use Rattle.expr_grammar.specs.declared.code.Arg.{Arg}
use Rattle.expr_grammar.specs.declared.code.Name.{Name}
use Rattle.expr_grammar.specs.declared.code.Stmt as statement
use Rattle.expr_grammar.specs.Tree.{arg_tree, arg_trees, stmt_tree, code_trees}
use Rattle.sequence_trees.specs.declared.steps.CheckedStep.{CheckedStep}
use Rattle.sequence_trees.specs.Trees.{CodeSteps, SetTrees, NoSteps, step_tree, steps_tree, steps_named}
use Rattle.sequence_rules.specs.declared.bindings.Binding.{Binding}
use Rattle.sequence_rules.specs.Machine.{Machine, State, Out, with_locals, with_variables}
use Rattle.sequence_rules.specs.Calls.{missing, value_or_missing}
use Rattle.sequence_rules.specs.Values.{argument, arguments, chained_values}
use Rattle.sequence_rules.specs.Variables.{bound_variable, value_named, set_in}
use Rattle.sequence_rules.specs.Steps.{in_order, counted_step, after_counted, declared_variable, inside, block, step, steps_result, turn, turns, sequence_result, steps_at, sequence_at}
use Rattle.sequence_rules.specs.Steps as steps

-- the way back from a called sequence, one change after the other
pub back : {V T : Type 0} (s r q p o : State V T) (a b c : V) (locals : List (Binding V))
    → r ≡ with_variables s (set_in s.globals (codes "__dp") a) s.locals
    → q ≡ with_variables r (set_in r.globals (codes "__ap") b) r.locals
    → p ≡ with_variables q (set_in q.globals (codes "__errorcontrol") c) q.locals
    → o ≡ with_locals p locals
    → o ≡ with_variables s (set_in (set_in (set_in s.globals (codes "__dp") a) (codes "__ap") b) (codes "__errorcontrol") c) locals
back s r q p o a b c locals hr hq hp ho =
    ho ∙ ap (λ x. with_locals x locals)
    (hp ∙ ap (λ x. with_variables x (set_in x.globals (codes "__errorcontrol") c) x.locals)
    (hq ∙ ap (λ x. with_variables x (set_in x.globals (codes "__ap") b) x.locals) hr))

-- ---- the rest after a part whose value is dropped

abbrev pub dropped_value : {V T B : Type 0} → B × State V T → Out V T (Unit {0})
dropped_value y = Ok (tt, y.1)

abbrev pub rest_of : {V T B C : Type 0} → (State V T → Out V T C) → B × State V T → Out V T C
rest_of g y = g y.1

tail_one : {V T B C : Type 0} (p : Out V T B) (g : State V T → Out V T C) → (p >>= rest_of {B = B} {C = C} g) ≡ ((p >>= dropped_value {B = B}) >>= rest_of {B = Unit {0}} {C = C} g)
tail_one (Ok x) g = refl
tail_one (Err e) g = refl

pub tail_two : {V T A B C : Type 0} (o : Out V T A) (f : A × State V T → Out V T B) (g : State V T → Out V T C) → (o >>= λ x. f x >>= rest_of {B = B} {C = C} g) ≡ ((o >>= λ x. f x >>= dropped_value {B = B}) >>= rest_of {B = Unit {0}} {C = C} g)
tail_two (Ok x) f g = tail_one (f x) g
tail_two (Err e) f g = refl

module _ {V T : Type 0} (m : Machine V T) where
  -- ---- lists

  module _ (seq : List ℕ → State V T → Out V T (Unit {0})) where
    pub args_more : (xs : List Arg) (i : ℕ) (d : Arg) (got : List V) (s : State V T) → i < length xs
        → arguments m seq (arg_trees (drop i xs)) got s ≡ chained_values m (argument m seq (arg_tree (get_or xs i d)) got s) (λ g r. arguments m seq (arg_trees (drop (i + 1) xs)) g r)
    unfolding arguments
    args_more xs i d got s h = rw (drop_more xs i d h) refl

    pub args_on : (total : Out V T (List V)) (xs : List Arg) (i : ℕ) (d : Arg) (got now : List V) (s r : State V T) → total ≡ arguments m seq (arg_trees (drop i xs)) got s → i < length xs
        → argument m seq (arg_tree (get_or xs i d)) got s ≡ Ok (now, r) → total ≡ arguments m seq (arg_trees (drop (i + 1) xs)) now r
    unfolding chained_values
    args_on total xs i d got now s r same h is = same ∙ args_more xs i d got s h ∙ rw is refl

    pub args_over : (total : Out V T (List V)) (xs : List Arg) (i : ℕ) (got : List V) (s : State V T) → total ≡ arguments m seq (arg_trees (drop i xs)) got s → length xs ≤ i → total ≡ Ok (got, s)
    unfolding arguments
    args_over total xs i got s same h = same ∙ rw (drop_all i xs h) refl

    module _ (turn_us : ℕ) where
      pub block_more : (xs : List statement.Stmt) (i : ℕ) (d : statement.Stmt) (s : State V T) → i < length xs
          → block m turn_us seq (code_trees (drop i xs)) s ≡ in_order m (steps.statement m turn_us seq (stmt_tree (get_or xs i d)) s) (λ r. block m turn_us seq (code_trees (drop (i + 1) xs)) r)
      unfolding block
      block_more xs i d s h = rw (drop_more xs i d h) refl

      pub block_on : (total : Out V T (Unit {0})) (xs : List statement.Stmt) (i : ℕ) (d : statement.Stmt) (s r : State V T) → total ≡ block m turn_us seq (code_trees (drop i xs)) s → i < length xs
          → steps.statement m turn_us seq (stmt_tree (get_or xs i d)) s ≡ Ok (tt, r) → total ≡ block m turn_us seq (code_trees (drop (i + 1) xs)) r
      unfolding in_order
      block_on total xs i d s r same h is = same ∙ block_more xs i d s h ∙ rw is refl

      pub block_over : (total : Out V T (Unit {0})) (xs : List statement.Stmt) (i : ℕ) (s : State V T) → total ≡ block m turn_us seq (code_trees (drop i xs)) s → length xs ≤ i → total ≡ Ok (tt, s)
      unfolding block
      block_over total xs i s same h = same ∙ rw (drop_all i xs h) refl

      pub done_more : (xs : List CheckedStep) (i : ℕ) (d : CheckedStep) (s : State V T) → i < length xs
          → steps_result m turn_us seq (steps_tree (drop i xs)) s ≡ in_order m (step m turn_us seq (step_tree (get_or xs i d)) s) (λ r. steps_result m turn_us seq (steps_tree (drop (i + 1) xs)) r)
      unfolding steps_result
      done_more xs i d s h = rw (drop_more xs i d h) refl

      pub done_on : (total : Out V T (Unit {0})) (xs : List CheckedStep) (i : ℕ) (d : CheckedStep) (s r : State V T) → total ≡ steps_result m turn_us seq (steps_tree (drop i xs)) s → i < length xs
          → step m turn_us seq (step_tree (get_or xs i d)) s ≡ Ok (tt, r) → total ≡ steps_result m turn_us seq (steps_tree (drop (i + 1) xs)) r
      unfolding in_order
      done_on total xs i d s r same h is = same ∙ done_more xs i d s h ∙ rw is refl

      pub done_over : (total : Out V T (Unit {0})) (xs : List CheckedStep) (i : ℕ) (s : State V T) → total ≡ steps_result m turn_us seq (steps_tree (drop i xs)) s → length xs ≤ i → total ≡ Ok (tt, s)
      unfolding steps_result
      done_over total xs i s same h = same ∙ rw (drop_all i xs h) refl

  -- ---- turns

  module _ (test : State V T → Out V T V) (body : State V T → Out V T (Unit {0})) where
    pub turns_more : (left : ℕ) (s : State V T) → 0 < left → turns m test body left s ≡ (turn m test body s >>= λ x. cond x.0 (turns m test body (left - 1) x.1) (Ok (tt, x.1)))
    unfolding turns
    turns_more zero s pos = absurd (omega arith)
    turns_more (suc k) s pos = let less : suc k - 1 ≡ k = omega arith in rw less refl

    pub turns_on : (total : Out V T (Unit {0})) (left : ℕ) (s now : State V T) → total ≡ turns m test body left s → 0 < left → turn m test body s ≡ Ok (true, now) → total ≡ turns m test body (left - 1) now
    turns_on total left s now same pos is = same ∙ turns_more left s pos ∙ rw is refl

    pub turns_over : (total : Out V T (Unit {0})) (left : ℕ) (s now : State V T) → total ≡ turns m test body left s → 0 < left → turn m test body s ≡ Ok (false, now) → total ≡ Ok (tt, now)
    turns_over total left s now same pos is = same ∙ turns_more left s pos ∙ rw is refl

    pub turns_none : (total : Out V T (Unit {0})) (left : ℕ) (s : State V T) → total ≡ turns m test body left s → left ≤ 0 → total ≡ Ok (tt, s)
    unfolding turns
    turns_none total zero s same none = same
    turns_none total (suc k) s same none = absurd (omega arith)

  -- ---- scopes

  pub declared_on : (name : Name) (f : State V T → Out V T V) (s k r o : State V T) (v : V) → counted_step m s ≡ Ok (tt, k) → f k ≡ Ok (v, r) → o ≡ with_locals r (r.locals ++ bound_variable name.text v ∷ [])
      → after_counted m (λ q. declared_variable m name (f q)) s ≡ Ok (tt, o)
  unfolding after_counted declared_variable
  declared_on name f s k r o v h i j = rw h (rw i (rw j refl))

  pub inside_on : (body : State V T → Out V T (Unit {0})) (s r o : State V T) (n : ℕ) → body s ≡ Ok (tt, r) → n ≡ length s.locals → o ≡ with_locals r (take n r.locals) → inside m body s ≡ Ok (tt, o)
  unfolding inside
  inside_on body s r o n h i j = rw h (rw j (rw i refl))

  -- ---- sequences

  pub entered_on : (body : State V T → Out V T (Unit {0})) (s r q p : State V T) (dp ap control : V) (outer : List (Binding V)) → r ≡ with_locals s [] → body r ≡ Ok (tt, q)
      → dp ≡ unwrap_or (value_named s.globals (codes "__dp")) (m.number 0) → ap ≡ unwrap_or (value_named s.globals (codes "__ap")) (m.number 0) → control ≡ unwrap_or (value_named s.globals (codes "__errorcontrol")) (m.number 0)
      → outer ≡ s.locals → p ≡ with_variables q (set_in (set_in (set_in q.globals (codes "__dp") dp) (codes "__ap") ap) (codes "__errorcontrol") control) outer
      → sequence_result m body s ≡ Ok (tt, p)
  unfolding sequence_result
  entered_on body s r q p dp ap control outer none is d a e same at = rw (sym none) (rw is (rw at (rw d (rw a (rw e (rw same refl))))))

  module _ (turn_us : ℕ) (set : SetTrees) where
    given_steps : (careless : m.is_watchful ≡ false) (o : Option CodeSteps) (s : State V T) → value_or_missing m NoSteps o s ≡ Ok (unwrap_or o NoSteps, s)
    unfolding value_or_missing missing
    given_steps careless None s = rw careless refl
    given_steps careless (Some steps) s = refl

    -- on a machine that is not watchful, a sequence that is not there has no steps
    pub sequence_is : (careless : m.is_watchful ≡ false) (d : ℕ) (name : List ℕ) (s : State V T) → 0 < d
        → sequence_at m turn_us set d name s ≡ sequence_result m (λ r. steps_result m turn_us (λ n q. sequence_at m turn_us set (d - 1) n q) (unwrap_or (steps_named name set.sequences) NoSteps) r) s
    unfolding sequence_at steps_at sequence_result
    sequence_is careless zero name s pos = absurd (omega arith)
    sequence_is careless (suc d) name s pos =
        let less : suc d - 1 ≡ d = omega arith in
        rw less (rw (given_steps careless (steps_named name set.sequences) (with_locals s [])) refl)

  -- ---- ends: where what comes of a part has ended, so has the whole

  module _ (E : State V T → (A : Type 0) → Out V T A → Type 0) (on : (s : State V T) (A B : Type 0) (out : Out V T A) (f : A × State V T → Out V T B) → E s A out → E s B (out >>= f)) where
    pub args_fail : (seq : List ℕ → State V T → Out V T (Unit {0})) (total : Out V T (List V)) (xs : List Arg) (i : ℕ) (d : Arg) (got : List V) (s r : State V T) → total ≡ arguments m seq (arg_trees (drop i xs)) got s → i < length xs
        → E r (List V) (argument m seq (arg_tree (get_or xs i d)) got s) → E r (List V) total
    unfolding chained_values
    args_fail seq total xs i d got s r same h is = rw (same ∙ args_more seq xs i d got s h) (on r (List V) (List V) (argument m seq (arg_tree (get_or xs i d)) got s) _ is)

    pub block_fail : (seq : List ℕ → State V T → Out V T (Unit {0})) (turn_us : ℕ) (total : Out V T (Unit {0})) (xs : List statement.Stmt) (i : ℕ) (d : statement.Stmt) (s r : State V T) → total ≡ block m turn_us seq (code_trees (drop i xs)) s → i < length xs
        → E r (Unit {0}) (steps.statement m turn_us seq (stmt_tree (get_or xs i d)) s) → E r (Unit {0}) total
    unfolding in_order
    block_fail seq turn_us total xs i d s r same h is = rw (same ∙ block_more seq turn_us xs i d s h) (on r (Unit {0}) (Unit {0}) (steps.statement m turn_us seq (stmt_tree (get_or xs i d)) s) _ is)

    pub done_fail : (seq : List ℕ → State V T → Out V T (Unit {0})) (turn_us : ℕ) (total : Out V T (Unit {0})) (xs : List CheckedStep) (i : ℕ) (d : CheckedStep) (s r : State V T) → total ≡ steps_result m turn_us seq (steps_tree (drop i xs)) s → i < length xs
        → E r (Unit {0}) (step m turn_us seq (step_tree (get_or xs i d)) s) → E r (Unit {0}) total
    unfolding in_order
    done_fail seq turn_us total xs i d s r same h is = rw (same ∙ done_more seq turn_us xs i d s h) (on r (Unit {0}) (Unit {0}) (step m turn_us seq (step_tree (get_or xs i d)) s) _ is)

    pub turns_fail : (test : State V T → Out V T V) (body : State V T → Out V T (Unit {0})) (total : Out V T (Unit {0})) (left : ℕ) (s now : State V T) → total ≡ turns m test body left s → 0 < left
        → E now Bool (turn m test body s) → E now (Unit {0}) total
    turns_fail test body total left s now same pos h = rw (same ∙ turns_more test body left s pos) (on now Bool (Unit {0}) (turn m test body s) _ h)

    pub entered_fail : (body : State V T → Out V T (Unit {0})) (s r q : State V T) → r ≡ with_locals s [] → E q (Unit {0}) (body r) → E q (Unit {0}) (sequence_result m body s)
    unfolding sequence_result
    entered_fail body s r q none h = on q (Unit {0}) (Unit {0}) (body (with_locals s [])) _ (subst (λ x. E q (Unit {0}) (body x)) none h)
