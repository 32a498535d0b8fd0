-- Where a walk ends in the middle of what the meaning does: an end goes on outwards.
use Rattle.std.proofs.Common.{◌≡◌, ℕ, true, false, nat_eq, List, [], ◌∷◌, ◌++◌, ◌∙◌, Option, Some, OnOk, OnErr, Result, Ok, Err, ap, refl, sym, subst}
use Rattle.expr_grammar.specs.declared.code.BinaryOp.{BinaryOp}
use Rattle.expr_grammar.specs.declared.code.Name.{Name}
use Rattle.expr_grammar.specs.declared.code.UnaryOp.{UnaryOp}
use Rattle.expr_grammar.specs.Tree.{Tree, ArgTrees}
use Rattle.function_table.specs.declared.function.Function.TheVariants.{Sequence}
use Rattle.sequence_trees.specs.Trees.{CodeSteps}
use Rattle.sequence_rules.specs.Calls.{guarded_rest, use_now}
use Rattle.sequence_rules.specs.Direct.{Now, direct}
use Rattle.sequence_rules.specs.Machine.{State, Out, with_locals}
use Rattle.sequence_rules.specs.Steps.{counted_step, after_counted, declared_variable, dropped_value, inside, turn, condition, control_result, steps_result}
use Rattle.sequence_rules.specs.Values.{used_now, of_unary, operands, strict_binary, truth_of, conjunction, disjunction, choice, assigned_value, stored_value, appended_values, numbers_of, call_result, call_of, value}
use Rattle.logged_calls.specs.Held.{CodeEndsAs, Means}
use Rattle.logged_calls.specs.declared.held.LoggedEnd.{LoggedEnd}
use Rattle.logged_calls.specs.declared.held.LoggedEnd.TheVariants as end
use Rattle.logged_calls.specs.declared.held.Stopped.{Stopped}
use Rattle.sequence_rules.specs.Variables.{bound_variable, set_visible}
use Rattle.sequence_rules.proofs.LoopLemmas as l
use Rattle.logged_calls.proofs.EndLemmas.{ends_on}
use Rattle.logged_runs.specs.declared.runner.LoggedRunner.{LoggedRunner}
use Rattle.logged_runs.specs.Walk.{calls_in_walk, tested_turn}

abbrev S : Type 0
S = State ℕ Now

abbrev O : Type 0 → Type 0
O A = Out ℕ Now A

ends_used : (e : LoggedEnd) (now : S) (out : O ℕ) → CodeEndsAs e now out → CodeEndsAs e now (used_now (direct false) out)
unfolding used_now
ends_used e now out h = ends_on e now out _ h

ends_truth : (e : LoggedEnd) (now : S) (out : O ℕ) → CodeEndsAs e now out → CodeEndsAs e now (truth_of (direct false) out)
unfolding truth_of
ends_truth e now out h = ends_on e now _ _ (ends_used e now out h)

pub ends_unary : (e : LoggedEnd) (now : S) (op : UnaryOp) (out : O ℕ) → CodeEndsAs e now out → CodeEndsAs e now (of_unary (direct false) op out)
unfolding of_unary
ends_unary e now op out h = ends_on e now _ _ (ends_used e now out h)

module _ (runner : LoggedRunner) (depth : ℕ) where
  abbrev val : Tree → S → O ℕ
  val e s = value (direct false) (calls_in_walk runner depth) e s

  pub ends_left : (e : LoggedEnd) (now s : S) (op : BinaryOp) (left right : Tree) → CodeEndsAs e now (val left s) → CodeEndsAs e now (strict_binary (direct false) op (val left s) (val right))
  unfolding strict_binary operands
  ends_left e now s op left right h = ends_on e now _ _ (ends_on e now (val left s) _ h)

  pub ends_right : (e : LoggedEnd) (now s r : S) (op : BinaryOp) (left right : Tree) (n : ℕ) → val left s ≡ Ok (n, r) → CodeEndsAs e now (val right r) → CodeEndsAs e now (strict_binary (direct false) op (val left s) (val right))
  unfolding strict_binary operands
  ends_right e now s r op left right n is h = rw is (ends_on e now _ _ (ends_on e now (val right r) _ h))

  pub ends_and : (e : LoggedEnd) (now s : S) (left right : Tree) → CodeEndsAs e now (val left s) → CodeEndsAs e now (conjunction (direct false) (val left s) (val right))
  unfolding conjunction
  ends_and e now s left right h = ends_on e now _ _ (ends_used e now _ h)

  pub ends_and_right : (e : LoggedEnd) (now s r : S) (left right : Tree) (n : ℕ) → val left s ≡ Ok (n, r) → nat_eq n 0 ≡ false → CodeEndsAs e now (val right r) → CodeEndsAs e now (conjunction (direct false) (val left s) (val right))
  unfolding conjunction used_now use_now direct
  ends_and_right e now s r left right n is some h = rw (is, some) (ends_truth e now _ h)

  pub ends_or : (e : LoggedEnd) (now s : S) (left right : Tree) → CodeEndsAs e now (val left s) → CodeEndsAs e now (disjunction (direct false) (val left s) (val right))
  unfolding disjunction
  ends_or e now s left right h = ends_on e now _ _ (ends_used e now _ h)

  pub ends_or_right : (e : LoggedEnd) (now s r : S) (left right : Tree) (n : ℕ) → val left s ≡ Ok (n, r) → nat_eq n 0 ≡ true → CodeEndsAs e now (val right r) → CodeEndsAs e now (disjunction (direct false) (val left s) (val right))
  unfolding disjunction used_now use_now direct
  ends_or_right e now s r left right n is none h = rw (is, none) (ends_truth e now _ h)

  pub ends_choice : (e : LoggedEnd) (now s : S) (test first second : Tree) → CodeEndsAs e now (val test s) → CodeEndsAs e now (choice (direct false) (val test s) (val first) (val second))
  unfolding choice
  ends_choice e now s test first second h = ends_on e now _ _ (ends_used e now _ h)

  pub ends_call : (e : LoggedEnd) (now : S) (name : Name) (args : ArgTrees) (out : O (List ℕ)) → CodeEndsAs e now out → CodeEndsAs e now (call_of (direct false) (calls_in_walk runner depth) name args out)
  unfolding call_of numbers_of
  ends_call e now name args out h = ends_on e now _ _ (ends_on e now out _ h)

  pub ends_sequence : (e : LoggedEnd) (now s : S) (name : List ℕ) → CodeEndsAs e now (calls_in_walk runner depth name s) → CodeEndsAs e now (call_result (direct false) (calls_in_walk runner depth) (Some Sequence) name [] s)
  unfolding call_result
  ends_sequence e now s name h = ends_on e now _ _ h

  pub ends_condition : (e : LoggedEnd) (now s : S) (test : Tree) → CodeEndsAs e now (val test s) → CodeEndsAs e now (condition (direct false) runner.turn_us (calls_in_walk runner depth) (Some test) s)
  unfolding condition
  ends_condition e now s test h = ends_on e now _ _ (ends_used e now _ h)

  pub ends_control : (e : LoggedEnd) (now s : S) (o p : Option Tree) (timeout : Option ℕ) (steps : CodeSteps) → CodeEndsAs e now (condition (direct false) runner.turn_us (calls_in_walk runner depth) o s)
      → CodeEndsAs e now (control_result (direct false) runner.turn_us (calls_in_walk runner depth) o p timeout steps (steps_result (direct false) runner.turn_us (calls_in_walk runner depth) steps) s)
  unfolding control_result
  ends_control e now s o p timeout steps h = ends_on e now _ _ h

pub ends_assigned : (e : LoggedEnd) (now : S) (name : Name) (out : O ℕ) → CodeEndsAs e now out → CodeEndsAs e now (assigned_value (direct false) name out)
unfolding assigned_value
ends_assigned e now name out h = ends_on e now out _ h

pub ends_appended : (e : LoggedEnd) (now : S) (got : List ℕ) (out : O ℕ) → CodeEndsAs e now out → CodeEndsAs e now (appended_values (direct false) got out)
unfolding appended_values
ends_appended e now got out h = ends_on e now out _ h

pub ends_counted : (e : LoggedEnd) (now s : S) (rest : S → O (Unit {0})) → CodeEndsAs e now (counted_step (direct false) s) → CodeEndsAs e now (after_counted (direct false) rest s)
unfolding after_counted
ends_counted e now s rest h = ends_on e now _ _ h

pub ends_after : (e : LoggedEnd) (now s r : S) (rest : S → O (Unit {0})) → counted_step (direct false) s ≡ Ok (tt, r) → CodeEndsAs e now (rest r) → CodeEndsAs e now (after_counted (direct false) rest s)
unfolding after_counted
ends_after e now s r rest is h = rw is h

module _ (runner : LoggedRunner) (depth : ℕ) (test : Tree) where
  pub declare_value : (e : LoggedEnd) (now s r : S) (name : Name) → counted_step (direct false) s ≡ Ok (tt, r) → CodeEndsAs e now (value (direct false) (calls_in_walk runner depth) test r)
      → CodeEndsAs e now (after_counted (direct false) (λ q. declared_variable (direct false) name (value (direct false) (calls_in_walk runner depth) test q)) s)
  unfolding declared_variable
  declare_value e now s r name is h = ends_after e now s r _ is (ends_on e now (value (direct false) (calls_in_walk runner depth) test r) _ h)

  pub plain_value : (e : LoggedEnd) (now s r : S) → counted_step (direct false) s ≡ Ok (tt, r) → CodeEndsAs e now (value (direct false) (calls_in_walk runner depth) test r)
      → CodeEndsAs e now (after_counted (direct false) (λ q. dropped_value (direct false) (value (direct false) (calls_in_walk runner depth) test q)) s)
  unfolding dropped_value
  plain_value e now s r is h = ends_after e now s r _ is (ends_on e now (value (direct false) (calls_in_walk runner depth) test r) _ h)

-- ---- turns

module _ (test : S → O ℕ) (body : S → O (Unit {0})) where
  pub ends_turn : (e : LoggedEnd) (now s : S) → CodeEndsAs e now (counted_step (direct false) s) → CodeEndsAs e now (turn (direct false) test body s)
  unfolding turn
  ends_turn e now s h = ends_on e now _ _ h

  pub ends_tested : (e : LoggedEnd) (now s : S) → CodeEndsAs e now (test s) → CodeEndsAs e now (tested_turn test body s)
  ends_tested e now s h = ends_on e now _ _ (ends_used e now _ h)

  pub ends_body : (e : LoggedEnd) (now s r : S) (n : ℕ) → test s ≡ Ok (n, r) → nat_eq n 0 ≡ false → CodeEndsAs e now (body r) → CodeEndsAs e now (tested_turn test body s)
  unfolding used_now use_now direct
  ends_body e now s r n is some h = rw (is, some) (ends_on e now _ _ h)

  pub turn_is : (s r : S) → counted_step (direct false) s ≡ Ok (tt, r) → turn (direct false) test body s ≡ tested_turn test body r
  unfolding turn
  turn_is s r is = rw is refl

pub ends_inside : (e : LoggedEnd) (now s : S) (body : S → O (Unit {0})) → CodeEndsAs e now (body s) → CodeEndsAs e now (inside (direct false) body s)
unfolding inside
ends_inside e now s body h = ends_on e now _ _ h

-- ---- what a part comes to

pub assigned_on : (name : Name) (out : O ℕ) (n : ℕ) (r k q : S) → out ≡ Ok (n, r) → k ≡ set_visible name.text n r → q ≡ k → assigned_value (direct false) name out ≡ Ok (n, q)
unfolding assigned_value stored_value guarded_rest direct
assigned_on name out n r k q is set same = rw is (ap (λ x. Ok (n, x)) (sym (same ∙ set)))

pub declared_gives : (name : Name) (f : S → O ℕ) (s k r o q : S) (v : ℕ) (e : LoggedEnd) (result : Result (Unit {0}) Stopped) → counted_step (direct false) s ≡ Ok (tt, k) → f k ≡ Ok (v, r) → o ≡ with_locals r (r.locals ++ bound_variable name.text v ∷ [])
    → OnOk result (q ≡ o) → OnErr result (e ≡ end.OutOfMemory) → Means e result q (after_counted (direct false) (λ p. declared_variable (direct false) name (f p)) s)
declared_gives name f s k r o q v e (Ok x) is it so same none = l.declared_on (direct false) name f s k r o v is it so ∙ ap (λ y. Ok (tt, y)) (sym same)
declared_gives name f s k r o q v e (Err stopped) is it so same none = subst (λ y. CodeEndsAs y q (after_counted (direct false) (λ p. declared_variable (direct false) name (f p)) s)) (sym none) tt
