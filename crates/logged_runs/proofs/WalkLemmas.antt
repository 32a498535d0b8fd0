-- What the functions of a walk come to, and what is seen in them.
use Rattle.std.proofs.Common.{◌≡◌, ◌∙◌, ℕ, zero, suc, ◌-◌, Bool, true, false, cond, not, nat_eq, List, [], ◌++◌, Option, None, Some, unwrap_or, OnOk, OnErr, Result, Ok, Err, refl, sym, ap, subst, arith}
use Rattle.dap_base.specs.Outcome.{◌>>=◌}
use Rattle.expr_grammar.specs.declared.code.BinaryOp.{BinaryOp}
use Rattle.expr_grammar.specs.declared.code.BinaryOp.TheVariants as b
use Rattle.expr_grammar.specs.declared.code.Name.{Name}
use Rattle.expr_grammar.specs.Tree as t
use Rattle.expr_grammar.specs.Tree.{Tree, ArgTrees}
use Rattle.sequence_rules.specs.Variables.{visible}
use Rattle.function_table.specs.declared.function.Function.{Function}
use Rattle.function_table.specs.declared.function.Function.TheVariants as f
use Rattle.seq_check.specs.Answers.{checked_trees}
use Rattle.sequence_trees.specs.Trees.{CodeSteps, NoSteps, steps_named}
use Rattle.sequence_rules.specs.Calls.{function_result, value_or_missing, missing, use_now}
use Rattle.sequence_rules.specs.Direct.{Now, direct}
use Rattle.sequence_rules.specs.Machine.{State, Out, with_locals}
use Rattle.sequence_rules.specs.Steps.{condition, counted_step, turn}
use Rattle.sequence_rules.specs.Values.{call_result, named_value, of_binary, strict_binary, used_now, value}
use Rattle.run_events.specs.Events.{Event, events_after}
use Rattle.run_events.specs.OfRuns.{sequence_events}
use Rattle.run_events.specs.OfSteps.{steps_events}
use Rattle.run_events.specs.OfValues.{call_events, function_events, needs_right}
use Rattle.logged_calls.specs.Held.{CodeEndsAs, Means, Unless}
use Rattle.logged_calls.specs.declared.held.LoggedEnd.{LoggedEnd}
use Rattle.logged_calls.specs.declared.held.LoggedEnd.TheVariants as end
use Rattle.logged_calls.specs.declared.held.Stopped.{Stopped}
use Rattle.logged_runs.specs.Seen.{NotesByTurns, SeenSoFar}
use Rattle.logged_runs.specs.Walk.{calls_in_walk, events_in_walk, step_on_path, tested_turn}
use Rattle.logged_runs.specs.declared.runner.LoggedRunner.{LoggedRunner}
use Rattle.logged_runs.proofs.Ends.{ends_body, ends_condition, ends_sequence, ends_turn, turn_is}
use Rattle.logged_runs.proofs.NoteLemmas.{always, notes_as, notes_none, notes_to, refused_ends}

abbrev S : Type 0
S = State ℕ Now

abbrev O : Type 0 → Type 0
O A = Out ℕ Now A

-- the same in a state that stays
pub means_from : {A : Type 0} (F : S → O A) (e : LoggedEnd) (result : Result A Stopped) (k s q : S) → q ≡ s → Means e result k (F q) → Means e result k (F s)
means_from F e result k s q same h = subst (λ x. Means e result k (F x)) same h

-- a part of which nothing is seen, and nothing after it
nothing_after : {A : Type 0} (out : O A) → [] ≡ events_after out (λ (y : A) (q : S). [])
nothing_after (Ok x) = refl
nothing_after (Err e) = refl

pub quiet_only : {A B : Type 0} (turns : ℕ) (a b : SeenSoFar) (e : LoggedEnd) (result : Result B Stopped) (out : O A) → b ≡ a → Unless e result (NotesByTurns turns a b (λ shows. events_after out (λ (y : A) (q : S). [])))
quiet_only turns a b e result out same = always (NotesByTurns turns a b (λ shows. events_after out (λ y q. []))) e result
    (notes_as turns a b (λ shows. []) (λ shows. events_after out (λ y q. [])) (λ shows. nothing_after out) (notes_to turns a a b (λ shows. []) same (notes_none turns a)))

-- a variable
given_is : (o : Option ℕ) (s : S) → value_or_missing (direct false) 0 o s ≡ Ok (unwrap_or o 0, s)
unfolding value_or_missing missing direct
given_is None s = refl
given_is (Some n) s = refl

pub named_is : (seq : List ℕ → S → O (Unit {0})) (name : Name) (s : S) (n : ℕ) → n ≡ unwrap_or (visible name.text s) 0 → value (direct false) seq (t.Named name) s ≡ Ok (n, s)
unfolding value named_value direct
named_is seq name s n is = given_is (visible name.text s) s ∙ ap (λ k. Ok (k, s)) (sym is)

-- ---- operators

turned : (c : Bool) (ys : List Event) → cond c [] ys ≡ cond (not c) ys []
turned true ys = refl
turned false ys = refl

and_at : (out : O ℕ) (xs : List Event) (R : S → List Event) → xs ++ events_after out (λ n r. cond (nat_eq n 0) [] (R r)) ≡ xs ++ events_after out (λ n r. cond (needs_right b.And n) (R r) [])
and_at (Err e) xs R = refl
and_at (Ok x) xs R = ap (λ ys. xs ++ ys) (turned (nat_eq x.0 0) (R x.1))

pub and_needs : (op : BinaryOp) (out : O ℕ) (xs : List Event) (R : S → List Event) → op ≡ b.And → xs ++ events_after out (λ n r. cond (nat_eq n 0) [] (R r)) ≡ xs ++ events_after out (λ n r. cond (needs_right op n) (R r) [])
and_needs op out xs R is = subst (λ o. xs ++ events_after out (λ n r. cond (nat_eq n 0) [] (R r)) ≡ xs ++ events_after out (λ n r. cond (needs_right o n) (R r) [])) (sym is) (and_at out xs R)

pub or_needs : (op : BinaryOp) (out : O ℕ) (xs : List Event) (R : S → List Event) → op ≡ b.Or → xs ++ events_after out (λ n r. cond (nat_eq n 0) (R r) []) ≡ xs ++ events_after out (λ n r. cond (needs_right op n) (R r) [])
or_needs op out xs R is = subst (λ o. xs ++ events_after out (λ n r. cond (nat_eq n 0) (R r) []) ≡ xs ++ events_after out (λ n r. cond (needs_right o n) (R r) [])) (sym is) refl

pub strict_is : (op : BinaryOp) (left : O ℕ) (right : S → O ℕ) → (op ≡ b.And → ⊥) → (op ≡ b.Or → ⊥) → strict_binary (direct false) op left right ≡ of_binary (direct false) op left right
unfolding of_binary
strict_is b.And left right h k = absurd (h refl)
strict_is b.Or left right h k = absurd (k refl)
strict_is op left right h k = refl

pub strict_needs : (op : BinaryOp) (out : O ℕ) (xs : List Event) (R : S → List Event) → (op ≡ b.And → ⊥) → (op ≡ b.Or → ⊥) → xs ++ events_after out (λ n r. R r) ≡ xs ++ events_after out (λ n r. cond (needs_right op n) (R r) [])
strict_needs b.And out xs R h k = absurd (h refl)
strict_needs b.Or out xs R h k = absurd (k refl)
strict_needs op out xs R h k = refl

-- ---- calls

module _ (seq : List ℕ → S → O (Unit {0})) (seen : (ℕ → Bool) → List ℕ → S → List Event) where
  pub call_is : (function : Function) (text n : List ℕ) (s : S) → (function ≡ f.Sequence → ⊥) → function_result (direct false) function text n s ≡ call_result (direct false) seq (Some function) text n s
  unfolding call_result
  call_is f.Sequence text n s other = absurd (other refl)
  call_is function text n s other = refl

  pub call_seen : (shows : ℕ → Bool) (function : Function) (text n : List ℕ) (s : S) → (function ≡ f.Sequence → ⊥) → function_events function text n s ≡ call_events seq (seen shows) (Some function) text n s
  unfolding call_events
  call_seen shows f.Sequence text n s other = absurd (other refl)
  call_seen shows function text n s other = refl

  pub call_same : (shows : ℕ → Bool) (g h : Option Function) (t u n k : List ℕ) (s : S) → g ≡ h → t ≡ u → n ≡ k → call_events seq (seen shows) g t n s ≡ call_events seq (seen shows) h u k s
  call_same shows g h t u n k s e1 e2 e3 = ap (λ x. call_events seq (seen shows) x t n s) e1 ∙ ap (λ x. call_events seq (seen shows) h x n s) e2 ∙ ap (λ x. call_events seq (seen shows) h u x s) e3

module _ (runner : LoggedRunner) (depth : ℕ) where
  pub called_ends : (e : LoggedEnd) (now s q : S) (name : List ℕ) → q ≡ s → CodeEndsAs e now (calls_in_walk runner depth name q) → CodeEndsAs e now (call_result (direct false) (calls_in_walk runner depth) (Some f.Sequence) name [] s)
  called_ends e now s q name same h = subst (λ x. CodeEndsAs e now (call_result (direct false) (calls_in_walk runner depth) (Some f.Sequence) name [] x)) same (ends_sequence runner depth e now q name h)

  pub called_gives : (name : List ℕ) (s q r k : S) → q ≡ s → calls_in_walk runner depth name q ≡ Ok (tt, r) → k ≡ r → call_result (direct false) (calls_in_walk runner depth) (Some f.Sequence) name [] s ≡ Ok (0, k)
  unfolding call_result direct
  called_gives name s q r k same is back = ap (λ x. calls_in_walk runner depth name x >>= λ y. Ok (0, y.1)) (sym same) ∙ ap (λ o. o >>= λ y. Ok (0, y.1)) is ∙ ap (λ x. Ok (0, x)) (sym back)

  pub condition_ends : (e : LoggedEnd) (now s q : S) (test : Tree) → q ≡ s → CodeEndsAs e now (value (direct false) (calls_in_walk runner depth) test q) → CodeEndsAs e now (condition (direct false) runner.turn_us (calls_in_walk runner depth) (Some test) s)
  condition_ends e now s q test same h = subst (λ x. CodeEndsAs e now (condition (direct false) runner.turn_us (calls_in_walk runner depth) (Some test) x)) same (ends_condition runner depth e now q test h)

  pub condition_gives : (test : Tree) (s q r k : S) (n : ℕ) (c : Bool) → q ≡ s → value (direct false) (calls_in_walk runner depth) test q ≡ Ok (n, r) → k ≡ r → c ≡ not (nat_eq n 0)
      → condition (direct false) runner.turn_us (calls_in_walk runner depth) (Some test) s ≡ Ok (c, k)
  unfolding condition used_now use_now direct
  condition_gives test s q r k n c same is back test_is =
      ap (λ x. condition (direct false) runner.turn_us (calls_in_walk runner depth) (Some test) x) (sym same) ∙ rw is (ap (λ x. Ok (not (nat_eq n 0), x)) (sym back) ∙ ap (λ x. Ok (x, k)) (sym test_is))

-- ---- turns

module _ (test : S → O ℕ) (body : S → O (Unit {0})) where
  pub tested_false : (s r k : S) (n : ℕ) → test s ≡ Ok (n, r) → nat_eq n 0 ≡ true → k ≡ r → tested_turn test body s ≡ Ok (false, k)
  unfolding used_now use_now direct
  tested_false s r k n is none back = rw (is, none) (ap (λ x. Ok (false, x)) (sym back))

  pub tested_true : (s r q k : S) (n : ℕ) → test s ≡ Ok (n, r) → nat_eq n 0 ≡ false → q ≡ r → body q ≡ Ok (tt, k) → tested_turn test body s ≡ Ok (true, k)
  unfolding used_now use_now direct
  tested_true s r q k n is some same so = rw (is, some) (ap (λ x. body x >>= λ y. Ok (true, y.1)) (sym same) ∙ ap (λ o. o >>= λ y. Ok (true, y.1)) so)

  pub tested_ends : (e : LoggedEnd) (now s r q : S) (n : ℕ) → test s ≡ Ok (n, r) → nat_eq n 0 ≡ false → q ≡ r → CodeEndsAs e now (body q) → CodeEndsAs e now (tested_turn test body s)
  tested_ends e now s r q n is some same h = ends_body test body e now s r n is some (subst (λ x. CodeEndsAs e now (body x)) same h)

  pub turn_ends : (e : LoggedEnd) (now s q : S) → q ≡ s → CodeEndsAs e now (counted_step (direct false) q) → CodeEndsAs e now (turn (direct false) test body s)
  turn_ends e now s q same h = subst (λ x. CodeEndsAs e now (turn (direct false) test body x)) same (ends_turn test body e now q h)

  pub turn_gives : (e : LoggedEnd) (result : Result Bool Stopped) (s q r k : S) → q ≡ s → counted_step (direct false) q ≡ Ok (tt, r) → Means e result k (tested_turn test body r) → Means e result k (turn (direct false) test body s)
  turn_gives e result s q r k same is h = subst (λ x. Means e result k (turn (direct false) test body x)) same (subst (λ o. Means e result k o) (sym (turn_is test body q r is)) h)

pub count_is : (count : ℕ) → count ≡ count - 0
count_is count = omega arith

-- the loop is left in a state that stays, unless memory was refused
pub left_gives : (e : LoggedEnd) (result : Result (Unit {0}) Stopped) (k r : S) (out : O (Unit {0})) → out ≡ Ok (tt, r) → OnOk result (k ≡ r) → OnErr result (e ≡ end.OutOfMemory) → Means e result k out
left_gives e (Ok x) k r out is same none = is ∙ ap (λ y. Ok (tt, y)) (sym same)
left_gives e (Err stopped) k r out is same none = refused_ends e k out none

-- ---- sequences

module _ (runner : LoggedRunner) where
  pub none_deep : (d : ℕ) (name : List ℕ) (s : S) (shows : ℕ → Bool) → d ≡ 0 → [] ≡ events_in_walk shows runner d name s
  unfolding sequence_events
  none_deep zero name s shows is = refl
  none_deep (suc k) name s shows is = absurd (omega (arith, is))

  pub deep_is : (d : ℕ) (name : List ℕ) (s : S) (steps : CodeSteps) (shows : ℕ → Bool) → (d ≡ 0 → ⊥) → steps ≡ unwrap_or (steps_named name (checked_trees runner.set.now).sequences) NoSteps
      → steps_events shows runner.turn_us (calls_in_walk runner (d - 1)) (events_in_walk shows runner (d - 1)) (step_on_path name []) 0 steps (with_locals s []) ≡ events_in_walk shows runner d name s
  unfolding sequence_events
  deep_is zero name s steps shows some is = absurd (some refl)
  deep_is (suc k) name s steps shows some is =
      let less : suc k - 1 ≡ k = omega arith in
      ap (λ x. steps_events shows runner.turn_us (calls_in_walk runner x) (events_in_walk shows runner x) (step_on_path name []) 0 steps (with_locals s [])) less
      ∙ ap (λ x. steps_events shows runner.turn_us (calls_in_walk runner k) (events_in_walk shows runner k) (step_on_path name []) 0 x (with_locals s [])) is
