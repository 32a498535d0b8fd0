-- Calls with one number or two.
use Rattle.std.proofs.Common.{◌≡◌, ◌∙◌, ℕ, List, [], ◌∷◌, ◌++◌, Option, Result, Ok, Err, refl, ap, subst}
use Rattle.dap_base.specs.Outcome.{◌>>=◌}
use Rattle.dap_base.specs.declared.text.Place.{Place}
use Rattle.expr_grammar.specs.declared.code.Name.{Name}
use Rattle.expr_grammar.specs.Tree.{Tree, ArgTrees, one_number, two_numbers}
use Rattle.function_table.specs.declared.function.Function.{Function}
use Rattle.function_table.specs.Lookup.{function_named}
use Rattle.target_calls.specs.declared.calls.Value.{Value}
use Rattle.target_calls.specs.NeedPoints.{Costs}
use Rattle.target_calls.specs.World.{World}
use Rattle.access_calls.specs.Reported.{AccessView}
use Rattle.sequence_rules.specs.Calls.{guarded_rest, use_now}
use Rattle.sequence_rules.specs.Late.{Late, late}
use Rattle.sequence_rules.specs.Machine.{State, Out}
use Rattle.sequence_rules.specs.Values.{all_used, appended_values, argument, arguments, both, call_of, call_result, chained_values, numbers_of, operands, text_of, used_now, value}
use Rattle.function_calls.specs.declared.end.End.{End}
use Rattle.function_calls.specs.Ends.{EndsLate, MeansLate}
use Rattle.function_calls.proofs.Leaves.{After, ends_on, later_ok}
use Rattle.control_flow.proofs.Exits.{CallsLater, later_called}

abbrev S : Type 0
S = State Value Late

abbrev O : Type 0 → Type 0
O A = Out Value Late A

-- ---- results in a row

-- a number in a list, and two of them
in_list : ℕ × S → O (List ℕ)
in_list x = Ok (x.0 ∷ [], x.1)

both_in_list : (ℕ × ℕ) × S → O (List ℕ)
both_in_list x = Ok (x.0.0 ∷ x.0.1 ∷ [], x.1)

after_one : ℕ → List ℕ × S → O (List ℕ)
after_one n z = Ok (n ∷ z.0, z.1)

beside : ℕ → ℕ × S → O (ℕ × ℕ)
beside n q = Ok ((n, q.0), q.1)

two_numbers_of : (n : ℕ) (o : O ℕ) → ((o >>= in_list) >>= after_one n) ≡ ((o >>= beside n) >>= both_in_list)
unfolding in_list both_in_list after_one beside
two_numbers_of n (Ok q) = refl
two_numbers_of n (Err e) = refl

two_in_row : (o : O ℕ) (k : S → O ℕ) → (o >>= λ p. (k p.1 >>= in_list) >>= after_one p.0) ≡ ((o >>= λ p. k p.1 >>= beside p.0) >>= both_in_list)
two_in_row (Ok p) k = two_numbers_of p.0 (k p.1)
two_in_row (Err e) k = refl

-- values in a list
value_in_list : List Value → Value × S → O (List Value)
value_in_list got x = Ok (got ++ x.0 ∷ [], x.1)

whole_list : List Value × S → O (List Value)
whole_list x = Ok (x.0, x.1)

module _ (cost : Costs) (w : World) where
  -- the number of one value
  number_of_one : (out : O Value) → numbers_of (late cost w) ((out >>= value_in_list []) >>= whole_list) ≡ (used_now (late cost w) out >>= in_list)
  unfolding numbers_of used_now all_used value_in_list whole_list in_list
  number_of_one (Ok x) = refl
  number_of_one (Err e) = refl

  -- the numbers of a value after another
  numbers_of_second : (v : Value) (out : O Value) → numbers_of (late cost w) ((out >>= value_in_list (v ∷ [])) >>= whole_list) ≡ ((out >>= λ y. both (late cost w) v y.0 y.1) >>= both_in_list)
  unfolding numbers_of all_used both value_in_list whole_list in_list both_in_list after_one beside
  numbers_of_second v (Ok y) = two_in_row (use_now (late cost w) v y.1) (λ s. use_now (late cost w) y.0 s)
  numbers_of_second v (Err e) = refl

  -- the numbers of two values
  numbers_of_two : (out : O Value) (more : S → O Value) → numbers_of (late cost w) ((out >>= value_in_list []) >>= λ x. (more x.1 >>= value_in_list x.0) >>= whole_list) ≡ (operands (late cost w) out more >>= both_in_list)
  unfolding numbers_of operands value_in_list
  numbers_of_two (Ok x) more = numbers_of_second x.0 (more x.1)
  numbers_of_two (Err e) more = refl

  module _ (seq : List ℕ → S → O (Unit {0})) (name : Name) where
    numbers_on : (reached : AccessView) (args : ArgTrees) (out : O (List Value)) (numbers : O (List ℕ)) (ns : List ℕ) (r now : S) (result : Result Value End) (function : Option Function) (text : List ℕ) → numbers_of (late cost w) out ≡ numbers → numbers ≡ Ok (ns, r)
        → function ≡ function_named name.text → text ≡ text_of args → MeansLate w reached result now (call_result (late cost w) seq function text ns r) → MeansLate w reached result now (call_of (late cost w) seq name args out)
    unfolding call_of guarded_rest late
    numbers_on reached args out numbers ns r now result function text same is its words h =
        rw (same ∙ is) (subst (λ (x : Option Function × List ℕ). MeansLate w reached result now (call_result (late cost w) seq x.0 x.1 ns r)) (λ j. (its j, words j)) h)

    numbers_end : (reached : AccessView) (e : End) (args : ArgTrees) (out : O (List Value)) (numbers : O (List ℕ)) (now : S) → CallsLater w seq → numbers_of (late cost w) out ≡ numbers → EndsLate w reached e now numbers → EndsLate w reached e now (call_of (late cost w) seq name args out)
    unfolding call_of guarded_rest late
    numbers_end reached e args out numbers now q same h =
        rw same (ends_on w reached e now numbers _ h (λ x. later_called cost w seq (function_named name.text) (text_of args) x.0 x.1 q))

    listed : {out : O ℕ} {n : ℕ} {r : S} → out ≡ Ok (n, r) → (out >>= in_list) ≡ Ok (n ∷ [], r)
    unfolding in_list
    listed is = ap (λ o. o >>= in_list) is

    listed_both : {out : O (ℕ × ℕ)} {n k : ℕ} {r : S} → out ≡ Ok ((n, k), r) → (out >>= both_in_list) ≡ Ok (n ∷ k ∷ [], r)
    unfolding both_in_list
    listed_both is = ap (λ o. o >>= both_in_list) is

    later_listed : (x : ℕ × S) → After w x.1 (in_list x)
    unfolding in_list
    later_listed x = later_ok w x.1 (x.0 ∷ [])

    later_listed_both : (x : (ℕ × ℕ) × S) → After w x.1 (both_in_list x)
    unfolding both_in_list
    later_listed_both x = later_ok w x.1 (x.0.0 ∷ x.0.1 ∷ [])

    -- a call, with its arguments
    abbrev call_on : ArgTrees → S → O Value
    call_on args s = call_of (late cost w) seq name args (arguments (late cost w) seq args [] s)

    one_is : (at : Place) (a : Tree) (s : S) → numbers_of (late cost w) (arguments (late cost w) seq (one_number at a) [] s) ≡ (used_now (late cost w) (value (late cost w) seq a s) >>= in_list)
    unfolding arguments argument chained_values appended_values value_in_list whole_list
    one_is at a s = number_of_one (value (late cost w) seq a s)

    two_is : (at later : Place) (a b : Tree) (s : S) → numbers_of (late cost w) (arguments (late cost w) seq (two_numbers at a later b) [] s)
        ≡ (operands (late cost w) (value (late cost w) seq a s) (λ r. value (late cost w) seq b r) >>= both_in_list)
    unfolding arguments argument chained_values appended_values value_in_list whole_list
    two_is at later a b s = numbers_of_two (value (late cost w) seq a s) (λ r. value (late cost w) seq b r)

    pub one_on : (reached : AccessView) (at : Place) (a : Tree) (s r now : S) (n : ℕ) (result : Result Value End) (function : Option Function) → used_now (late cost w) (value (late cost w) seq a s) ≡ Ok (n, r) → function ≡ function_named name.text
        → MeansLate w reached result now (call_result (late cost w) seq function [] (n ∷ []) r) → MeansLate w reached result now (call_on (one_number at a) s)
    one_on reached at a s r now n result function is its h =
        numbers_on reached (one_number at a) _ _ (n ∷ []) r now result function [] (one_is at a s) (listed is) its refl h

    pub one_first : (reached : AccessView) (e : End) (at : Place) (a : Tree) (s now : S) → CallsLater w seq → EndsLate w reached e now (used_now (late cost w) (value (late cost w) seq a s)) → EndsLate w reached e now (call_on (one_number at a) s)
    one_first reached e at a s now q h = numbers_end reached e (one_number at a) _ _ now q (one_is at a s) (ends_on w reached e now _ _ h (λ x. later_listed x))

    pub two_on : (reached : AccessView) (at later : Place) (a b : Tree) (s r now : S) (n k : ℕ) (result : Result Value End) (function : Option Function)
        → operands (late cost w) (value (late cost w) seq a s) (λ q. value (late cost w) seq b q) ≡ Ok ((n, k), r) → function ≡ function_named name.text
        → MeansLate w reached result now (call_result (late cost w) seq function [] (n ∷ k ∷ []) r) → MeansLate w reached result now (call_on (two_numbers at a later b) s)
    two_on reached at later a b s r now n k result function is its h =
        numbers_on reached (two_numbers at a later b) _ _ (n ∷ k ∷ []) r now result function [] (two_is at later a b s) (listed_both is) its refl h

    pub two_first : (reached : AccessView) (e : End) (at later : Place) (a b : Tree) (s now : S) → CallsLater w seq → EndsLate w reached e now (operands (late cost w) (value (late cost w) seq a s) (λ q. value (late cost w) seq b q))
        → EndsLate w reached e now (call_on (two_numbers at a later b) s)
    two_first reached e at later a b s now q h = numbers_end reached e (two_numbers at a later b) _ _ now q (two_is at later a b s) (ends_on w reached e now _ _ h (λ x. later_listed_both x))
