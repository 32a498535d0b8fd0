-- What is seen of expressions says what they add.
use Rattle.std.proofs.Common.{◌≡◌, ℕ, Bool, true, false, cond, not, List, [], ◌∷◌, ◌++◌, nat_eq, Option, None, Some, Ok, Err, refl}
use Rattle.expr_grammar.specs.declared.code.Name.{Name}
use Rattle.expr_grammar.specs.declared.code.UnaryOp.{UnaryOp}
use Rattle.expr_grammar.specs.declared.code.BinaryOp.{BinaryOp}
use Rattle.expr_grammar.specs.declared.code.BinaryOp.TheVariants as b
use Rattle.expr_grammar.specs.Tree as t
use Rattle.expr_grammar.specs.Tree.{Tree, ArgTree, ArgTrees}
use Rattle.function_table.specs.declared.function.Function.{Function}
use Rattle.function_table.specs.declared.function.Function.TheVariants as f
use Rattle.function_table.specs.Lookup.{function_named}
use Rattle.sequence_rules.specs.Calls.{use_now, missing, guarded_rest}
use Rattle.sequence_rules.specs.Direct.{Now, direct}
use Rattle.sequence_rules.specs.Machine.{State, Out, end_state}
use Rattle.sequence_rules.specs.Values.{named_value, stored_value, assigned_value, used_now, of_unary, both, operands, result_of, strict_binary, truth_of, conjunction, disjunction, of_binary, choice, appended_values, chained_values, text_of, call_result, call_of, value, argument, arguments}
use Rattle.sequence_rules.specs.Variables.{visible}
use Rattle.sequence_rules.proofs.NowLemmas.{numbers_as}
use Rattle.run_events.specs.Events.{Event, Assigns, Calls, Returns, events_after}
use Rattle.run_events.specs.OfValues.{needs_right, called_events, call_events, value_events, argument_events, arguments_events}
use Rattle.run_events.proofs.Leaves.{tells_function, given_is, stored_same}
use Rattle.run_events.proofs.Said.{Tells, said_none, said_one, also, tells_bind, tells_map, tells_end, tells_if}

-- a value is used at once, and nothing changes
pub used_is : (out : Out ℕ Now ℕ) → used_now (direct false) out ≡ out
unfolding used_now use_now direct
used_is (Ok x) = refl
used_is (Err e) = refl

pub tells_stored : (name : Name) (n : ℕ) (s : State ℕ Now) → Tells s (stored_value (direct false) name n s) []
unfolding stored_value guarded_rest direct
tells_stored name n s = rw (stored_same name.text n s) (said_none s.rest)

tells_named : (name : Name) (s : State ℕ Now) → Tells s (named_value (direct false) name s) []
unfolding named_value
tells_named name s = rw (given_is _ (visible name.text s) s) (said_none s.rest)

tells_unary : (op : UnaryOp) (s : State ℕ Now) (out : Out ℕ Now ℕ) (xs : List Event) → Tells s out xs → Tells s (of_unary (direct false) op out) xs
unfolding of_unary
tells_unary op s out xs h = rw (used_is out) (tells_map s out _ xs h (λ x. refl))

tells_truth : (s : State ℕ Now) (out : Out ℕ Now ℕ) (xs : List Event) → Tells s out xs → Tells s (truth_of (direct false) out) xs
unfolding truth_of
tells_truth s out xs h = rw (used_is out) (tells_map s out _ xs h (λ x. refl))

result_rest : (o : Option ℕ) (s : State ℕ Now) → (end_state (result_of (direct false) o s)).rest ≡ s.rest
unfolding result_of
result_rest None s = refl
result_rest (Some n) s = refl

-- ---- operators
module _ (s : State ℕ Now) (out : Out ℕ Now ℕ) (right : State ℕ Now → Out ℕ Now ℕ) (xs : List Event) (right_seen : State ℕ Now → List Event) (h : Tells s out xs) (k : (r : State ℕ Now) → Tells r (right r) (right_seen r)) where
  tells_operands : Tells s (operands (direct false) out right) (xs ++ events_after out (λ n r. right_seen r))
  unfolding operands both use_now direct
  tells_operands = tells_bind s out _ xs (λ n r. right_seen r) h (λ x. tells_map x.1 (right x.1) _ (right_seen x.1) (k x.1) (λ y. refl))

  tells_strict : (op : BinaryOp) → Tells s (strict_binary (direct false) op out right) (xs ++ events_after out (λ n r. right_seen r))
  unfolding strict_binary
  tells_strict op = tells_map s (operands (direct false) out right) _ _ tells_operands (λ x. result_rest _ x.1)

  tells_conjunction : Tells s (conjunction (direct false) out right) (xs ++ events_after out (λ n r. cond (not (nat_eq n 0)) (right_seen r) []))
  unfolding conjunction
  tells_conjunction = rw (used_is out) (tells_bind s out _ xs _ h (λ x. one (nat_eq x.0 0) x.1))
    where
      one : (c : Bool) (r : State ℕ Now) → Tells r (cond c (Ok ((direct false).number 0, r)) (truth_of (direct false) (right r))) (cond (not c) (right_seen r) [])
      one true r = said_none r.rest
      one false r = tells_truth r (right r) (right_seen r) (k r)

  tells_disjunction : Tells s (disjunction (direct false) out right) (xs ++ events_after out (λ n r. cond (nat_eq n 0) (right_seen r) []))
  unfolding disjunction
  tells_disjunction = rw (used_is out) (tells_bind s out _ xs _ h (λ x. one (nat_eq x.0 0) x.1))
    where
      one : (c : Bool) (r : State ℕ Now) → Tells r (cond c (truth_of (direct false) (right r)) (Ok ((direct false).number 1, r))) (cond c (right_seen r) [])
      one true r = tells_truth r (right r) (right_seen r) (k r)
      one false r = said_none r.rest

  tells_binary : (op : BinaryOp) → Tells s (of_binary (direct false) op out right) (xs ++ events_after out (λ n r. cond (needs_right op n) (right_seen r) []))
  unfolding of_binary
  tells_binary b.And = tells_conjunction
  tells_binary b.Or = tells_disjunction
  tells_binary op = tells_strict op

tells_choice : (s : State ℕ Now) (test : Out ℕ Now ℕ) (first second : State ℕ Now → Out ℕ Now ℕ) (xs : List Event) (first_seen second_seen : State ℕ Now → List Event)
    → Tells s test xs → ((r : State ℕ Now) → Tells r (first r) (first_seen r)) → ((r : State ℕ Now) → Tells r (second r) (second_seen r))
    → Tells s (choice (direct false) test first second) (xs ++ events_after test (λ n r. cond (nat_eq n 0) (second_seen r) (first_seen r)))
unfolding choice
tells_choice s test first second xs first_seen second_seen h k l =
    rw (used_is test) (tells_bind s test _ xs _ h (λ x. tells_if x.1 (nat_eq x.0 0) (second x.1) (first x.1) (second_seen x.1) (first_seen x.1) (l x.1) (k x.1)))

tells_assigned : (name : Name) (s : State ℕ Now) (out : Out ℕ Now ℕ) (xs : List Event) → Tells s out xs → Tells s (assigned_value (direct false) name out) (xs ++ events_after out (λ n r. Assigns name.text n ∷ []))
unfolding assigned_value
tells_assigned name s out xs h = tells_bind s out _ xs _ h (λ x. also x.1.rest _ (Assigns name.text x.0) [] refl refl (tells_stored name x.0 x.1))

tells_appended : (got : List ℕ) (s : State ℕ Now) (out : Out ℕ Now ℕ) (xs : List Event) → Tells s out xs → Tells s (appended_values (direct false) got out) xs
unfolding appended_values
tells_appended got s out xs h = tells_map s out _ xs h (λ x. refl)

tells_chained : (s : State ℕ Now) (first : Out ℕ Now (List ℕ)) (more : List ℕ → State ℕ Now → Out ℕ Now (List ℕ)) (xs : List Event) (more_seen : List ℕ → State ℕ Now → List Event)
    → Tells s first xs → ((got : List ℕ) (r : State ℕ Now) → Tells r (more got r) (more_seen got r)) → Tells s (chained_values (direct false) first more) (xs ++ events_after first more_seen)
unfolding chained_values
tells_chained s first more xs more_seen h k = tells_bind s first _ xs more_seen h (λ x. k x.0 x.1)

-- ---- where what is seen of called sequences says what they add
module _ (seq : List ℕ → State ℕ Now → Out ℕ Now (Unit {0})) (seen : List ℕ → State ℕ Now → List Event) (h : (name : List ℕ) (s : State ℕ Now) → Tells s (seq name s) (seen name s)) where
  tells_called : (name : List ℕ) (s : State ℕ Now) → Tells s (seq name s) (called_events seq seen name s)
  unfolding called_events
  tells_called name s = also s.rest _ (Calls name) _ refl refl (tells_end s (seq name s) (seen name s) _ (h name s) (λ x. said_one x.1.rest Returns refl refl))

  tells_call : (function : Option Function) (text n : List ℕ) (s : State ℕ Now) → Tells s (call_result (direct false) seq function text n s) (call_events seq seen function text n s)
  unfolding call_result call_events missing direct
  tells_call None text n s = said_none s.rest
  tells_call (Some f.Sequence) text n s = tells_map s (seq text s) _ _ (tells_called text s) (λ x. refl)
  tells_call (Some function) text n s = tells_function function text n s

  tells_call_of : (name : Name) (args : ArgTrees) (s : State ℕ Now) (out : Out ℕ Now (List ℕ)) (xs : List Event)
      → Tells s out xs → Tells s (call_of (direct false) seq name args out) (xs ++ events_after out (λ n r. call_events seq seen (function_named name.text) (text_of args) n r))
  unfolding call_of guarded_rest direct
  tells_call_of name args s out xs k = rw (numbers_as out) (tells_bind s out _ xs _ k (λ x. tells_call (function_named name.text) (text_of args) x.0 x.1))

  mutual
    unfolding value value_events

    pub tells_value : (e : Tree) (s : State ℕ Now) → Tells s (value (direct false) seq e s) (value_events seq seen e s)
    tells_value (t.Number n) s = said_none s.rest
    tells_value (t.Named name) s = tells_named name s
    tells_value (t.Group a) s = tells_value a s
    tells_value (t.Unary op a) s = tells_unary op s _ _ (tells_value a s)
    tells_value (t.Binary op a d) s = tells_binary s _ _ _ (λ r. value_events seq seen d r) (tells_value a s) (λ r. tells_value d r) op
    tells_value (t.Cond c a d) s = tells_choice s _ _ _ _ (λ r. value_events seq seen a r) (λ r. value_events seq seen d r) (tells_value c s) (λ r. tells_value a r) (λ r. tells_value d r)
    tells_value (t.Assign name a) s = tells_assigned name s _ _ (tells_value a s)
    tells_value (t.Call name args) s = tells_call_of name args s _ _ (tells_arguments args [] s)

    tells_argument : (a : ArgTree) (got : List ℕ) (s : State ℕ Now) → Tells s (argument (direct false) seq a got s) (argument_events seq seen a s)
    tells_argument (t.ExprArg at e) got s = tells_appended got s _ _ (tells_value e s)
    tells_argument (t.TextArg a) got s = said_none s.rest

    tells_arguments : (args : ArgTrees) (got : List ℕ) (s : State ℕ Now) → Tells s (arguments (direct false) seq args got s) (arguments_events seq seen args got s)
    tells_arguments t.NoArgs got s = said_none s.rest
    tells_arguments (t.MoreArgs a more) got s = tells_chained s _ _ _ (λ got2 r. arguments_events seq seen more got2 r) (tells_argument a got s) (λ got2 r. tells_arguments more got2 r)
