-- Expressions without faults lack nothing, where the sequences that they call lack nothing.
use Rattle.std.proofs.Common.{◌≡◌, ℕ, suc, Bool, true, false, cond, ◌||◌, List, [], ◌∷◌, ◌++◌, nat_eq, Option, None, Some, Contains, codes, refl, sym, ap, subst, ◌∙◌, arith, bytes_eq}
use Rattle.dap_base.proofs.Basics.{first_true}
use Rattle.std.proofs.lemmas.List.Elements.{Contains-append_left, Contains-append_right, Contains-get_or}
use Rattle.expr_grammar.specs.Arithmetic.{binary_value}
use Rattle.expr_grammar.specs.declared.code.Name.{Name}
use Rattle.expr_grammar.specs.declared.code.TextArg as string
use Rattle.expr_grammar.specs.declared.code.UnaryOp.{UnaryOp}
use Rattle.expr_grammar.specs.declared.code.BinaryOp.{BinaryOp}
use Rattle.expr_grammar.specs.declared.code.BinaryOp.TheVariants as b
use Rattle.expr_grammar.specs.Tree as t
use Rattle.expr_grammar.specs.Tree.{Tree, ArgTree, ArgTrees, arg_count}
use Rattle.function_table.specs.declared.function.Function.{Function}
use Rattle.function_table.specs.declared.function.Function.TheVariants as f
use Rattle.function_table.specs.Lookup.{function_named}
use Rattle.function_table.proofs.Lookup.{exactly}
use Rattle.expr_grammar.specs.Names.{has_name}
use Rattle.code_check.specs.First as first
use Rattle.code_check.specs.ExprFaults.{Scope, ExprFault, ArgFault, ArgsFault, NameFault, CallFault, OfText, SequenceFault, text_at}
use Rattle.code_check.specs.declared.fault.CodeFault.{CodeFault}
use Rattle.code_check.specs.declared.fault.FaultKind.TheVariants as kinds
use Rattle.seq_check.specs.Calls.{number_of, text_calls, own_calls, expr_calls, arg_calls, args_calls}
use Rattle.seq_check.specs.declared.calls.TextCall.{TextCall}
use Rattle.sequence_rules.specs.Calls.{use_now, guarded_rest}
use Rattle.sequence_rules.specs.Machine.{Machine, State, Out}
use Rattle.sequence_rules.specs.Variables.{visible, is_visible}
use Rattle.sequence_rules.specs.Values.{text_of, named_value, stored_value, assigned_value, used_now, of_unary, both, operands, result_of, strict_binary, truth_of, conjunction, disjunction, of_binary, choice, appended_values, chained_values, numbers_of, is_call, call_result, call_of, value, argument, arguments}
use Rattle.sequence_meaning.proofs.CallLemmas.{call_is, call_has}
use Rattle.sequence_meaning.proofs.Fine.{Fine, fine_bind, fine_cond, fine_given, fine_guarded, Has, is_visible_by, visible_by, store_keeps}
use Rattle.sequence_meaning.proofs.FineCalls.{LacksNothing, fine_use, fine_all, fine_performed}

is_true : (c : Bool) → ¬ (c ≡ false) → c ≡ true
is_true true h = refl
is_true false h = absurd (h refl)

-- the sequence of the name lacks nothing, whatever variables its caller declared
abbrev pub Runs : {V T : Type 0} → List (List ℕ) → (List ℕ → State V T → Out V T (Unit {0})) → List ℕ → Type 0
Runs {V} {T} gs seq name = (ls : List (List ℕ)) (s : State V T) → Has gs ls s → Fine (Has gs ls) (seq name s)

-- each of the calls is a good one
abbrev pub AreGood : (ℕ → Type 0) → List TextCall → Type 0
AreGood Good calls = (c : TextCall) → Contains calls c → Good c.callee

pub good_left : (Good : ℕ → Type 0) (xs ys : List TextCall) → AreGood Good (xs ++ ys) → AreGood Good xs
good_left Good xs ys h c k = h c (Contains-append_left xs ys c k)

pub good_right : (Good : ℕ → Type 0) (xs ys : List TextCall) → AreGood Good (xs ++ ys) → AreGood Good ys
good_right Good xs ys h c k = h c (Contains-append_right xs ys c k)

-- ---- a call of a sequence

one_text : (args : ArgTrees) → is_call (Some f.Sequence) args ≡ true → (a : string.TextArg) × ((text_at args 0 ≡ Some a) × (text_of args ≡ a.text))
one_text t.NoArgs is = absurd cc
one_text (t.MoreArgs (t.ExprArg at e) t.NoArgs) is = absurd cc
one_text (t.MoreArgs (t.TextArg a) t.NoArgs) is = (a, (refl, refl))
one_text (t.MoreArgs a (t.MoreArgs c more)) is = absurd (too_many (arg_count more) (first_true _ _ is))
  where
    too_many : (n : ℕ) → nat_eq (suc (suc n)) 1 ≡ true → ⊥
    too_many n k = grind arith

module _ {V T : Type 0} (m : Machine V T) (safe : LacksNothing m) (gs ls : List (List ℕ)) (sc : Scope) (seq : List ℕ → State V T → Out V T (Unit {0})) where
  abbrev S : Type 0
  S = State V T

  abbrev Now : S → Type 0
  Now s = Has gs ls s

  module _ (seen : (n : List ℕ) → has_name sc.visible n ≡ true → (has_name ls n || has_name gs n) ≡ true) where
    named_sound : (name : Name) → ((g : CodeFault) → NameFault sc name g → ⊥) → (has_name ls name.text || has_name gs name.text) ≡ true
    named_sound name no' = seen name.text (is_true _ (λ h. no' (record { place = name.at; kind = kinds.UndefinedName }) (record { cause = h; is = refl })))

    fine_named : (name : Name) → ((g : CodeFault) → NameFault sc name g → ⊥) → (s : S) → Has gs ls s → Fine (Has gs ls) (named_value m name s)
    unfolding named_value
    fine_named name no' s h = let v = visible_by gs ls s name.text h (named_sound name no') in fine_given m Now (m.number 0) (visible name.text s) v.0 s v.1 h

    pub fine_used : (out : Out V T V) → Fine (Has gs ls) out → Fine (Has gs ls) (used_now m out)
    unfolding used_now
    fine_used out h = fine_bind Now Now out _ h (λ x k. fine_use m safe gs ls x.0 x.1 k)

    fine_both : (v w : V) (s : S) → Has gs ls s → Fine (Has gs ls) (both m v w s)
    unfolding both
    fine_both v w s h = fine_bind Now Now (use_now m v s) _ (fine_use m safe gs ls v s h) (λ x p. fine_bind Now Now (use_now m w x.1) _ (fine_use m safe gs ls w x.1 p) (λ y q. q))

    fine_operands : (left : Out V T V) (right : S → Out V T V) → Fine (Has gs ls) left → ((s : S) → Has gs ls s → Fine (Has gs ls) (right s)) → Fine (Has gs ls) (operands m left right)
    unfolding operands
    fine_operands left right h k = fine_bind Now Now left _ h (λ x p. fine_bind Now Now (right x.1) _ (k x.1 p) (λ y q. fine_both x.0 y.0 y.1 q))

    fine_result : (o : Option ℕ) (s : S) → Has gs ls s → Fine (Has gs ls) (result_of m o s)
    unfolding result_of
    fine_result None s h = tt
    fine_result (Some n) s h = h

    fine_strict : (op : BinaryOp) (left : Out V T V) (right : S → Out V T V) → Fine (Has gs ls) left → ((s : S) → Has gs ls s → Fine (Has gs ls) (right s)) → Fine (Has gs ls) (strict_binary m op left right)
    unfolding strict_binary
    fine_strict op left right h k = fine_bind Now Now (operands m left right) _ (fine_operands left right h k) (λ x p. fine_result (binary_value op x.0.0 x.0.1) x.1 p)

    fine_truth : (out : Out V T V) → Fine (Has gs ls) out → Fine (Has gs ls) (truth_of m out)
    unfolding truth_of
    fine_truth out h = fine_bind Now Now (used_now m out) _ (fine_used out h) (λ x p. p)

    fine_and : (left : Out V T V) (right : S → Out V T V) → Fine (Has gs ls) left → ((s : S) → Has gs ls s → Fine (Has gs ls) (right s)) → Fine (Has gs ls) (conjunction m left right)
    unfolding conjunction
    fine_and left right h k = fine_bind Now Now (used_now m left) _ (fine_used left h) (λ x p. fine_cond Now (nat_eq x.0 0) _ _ p (fine_truth (right x.1) (k x.1 p)))

    fine_or : (left : Out V T V) (right : S → Out V T V) → Fine (Has gs ls) left → ((s : S) → Has gs ls s → Fine (Has gs ls) (right s)) → Fine (Has gs ls) (disjunction m left right)
    unfolding disjunction
    fine_or left right h k = fine_bind Now Now (used_now m left) _ (fine_used left h) (λ x p. fine_cond Now (nat_eq x.0 0) _ _ (fine_truth (right x.1) (k x.1 p)) p)

    fine_binary : (op : BinaryOp) (left : Out V T V) (right : S → Out V T V) → Fine (Has gs ls) left → ((s : S) → Has gs ls s → Fine (Has gs ls) (right s)) → Fine (Has gs ls) (of_binary m op left right)
    unfolding of_binary
    fine_binary b.And left right h k = fine_and left right h k
    fine_binary b.Or left right h k = fine_or left right h k
    fine_binary op left right h k = fine_strict op left right h k

    fine_choice : (test : Out V T V) (yes' no' : S → Out V T V) → Fine (Has gs ls) test → ((s : S) → Has gs ls s → Fine (Has gs ls) (yes' s)) → ((s : S) → Has gs ls s → Fine (Has gs ls) (no' s)) → Fine (Has gs ls) (choice m test yes' no')
    unfolding choice
    fine_choice test yes' no' h k l = fine_bind Now Now (used_now m test) _ (fine_used test h) (λ x p. fine_cond Now (nat_eq x.0 0) _ _ (l x.1 p) (k x.1 p))

    fine_unary : (op : UnaryOp) (out : Out V T V) → Fine (Has gs ls) out → Fine (Has gs ls) (of_unary m op out)
    unfolding of_unary
    fine_unary op out h = fine_bind Now Now (used_now m out) _ (fine_used out h) (λ x p. p)

    pub fine_stored : (name : Name) (v : V) (s : S) → (has_name ls name.text || has_name gs name.text) ≡ true → Has gs ls s → Fine (Has gs ls) (stored_value m name v s)
    unfolding stored_value
    fine_stored name v s there h = fine_guarded m Now (is_visible name.text s) _ s (is_visible_by gs ls s name.text h there) (store_keeps gs ls s name.text v h)

    fine_assigned : (name : Name) (out : Out V T V) → ((g : CodeFault) → NameFault sc name g → ⊥) → Fine (Has gs ls) out → Fine (Has gs ls) (assigned_value m name out)
    unfolding assigned_value
    fine_assigned name out no' h = fine_bind Now Now out _ h (λ x p. fine_stored name x.0 x.1 (named_sound name no') p)

    fine_appended : (got : List V) (out : Out V T V) → Fine (Has gs ls) out → Fine (Has gs ls) (appended_values m got out)
    unfolding appended_values
    fine_appended got out h = fine_bind Now Now out _ h (λ x p. p)

    fine_chained : (one : Out V T (List V)) (more : List V → S → Out V T (List V)) → Fine (Has gs ls) one → ((g : List V) (s : S) → Has gs ls s → Fine (Has gs ls) (more g s)) → Fine (Has gs ls) (chained_values m one more)
    unfolding chained_values
    fine_chained one more h k = fine_bind Now Now one _ h (λ x p. k x.0 x.1 p)

    module _ (names : List (List ℕ)) (same_names : sc.sequences ≡ names) (Good : ℕ → Type 0) (runs : (name : List ℕ) → has_name names name ≡ true → Good (number_of names name) → Runs gs seq name)
        (dp_there : has_name gs (codes "__dp") ≡ true) (ap_there : has_name gs (codes "__ap") ≡ true) (control_there : has_name gs (codes "__errorcontrol") ≡ true) where
      -- what a call of `Sequence` has to know of its text
      Sequences : Function → List ℕ → Type 0
      Sequences function text = function ≡ f.Sequence → (has_name names text ≡ true) × Good (number_of names text)

      fine_called : (function : Function) (text numbers : List ℕ) → (function ≡ f.Sequence → (has_name names text ≡ true) × Good (number_of names text)) → (s : S) → Has gs ls s → Fine (Has gs ls) (call_result m seq (Some function) text numbers s)
      unfolding call_result
      fine_called f.Sequence text numbers k s h = let r = k refl in fine_bind Now Now (seq text s) _ (runs text r.0 r.1 ls s h) (λ x p. p)
      fine_called function text numbers k s h = fine_performed m safe gs ls dp_there ap_there control_there function text numbers s h

      own_good : (name : Name) (args : ArgTrees) (a : string.TextArg) → name.text ≡ codes "Sequence" → text_at args 0 ≡ Some a → AreGood Good (own_calls names name args) → Good (number_of names a.text)
      own_good name args a is at good =
          let c : TextCall = record { place = name.at; callee = number_of names a.text } in
          let shape : own_calls names name args ≡ c ∷ [] = ap (λ x. cond (bytes_eq x (codes "Sequence")) (text_calls names name (text_at args 0)) []) is ∙ ap (text_calls names name) at in
          good c (subst (λ cs. Contains cs c) (sym shape) (Contains-get_or (c ∷ []) 0 c (omega arith)))

      named_sequence : (args : ArgTrees) (a : string.TextArg) → text_at args 0 ≡ Some a → ((g : CodeFault) → OfText (SequenceFault sc) (text_at args 0) g → ⊥) → has_name names a.text ≡ true
      named_sequence args a at no' =
          let g : CodeFault = record { place = a.at; kind = kinds.UndefinedSequence } in
          subst (λ ns. has_name ns a.text ≡ true) same_names (is_true _ (λ h. no' g (subst (λ o. OfText (SequenceFault sc) o g) (sym at) (record { cause = h; is = refl }))))

      -- what the text of a call of `Sequence` names
      sequence_text : (name : Name) (args : ArgTrees) (function : Function) → function_named name.text ≡ Some function → is_call (Some function) args ≡ true
          → ((g : CodeFault) → function ≡ f.Sequence → OfText (SequenceFault sc) (text_at args 0) g → ⊥) → AreGood Good (own_calls names name args) → function ≡ f.Sequence
          → (has_name names (text_of args) ≡ true) × Good (number_of names (text_of args))
      sequence_text name args function named is no' good same =
          let a = one_text args (subst (λ k. is_call (Some k) args ≡ true) same is) in
          let text : name.text ≡ codes "Sequence" = (exactly name.text (function_named name.text) refl f.Sequence).0 (named ∙ ap Some same) in
          rw a.1.1 (named_sequence args a.0 a.1.0 (λ g q. no' g same q), own_good name args a.0 text a.1.0 good)

      fine_done : (o : Option Function) (function : Function) (args : ArgTrees) (numbers : List ℕ) (s : S) → o ≡ Some function → is_call o args ≡ true
          → (function ≡ f.Sequence → (has_name names (text_of args) ≡ true) × Good (number_of names (text_of args))) → Has gs ls s
          → Fine (Has gs ls) (guarded_rest m (is_call o args) (λ r. call_result m seq o (text_of args) numbers r) s)
      fine_done o function args numbers s same is k h =
          fine_guarded m Now (is_call o args) _ s is (subst (λ w. Fine (Has gs ls) (call_result m seq w (text_of args) numbers s)) (sym same) (fine_called function (text_of args) numbers k s h))

      fine_call : (name : Name) (args : ArgTrees) → ((g : CodeFault) → CallFault sc name args g → ⊥) → AreGood Good (own_calls names name args) → (out : Out V T (List V)) → Fine (Has gs ls) out → Fine (Has gs ls) (call_of m seq name args out)
      unfolding call_of numbers_of
      fine_call name args no' good out h =
          let there = call_has sc name args no' in
          let is = call_is sc name args no' in
          let at : is_call (Some there.0) args ≡ true = subst (λ o. is_call o args ≡ true) there.1 is in
          fine_bind Now Now _ _ (fine_bind Now Now out _ h (λ x p. fine_all m safe gs ls x.0 x.1 p))
          (λ x p. fine_done (function_named name.text) there.0 args x.0 x.1 there.1 is (sequence_text name args there.0 there.1 at there.2 good) p)

      mutual
        unfolding value

        pub fine_value : (e : Tree) → ((g : CodeFault) → ExprFault sc e g → ⊥) → AreGood Good (expr_calls names e) → (s : S) → Has gs ls s → Fine (Has gs ls) (value m seq e s)
        fine_value (t.Number n) no' good s h = h
        fine_value (t.Named name) no' good s h = fine_named name no' s h
        fine_value (t.Group a) no' good s h = fine_value a no' good s h
        fine_value (t.Unary op a) no' good s h = fine_unary op _ (fine_value a no' good s h)
        fine_value (t.Binary op a c) no' good s h =
            fine_binary op _ _ (fine_value a (λ g x. no' g (first.here x)) (good_left Good (expr_calls names a) (expr_calls names c) good) s h)
            (λ r q. fine_value c (λ g x. no' g (first.there x)) (good_right Good (expr_calls names a) (expr_calls names c) good) r q)
        fine_value (t.Cond c a d) no' good s h =
            let rest = good_right Good (expr_calls names c) (expr_calls names a ++ expr_calls names d) good in
            fine_choice _ _ _ (fine_value c (λ g x. no' g (first.here x)) (good_left Good (expr_calls names c) (expr_calls names a ++ expr_calls names d) good) s h)
            (λ r q. fine_value a (λ g x. no' g (first.there (first.here x))) (good_left Good (expr_calls names a) (expr_calls names d) rest) r q)
            (λ r q. fine_value d (λ g x. no' g (first.there (first.there x))) (good_right Good (expr_calls names a) (expr_calls names d) rest) r q)
        fine_value (t.Assign name a) no' good s h = fine_assigned name _ (λ g x. no' g (first.here x)) (fine_value a (λ g x. no' g (first.there x)) good s h)
        fine_value (t.Call name args) no' good s h =
            fine_call name args (λ g x. no' g (first.here x)) (good_left Good (own_calls names name args) (args_calls names args) good) _
            (fine_arguments args (λ g x. no' g (first.there x)) (good_right Good (own_calls names name args) (args_calls names args) good) [] s h)

        pub fine_argument : (a : ArgTree) → ((g : CodeFault) → ArgFault sc a g → ⊥) → AreGood Good (arg_calls names a) → (got : List V) (s : S) → Has gs ls s → Fine (Has gs ls) (argument m seq a got s)
        fine_argument (t.ExprArg at e) no' good got s h = fine_appended got _ (fine_value e no' good s h)
        fine_argument (t.TextArg a) no' good got s h = h

        pub fine_arguments : (args : ArgTrees) → ((g : CodeFault) → ArgsFault sc args g → ⊥) → AreGood Good (args_calls names args) → (got : List V) (s : S) → Has gs ls s → Fine (Has gs ls) (arguments m seq args got s)
        fine_arguments t.NoArgs no' good got s h = h
        fine_arguments (t.MoreArgs a more) no' good got s h =
            fine_chained _ _ (fine_argument a (λ g x. no' g (first.here x)) (good_left Good (arg_calls names a) (args_calls names more) good) got s h)
            (λ g r q. fine_arguments more (λ k x. no' k (first.there x)) (good_right Good (arg_calls names a) (args_calls names more) good) g r q)
