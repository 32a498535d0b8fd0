-- The first fault of a call.
use Rattle.std.proofs.Common.{◌≡◌, ◌↔◌, sym, subst, ℕ, ◌-◌, Bool, true, false, IsTrue, Option, Some, None, refl, true≢false}
use Rattle.expr_grammar.specs.declared.code.Name.{Name}
use Rattle.expr_grammar.specs.declared.code.TextArg as string
use Rattle.expr_grammar.specs.Tree.{ArgTrees, arg_count}
use Rattle.function_table.specs.declared.function.Function.{Function}
use Rattle.function_table.specs.declared.function.Function.TheVariants as functions
use Rattle.function_table.specs.Functions.{name_of, Takes}
use Rattle.code_check.specs.declared.fault.FaultKind.TheVariants as k
use Rattle.code_check.specs.declared.fault.CodeFault.{CodeFault}
use Rattle.code_check.specs.Order.{is_before, earlier}
use Rattle.code_check.specs.First.{IsFirst}
use Rattle.code_check.specs.ExprFaults.{Scope, text_at, OfText, SequenceFault, FormatFault, TextsFault, KindsFault, KnownFault, NamesNone, FunctionFault}
use Rattle.code_check.proofs.OrderLemmas.{first_of_two, first_of_here, first_of_there, first_of_none, first_where, first_where_not, first_of_where, first_of_where_not, first_of_same}

first_at_text : (P : string.TextArg → CodeFault → Type 0) (r : Option CodeFault) (o : Option string.TextArg) (t : string.TextArg) → o ≡ Some t → IsFirst is_before (P t) r → IsFirst is_before (OfText P o) r
first_at_text P r o t e h = subst (λ x. IsFirst is_before (OfText P x) r) (sym e) h

first_at_no_text : (P : string.TextArg → CodeFault → Type 0) (o : Option string.TextArg) → o ≡ None → IsFirst is_before (OfText P o) None
first_at_no_text P o e = subst (λ x. IsFirst is_before (OfText P x) None) (sym e) first_of_none

no_message : (fn : Function) → fn ≡ functions.Sequence → fn ≡ functions.Message → ⊥
no_message fn e h = cc

no_sequence : (fn : Function) → fn ≡ functions.Message → fn ≡ functions.Sequence → ⊥
no_sequence fn e h = cc

pub at_sequence : (s : Scope) (fn : Function) (args : ArgTrees) (t : string.TextArg) → fn ≡ functions.Sequence → text_at args 0 ≡ Some t → (r : Option CodeFault)
    → IsFirst is_before (SequenceFault s t) r → IsFirst is_before (TextsFault s fn args) r
at_sequence s fn args t e is r h = first_of_here (first_of_where e (first_at_text (SequenceFault s) r (text_at args 0) t is h)) (first_of_where_not (no_message fn e))

pub at_sequence_none : (s : Scope) (fn : Function) (args : ArgTrees) → fn ≡ functions.Sequence → text_at args 0 ≡ None → IsFirst is_before (TextsFault s fn args) None
at_sequence_none s fn args e is = first_of_here (first_of_where e (first_at_no_text (SequenceFault s) (text_at args 0) is)) (first_of_where_not (no_message fn e))

pub at_message : (s : Scope) (fn : Function) (args : ArgTrees) (t : string.TextArg) (count : ℕ) → fn ≡ functions.Message → text_at args 1 ≡ Some t → count ≡ arg_count args - 2 → (r : Option CodeFault)
    → IsFirst is_before (FormatFault count t) r → IsFirst is_before (TextsFault s fn args) r
at_message s fn args t count e is n r h =
    let h' = subst (λ m. IsFirst is_before (FormatFault m t) r) n h in
    first_of_there (first_of_where_not (no_sequence fn e)) (first_of_where e (first_at_text (FormatFault (arg_count args - 2)) r (text_at args 1) t is h'))

pub at_message_none : (s : Scope) (fn : Function) (args : ArgTrees) → fn ≡ functions.Message → text_at args 1 ≡ None → IsFirst is_before (TextsFault s fn args) None
at_message_none s fn args e is = first_of_there (first_of_where_not (no_sequence fn e)) (first_of_where e (first_at_no_text (FormatFault (arg_count args - 2)) (text_at args 1) is))

-- ---- the number of arguments

pub not_so : (b : Bool) (P : Type 0) → (IsTrue b ↔ P) → b ≡ false → P → ⊥
not_so true P h e p = true≢false e
not_so false P h e p = true≢false (sym (h.1 p))

pub is_so : (b : Bool) (P : Type 0) → (IsTrue b ↔ P) → b ≡ true → P
is_so true P h e = h.0 refl
is_so false P h e = absurd (true≢false (sym e))

pub at_wrong_count : (s : Scope) (name : Name) (args : ArgTrees) (fn : Function) (n : ℕ) (b : Bool) → n ≡ arg_count args → (IsTrue b ↔ Takes fn n) → b ≡ false
    → IsFirst is_before (KnownFault s name args fn) (Some (record { place = name.at; kind = k.ArgumentCount }))
at_wrong_count s name args fn n b is h e =
    let wrong = subst (λ m. Takes fn m → ⊥) is (not_so b (Takes fn n) h e) in
    first_of_here (first_where _ _ _ wrong) (first_of_where_not wrong)

pub at_right_count : (s : Scope) (name : Name) (args : ArgTrees) (fn : Function) (n : ℕ) (b : Bool) → n ≡ arg_count args → (IsTrue b ↔ Takes fn n) → b ≡ true → (r x y : Option CodeFault)
    → r ≡ earlier x y → IsFirst is_before (KindsFault fn 0 args) x → IsFirst is_before (TextsFault s fn args) y → IsFirst is_before (KnownFault s name args fn) r
at_right_count s name args fn n b is h e r x y found kinds texts =
    let right = subst (Takes fn) is (is_so b (Takes fn n) h e) in
    first_of_there (first_where_not _ _ _ (λ wrong. wrong right)) (first_of_where right (first_of_two r x y found kinds texts))

-- ---- the function

pub same_function : (o : Option Function) (f g : Function) → o ≡ Some f → o ≡ Some g → g ≡ f
same_function o f g p q = cc

pub at_function : (s : Scope) (name : Name) (args : ArgTrees) (fn : Function) (o : Option Function) (r : Option CodeFault) → ((f : Function) → (o ≡ Some f) ↔ (name.text ≡ name_of f)) → o ≡ Some fn
    → IsFirst is_before (KnownFault s name args fn) r → IsFirst is_before (FunctionFault s name args) r
at_function s name args fn o r each e h =
    let named = (each fn).0 e in
    first_of_there (first_where_not _ _ _ (λ none. none fn named)) (first_of_same
    (λ f p. record { function = fn; named = named; holds = p })
    (λ f p. subst (λ g. KnownFault s name args g f) (same_function o fn p.function e ((each p.function).1 p.named)) p.holds) h)

pub at_no_function : (s : Scope) (name : Name) (args : ArgTrees) (o : Option Function) (r : Option CodeFault) → ((f : Function) → (o ≡ Some f) ↔ (name.text ≡ name_of f)) → o ≡ None
    → r ≡ Some (record { place = name.at; kind = k.UndefinedFunction }) → IsFirst is_before (FunctionFault s name args) r
at_no_function s name args o r each e found =
    let none : NamesNone name.text = λ f p. (let q = (each f).1 p in cc) in
    subst (IsFirst is_before (FunctionFault s name args)) (sym found) (first_of_here (first_where _ _ _ none) (record { holds = tt; none_before = λ g p. absurd (none p.function p.named) }))
