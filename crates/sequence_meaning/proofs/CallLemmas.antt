-- A call without a fault of its own is one of the table, with arguments that it takes.
use Rattle.std.proofs.Common.{◌≡◌, ◌↔◌, ℕ, suc, ◌≤◌, Bool, true, false, cond, List, length, nat_eq, nat_le, Option, None, Some, MatchBool, refl, sym, ap, subst, arith}
use Rattle.std.proofs.lemmas.Bool.{both_ways, and_from, true_from_ne_false}
use Rattle.expr_grammar.specs.declared.code.Name.{Name}
use Rattle.expr_grammar.specs.Tree as t
use Rattle.expr_grammar.specs.Tree.{ArgTree, ArgTrees, arg_count}
use Rattle.function_table.specs.declared.function.Function.{Function}
use Rattle.function_table.specs.declared.function.Function.TheVariants as functions
use Rattle.function_table.specs.declared.function.ParameterKind.{ParameterKind}
use Rattle.function_table.specs.declared.function.ParameterKind.TheVariants as parameters
use Rattle.function_table.specs.Functions.{name_of, parameters_of, has_more, Takes, kind_at}
use Rattle.function_table.specs.Lookup.{function_named}
use Rattle.function_table.proofs.Lookup.{exactly}
use Rattle.code_check.specs.First as first
use Rattle.code_check.specs.ExprFaults.{Scope, CallFault, OfText, SequenceFault, text_at, KnownFault, KindFault, KindsFault, NamesNone}
use Rattle.code_check.specs.declared.fault.CodeFault.{CodeFault}
use Rattle.code_check.specs.declared.fault.FaultKind.TheVariants as kinds
use Rattle.sequence_rules.specs.Values.{is_count, is_kind, are_kinds, is_call}

-- ---- the function

pick : (n : List ℕ) (o : Option Function) → ((f : Function) → (o ≡ Some f) ↔ (n ≡ name_of f)) → (NamesNone n → ⊥) → (f : Function) × (o ≡ Some f)
pick n None ex some = absurd (some (λ f e. absurd (none_some f ((ex f).1 e))))
  where
    none_some : (f : Function) → None ≡ Some f → ⊥
    none_some f h = absurd cc
pick n (Some f) ex some = (f, refl)

-- ---- the count

counts : (args : ArgTrees) → arg_count args ≡ arg_count args
counts t.NoArgs = refl
counts (t.MoreArgs a more) = ap suc (counts more)

count_one : (b : Bool) (l n : ℕ) → MatchBool b (l ≤ n) (n ≡ l) → cond b (nat_le l n) (nat_eq n l) ≡ true
count_one true l n h = grind arith
count_one false l n h = grind arith

count_back : (b : Bool) (l n : ℕ) → cond b (nat_le l n) (nat_eq n l) ≡ true → MatchBool b (l ≤ n) (n ≡ l)
count_back true l n h = grind arith
count_back false l n h = grind arith

pub takes : (f : Function) (n : ℕ) → (¬ Takes f n → ⊥) → is_count f n ≡ true
takes f n h = true_from_ne_false _ (λ k. h (λ p. both_ways _ k (count_one (has_more f) (length (parameters_of f)) n p)))

-- ---- the kinds

kind_one : (k : Option ParameterKind) (a : ArgTree) → ((f : CodeFault) → KindFault k a f → ⊥) → is_kind k a ≡ true
kind_one None (t.ExprArg at e) h = refl
kind_one (Some parameters.Number) (t.ExprArg at e) h = refl
kind_one (Some parameters.Text) (t.ExprArg at e) h = absurd (h (record { place = at; kind = kinds.TextExpected }) (record { cause = refl; is = refl }))
kind_one None (t.TextArg a) h = refl
kind_one (Some parameters.Text) (t.TextArg a) h = refl
kind_one (Some parameters.Number) (t.TextArg a) h = absurd (h (record { place = a.at; kind = kinds.NumberExpected }) (record { cause = refl; is = refl }))

pub kinds_are : (f : Function) (i : ℕ) (args : ArgTrees) → ((g : CodeFault) → KindsFault f i args g → ⊥) → are_kinds f i args ≡ true
kinds_are f i t.NoArgs h = refl
kinds_are f i (t.MoreArgs a more) h = and_from _ _ (kind_one (kind_at f i) a (λ g p. h g (first.here p))) (kinds_are f (suc i) more (λ g p. h g (first.there p)))

-- ---- the call

known_is : (sc : Scope) (name : Name) (args : ArgTrees) (f : Function) → ((g : CodeFault) → KnownFault sc name args f g → ⊥) → is_call (Some f) args ≡ true
known_is sc name args f h =
    let count : is_count f (arg_count args) ≡ true = takes f (arg_count args) (λ k. h (record { place = name.at; kind = kinds.ArgumentCount }) (first.here (record { cause = k; is = refl }))) in
    and_from _ _ (subst (λ n. is_count f n ≡ true) (sym (counts args)) count)
    (kinds_are f 0 args (λ g p. h g (first.there (record { cause = count_back (has_more f) (length (parameters_of f)) (arg_count args) count; holds = first.here p }))))

pub call_is : (sc : Scope) (name : Name) (args : ArgTrees) → ((g : CodeFault) → CallFault sc name args g → ⊥) → is_call (function_named name.text) args ≡ true
call_is sc name args h =
    let ex = exactly name.text (function_named name.text) refl in
    let f = pick name.text (function_named name.text) ex (λ none. h (record { place = name.at; kind = kinds.UndefinedFunction }) (first.there (first.here (record { cause = none; is = refl })))) in
    subst (λ o. is_call o args ≡ true) (sym f.1) (known_is sc name args f.0 (λ g p. h g (first.there (first.there (record { function = f.0; named = (ex f.0).0 f.1; holds = p })))))

-- the function of a call, and that what the text of `Sequence` says is no fault
pub call_has : (sc : Scope) (name : Name) (args : ArgTrees) → ((g : CodeFault) → CallFault sc name args g → ⊥)
    → (f : Function) × (function_named name.text ≡ Some f) × ((g : CodeFault) → f ≡ functions.Sequence → OfText (SequenceFault sc) (text_at args 0) g → ⊥)
call_has sc name args h =
    let ex = exactly name.text (function_named name.text) refl in
    let f = pick name.text (function_named name.text) ex (λ none. h (record { place = name.at; kind = kinds.UndefinedFunction }) (first.there (first.here (record { cause = none; is = refl })))) in
    let count : is_count f.0 (arg_count args) ≡ true = takes f.0 (arg_count args) (λ k. h (record { place = name.at; kind = kinds.ArgumentCount }) (first.there (first.there (record { function = f.0; named = (ex f.0).0 f.1; holds = first.here (record { cause = k; is = refl }) })))) in (
      f.0,
      f.1,
      λ g e q. h g (first.there (first.there (record {
        function = f.0;
        named = (ex f.0).0 f.1;
        holds = first.there (record { cause = count_back (has_more f.0) (length (parameters_of f.0)) (arg_count args) count; holds = first.there (first.here (record { cause = e; holds = q })) });
      }))),
    )
