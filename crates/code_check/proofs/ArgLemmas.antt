-- Arguments, one after another.
use Rattle.std.proofs.Common.{◌≡◌, ◌∙◌, sym, ap, subst, ℕ, zero, suc, ◌+◌, ◌<◌, List, [], ◌∷◌, ◌++◌, map, length, take, get_or, slice_get, Option, refl, arith}
use Rattle.std.proofs.lemmas.List.{take_more, map-append, length-map, length-take-le}
use Rattle.expr_grammar.specs.declared.code.Arg.{Arg}
use Rattle.expr_grammar.specs.declared.code.TextArg as string
use Rattle.expr_grammar.specs.Tree.{ArgTree, args_of, arg_tree, arg_trees, arg_count}
use Rattle.std.specs.Option.{option_and_then}
use Rattle.function_table.specs.declared.function.Function.{Function}
use Rattle.function_table.specs.Functions.{kind_at}
use Rattle.code_check.specs.declared.fault.CodeFault.{CodeFault}
use Rattle.code_check.specs.Order.{is_before, earlier}
use Rattle.code_check.specs.First.{IsFirst, InEither, here, there}
use Rattle.code_check.specs.ExprFaults.{Scope, ArgFault, ArgsFault, KindFault, KindsFault, text_of, text_at}
use Rattle.code_check.proofs.OrderLemmas.{first_of_two, first_of_same}

pub arg_trees-take : (xs : List Arg) (i : ℕ) (x : Arg) → i < length xs → arg_trees (take (i + 1) xs) ≡ args_of (map arg_tree (take i xs) ++ arg_tree (get_or xs i x) ∷ [])
arg_trees-take xs i x h = ap (λ ys. args_of (map arg_tree ys)) (take_more xs i x h) ∙ ap args_of (map-append arg_tree (take i xs) (get_or xs i x ∷ []))

-- ---- what stands in the arguments

pub args_to : (s : Scope) (front : List ArgTree) (a : ArgTree) (f : CodeFault) → InEither (ArgsFault s (args_of front)) (ArgFault s a) f → ArgsFault s (args_of (front ++ a ∷ [])) f
args_to s [] a f h = elim h [ here p ↦ elim p [ ] | there q ↦ here q ]
args_to s (x ∷ front) a f h = elim h [ here p ↦ elim p [ here u ↦ here u | there v ↦ there (args_to s front a f (here v)) ] | there q ↦ there (args_to s front a f (there q)) ]

pub args_from : (s : Scope) (front : List ArgTree) (a : ArgTree) (f : CodeFault) → ArgsFault s (args_of (front ++ a ∷ [])) f → InEither (ArgsFault s (args_of front)) (ArgFault s a) f
args_from s [] a f h = elim h [ here p ↦ there p | there q ↦ elim q [ ] ]
args_from s (x ∷ front) a f h = elim h [ here p ↦ here (here p) | there q ↦ elim (args_from s front a f q) [ here u ↦ here (there u) | there v ↦ there v ] ]

pub args_more : (s : Scope) (xs : List Arg) (i : ℕ) (x : Arg) → i < length xs → (r a b : Option CodeFault) → r ≡ earlier a b
    → IsFirst is_before (ArgsFault s (arg_trees (take i xs))) a → IsFirst is_before (ArgFault s (arg_tree (get_or xs i x))) b → IsFirst is_before (ArgsFault s (arg_trees (take (i + 1) xs))) r
args_more s xs i x h r a b e p q =
    rw (arg_trees-take xs i x h) (first_of_same (args_to s (map arg_tree (take i xs)) (arg_tree (get_or xs i x))) (args_from s (map arg_tree (take i xs)) (arg_tree (get_or xs i x))) (first_of_two r a b e p q))

-- ---- the kinds of the arguments

pub kinds_to : (fn : Function) (k : ℕ) (front : List ArgTree) (a : ArgTree) (f : CodeFault) → InEither (KindsFault fn k (args_of front)) (KindFault (kind_at fn (k + length front)) a) f → KindsFault fn k (args_of (front ++ a ∷ [])) f
kinds_to fn k [] a f h = let e : k + 0 ≡ k = omega arith in elim h [ here p ↦ elim p [ ] | there q ↦ here (subst (λ j. KindFault (kind_at fn j) a f) e q) ]
kinds_to fn k (x ∷ front) a f h =
    let e : k + suc (length front) ≡ suc k + length front = omega arith in
    elim h [ here p ↦ elim p [ here u ↦ here u | there v ↦ there (kinds_to fn (suc k) front a f (here v)) ] | there q ↦ there (kinds_to fn (suc k) front a f (there (subst (λ j. KindFault (kind_at fn j) a f) e q))) ]

pub kinds_from : (fn : Function) (k : ℕ) (front : List ArgTree) (a : ArgTree) (f : CodeFault) → KindsFault fn k (args_of (front ++ a ∷ [])) f → InEither (KindsFault fn k (args_of front)) (KindFault (kind_at fn (k + length front)) a) f
kinds_from fn k [] a f h = let e : k ≡ k + 0 = omega arith in elim h [ here p ↦ there (subst (λ j. KindFault (kind_at fn j) a f) e p) | there q ↦ elim q [ ] ]
kinds_from fn k (x ∷ front) a f h =
    let e : suc k + length front ≡ k + suc (length front) = omega arith in
    elim h [ here p ↦ here (here p) | there q ↦ elim (kinds_from fn (suc k) front a f q) [ here u ↦ here (there u) | there v ↦ there (subst (λ j. KindFault (kind_at fn j) a f) e v) ] ]

pub length-taken : (xs : List Arg) (i : ℕ) → i < length xs → 0 + length (map arg_tree (take i xs)) ≡ i
length-taken xs i h = omega (arith, length-map (take i xs) arg_tree, length-take-le i xs (omega arith))

pub kinds_more : (fn : Function) (xs : List Arg) (i : ℕ) (x : Arg) → i < length xs → (r a b : Option CodeFault) → r ≡ earlier a b
    → IsFirst is_before (KindsFault fn 0 (arg_trees (take i xs))) a → IsFirst is_before (KindFault (kind_at fn i) (arg_tree (get_or xs i x))) b → IsFirst is_before (KindsFault fn 0 (arg_trees (take (i + 1) xs))) r
kinds_more fn xs i x h r a b e p q =
    let t = arg_tree (get_or xs i x) in
    let front = map arg_tree (take i xs) in
    let q' = subst (λ j. IsFirst is_before (KindFault (kind_at fn j) t) b) (sym (length-taken xs i h)) q in
    rw (arg_trees-take xs i x h) (first_of_same (kinds_to fn 0 front t) (kinds_from fn 0 front t) (first_of_two r a b e p q'))

-- ---- how many there are

pub arg_count-trees : (xs : List Arg) → arg_count (arg_trees xs) ≡ length xs
arg_count-trees [] = refl
arg_count-trees (x ∷ xs) = ap (λ n. suc n) (arg_count-trees xs)

-- the text of an argument
abbrev pub text_of_arg : Arg → Option string.TextArg
text_of_arg x = text_of (arg_tree x)

pub text_at-trees : (xs : List Arg) (i : ℕ) → text_at (arg_trees xs) i ≡ option_and_then text_of_arg (slice_get xs i)
text_at-trees [] i = refl
text_at-trees (x ∷ xs) zero = refl
text_at-trees (x ∷ xs) (suc i) = text_at-trees xs i
