-- The calls of parts, one after another.
use Rattle.std.proofs.Common.{◌≡◌, ◌∙◌, sym, ap, ℕ, suc, ◌+◌, ◌<◌, List, [], ◌∷◌, ◌++◌, map, length, take, get_or, append_assoc, arith}
use Rattle.std.proofs.lemmas.List.{take_more, map-append, append-nil}
use Rattle.expr_grammar.specs.declared.code.Arg.{Arg}
use Rattle.expr_grammar.specs.declared.code.Stmt.{Stmt}
use Rattle.expr_grammar.specs.Tree.{ArgTree, args_of, arg_tree, arg_trees, StmtTree, stmt_tree, code_trees}
use Rattle.sequence_trees.specs.declared.steps.CheckedStep.{CheckedStep}
use Rattle.sequence_trees.specs.Trees.{CodeStep, steps_of, step_tree, steps_tree}
use Rattle.code_check.proofs.ArgLemmas.{arg_trees-take}
use Rattle.seq_check.specs.Calls.{arg_calls, args_calls, statement_calls, block_calls, step_calls, steps_calls}
use Rattle.seq_check.proofs.StepLemmas.{steps_tree-take, fronts, fronts-length}

-- a list that grew by a and then by b
pub grown : {X : Type 0} (old loop now a b total : List X) → now ≡ loop ++ b → loop ≡ old ++ a → total ≡ a ++ b → now ≡ old ++ total
grown old loop now a b total p q r = p ∙ ap (λ l. l ++ b) q ∙ append_assoc old a b ∙ ap (λ t. old ++ t) (sym r)

args_calls-append : (names : List (List ℕ)) (front : List ArgTree) (a : ArgTree) → args_calls names (args_of (front ++ a ∷ [])) ≡ args_calls names (args_of front) ++ arg_calls names a
args_calls-append names [] a = append-nil (arg_calls names a)
args_calls-append names (x ∷ front) a =
    ap (λ cs. arg_calls names x ++ cs) (args_calls-append names front a) ∙ sym (append_assoc (arg_calls names x) (args_calls names (args_of front)) (arg_calls names a))

pub args_calls_more : (names : List (List ℕ)) (xs : List Arg) (i : ℕ) (x : Arg) → i < length xs
    → args_calls names (arg_trees (take (i + 1) xs)) ≡ args_calls names (arg_trees (take i xs)) ++ arg_calls names (arg_tree (get_or xs i x))
args_calls_more names xs i x h = ap (args_calls names) (arg_trees-take xs i x h) ∙ args_calls-append names (map arg_tree (take i xs)) (arg_tree (get_or xs i x))

block_calls-append : (names : List (List ℕ)) (front : List StmtTree) (s : StmtTree) → block_calls names (front ++ s ∷ []) ≡ block_calls names front ++ statement_calls names s
block_calls-append names [] s = append-nil (statement_calls names s)
block_calls-append names (x ∷ front) s =
    ap (λ cs. statement_calls names x ++ cs) (block_calls-append names front s) ∙ sym (append_assoc (statement_calls names x) (block_calls names front) (statement_calls names s))

pub block_calls_more : (names : List (List ℕ)) (xs : List Stmt) (i : ℕ) (x : Stmt) → i < length xs
    → block_calls names (code_trees (take (i + 1) xs)) ≡ block_calls names (code_trees (take i xs)) ++ statement_calls names (stmt_tree (get_or xs i x))
block_calls_more names xs i x h =
    ap (λ ys. block_calls names (code_trees ys)) (take_more xs i x h) ∙ ap (block_calls names) (map-append stmt_tree (take i xs) (get_or xs i x ∷ []))
    ∙ block_calls-append names (code_trees (take i xs)) (stmt_tree (get_or xs i x))

steps_calls-append : (names : List (List ℕ)) (path : List ℕ) (n : ℕ) (front : List CodeStep) (s : CodeStep)
    → steps_calls names path n (steps_of (front ++ s ∷ [])) ≡ steps_calls names path n (steps_of front) ++ step_calls names (path ++ (n + length front) ∷ []) s
steps_calls-append names path n [] s =
    let e : n ≡ n + 0 = omega arith in
    append-nil (step_calls names (path ++ n ∷ []) s) ∙ ap (λ m. step_calls names (path ++ m ∷ []) s) e
steps_calls-append names path n (x ∷ front) s =
    let e : suc n + length front ≡ n + suc (length front) = omega arith in
    let first = step_calls names (path ++ n ∷ []) x in
    ap (λ cs. first ++ cs) (steps_calls-append names path (suc n) front s ∙ ap (λ m. steps_calls names path (suc n) (steps_of front) ++ step_calls names (path ++ m ∷ []) s) e)
    ∙ sym (append_assoc first (steps_calls names path (suc n) (steps_of front)) (step_calls names (path ++ (n + suc (length front)) ∷ []) s))

pub steps_calls_more : (names : List (List ℕ)) (path : List ℕ) (xs : List CheckedStep) (i : ℕ) (x : CheckedStep) → i < length xs
    → steps_calls names path 0 (steps_tree (take (i + 1) xs)) ≡ steps_calls names path 0 (steps_tree (take i xs)) ++ step_calls names (path ++ i ∷ []) (step_tree (get_or xs i x))
steps_calls_more names path xs i x h =
    let t = step_tree (get_or xs i x) in
    let e : 0 + length (fronts xs i) ≡ i = omega (arith, fronts-length xs i h) in
    ap (steps_calls names path 0) (steps_tree-take xs i x h) ∙ steps_calls-append names path 0 (fronts xs i) t
    ∙ ap (λ m. steps_calls names path 0 (steps_of (fronts xs i)) ++ step_calls names (path ++ m ∷ []) t) e
