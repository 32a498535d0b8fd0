-- Statements, one after another.
use Rattle.std.proofs.Common.{◌≡◌, ◌∙◌, ap, ℕ, ◌+◌, ◌<◌, List, [], ◌∷◌, ◌++◌, length, take, get_or, Option, refl}
use Rattle.std.proofs.lemmas.List.{take_more, map-append}
use Rattle.expr_grammar.specs.declared.code.Stmt.{Stmt}
use Rattle.expr_grammar.specs.Tree.{StmtTree, stmt_tree, code_trees}
use Rattle.code_check.specs.declared.fault.CodeFault.{CodeFault}
use Rattle.code_check.specs.Order.{is_before, earlier}
use Rattle.code_check.specs.First.{IsFirst, InEither, here, there}
use Rattle.code_check.specs.ExprFaults.{Scope}
use Rattle.code_check.specs.BlockFaults.{names_after, names_after_all, seeing, StmtFault, BlockFault}
use Rattle.code_check.proofs.OrderLemmas.{first_of_two, first_of_same}

pub code_trees-take : (xs : List Stmt) (i : ℕ) (x : Stmt) → i < length xs → code_trees (take (i + 1) xs) ≡ code_trees (take i xs) ++ stmt_tree (get_or xs i x) ∷ []
code_trees-take xs i x h = ap code_trees (take_more xs i x h) ∙ map-append stmt_tree (take i xs) (get_or xs i x ∷ [])

pub names_after_all-append : (names : List (List ℕ)) (code : List StmtTree) (st : StmtTree) → names_after_all names (code ++ st ∷ []) ≡ names_after (names_after_all names code) st
names_after_all-append names [] st = refl
names_after_all-append names (x ∷ code) st = names_after_all-append (names_after names x) code st

pub names_more : (names : List (List ℕ)) (xs : List Stmt) (i : ℕ) (x : Stmt) → i < length xs
    → names_after_all names (code_trees (take (i + 1) xs)) ≡ names_after (names_after_all names (code_trees (take i xs))) (stmt_tree (get_or xs i x))
names_more names xs i x h = ap (names_after_all names) (code_trees-take xs i x h) ∙ names_after_all-append names (code_trees (take i xs)) (stmt_tree (get_or xs i x))

abbrev pub last : Scope → List StmtTree → StmtTree → CodeFault → Type 0
last s code st = StmtFault (seeing s (names_after_all s.visible code)) st

pub block_to : (s : Scope) (code : List StmtTree) (st : StmtTree) (f : CodeFault) → InEither (BlockFault s code) (last s code st) f → BlockFault s (code ++ st ∷ []) f
block_to s [] st f h = elim h [ here p ↦ elim p [ ] | there q ↦ here q ]
block_to s (x ∷ code) st f h =
    let s' = seeing s (names_after s.visible x) in
    elim h [ here p ↦ elim p [ here u ↦ here u | there v ↦ there (block_to s' code st f (here v)) ] | there q ↦ there (block_to s' code st f (there q)) ]

pub block_from : (s : Scope) (code : List StmtTree) (st : StmtTree) (f : CodeFault) → BlockFault s (code ++ st ∷ []) f → InEither (BlockFault s code) (last s code st) f
block_from s [] st f h = elim h [ here p ↦ there p | there q ↦ elim q [ ] ]
block_from s (x ∷ code) st f h =
    let s' = seeing s (names_after s.visible x) in
    elim h [ here p ↦ here (here p) | there q ↦ elim (block_from s' code st f q) [ here u ↦ here (there u) | there v ↦ there v ] ]

pub block_more : (s : Scope) (xs : List Stmt) (i : ℕ) (x : Stmt) → i < length xs → (r a b : Option CodeFault) → r ≡ earlier a b
    → IsFirst is_before (BlockFault s (code_trees (take i xs))) a
    → IsFirst is_before (StmtFault (seeing s (names_after_all s.visible (code_trees (take i xs)))) (stmt_tree (get_or xs i x))) b
    → IsFirst is_before (BlockFault s (code_trees (take (i + 1) xs))) r
block_more s xs i x h r a b e p q =
    let code = code_trees (take i xs) in
    let st = stmt_tree (get_or xs i x) in
    rw (code_trees-take xs i x h) (first_of_same (block_to s code st) (block_from s code st) (first_of_two r a b e p q))
