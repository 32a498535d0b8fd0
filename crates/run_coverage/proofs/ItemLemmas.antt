-- What parts of code can cover, one after another.
use Rattle.std.proofs.Common.{◌≡◌, ◌∙◌, sym, ap, ap₂, ℕ, suc, Bool, true, false, not, Option, Some, None, is_some, option_map, ◌+◌, ◌<◌, List, [], ◌∷◌, ◌++◌, length, take, get_or, append_assoc, arith}
use Rattle.std.proofs.lemmas.List.{take_more, map-append, append-nil}
use Rattle.expr_grammar.specs.declared.code.Stmt.{Stmt}
use Rattle.expr_grammar.specs.declared.code.Expr.{Expr}
use Rattle.expr_grammar.specs.Tree.{tree, StmtTree, stmt_tree, code_trees}
use Rattle.sequence_trees.specs.declared.steps.CheckedStep.{CheckedStep}
use Rattle.sequence_trees.specs.Trees.{CodeStep, steps_of, step_tree, steps_tree}
use Rattle.sequence_trees.specs.declared.spot.Part.TheVariants as parts
use Rattle.log_lines.specs.Places.{condition_spot}
use Rattle.seq_check.proofs.StepLemmas.{steps_tree-take, fronts, fronts-length}
use Rattle.run_coverage.specs.Items.{of_condition, left_words, timed_out_words, statement_items, block_items, while_items, step_items, steps_items}
use Rattle.run_coverage.specs.declared.items.Item.{Item}

block_items-append : (name path : List ℕ) (front : List StmtTree) (s : StmtTree) → block_items name path (front ++ s ∷ []) ≡ block_items name path front ++ statement_items name path s
block_items-append name path [] s = append-nil (statement_items name path s)
block_items-append name path (x ∷ front) s =
    ap (λ is. statement_items name path x ++ is) (block_items-append name path front s) ∙ sym (append_assoc (statement_items name path x) (block_items name path front) (statement_items name path s))

pub block_items_more : (name path : List ℕ) (xs : List Stmt) (i : ℕ) (x : Stmt) → i < length xs
    → block_items name path (code_trees (take (i + 1) xs)) ≡ block_items name path (code_trees (take i xs)) ++ statement_items name path (stmt_tree (get_or xs i x))
block_items_more name path xs i x h =
    ap (λ ys. block_items name path (code_trees ys)) (take_more xs i x h) ∙ ap (block_items name path) (map-append stmt_tree (take i xs) (get_or xs i x ∷ []))
    ∙ block_items-append name path (code_trees (take i xs)) (stmt_tree (get_or xs i x))

steps_items-append : (name path : List ℕ) (n : ℕ) (front : List CodeStep) (s : CodeStep)
    → steps_items name path n (steps_of (front ++ s ∷ [])) ≡ steps_items name path n (steps_of front) ++ step_items name (path ++ (n + length front) ∷ []) s
steps_items-append name path n [] s =
    let e : n ≡ n + 0 = omega arith in
    append-nil (step_items name (path ++ n ∷ []) s) ∙ ap (λ m. step_items name (path ++ m ∷ []) s) e
steps_items-append name path n (x ∷ front) s =
    let e : suc n + length front ≡ n + suc (length front) = omega arith in
    let first = step_items name (path ++ n ∷ []) x in
    ap (λ is. first ++ is) (steps_items-append name path (suc n) front s ∙ ap (λ m. steps_items name path (suc n) (steps_of front) ++ step_items name (path ++ m ∷ []) s) e)
    ∙ sym (append_assoc first (steps_items name path (suc n) (steps_of front)) (step_items name (path ++ (n + suc (length front)) ∷ []) s))

pub steps_items_more : (name path : List ℕ) (xs : List CheckedStep) (i : ℕ) (x : CheckedStep) → i < length xs
    → steps_items name path 0 (steps_tree (take (i + 1) xs)) ≡ steps_items name path 0 (steps_tree (take i xs)) ++ step_items name (path ++ i ∷ []) (step_tree (get_or xs i x))
steps_items_more name path xs i x h =
    let t = step_tree (get_or xs i x) in
    let e : 0 + length (fronts xs i) ≡ i = omega (arith, fronts-length xs i h) in
    ap (steps_items name path 0) (steps_tree-take xs i x h) ∙ steps_items-append name path 0 (fronts xs i) t
    ∙ ap (λ m. steps_items name path 0 (steps_of (fronts xs i)) ++ step_items name (path ++ m ∷ []) t) e

-- the two ways that a `while` goes, where there is one
pub with_while : (name path : List ℕ) (repeat : Option Expr) (none : Bool) (old new : List Item) (left timed_out : List ℕ) → is_some repeat ≡ not none → none ≡ false
    → left ≡ left_words (condition_spot name path parts.While) → timed_out ≡ timed_out_words (condition_spot name path parts.While)
    → new ≡ old ++ of_condition left ∷ of_condition timed_out ∷ [] → new ≡ old ++ while_items name path (option_map tree repeat)
with_while name path None none old new left timed_out given is_not first second is =
    let bad : false ≡ true = given ∙ ap not is_not in
    absurd cc
with_while name path (Some e) none old new left timed_out given is_not first second is = is ∙ ap₂ (λ a b. old ++ of_condition a ∷ of_condition b ∷ []) first second
