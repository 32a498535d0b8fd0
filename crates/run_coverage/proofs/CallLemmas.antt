-- The sequences that parts of code name, one after another.
use Rattle.std.proofs.Common.{◌≡◌, ◌∙◌, sym, ap, ℕ, ◌+◌, ◌<◌, List, [], ◌∷◌, ◌++◌, map, length, take, get_or, append_assoc}
use Rattle.std.proofs.lemmas.List.{take_more, map-append, append-nil}
use Rattle.expr_grammar.specs.declared.code.Arg.{Arg}
use Rattle.expr_grammar.specs.declared.code.Stmt.{Stmt}
use Rattle.expr_grammar.specs.Tree.{ArgTree, args_of, arg_tree, arg_trees, StmtTree, stmt_tree, code_trees}
use Rattle.sequence_trees.specs.declared.steps.CheckedStep.{CheckedStep}
use Rattle.sequence_trees.specs.Trees.{CodeStep, steps_of, step_tree, steps_tree}
use Rattle.code_check.proofs.ArgLemmas.{arg_trees-take}
use Rattle.seq_check.proofs.StepLemmas.{steps_tree-take, fronts}
use Rattle.run_coverage.specs.Reach.{arg_names, args_names, statement_names, block_names, step_names, steps_names}

args_names-append : (front : List ArgTree) (a : ArgTree) → args_names (args_of (front ++ a ∷ [])) ≡ args_names (args_of front) ++ arg_names a
args_names-append [] a = append-nil (arg_names a)
args_names-append (x ∷ front) a = ap (λ ns. arg_names x ++ ns) (args_names-append front a) ∙ sym (append_assoc (arg_names x) (args_names (args_of front)) (arg_names a))

pub args_names_more : (xs : List Arg) (i : ℕ) (x : Arg) → i < length xs → args_names (arg_trees (take (i + 1) xs)) ≡ args_names (arg_trees (take i xs)) ++ arg_names (arg_tree (get_or xs i x))
args_names_more xs i x h = ap args_names (arg_trees-take xs i x h) ∙ args_names-append (map arg_tree (take i xs)) (arg_tree (get_or xs i x))

block_names-append : (front : List StmtTree) (s : StmtTree) → block_names (front ++ s ∷ []) ≡ block_names front ++ statement_names s
block_names-append [] s = append-nil (statement_names s)
block_names-append (x ∷ front) s = ap (λ ns. statement_names x ++ ns) (block_names-append front s) ∙ sym (append_assoc (statement_names x) (block_names front) (statement_names s))

pub block_names_more : (xs : List Stmt) (i : ℕ) (x : Stmt) → i < length xs → block_names (code_trees (take (i + 1) xs)) ≡ block_names (code_trees (take i xs)) ++ statement_names (stmt_tree (get_or xs i x))
block_names_more xs i x h =
    ap (λ ys. block_names (code_trees ys)) (take_more xs i x h) ∙ ap block_names (map-append stmt_tree (take i xs) (get_or xs i x ∷ []))
    ∙ block_names-append (code_trees (take i xs)) (stmt_tree (get_or xs i x))

steps_names-append : (front : List CodeStep) (s : CodeStep) → steps_names (steps_of (front ++ s ∷ [])) ≡ steps_names (steps_of front) ++ step_names s
steps_names-append [] s = append-nil (step_names s)
steps_names-append (x ∷ front) s = ap (λ ns. step_names x ++ ns) (steps_names-append front s) ∙ sym (append_assoc (step_names x) (steps_names (steps_of front)) (step_names s))

pub steps_names_more : (xs : List CheckedStep) (i : ℕ) (x : CheckedStep) → i < length xs → steps_names (steps_tree (take (i + 1) xs)) ≡ steps_names (steps_tree (take i xs)) ++ step_names (step_tree (get_or xs i x))
steps_names_more xs i x h = ap steps_names (steps_tree-take xs i x h) ∙ steps_names-append (fronts xs i) (step_tree (get_or xs i x))
