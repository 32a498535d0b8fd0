-- The warnings of parts of code, one after another.
use Rattle.std.proofs.Common.{◌≡◌, ◌∙◌, sym, ap, refl, None, ℕ, suc, ◌+◌, ◌<◌, ◌≤◌, List, [], ◌∷◌, ◌++◌, map, length, take, get_or, append_assoc, arith}
use Rattle.std.proofs.lemmas.List.{take_more, map-append, append-nil}
use Rattle.expr_grammar.specs.declared.code.Arg.{Arg}
use Rattle.expr_grammar.specs.declared.code.Stmt.{Stmt}
use Rattle.expr_grammar.specs.Tree.{Tree, ArgTree, args_of, arg_tree, arg_trees, StmtTree, stmt_tree, code_trees}
use Rattle.sequence_trees.specs.declared.steps.CheckedStep.{CheckedStep}
use Rattle.sequence_trees.specs.Trees.{CodeStep, steps_of, step_tree, steps_tree}
use Rattle.code_check.proofs.ArgLemmas.{arg_trees-take}
use Rattle.seq_check.proofs.StepLemmas.{steps_tree-take, fronts, fronts-length}
use Rattle.set_warnings.specs.Sites.{PartAt}
use Rattle.set_warnings.specs.Assigned.{arg_warnings, args_warnings, statement_warnings, block_warnings}
use Rattle.set_warnings.specs.Waits.{wait_name}
use Rattle.set_warnings.specs.Steps.{step_warnings, steps_warnings}

module _ (vars : List (List ℕ)) (at : PartAt) where
  args_warnings-append : (front : List ArgTree) (a : ArgTree) → args_warnings vars at (args_of (front ++ a ∷ [])) ≡ args_warnings vars at (args_of front) ++ arg_warnings vars at a
  args_warnings-append [] a = append-nil (arg_warnings vars at a)
  args_warnings-append (x ∷ front) a =
      ap (λ ws. arg_warnings vars at x ++ ws) (args_warnings-append front a)
      ∙ sym (append_assoc (arg_warnings vars at x) (args_warnings vars at (args_of front)) (arg_warnings vars at a))

  pub args_warnings_more : (xs : List Arg) (i : ℕ) (x : Arg) → i < length xs
      → args_warnings vars at (arg_trees (take (i + 1) xs)) ≡ args_warnings vars at (arg_trees (take i xs)) ++ arg_warnings vars at (arg_tree (get_or xs i x))
  args_warnings_more xs i x h = ap (args_warnings vars at) (arg_trees-take xs i x h) ∙ args_warnings-append (map arg_tree (take i xs)) (arg_tree (get_or xs i x))

  block_warnings-append : (front : List StmtTree) (s : StmtTree) → block_warnings vars at (front ++ s ∷ []) ≡ block_warnings vars at front ++ statement_warnings vars at s
  block_warnings-append [] s = append-nil (statement_warnings vars at s)
  block_warnings-append (x ∷ front) s =
      ap (λ ws. statement_warnings vars at x ++ ws) (block_warnings-append front s)
      ∙ sym (append_assoc (statement_warnings vars at x) (block_warnings vars at front) (statement_warnings vars at s))

  pub block_warnings_more : (xs : List Stmt) (i : ℕ) (x : Stmt) → i < length xs
      → block_warnings vars at (code_trees (take (i + 1) xs)) ≡ block_warnings vars at (code_trees (take i xs)) ++ statement_warnings vars at (stmt_tree (get_or xs i x))
  block_warnings_more xs i x h =
      ap (λ ys. block_warnings vars at (code_trees ys)) (take_more xs i x h) ∙ ap (block_warnings vars at) (map-append stmt_tree (take i xs) (get_or xs i x ∷ []))
      ∙ block_warnings-append (code_trees (take i xs)) (stmt_tree (get_or xs i x))

module _ (vars : List (List ℕ)) (name : List ℕ) (path : List ℕ) where
  steps_warnings-append : (n : ℕ) (front : List CodeStep) (s : CodeStep)
      → steps_warnings vars name path n (steps_of (front ++ s ∷ [])) ≡ steps_warnings vars name path n (steps_of front) ++ step_warnings vars name (path ++ (n + length front) ∷ []) s
  steps_warnings-append n [] s =
      let e : n ≡ n + 0 = omega arith in
      append-nil (step_warnings vars name (path ++ n ∷ []) s) ∙ ap (λ m. step_warnings vars name (path ++ m ∷ []) s) e
  steps_warnings-append n (x ∷ front) s =
      let e : suc n + length front ≡ n + suc (length front) = omega arith in
      let first = step_warnings vars name (path ++ n ∷ []) x in
      ap (λ ws. first ++ ws) (steps_warnings-append (suc n) front s ∙ ap (λ m. steps_warnings vars name path (suc n) (steps_of front) ++ step_warnings vars name (path ++ m ∷ []) s) e)
      ∙ sym (append_assoc first (steps_warnings vars name path (suc n) (steps_of front)) (step_warnings vars name (path ++ (n + suc (length front)) ∷ []) s))

  pub steps_warnings_more : (xs : List CheckedStep) (i : ℕ) (x : CheckedStep) → i < length xs
      → steps_warnings vars name path 0 (steps_tree (take (i + 1) xs)) ≡ steps_warnings vars name path 0 (steps_tree (take i xs)) ++ step_warnings vars name (path ++ i ∷ []) (step_tree (get_or xs i x))
  steps_warnings_more xs i x h =
      let t = step_tree (get_or xs i x) in
      let e : 0 + length (fronts xs i) ≡ i = omega (arith, fronts-length xs i h) in
      ap (steps_warnings vars name path 0) (steps_tree-take xs i x h) ∙ steps_warnings-append 0 (fronts xs i) t
      ∙ ap (λ m. steps_warnings vars name path 0 (steps_of (fronts xs i)) ++ step_warnings vars name (path ++ m ∷ []) t) e

-- a control with steps is no such wait
pub no_wait : (e : Tree) (steps : List CheckedStep) → 1 ≤ length steps → wait_name e (steps_tree steps) ≡ None
no_wait e [] h = absurd (omega arith)
no_wait e (x ∷ more) h = refl
