-- How large trees are, for measures.
use Rattle.std.proofs.Common.{◌≡◌, ℕ, zero, suc, ◌+◌, ◌<◌, ◌≤◌, ◌-◌, Bool, true, false, cond, List, [], ◌∷◌, length, get_or, Option, Some, None, unwrap_or, refl, arith, bytes_eq}
use Rattle.expr_grammar.specs.declared.code.Arg.{Arg}
use Rattle.expr_grammar.specs.declared.code.Stmt as statement
use Rattle.sequence_trees.specs.declared.steps.CheckedStep.{CheckedStep}
use Rattle.expr_grammar.specs.Tree as t
use Rattle.expr_grammar.specs.Tree.{Tree, ArgTree, ArgTrees, StmtTree, tree, arg_tree, arg_trees, stmt_tree, code_trees}
use Rattle.sequence_trees.specs.Trees as c
use Rattle.sequence_trees.specs.Trees.{CodeStep, CodeSteps, SequenceTrees, step_tree, steps_tree, steps_named}

abbrev mutual
  pub size : Tree → ℕ
  size (t.Number n) = 1
  size (t.Named name) = 1
  size (t.Group a) = size a + 1
  size (t.Unary op a) = size a + 1
  size (t.Binary op a b) = size a + size b + 1
  size (t.Cond a b d) = size a + size b + size d + 1
  size (t.Assign name a) = size a + 1
  size (t.Call name args) = args_size args + 1

  pub arg_size : ArgTree → ℕ
  arg_size (t.ExprArg at e) = size e + 1
  arg_size (t.TextArg a) = 1

  pub args_size : ArgTrees → ℕ
  args_size t.NoArgs = 1
  args_size (t.MoreArgs a more) = arg_size a + args_size more

abbrev pub stmt_size : StmtTree → ℕ
stmt_size (t.Empty at) = 1
stmt_size (t.Declare name e) = size e + 1
stmt_size (t.Plain at e) = size e + 1

abbrev pub block_size : List StmtTree → ℕ
block_size [] = 1
block_size (st ∷ code) = stmt_size st + block_size code

abbrev pub cond_size : Option Tree → ℕ
cond_size None = 1
cond_size (Some e) = size e + 1

abbrev mutual
  pub step_size : CodeStep → ℕ
  step_size (c.Block code) = block_size code + 1
  step_size (c.Control cond repeat timeout steps) = cond_size cond + cond_size repeat + steps_size steps + 1

  pub steps_size : CodeSteps → ℕ
  steps_size c.NoSteps = 1
  steps_size (c.MoreSteps step more) = step_size step + steps_size more

abbrev pub all_size : List SequenceTrees → ℕ
all_size [] = 1
all_size (s ∷ more) = steps_size s.steps + all_size more

-- what calls of sequences may still do
unfoldable pub budget : ℕ → ℕ → ℕ
budget zero w = 0
budget (suc d) w = w + budget d w

pub some_args : (args : ArgTrees) → 0 < args_size args
some_args t.NoArgs = omega arith
some_args (t.MoreArgs a more) =
    let k = some_args more in
    omega arith

pub some_block : (code : List StmtTree) → 0 < block_size code
some_block [] = omega arith
some_block (st ∷ code) =
    let k = some_block code in
    omega arith

pub some_steps : (steps : CodeSteps) → 0 < steps_size steps
some_steps c.NoSteps = omega arith
some_steps (c.MoreSteps step more) =
    let k = some_steps more in
    omega arith

-- an item is smaller than its list
pub arg_within : (args : List Arg) (i : ℕ) (d a : Arg) → i < length args → a ≡ get_or args i d → arg_size (arg_tree a) < args_size (arg_trees args)
arg_within [] i d a h is = absurd (omega arith)
arg_within (x ∷ xs) zero d a h is =
    let k = some_args (arg_trees xs) in
    rw is (omega arith)
arg_within (x ∷ xs) (suc i) d a h is =
    let k = arg_within xs i d a (omega arith) is in
    omega arith

pub stmt_within : (code : List statement.Stmt) (i : ℕ) (d a : statement.Stmt) → i < length code → a ≡ get_or code i d → stmt_size (stmt_tree a) < block_size (code_trees code)
stmt_within [] i d a h is = absurd (omega arith)
stmt_within (x ∷ xs) zero d a h is =
    let k = some_block (code_trees xs) in
    rw is (omega arith)
stmt_within (x ∷ xs) (suc i) d a h is =
    let k = stmt_within xs i d a (omega arith) is in
    omega arith

pub step_within : (steps : List CheckedStep) (i : ℕ) (d a : CheckedStep) → i < length steps → a ≡ get_or steps i d → step_size (step_tree a) < steps_size (steps_tree steps)
step_within [] i d a h is = absurd (omega arith)
step_within (x ∷ xs) zero d a h is =
    let k = some_steps (steps_tree xs) in
    rw is (omega arith)
step_within (x ∷ xs) (suc i) d a h is =
    let k = step_within xs i d a (omega arith) is in
    omega arith

-- a sequence is smaller than its set
one_within : (b : Bool) (name : List ℕ) (s : SequenceTrees) (more : List SequenceTrees) → steps_size (unwrap_or (steps_named name more) c.NoSteps) ≤ all_size more
    → steps_size (unwrap_or (cond b (Some s.steps) (steps_named name more)) c.NoSteps) ≤ steps_size s.steps + all_size more
one_within true name s more k = omega arith
one_within false name s more k = omega arith

pub named_within : (name : List ℕ) (sequences : List SequenceTrees) → steps_size (unwrap_or (steps_named name sequences) c.NoSteps) ≤ all_size sequences
named_within name [] = omega arith
named_within name (s ∷ more) = one_within (bytes_eq name s.name) name s more (named_within name more)

pub less_budget : (d w : ℕ) → ¬ (d ≡ 0) → w + budget (d - 1) w ≡ budget d w
unfolding budget
less_budget zero w some = absurd (some refl)
less_budget (suc d) w some =
    let less : suc d - 1 ≡ d = omega arith in
    rw less refl
