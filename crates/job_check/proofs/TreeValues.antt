-- Each tree is that of some value of the program, and the trees of a set whose names are texts are those of a checked set.
use Rattle.std.proofs.Common.{◌≡◌, ◌∙◌, ap, ap₂, refl, sym, subst, ℕ, ◌<◌, ◌^◌, List, [], ◌∷◌, map, length, Option, Some, None, option_map, Box, Global, arith}
use Rattle.std.specs.Prelude.{String, Vec, string_bytes}
use Rattle.std.specs.List.{AllByRecursion}
use Rattle.indexmap.specs.Layout.{hash_map}
use denote.RawPtr.{null_ptr}
use Rattle.expr_grammar.specs.declared.code.Expr.{Expr}
use Rattle.expr_grammar.specs.declared.code.Expr.TheVariants as e
use Rattle.expr_grammar.specs.declared.code.Arg.{Arg}
use Rattle.expr_grammar.specs.declared.code.Arg.TheVariants as a
use Rattle.expr_grammar.specs.declared.code.Name.{Name}
use Rattle.expr_grammar.specs.declared.code.CalledName.{CalledName}
use Rattle.expr_grammar.specs.declared.code.Stmt.{Stmt}
use Rattle.expr_grammar.specs.declared.code.Stmt.TheVariants as s
use Rattle.expr_grammar.specs.declared.code.TextArg as string
use Rattle.expr_grammar.specs.Tree as t
use Rattle.expr_grammar.specs.Tree.{Tree, ArgTree, ArgTrees, NoArgs, MoreArgs, StmtTree, tree, arg_tree, arg_trees, stmt_tree, code_trees}
use Rattle.function_table.specs.Lookup.{function_named}
use Rattle.sequence_resolve.specs.declared.entry.SeqEntry.{SeqEntry}
use Rattle.sequence_resolve.specs.declared.entry.SeqSet.{SeqSet}
use Rattle.sequence_trees.specs.declared.steps.CheckedStep.{CheckedStep}
use Rattle.sequence_trees.specs.declared.steps.CheckedStep.TheVariants as c
use Rattle.sequence_trees.specs.declared.set.ReadSet.{ReadSet}
use Rattle.sequence_trees.specs.Trees.{CodeStep, Block, Control, CodeSteps, NoSteps, MoreSteps, step_tree, steps_tree, SequenceTrees, SetTrees}
use Rattle.sequence_trees.specs.SetView.{entry_view, set_trees}
use Rattle.sequence_trees.specs.Reading.{ReadsEntries, ReadsSet}
use Rattle.code_check.proofs.TreeLemmas.{tree-Number, tree-Name, tree-Group, tree-Unary, tree-Binary, tree-Cond, tree-Assign, tree-Call, arg_tree-Number, arg_tree-Text}
use Rattle.seq_check.specs.declared.checked.Checked.{Checked}
use Rattle.seq_check.specs.Valid.{IsSound}
use Rattle.seq_check.specs.Answers.{checked_trees}
use Rattle.seq_check.proofs.StepLemmas.{step_tree-Block, step_tree-Control}
use Rattle.json_form.specs.Short.{IsShort}
use Rattle.job_check.proofs.ShortNames.{EntriesShort}

the_global : Global
the_global = record { memory = record { seal = tt } }

-- ---- expressions

boxed : Expr → Box Expr Global
boxed x = record { ptr = null_ptr; alloc = the_global; value = x }

boxed_name : Name → Box Name Global
boxed_name n = record { ptr = null_ptr; alloc = the_global; value = n }

boxed_called : Name → Box CalledName Global
boxed_called n = record { ptr = null_ptr; alloc = the_global; value = record { function = function_named n.text; name = n; found = refl } }

boxed_text : string.TextArg → Box string.TextArg Global
boxed_text s = record { ptr = null_ptr; alloc = the_global; value = s }

boxed_condition : Option Expr → Box (Option Expr) Global
boxed_condition o = record { ptr = null_ptr; alloc = the_global; value = o }

same_cond : (c a b d f g : Tree) → c ≡ d → a ≡ f → b ≡ g → t.Cond c a b ≡ t.Cond d f g
same_cond c a b d f g p q r = cc

mutual
  unfolding boxed boxed_name boxed_called boxed_text

  expr_of : (x : Tree) → (v : Expr) × (tree v ≡ x)
  expr_of (t.Number n) = (e.Number n, tree-Number n)
  expr_of (t.Named n) = (e.Name (boxed_name n), tree-Name (boxed_name n))
  expr_of (t.Group x) = let v = expr_of x in (e.Group (boxed v.0), tree-Group (boxed v.0) ∙ ap t.Group v.1)
  expr_of (t.Unary op x) = let v = expr_of x in (e.Unary op (boxed v.0), tree-Unary op (boxed v.0) ∙ ap (t.Unary op) v.1)
  expr_of (t.Binary op x y) = let v = expr_of x in let w = expr_of y in (e.Binary op (boxed v.0) (boxed w.0), tree-Binary op (boxed v.0) (boxed w.0) ∙ ap₂ (t.Binary op) v.1 w.1)
  expr_of (t.Cond x y z) =
      let u = expr_of x in
      let v = expr_of y in
      let w = expr_of z in
      (e.Cond (boxed u.0) (boxed v.0) (boxed w.0), tree-Cond (boxed u.0) (boxed v.0) (boxed w.0) ∙ same_cond (tree u.0) (tree v.0) (tree w.0) x y z u.1 v.1 w.1)
  expr_of (t.Assign n x) = let v = expr_of x in (e.Assign (boxed_name n) (boxed v.0), tree-Assign (boxed_name n) (boxed v.0) ∙ ap (t.Assign n) v.1)
  expr_of (t.Call n args) = let vs = args_of args in (e.Call (boxed_called n) vs.0, tree-Call (boxed_called n) vs.0 ∙ ap (t.Call n) vs.1)

  arg_of : (x : ArgTree) → (v : Arg) × (arg_tree v ≡ x)
  arg_of (t.ExprArg at x) = let v = expr_of x in (a.Number at v.0, arg_tree-Number at v.0 ∙ ap (t.ExprArg at) v.1)
  arg_of (t.TextArg text) = (a.Text (boxed_text text), arg_tree-Text (boxed_text text))

  args_of : (xs : ArgTrees) → (vs : List Arg) × (arg_trees vs ≡ xs)
  args_of NoArgs = ([], refl)
  args_of (MoreArgs x more) = let v = arg_of x in let vs = args_of more in (v.0 ∷ vs.0, ap₂ MoreArgs v.1 vs.1)

-- ---- statements and steps

statement_of : (x : StmtTree) → (v : Stmt) × (stmt_tree v ≡ x)
unfolding boxed_name
statement_of (t.Empty at) = (s.Empty at, refl)
statement_of (t.Declare name x) = let v = expr_of x in (s.Declare (boxed_name name) v.0, ap (t.Declare name) v.1)
statement_of (t.Plain at x) = let v = expr_of x in (s.Plain at v.0, ap (t.Plain at) v.1)

code_of : (xs : List StmtTree) → (vs : List Stmt) × (code_trees vs ≡ xs)
code_of [] = ([], refl)
code_of (x ∷ xs) = let v = statement_of x in let vs = code_of xs in (v.0 ∷ vs.0, ap₂ (λ (y : StmtTree) (ys : List StmtTree). y ∷ ys) v.1 vs.1)

condition_of : (o : Option Tree) → (v : Option Expr) × (option_map tree v ≡ o)
condition_of None = (None, refl)
condition_of (Some x) = let v = expr_of x in (Some v.0, ap (λ (y : Tree). Some y) v.1)

same_control : (f g h i : Option Tree) (timeout : Option ℕ) (x y : CodeSteps) → f ≡ h → g ≡ i → x ≡ y → Control f g timeout x ≡ Control h i timeout y
same_control f g h i timeout x y p q r = cc

mutual
  unfolding boxed_condition

  step_of : (x : CodeStep) → (v : CheckedStep) × (step_tree v ≡ x)
  step_of (Block code) = let vs = code_of code in (c.Block vs.0, step_tree-Block vs.0 ∙ ap Block vs.1)
  step_of (Control cond repeat timeout inner) =
      let f = condition_of cond in
      let g = condition_of repeat in
      let vs = steps_of inner in
      let cond' = boxed_condition f.0 in
      let repeat' = boxed_condition g.0 in
      (c.Control cond' repeat' timeout vs.0, step_tree-Control cond' repeat' timeout vs.0 ∙ same_control (option_map tree f.0) (option_map tree g.0) cond repeat timeout (steps_tree vs.0) inner f.1 g.1 vs.1)

  steps_of : (xs : CodeSteps) → (vs : List CheckedStep) × (steps_tree vs ≡ xs)
  steps_of NoSteps = ([], refl)
  steps_of (MoreSteps x more) = let v = step_of x in let vs = steps_of more in (v.0 ∷ vs.0, ap₂ MoreSteps v.1 vs.1)

-- ---- a set

string_of : (n : ℕ) (text : List ℕ) → n < 2 ^ 63 → IsShort n text → (v : String Global) × (string_bytes v ≡ text)
string_of n text small is =
    let bytes : Vec ℕ Global = record { ptr = null_ptr; len = length text; cap = length text; alloc = the_global; items = text; ok = (refl, omega arith); small = omega (arith, small, is.few) } in
    (record { bytes = bytes; ok = ∣ is.utf8 ∣₁ }, refl)

-- the names of the sequences
abbrev NamesShort : ℕ → List SequenceTrees → Type 0
NamesShort n ss = AllByRecursion (λ (x : SequenceTrees). IsShort n x.name) ss

abbrev Entry : Type 0
Entry = String Global × List CheckedStep

sequences_of : (n : ℕ) → n < 2 ^ 63 → (xs : List SequenceTrees) → NamesShort n xs → (vs : List Entry) × (map entry_view vs ≡ xs)
sequences_of n small [] all = ([], refl)
sequences_of n small (x ∷ xs) all =
    let name = string_of n x.name small all.0 in
    let steps = steps_of x.steps in
    let more = sequences_of n small xs all.1 in
    let same : entry_view (name.0, steps.0) ≡ x = ap₂ (λ (m : List ℕ) (ys : CodeSteps). record { name = m; steps = ys }) name.1 steps.1 in
    ((name.0, steps.0) ∷ more.0, ap₂ (λ (y : SequenceTrees) (ys : List SequenceTrees). y ∷ ys) same more.1)

read_set_of : (n : ℕ) → n < 2 ^ 63 → (trees : SetTrees) → NamesShort n trees.sequences → (v : ReadSet) × (set_trees v ≡ trees)
read_set_of n small trees all =
    let code = code_of trees.debugvars in
    let sequences = sequences_of n small trees.sequences all in (
      record { debugvars = code.0; sequences = hash_map sequences.0 (record { initial = record { state = 0 } }) 0 },
      ap₂ (λ (d : List StmtTree) (ss : List SequenceTrees). record { debugvars = d; sequences = ss }) code.1 sequences.1,
    )

names_short : (n : ℕ) (es : List SeqEntry) (ss : List SequenceTrees) → ReadsEntries es ss → EntriesShort n es → NamesShort n ss
names_short n [] ss is all = subst (NamesShort n) (sym is) tt
names_short n (x ∷ es) ss is all = subst (NamesShort n) (sym is.2) (subst (IsShort n) (sym is.3.name) all.0, names_short n es is.1 is.4 all.1)

-- the trees of a set in which nothing is wrong, where its names are texts
pub checked_of : (n : ℕ) → n < 2 ^ 63 → (set : SeqSet) (trees : SetTrees) → ReadsSet set trees → IsSound trees → EntriesShort n set.entries → (v : Checked) × (checked_trees v ≡ trees)
checked_of n small set trees reads sound all =
    let read = read_set_of n small trees (names_short n set.entries trees.sequences reads.sequences all) in
    (record { set = read.0; sound = ∣ subst IsSound (sym read.1) sound ∣₁ }, read.1)
