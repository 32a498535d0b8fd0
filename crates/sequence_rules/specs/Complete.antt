-- Programs that lack nothing. Each name is visible where it is used, and each call is one that its function takes. Each sequence that is called
-- is in the set, and no chain of calls is longer than 32. Each loop has a timeout.
use Rattle.std.specs.Prelude.{◌≡◌, ℕ, zero, suc, Bool, true, ◌||◌, List, [], ◌∷◌, ◌++◌, map, codes, Option, Some, None}
use Rattle.std.specs.Bool.{⊤}
use Rattle.expr_grammar.specs.Names.{has_name, with_names}
use Rattle.expr_grammar.specs.Tree as t
use Rattle.expr_grammar.specs.Tree.{Tree, ArgTree, ArgTrees, StmtTree}
use Rattle.function_table.specs.declared.function.Function.{Function}
use Rattle.function_table.specs.declared.function.Function.TheVariants as f
use Rattle.function_table.specs.Lookup.{function_named}
use Rattle.sequence_trees.specs.Trees as c
use Rattle.sequence_trees.specs.Trees.{CodeStep, CodeSteps, SetTrees, steps_named}
use Rattle.sequence_rules.specs.declared.bindings.Binding.{Binding}
use Rattle.sequence_rules.specs.Runs.{Program}
use Rattle.sequence_rules.specs.Steps.{timeout_of, declared_names}
use Rattle.sequence_rules.specs.Values.{is_call, text_of}

-- ---- names

-- the names of variables
abbrev pub names_in : {V : Type 0} → List (Binding V) → List (List ℕ)
names_in bs = map (λ b. b.name) bs

-- the names that a step declares for those after it
abbrev pub step_names : CodeStep → List (List ℕ)
step_names (c.Block code) = declared_names code
step_names (c.Control cond repeat timeout steps) = []

-- there is a timeout
abbrev pub HasTimeout : Option ℕ → Type 0
HasTimeout None = ⊥
HasTimeout (Some micros) = ⊤

-- ---- expressions, where these names are shared, and these sequences may be called

module _ (shared : List (List ℕ)) (Calls : List ℕ → Type 0) where
  -- the name is visible, where a sequence has these of its own
  abbrev pub Sees : List (List ℕ) → List ℕ → Type 0
  Sees own name = (has_name own name || has_name shared name) ≡ true

  -- a call of `Sequence` is of one that may be called
  abbrev pub MayCall : Option Function → List ℕ → Type 0
  MayCall None text = ⊤
  MayCall (Some f.Sequence) text = Calls text
  MayCall (Some function) text = ⊤

  unfoldable mutual
    -- an expression lacks nothing
    pub ExprComplete : List (List ℕ) → Tree → Type 0
    ExprComplete own (t.Number n) = ⊤
    ExprComplete own (t.Named name) = Sees own name.text
    ExprComplete own (t.Group a) = ExprComplete own a
    ExprComplete own (t.Unary op a) = ExprComplete own a
    ExprComplete own (t.Binary op a d) = ExprComplete own a × ExprComplete own d
    ExprComplete own (t.Cond e a d) = ExprComplete own e × ExprComplete own a × ExprComplete own d
    ExprComplete own (t.Assign name a) = Sees own name.text × ExprComplete own a
    ExprComplete own (t.Call name args) = (is_call (function_named name.text) args ≡ true) × MayCall (function_named name.text) (text_of args) × ArgsComplete own args

    -- nor does an argument
    pub ArgComplete : List (List ℕ) → ArgTree → Type 0
    ArgComplete own (t.ExprArg at e) = ExprComplete own e
    ArgComplete own (t.TextArg a) = ⊤

    -- nor do arguments
    pub ArgsComplete : List (List ℕ) → ArgTrees → Type 0
    ArgsComplete own t.NoArgs = ⊤
    ArgsComplete own (t.MoreArgs a more) = ArgComplete own a × ArgsComplete own more

  -- ---- steps

  -- statements, each after the declarations before it
  abbrev pub CodeComplete : List (List ℕ) → List StmtTree → Type 0
  CodeComplete own [] = ⊤
  CodeComplete own (t.Empty at ∷ code) = CodeComplete own code
  CodeComplete own (t.Declare name e ∷ code) = ExprComplete own e × CodeComplete (own ++ name.text ∷ []) code
  CodeComplete own (t.Plain at e ∷ code) = ExprComplete own e × CodeComplete own code

  -- a condition, where there is one
  abbrev pub ConditionComplete : List (List ℕ) → Option Tree → Type 0
  ConditionComplete own None = ⊤
  ConditionComplete own (Some e) = ExprComplete own e

  -- a `while` has a timeout of 1 to 60,000,000
  abbrev pub LoopComplete : List (List ℕ) → Option Tree → Option ℕ → Type 0
  LoopComplete own None timeout = ⊤
  LoopComplete own (Some e) timeout = ExprComplete own e × HasTimeout (timeout_of timeout)

  unfoldable mutual
    -- a step lacks nothing
    pub StepComplete : List (List ℕ) → CodeStep → Type 0
    StepComplete own (c.Block code) = CodeComplete own code
    StepComplete own (c.Control cond repeat timeout steps) = ConditionComplete own cond × LoopComplete own repeat timeout × StepsComplete own steps

    -- nor do steps, each after those before it
    pub StepsComplete : List (List ℕ) → CodeSteps → Type 0
    StepsComplete own c.NoSteps = ⊤
    StepsComplete own (c.MoreSteps first more) = StepComplete own first × StepsComplete (own ++ step_names first) more

-- ---- sequences

-- there are steps, and they are such
abbrev pub AreThere : (CodeSteps → Type 0) → Option CodeSteps → Type 0
AreThere Are None = ⊥
AreThere Are (Some steps) = Are steps

-- the sequence of the name is in the set and lacks nothing, and chains of calls from it have at most so many sequences
unfoldable pub SequenceComplete : List (List ℕ) → SetTrees → ℕ → List ℕ → Type 0
SequenceComplete shared set zero name = ⊥
SequenceComplete shared set (suc d) name = AreThere (StepsComplete shared (λ n. SequenceComplete shared set d n) []) (steps_named name set.sequences)

-- no sequence may be called
abbrev pub NoCalls : List ℕ → Type 0
NoCalls name = ⊥

-- the declarations of the debug variables, which call no sequence
abbrev pub DebugComplete : List (List ℕ) → List StmtTree → Type 0
DebugComplete shared [] = ⊤
DebugComplete shared (t.Empty at ∷ code) = DebugComplete shared code
DebugComplete shared (t.Declare name e ∷ code) = ExprComplete shared NoCalls [] e × Sees shared NoCalls [] name.text × DebugComplete shared code
DebugComplete shared (t.Plain at e ∷ code) = DebugComplete shared code

-- the predefined variables, and the debug variables
abbrev pub shared_names : Program → List (List ℕ)
shared_names p = with_names (names_in p.predefined) (declared_names p.set.debugvars)

-- The program lacks nothing.
pub record IsComplete (p : Program) : Type 0 where
  pub dp : has_name (shared_names p) (codes "__dp") ≡ true
  pub ap : has_name (shared_names p) (codes "__ap") ≡ true
  pub control : has_name (shared_names p) (codes "__errorcontrol") ≡ true
  pub debugvars : DebugComplete (shared_names p) p.set.debugvars
  pub start : SequenceComplete (shared_names p) p.set 32 p.start
