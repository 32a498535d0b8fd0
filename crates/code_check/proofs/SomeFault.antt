-- An expression, and statements, have a first fault, or none.
use Rattle.std.proofs.Common.{◌≡◌, inl, inr, ℕ, suc, ◌-◌, ◌≤◌, Bool, true, false, List, [], ◌∷◌, length, bytes_eq, MatchBool, Option, Some, None, refl, sym, ap, ◌∙◌}
use Rattle.std.specs.Cmp.Lexicographic.{bytes_decides, same_text}
use Rattle.std.proofs.lemmas.Bool.{both_ways}
use Rattle.dap_base.specs.declared.text.Place.{Place}
use Rattle.expr_grammar.specs.declared.code.Name.{Name}
use Rattle.expr_grammar.specs.declared.code.TextArg as string
use Rattle.expr_grammar.specs.Tree as t
use Rattle.expr_grammar.specs.Tree.{Tree, ArgTree, ExprArg, TextArg, ArgTrees, NoArgs, MoreArgs, StmtTree, arg_count}
use Rattle.function_table.specs.declared.function.Function.{Function}
use Rattle.function_table.specs.declared.function.Function.TheVariants as functions
use Rattle.function_table.specs.declared.function.ParameterKind.{ParameterKind}
use Rattle.function_table.specs.declared.function.ParameterKind.TheVariants as parameters
use Rattle.function_table.specs.Functions.{name_of, has_more, parameters_of, Takes, kind_at}
use Rattle.function_table.specs.Format.{conversion_count}
use Rattle.function_table.specs.Lookup.{function_named}
use Rattle.function_table.proofs.Fronts.{one_division}
use Rattle.function_table.proofs.Lookup.{its_own, exactly}
use Rattle.code_check.specs.declared.fault.FaultKind.{FaultKind}
use Rattle.code_check.specs.declared.fault.FaultKind.TheVariants as k
use Rattle.code_check.specs.declared.fault.CodeFault.{CodeFault}
use Rattle.expr_grammar.specs.Names.{has_name}
use Rattle.code_check.specs.Order.{is_before, earlier}
use Rattle.code_check.specs.First.{IsFirst, Nowhere, InEither, FaultWhere, Where}
use Rattle.code_check.specs.ExprFaults.{Scope, NameFault, KindFault, KindsFault, text_at, OfText, SequenceFault, IsFormatOf, FormatFault, TextsFault, ArgumentsFault, KnownFault, FunctionFault, CallFault, ExprFault, ArgFault, ArgsFault}
use Rattle.code_check.specs.BlockFaults.{names_after, seeing, StmtFault, BlockFault}
use Rattle.code_check.proofs.OrderLemmas.{first_of_two, first_of_none, first_where, first_where_not, first_of_where, first_of_where_not}
use Rattle.code_check.proofs.CallLemmas.{at_function, at_no_function}
use Rattle.dap_base.proofs.Least.{Decided, at_most, same_number}
use Rattle.function_table.proofs.SomePieces.{divided}

-- ---- what is decided

is_true : (b : Bool) → Decided (b ≡ true)
is_true true = inl refl
is_true false = inr (λ e. both_ways false refl e)

is_false : (b : Bool) → Decided (b ≡ false)
is_false true = inr (λ e. both_ways true e refl)
is_false false = inl refl

not_so : (P : Type 0) → Decided P → Decided (P → ⊥)
not_so P (inl is) = inr (λ not. not is)
not_so P (inr not) = inl not

either_way : (b : Bool) (P Q : Type 0) → Decided P → Decided Q → Decided (MatchBool b P Q)
either_way true P Q p q = p
either_way false P Q p q = q

is_kind : (requested : Option ParameterKind) → Decided (requested ≡ Some parameters.Text)
is_kind None = inr (λ e. absurd cc)
is_kind (Some parameters.Text) = inl refl
is_kind (Some parameters.Number) = inr (λ e. absurd cc)

is_number : (requested : Option ParameterKind) → Decided (requested ≡ Some parameters.Number)
is_number None = inr (λ e. absurd cc)
is_number (Some parameters.Text) = inr (λ e. absurd cc)
is_number (Some parameters.Number) = inl refl

abbrev found : Function → Option Function
found f = Some f

same_found : (f g : Function) → found f ≡ found g → f ≡ g
same_found f g e = cc

same_function : (f g : Function) → Decided (f ≡ g)
same_function f g = by (bytes_eq (name_of f) (name_of g)) refl where
  by : (b : Bool) → bytes_eq (name_of f) (name_of g) ≡ b → Decided (f ≡ g)
  by true is = inl (same_found f g (sym (its_own f) ∙ ap function_named (same_text (name_of f) (name_of g) (sym is)) ∙ its_own g))
  by false is = inr (λ e. both_ways (bytes_eq (name_of f) (name_of g)) is ((bytes_decides (name_of f) (name_of g)).1 (ap name_of e)))

takes : (function : Function) (count : ℕ) → Decided (Takes function count)
takes function count =
    either_way (has_more function) (length (parameters_of function) ≤ count) (count ≡ length (parameters_of function)) (at_most (length (parameters_of function)) count) (same_number count (length (parameters_of function)))

-- the text is a format with so many conversions
is_format : (count : ℕ) (text : List ℕ) → Decided (IsFormatOf count text)
is_format count text = elim (divided text) [
  | inl d ↦ elim (same_number (conversion_count d.0) count) [
    | inl same ↦ inl (record { pieces = d.0; spelled = d.1; counted = same })
    | inr other ↦ inr (λ f. other (ap conversion_count (one_division text d.0 f.pieces d.1 f.spelled) ∙ f.counted))
  ]
  | inr none ↦ inr (λ f. none f.pieces f.spelled)
]

-- ---- first faults of parts

-- the first such fault, or none
abbrev pub First : (CodeFault → Type 0) → Type 0
First P = (r : Option CodeFault) × IsFirst is_before P r

none : First Nowhere
none = (None, first_of_none)

either : (P Q : CodeFault → Type 0) → First P → First Q → First (InEither P Q)
either P Q p q = (earlier p.0 q.0, first_of_two (earlier p.0 q.0) p.0 q.0 refl p.1 q.1)

fault_where : (Cause : Type 0) (place : Place) (kind : FaultKind) → Decided Cause → First (FaultWhere Cause place kind)
fault_where Cause place kind (inl is) = (Some (record { place = place; kind = kind }), first_where Cause place kind is)
fault_where Cause place kind (inr not) = (None, first_where_not Cause place kind not)

of_where : (Cause : Type 0) (P : CodeFault → Type 0) → Decided Cause → First P → First (Where Cause P)
of_where Cause P (inl is) p = (p.0, first_of_where is p.1)
of_where Cause P (inr not) p = (None, first_of_where_not not)

of_text : (P : string.TextArg → CodeFault → Type 0) → ((t : string.TextArg) → First (P t)) → (o : Option string.TextArg) → First (OfText P o)
of_text P each None = none
of_text P each (Some t) = each t

-- ---- calls

name_first : (s : Scope) (name : Name) → First (NameFault s name)
name_first s name = fault_where (has_name s.visible name.text ≡ false) name.at k.UndefinedName (is_false (has_name s.visible name.text))

kind_first : (requested : Option ParameterKind) (a : ArgTree) → First (KindFault requested a)
kind_first requested (ExprArg at e) = fault_where (requested ≡ Some parameters.Text) at k.TextExpected (is_kind requested)
kind_first requested (TextArg t) = fault_where (requested ≡ Some parameters.Number) t.at k.NumberExpected (is_number requested)

kinds_first : (function : Function) (index : ℕ) (args : ArgTrees) → First (KindsFault function index args)
kinds_first function index NoArgs = none
kinds_first function index (MoreArgs a more) =
    either (KindFault (kind_at function index) a) (KindsFault function (suc index) more) (kind_first (kind_at function index) a) (kinds_first function (suc index) more)

texts_first : (s : Scope) (function : Function) (args : ArgTrees) → First (TextsFault s function args)
texts_first s function args =
    let count = arg_count args - 2 in
    either (Where (function ≡ functions.Sequence) (OfText (SequenceFault s) (text_at args 0))) (Where (function ≡ functions.Message) (OfText (FormatFault count) (text_at args 1)))
    (of_where (function ≡ functions.Sequence) (OfText (SequenceFault s) (text_at args 0)) (same_function function functions.Sequence)
    (of_text (SequenceFault s) (λ t. fault_where (has_name s.sequences t.text ≡ false) t.at k.UndefinedSequence (is_false (has_name s.sequences t.text))) (text_at args 0)))
    (of_where (function ≡ functions.Message) (OfText (FormatFault count) (text_at args 1)) (same_function function functions.Message)
    (of_text (FormatFault count) (λ t. fault_where (¬ IsFormatOf count t.text) t.at k.FormatMismatch (not_so (IsFormatOf count t.text) (is_format count t.text))) (text_at args 1)))

known_first : (s : Scope) (name : Name) (args : ArgTrees) (function : Function) → First (KnownFault s name args function)
known_first s name args function =
    let Right = Takes function (arg_count args) in
    let right = takes function (arg_count args) in
    either (FaultWhere (¬ Right) name.at k.ArgumentCount) (Where Right (ArgumentsFault s function args)) (fault_where (¬ Right) name.at k.ArgumentCount (not_so Right right))
    (of_where Right (ArgumentsFault s function args) right (either (KindsFault function 0 args) (TextsFault s function args) (kinds_first function 0 args) (texts_first s function args)))

function_by : (s : Scope) (name : Name) (args : ArgTrees) (o : Option Function) → o ≡ function_named name.text → First (FunctionFault s name args)
function_by s name args None is =
    let r : Option CodeFault = Some (record { place = name.at; kind = k.UndefinedFunction }) in
    (r, at_no_function s name args None r (exactly name.text None is) refl refl)
function_by s name args (Some function) is =
    let known = known_first s name args function in
    (known.0, at_function s name args function (Some function) known.0 (exactly name.text (Some function) is) refl known.1)

call_first : (s : Scope) (name : Name) (args : ArgTrees) → First (CallFault s name args)
call_first s name args =
    either (FaultWhere (s.in_debugvars ≡ true) name.at k.BadDebugvars) (FunctionFault s name args) (fault_where (s.in_debugvars ≡ true) name.at k.BadDebugvars (is_true s.in_debugvars))
    (function_by s name args (function_named name.text) refl)

-- ---- expressions

mutual
  pub expr_first : (s : Scope) (e : Tree) → First (ExprFault s e)
  expr_first s (t.Number n) = none
  expr_first s (t.Named name) = name_first s name
  expr_first s (t.Group a) = expr_first s a
  expr_first s (t.Unary op a) = expr_first s a
  expr_first s (t.Binary op a b) = either (ExprFault s a) (ExprFault s b) (expr_first s a) (expr_first s b)
  expr_first s (t.Cond c a b) =
      either (ExprFault s c) (InEither (ExprFault s a) (ExprFault s b)) (expr_first s c) (either (ExprFault s a) (ExprFault s b) (expr_first s a) (expr_first s b))
  expr_first s (t.Assign name a) = either (NameFault s name) (ExprFault s a) (name_first s name) (expr_first s a)
  expr_first s (t.Call name args) = either (CallFault s name args) (ArgsFault s args) (call_first s name args) (args_first s args)

  arg_first : (s : Scope) (a : ArgTree) → First (ArgFault s a)
  arg_first s (ExprArg at e) = expr_first s e
  arg_first s (TextArg t) = none

  args_first : (s : Scope) (args : ArgTrees) → First (ArgsFault s args)
  args_first s NoArgs = none
  args_first s (MoreArgs a more) = either (ArgFault s a) (ArgsFault s more) (arg_first s a) (args_first s more)

-- ---- statements

statement_first : (s : Scope) (statement : StmtTree) → First (StmtFault s statement)
statement_first s (t.Empty at) = fault_where (s.in_debugvars ≡ true) at k.BadDebugvars (is_true s.in_debugvars)
statement_first s (t.Declare name value) =
    either (FaultWhere (has_name s.visible name.text ≡ true) name.at k.Redeclared) (ExprFault s value)
    (fault_where (has_name s.visible name.text ≡ true) name.at k.Redeclared (is_true (has_name s.visible name.text))) (expr_first s value)
statement_first s (t.Plain at e) =
    either (FaultWhere (s.in_debugvars ≡ true) at k.BadDebugvars) (ExprFault s e) (fault_where (s.in_debugvars ≡ true) at k.BadDebugvars (is_true s.in_debugvars)) (expr_first s e)

pub block_first : (s : Scope) (code : List StmtTree) → First (BlockFault s code)
block_first s [] = none
block_first s (statement ∷ code) =
    let after = seeing s (names_after s.visible statement) in
    either (StmtFault s statement) (BlockFault after code) (statement_first s statement) (block_first after code)
