-- What expressions mean. `sequence` is what a call of the sequence of a name does.
use Rattle.std.specs.Prelude.{ℕ, suc, length, nat_le, nat_eq, Bool, true, false, not, ◌&&◌, List, [], ◌∷◌, ◌++◌, Option, Some, None, unwrap_or, Ok, if◌then◌else◌}
use Rattle.dap_base.specs.Outcome.{◌>>=◌}
use Rattle.expr_grammar.specs.declared.code.Name.{Name}
use Rattle.expr_grammar.specs.declared.code.UnaryOp.{UnaryOp}
use Rattle.expr_grammar.specs.declared.code.BinaryOp.{BinaryOp}
use Rattle.expr_grammar.specs.declared.code.BinaryOp.TheVariants as b
use Rattle.expr_grammar.specs.Arithmetic.{truth, unary_value, binary_value}
use Rattle.expr_grammar.specs.Tree as t
use Rattle.expr_grammar.specs.Tree.{Tree, ArgTree, ArgTrees, arg_count}
use Rattle.function_table.specs.declared.function.Function.{Function}
use Rattle.function_table.specs.declared.function.Function.TheVariants as f
use Rattle.function_table.specs.declared.function.ParameterKind.{ParameterKind}
use Rattle.function_table.specs.declared.function.ParameterKind.TheVariants as kinds
use Rattle.function_table.specs.Functions.{has_more, parameters_of, kind_at}
use Rattle.function_table.specs.Lookup.{function_named}
use Rattle.target_machine.specs.declared.unit.HaltCause.TheVariants.{DivideByZero}
use Rattle.sequence_rules.specs.Calls.{use_now, missing, value_or_missing, guarded_rest, function_result}
use Rattle.sequence_rules.specs.Machine.{Machine, State, Out, halt}
use Rattle.sequence_rules.specs.Variables.{is_visible, visible, set_visible}

-- ---- calls that a valid set has

-- whether a call of the function may have so many arguments
abbrev pub is_count : Function → ℕ → Bool
is_count function n = if has_more function then nat_le (length (parameters_of function)) n else nat_eq n (length (parameters_of function))

-- a text where the parameter is one, and else an expression
abbrev pub is_kind : Option ParameterKind → ArgTree → Bool
is_kind (Some kinds.Text) (t.ExprArg at e) = false
is_kind (Some kinds.Number) (t.ExprArg at e) = true
is_kind None (t.ExprArg at e) = true
is_kind (Some kinds.Number) (t.TextArg a) = false
is_kind (Some kinds.Text) (t.TextArg a) = true
is_kind None (t.TextArg a) = true

-- the arguments from an index on have the kinds of the function's parameters
abbrev pub are_kinds : Function → ℕ → ArgTrees → Bool
are_kinds function index t.NoArgs = true
are_kinds function index (t.MoreArgs a more) = is_kind (kind_at function index) a && are_kinds function (suc index) more

-- a function of the table, with arguments that it takes
abbrev pub is_call : Option Function → ArgTrees → Bool
is_call None args = false
is_call (Some function) args = is_count function (arg_count args) && are_kinds function 0 args

-- the first text among the arguments
abbrev pub text_in : ArgTrees → Option (List ℕ)
text_in t.NoArgs = None
text_in (t.MoreArgs (t.ExprArg at e) more) = text_in more
text_in (t.MoreArgs (t.TextArg a) more) = Some a.text

-- that text, or an empty one
abbrev pub text_of : ArgTrees → List ℕ
text_of args = unwrap_or (text_in args) []

module _ {V T : Type 0} (m : Machine V T) where
  -- ---- names

  -- the value of a variable, which is copied and not used
  unfoldable pub named_value : Name → State V T → Out V T V
  named_value name s = value_or_missing m (m.number 0) (visible name.text s) s

  -- a visible variable gets a value, and the expression has it
  unfoldable pub stored_value : Name → V → State V T → Out V T V
  stored_value name v s = guarded_rest m (is_visible name.text s) (λ r. Ok (v, set_visible name.text v r)) s

  -- the right side is evaluated, and stored without a use
  unfoldable pub assigned_value : Name → Out V T V → Out V T V
  assigned_value name right = right >>= λ x. stored_value name x.0 x.1

  -- ---- operators

  -- a value that is used at once
  unfoldable pub used_now : Out V T V → Out V T ℕ
  used_now out = out >>= λ x. use_now m x.0 x.1

  -- an operator before its operand, which is used
  unfoldable pub of_unary : UnaryOp → Out V T V → Out V T V
  of_unary op out = used_now out >>= λ x. Ok (m.number (unary_value op x.0), x.1)

  -- two values, used one after the other
  unfoldable pub both : V → V → State V T → Out V T (ℕ × ℕ)
  both v w s = use_now m v s >>= λ p. use_now m w p.1 >>= λ q. Ok ((p.0, q.0), q.1)

  -- both operands are evaluated, and then both are used
  unfoldable pub operands : Out V T V → (State V T → Out V T V) → Out V T (ℕ × ℕ)
  operands left right = left >>= λ x. right x.1 >>= λ y. both x.0 y.0 y.1

  -- the result of an operator; one that has none is a division by 0
  unfoldable pub result_of : Option ℕ → State V T → Out V T V
  result_of None s = halt DivideByZero s
  result_of (Some n) s = Ok (m.number n, s)

  -- an operator that evaluates both sides
  unfoldable pub strict_binary : BinaryOp → Out V T V → (State V T → Out V T V) → Out V T V
  strict_binary op left right = operands left right >>= λ x. result_of (binary_value op x.0.0 x.0.1) x.1

  -- 1 where a value that is used is not 0, and else 0
  unfoldable pub truth_of : Out V T V → Out V T V
  truth_of out = used_now out >>= λ x. Ok (m.number (truth (not (nat_eq x.0 0))), x.1)

  -- `&&`: the right side is evaluated only where the left is not 0
  unfoldable pub conjunction : Out V T V → (State V T → Out V T V) → Out V T V
  conjunction left right = used_now left >>= λ x. if nat_eq x.0 0 then Ok (m.number 0, x.1) else truth_of (right x.1)

  -- `||`: the right side is evaluated only where the left is 0
  unfoldable pub disjunction : Out V T V → (State V T → Out V T V) → Out V T V
  disjunction left right = used_now left >>= λ x. if nat_eq x.0 0 then truth_of (right x.1) else Ok (m.number 1, x.1)

  -- an operator between its operands
  unfoldable pub of_binary : BinaryOp → Out V T V → (State V T → Out V T V) → Out V T V
  of_binary b.And left right = conjunction left right
  of_binary b.Or left right = disjunction left right
  of_binary op left right = strict_binary op left right

  -- `?:`: the condition is used, and one branch is evaluated
  unfoldable pub choice : Out V T V → (State V T → Out V T V) → (State V T → Out V T V) → Out V T V
  choice test first second = used_now test >>= λ x. if nat_eq x.0 0 then second x.1 else first x.1

  -- ---- arguments

  -- one more value, after those of the earlier arguments
  unfoldable pub appended_values : List V → Out V T V → Out V T (List V)
  appended_values got out = out >>= λ x. Ok (got ++ x.0 ∷ [], x.1)

  -- the next arguments, after the values of the earlier ones
  unfoldable pub chained_values : Out V T (List V) → (List V → State V T → Out V T (List V)) → Out V T (List V)
  chained_values first more = first >>= λ x. more x.0 x.1

  -- values, used one after the other
  unfoldable pub all_used : List V → State V T → Out V T (List ℕ)
  all_used [] s = Ok ([], s)
  all_used (v ∷ vs) s = use_now m v s >>= λ x. all_used vs x.1 >>= λ y. Ok (x.0 ∷ y.0, y.1)

  -- arguments that were evaluated are used
  unfoldable pub numbers_of : Out V T (List V) → Out V T (List ℕ)
  numbers_of out = out >>= λ x. all_used x.0 x.1

-- ---- expressions

module _ {V T : Type 0} (m : Machine V T) (sequence : List ℕ → State V T → Out V T (Unit {0})) where
  -- a call of a function with its text and its numbers
  unfoldable pub call_result : Option Function → List ℕ → List ℕ → State V T → Out V T V
  call_result None text numbers s = missing m (m.number 0) s
  call_result (Some f.Sequence) text numbers s = sequence text s >>= λ x. Ok (m.number 0, x.1)
  call_result (Some function) text numbers s = function_result m function text numbers s

  -- all arguments are used, and then the call is done
  unfoldable pub call_of : Name → ArgTrees → Out V T (List V) → Out V T V
  call_of name args out =
      numbers_of m out >>= λ x. guarded_rest m (is_call (function_named name.text) args) (λ r. call_result (function_named name.text) (text_of args) x.0 r) x.1

  unfoldable mutual
    -- the value of an expression, and the state after it
    pub value : Tree → State V T → Out V T V
    value (t.Number n) s = Ok (m.number n, s)
    value (t.Named name) s = named_value m name s
    value (t.Group a) s = value a s
    value (t.Unary op a) s = of_unary m op (value a s)
    value (t.Binary op a c) s = of_binary m op (value a s) (λ r. value c r)
    value (t.Cond c a d) s = choice m (value c s) (λ r. value a r) (λ r. value d r)
    value (t.Assign name a) s = assigned_value m name (value a s)
    value (t.Call name args) s = call_of name args (arguments args [] s)

    -- the values of the arguments so far and of this one, where it is an expression
    pub argument : ArgTree → List V → State V T → Out V T (List V)
    argument (t.ExprArg at e) got s = appended_values m got (value e s)
    argument (t.TextArg a) got s = Ok (got, s)

    -- the values of the arguments so far and of these, from left to right
    pub arguments : ArgTrees → List V → State V T → Out V T (List V)
    arguments t.NoArgs got s = Ok (got, s)
    arguments (t.MoreArgs a more) got s = chained_values m (argument a got s) (λ g r. arguments more g r)
