-- What is seen of expressions. The states are those of the meaning: what is seen of a part begins where the meaning of the parts before
-- it ends.
use Rattle.std.specs.Prelude.{ℕ, Bool, true, false, not, List, [], ◌∷◌, ◌++◌, drop, slice_index, Option, Some, None, if◌then◌else◌, nat_lt, nat_eq}
use Rattle.expr_grammar.specs.declared.code.BinaryOp.{BinaryOp}
use Rattle.expr_grammar.specs.declared.code.BinaryOp.TheVariants as b
use Rattle.expr_grammar.specs.Tree as t
use Rattle.expr_grammar.specs.Tree.{Tree, ArgTree, ArgTrees}
use Rattle.function_table.specs.declared.function.Function.{Function}
use Rattle.function_table.specs.declared.function.Function.TheVariants as f
use Rattle.function_table.specs.Lookup.{function_named}
use Rattle.sequence_rules.specs.Calls.{function_result}
use Rattle.sequence_rules.specs.Direct.{Now, direct}
use Rattle.sequence_rules.specs.Lines.{message_line, query_line, value_line, load_line}
use Rattle.sequence_rules.specs.Machine.{State, Out, end_state}
use Rattle.sequence_rules.specs.Values.{text_of, argument, arguments, value}
use Rattle.run_events.specs.Events.{Event, Assigns, Writes, Calls, Returns, events_after, all_made, units_between}

-- ---- calls

-- the line of a function that writes one
abbrev pub function_line : Function → List ℕ → List ℕ → Option (List ℕ)
function_line f.Message text n = Some (message_line (slice_index n 0) text (drop 1 n))
function_line f.Query text n = Some (query_line (slice_index n 0) text (slice_index n 1))
function_line f.QueryValue text n = Some (value_line text (slice_index n 0))
function_line f.LoadDebugInfo text n = Some (load_line text)
function_line other text n = None

-- the line, where there is one
abbrev pub written_line : Option (List ℕ) → List Event
written_line None = []
written_line (Some line) = Writes line ∷ []

-- the line of a call after which more lines are written than before
abbrev pub new_line : Function → List ℕ → List ℕ → State ℕ Now → State ℕ Now → List Event
new_line function text n s r = if nat_lt s.lines r.lines then written_line (function_line function text n) else []

-- a function except `Sequence`: the units that it makes, and its line
unfoldable pub function_events : Function → List ℕ → List ℕ → State ℕ Now → List Event
function_events function text n s =
    all_made (units_between s (end_state (function_result (direct false) function text n s)))
    ++ new_line function text n s (end_state (function_result (direct false) function text n s))

-- whether the right side of an operator is evaluated, where the left side has this value
abbrev pub needs_right : BinaryOp → ℕ → Bool
needs_right b.And left = not (nat_eq left 0)
needs_right b.Or left = nat_eq left 0
needs_right op left = true

-- ---- expressions. `sequence` is what a call of the sequence of a name does, and `seen` what is seen of it.
module _ (sequence : List ℕ → State ℕ Now → Out ℕ Now (Unit {0})) (seen : List ℕ → State ℕ Now → List Event) where
  -- a called sequence, from its call to its return
  unfoldable pub called_events : List ℕ → State ℕ Now → List Event
  called_events name s = Calls name ∷ seen name s ++ events_after (sequence name s) (λ done r. Returns ∷ [])

  -- a call, once its arguments are numbers
  unfoldable pub call_events : Option Function → List ℕ → List ℕ → State ℕ Now → List Event
  call_events None text n s = []
  call_events (Some f.Sequence) text n s = called_events text s
  call_events (Some function) text n s = function_events function text n s

  unfoldable mutual
    -- what is seen of an expression
    pub value_events : Tree → State ℕ Now → List Event
    value_events (t.Number n) s = []
    value_events (t.Named name) s = []
    value_events (t.Group a) s = value_events a s
    value_events (t.Unary op a) s = value_events a s
    value_events (t.Binary op a d) s =
        value_events a s ++ events_after (value (direct false) sequence a s) (λ left r. if needs_right op left then value_events d r else [])
    value_events (t.Cond c a d) s =
        value_events c s ++ events_after (value (direct false) sequence c s) (λ test r. if nat_eq test 0 then value_events d r else value_events a r)
    value_events (t.Assign name a) s = value_events a s ++ events_after (value (direct false) sequence a s) (λ n r. Assigns name.text n ∷ [])
    value_events (t.Call name args) s =
        arguments_events args [] s ++ events_after (arguments (direct false) sequence args [] s) (λ n r. call_events (function_named name.text) (text_of args) n r)

    -- what is seen of an argument, after the values of the earlier ones
    pub argument_events : ArgTree → State ℕ Now → List Event
    argument_events (t.ExprArg at e) s = value_events e s
    argument_events (t.TextArg a) s = []

    -- what is seen of arguments, from left to right
    pub arguments_events : ArgTrees → List ℕ → State ℕ Now → List Event
    arguments_events t.NoArgs got s = []
    arguments_events (t.MoreArgs a more) got s =
        argument_events a s ++ events_after (argument (direct false) sequence a got s) (λ g r. arguments_events more g r)
