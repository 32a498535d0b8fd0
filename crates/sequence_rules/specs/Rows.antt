-- Runs that were worked out by hand. They ask nothing of the target, so they hold on each.
use Rattle.std.specs.Prelude.{◌≡◌, ℕ, List, [], ◌∷◌, map, codes, None, Some}
use Rattle.dap_base.specs.declared.text.Place.{Place}
use Rattle.expr_grammar.specs.declared.code.Name.{Name}
use Rattle.expr_grammar.specs.declared.code.BinaryOp.TheVariants as b
use Rattle.expr_grammar.specs.Tree as t
use Rattle.expr_grammar.specs.Tree.{Tree, ArgTree, ArgTrees, StmtTree, args_of}
use Rattle.function_table.specs.Variables.{names_of_predefined}
use Rattle.sequence_trees.specs.Trees as c
use Rattle.sequence_trees.specs.Trees.{CodeStep, CodeSteps, SequenceTrees}
use Rattle.target_machine.specs.declared.unit.HaltCause.{HaltCause}
use Rattle.target_machine.specs.declared.unit.HaltCause.TheVariants.{DivideByZero, Unsupported, AddressTooLarge, Misaligned, ArgumentOutOfRange}
use Rattle.target_calls.specs.World.{World}
use Rattle.sequence_rules.specs.declared.bindings.Binding.{Binding}
use Rattle.sequence_rules.specs.Machine.{end_state}
use Rattle.sequence_rules.specs.Runs as ending
use Rattle.sequence_rules.specs.Runs.{Program, Ending, Outcome, outcome_of, watched_run}
use Rattle.sequence_rules.specs.Variables.{bound_variable}

-- ---- code

-- some place
abbrev pub here : Place
here = record { line = 1; column = 1 }

-- a name in code
abbrev pub name : List ℕ → Name
name text = record { text = text; at = here }

-- a variable in code
abbrev pub v : List ℕ → Tree
v text = t.Named (name text)

-- an expression as an argument
abbrev pub arg : Tree → ArgTree
arg e = t.ExprArg here e

-- a text as an argument
abbrev pub text : List ℕ → ArgTree
text bytes = t.TextArg (record { text = bytes; at = here })

-- a call as a statement
abbrev pub call : List ℕ → List ArgTree → StmtTree
call function arguments = t.Plain here (t.Call (name function) (args_of arguments))

-- an assignment as a statement
abbrev pub assign : List ℕ → Tree → StmtTree
assign variable value = t.Plain here (t.Assign (name variable) value)

-- a declaration
abbrev pub declare : List ℕ → Tree → StmtTree
declare variable value = t.Declare (name variable) value

-- an assignment as an expression
abbrev pub set_to : List ℕ → Tree → Tree
set_to variable value = t.Group (t.Assign (name variable) value)

-- a variable gets so much more
abbrev pub more_of : List ℕ → ℕ → Tree
more_of variable n = set_to variable (t.Binary b.Add (v variable) (t.Number n))

-- a list of this one step
abbrev pub only : CodeStep → CodeSteps
only step = c.MoreSteps step c.NoSteps

-- a sequence of one block
abbrev pub sequence : List ℕ → List StmtTree → SequenceTrees
sequence title code = record { name = title; steps = only (c.Block code) }

-- a program that starts with the sequence `Main`, the predefined variables at 0 and turns of 10 microseconds
abbrev pub program : List StmtTree → List SequenceTrees → Program
program debugvars sequences = record {
  set = record { debugvars = debugvars; sequences = sequences };
  start = codes "Main";
  turn_us = 10;
  predefined = map (λ title. bound_variable title 0) names_of_predefined;
}

-- the values of variables
abbrev pub values : List (Binding ℕ) → List ℕ
values bs = map (λ (x : Binding ℕ). x.value) bs

-- What a program comes to: its ending, how many steps were counted, the values of its variables, and what it wrote. It asks no unit.
pub record RunsTo (w : World) (p : Program) (how : Ending) (count : ℕ) (numbers bytes : List ℕ) : Type 0 where
  pub ending : (outcome_of (watched_run w p (Some []))).ending ≡ how
  pub steps : (end_state (watched_run w p (Some []))).steps ≡ count
  pub variables : values (outcome_of (watched_run w p (Some []))).variables ≡ numbers
  pub lines : (outcome_of (watched_run w p (Some []))).written ≡ Some bytes
  pub calls : (outcome_of (watched_run w p (Some []))).calls ≡ []

-- ---- rows

-- `__var a = 1 << 64; __var b = 0 - 1; __var c = 9; __var d = 9;` and `c = 2 & 2 == 2; d = 0 && Read32(0x30000000); a = 5 / c;`
abbrev pub divides : Program
divides = program
    (declare (codes "a") (t.Binary b.Shl (t.Number 1) (t.Number 64)) ∷ declare (codes "b") (t.Binary b.Sub (t.Number 0) (t.Number 1))
    ∷ declare (codes "c") (t.Number 9) ∷ declare (codes "d") (t.Number 9) ∷ [])
    (sequence (codes "Main")
    (assign (codes "c") (t.Binary b.BitAnd (t.Number 2) (t.Binary b.Eq (t.Number 2) (t.Number 2)))
    ∷ assign (codes "d") (t.Binary b.And (t.Number 0) (t.Call (name (codes "Read32")) (args_of (arg (t.Number 0x30000000) ∷ []))))
    ∷ assign (codes "a") (t.Binary b.Div (t.Number 5) (v (codes "c"))) ∷ []) ∷ [])

-- it halts at the division
abbrev pub Divides : Type 0
Divides = (w : World) → RunsTo w divides (ending.Halted DivideByZero) 3 (0 ∷ 0 ∷ 0 ∷ 0 ∷ 0 ∷ 0 ∷ 0 ∷ 0 ∷ 18446744073709551615 ∷ 0 ∷ 0 ∷ []) []

-- `__var n = 0; __var a = 1 / 0;` and no steps
abbrev pub half_made : Program
half_made = program (declare (codes "n") (t.Number 3) ∷ declare (codes "a") (t.Binary b.Div (t.Number 1) (t.Number 0)) ∷ [])
    (record { name = codes "Main"; steps = c.NoSteps } ∷ [])

-- a debug variable whose declaration was not completed is 0
abbrev pub HalfMade : Type 0
HalfMade = (w : World) → RunsTo w half_made (ending.Halted DivideByZero) 0 (0 ∷ 0 ∷ 0 ∷ 0 ∷ 0 ∷ 0 ∷ 0 ∷ 3 ∷ 0 ∷ []) []

-- `__var n = 0;` and a control with the `while` `1`, a timeout of 50 and the block `n = n + 1;`
abbrev pub loops : Program
loops = program (declare (codes "n") (t.Number 0) ∷ [])
    (record {
      name = codes "Main";
      steps = only (c.Control None (Some (t.Number 1)) (Some 50) (only (c.Block (assign (codes "n") (t.Binary b.Add (v (codes "n")) (t.Number 1)) ∷ []))));
    } ∷ [])

-- five turns, each of two steps, and the run goes on after the last
abbrev pub Loops : Type 0
Loops = (w : World) → RunsTo w loops ending.Done 10 (0 ∷ 0 ∷ 0 ∷ 0 ∷ 0 ∷ 0 ∷ 0 ∷ 5 ∷ []) []

-- `__var n = 0;` and a control with the `while` `n < 2`, the same timeout and the same block
abbrev pub loops_until : Program
loops_until = program (declare (codes "n") (t.Number 0) ∷ [])
    (record {
      name = codes "Main";
      steps = only (c.Control None (Some (t.Binary b.Lt (v (codes "n")) (t.Number 2))) (Some 50)
          (only (c.Block (assign (codes "n") (t.Binary b.Add (v (codes "n")) (t.Number 1)) ∷ []))));
    } ∷ [])

-- two turns of two steps, and the turn that finds 0 is a step too
abbrev pub LoopsUntil : Type 0
LoopsUntil = (w : World) → RunsTo w loops_until ending.Done 5 (0 ∷ 0 ∷ 0 ∷ 0 ∷ 0 ∷ 0 ∷ 0 ∷ 2 ∷ []) []

-- `__var a = 0; __var b = 0; __var c = 0; __var d = 0;` and
-- `a = (b = 2) + (b = b + 1); c = 1 ? (d = d + 5) : (d = d + 6); d = d + (0 && (b = 9)) + (1 || (b = 9));`
-- `Message(a, "%d %d", a = a + 1, a = a + 1);`
abbrev pub orders : Program
orders = program
    (declare (codes "a") (t.Number 0) ∷ declare (codes "b") (t.Number 0) ∷ declare (codes "c") (t.Number 0) ∷ declare (codes "d") (t.Number 0) ∷ [])
    (sequence (codes "Main")
    (assign (codes "a") (t.Binary b.Add (set_to (codes "b") (t.Number 2)) (more_of (codes "b") 1))
    ∷ assign (codes "c") (t.Cond (t.Number 1) (more_of (codes "d") 5) (more_of (codes "d") 6))
    ∷ assign (codes "d") (t.Binary b.Add
    (t.Binary b.Add (v (codes "d")) (t.Binary b.And (t.Number 0) (set_to (codes "b") (t.Number 9))))
    (t.Binary b.Or (t.Number 1) (set_to (codes "b") (t.Number 9))))
    ∷ call (codes "Message") (arg (v (codes "a")) ∷ text (codes "%d %d") ∷ arg (more_of (codes "a") 1) ∷ arg (more_of (codes "a") 1) ∷ []) ∷ []) ∷ [])

-- operands and arguments from left to right, one branch, and the right side only where it decides
abbrev pub Orders : Type 0
Orders = (w : World) → RunsTo w orders ending.Done 4 (0 ∷ 0 ∷ 0 ∷ 0 ∷ 0 ∷ 0 ∷ 0 ∷ 7 ∷ 3 ∷ 5 ∷ 6 ∷ []) (codes "message 5 6 7\n")

-- `__ap = 1; Sequence("B"); __traceout = __ap;`, and in B `__ap = __ap + 4; __Result = __ap;`
abbrev pub calls_b : Program
calls_b = program []
    (sequence (codes "Main") (assign (codes "__ap") (t.Number 1) ∷ call (codes "Sequence") (text (codes "B") ∷ []) ∷ assign (codes "__traceout") (v (codes "__ap")) ∷ [])
    ∷ sequence (codes "B") (assign (codes "__ap") (t.Binary b.Add (v (codes "__ap")) (t.Number 4)) ∷ assign (codes "__Result") (v (codes "__ap")) ∷ []) ∷ [])

-- the called sequence starts with the caller's `__ap`, and gives it back; the others are shared
abbrev pub CallsB : Type 0
CallsB = (w : World) → RunsTo w calls_b ending.Done 5 (0 ∷ 0 ∷ 0 ∷ 1 ∷ 1 ∷ 0 ∷ 5 ∷ []) []

-- `Message(1, "id 0x%08X", 0xAB); Query(0, "sure?", 1); QueryValue("n", 5); LoadDebugInfo("f.axf");`
abbrev pub writes : Program
writes = program []
    (sequence (codes "Main")
    (call (codes "Message") (arg (t.Number 1) ∷ text (codes "id 0x%08X") ∷ arg (t.Number 0xAB) ∷ [])
    ∷ call (codes "Query") (arg (t.Number 0) ∷ text (codes "sure?") ∷ arg (t.Number 1) ∷ [])
    ∷ call (codes "QueryValue") (text (codes "n") ∷ arg (t.Number 5) ∷ [])
    ∷ call (codes "LoadDebugInfo") (text (codes "f.axf") ∷ []) ∷ []) ∷ [])

-- the four lines
abbrev pub Writes : Type 0
Writes = (w : World) → RunsTo w writes ending.Done 4 (0 ∷ 0 ∷ 0 ∷ 0 ∷ 0 ∷ 0 ∷ 0 ∷ [])
    (codes "message 1 id 0x000000AB\nquery 0 sure? = 1\nvalue n = 5\nload f.axf\n")

-- ---- halts

-- a program of one block, with `__dp` and `__ap` as given
abbrev pub with_port : ℕ → ℕ → StmtTree → Program
with_port dp ap last = program [] (sequence (codes "Main") (assign (codes "__dp") (t.Number dp) ∷ assign (codes "__ap") (t.Number ap) ∷ last ∷ []) ∷ [])

-- it halts so at its last statement
abbrev pub HaltsBy : World → ℕ → ℕ → StmtTree → HaltCause → Type 0
HaltsBy w dp ap last cause = RunsTo w (with_port dp ap last) (ending.Halted cause) 3 (0 ∷ 0 ∷ dp ∷ ap ∷ 0 ∷ 0 ∷ 0 ∷ []) []

-- `Read32(1);`
abbrev pub read_odd : StmtTree
read_odd = call (codes "Read32") (arg (t.Number 1) ∷ [])

-- `WriteAP(ADDR, 0);`
abbrev pub write_ap : ℕ → StmtTree
write_ap addr = call (codes "WriteAP") (arg (t.Number addr) ∷ arg (t.Number 0) ∷ [])

-- `ReadDP(ADDR);`
abbrev pub read_dp : ℕ → StmtTree
read_dp addr = call (codes "ReadDP") (arg (t.Number addr) ∷ [])

-- the causes of a call in their order, and arguments outside their ranges
pub record Halts (w : World) : Type 0 where
  pub port_first : HaltsBy w 1 256 read_odd Unsupported
  pub then_ap : HaltsBy w 0 256 read_odd AddressTooLarge
  pub then_address : HaltsBy w 0 255 read_odd Misaligned
  pub ap_address : HaltsBy w 0 0 (write_ap 0xFE) AddressTooLarge
  pub ap_misaligned : HaltsBy w 0 0 (write_ap 0xFA) Misaligned
  pub resend : HaltsBy w 0 0 (read_dp 8) Unsupported
  pub rdbuff : HaltsBy w 0 0 (read_dp 12) Unsupported
  pub dp_address : HaltsBy w 0 0 (read_dp 13) AddressTooLarge
  pub dp_misaligned : HaltsBy w 0 0 (read_dp 5) Misaligned
  pub delay : HaltsBy w 0 0 (call (codes "DAP_Delay") (arg (t.Number 60000001) ∷ [])) ArgumentOutOfRange
  pub clock : HaltsBy w 0 0 (call (codes "DAP_SWJ_Clock") (arg (t.Number 0) ∷ [])) ArgumentOutOfRange
  pub bits : HaltsBy w 0 0 (call (codes "DAP_SWJ_Sequence") (arg (t.Number 65) ∷ arg (t.Number 0) ∷ [])) ArgumentOutOfRange
  pub jtag : HaltsBy w 0 0 (call (codes "DAP_JTAG_Sequence") (arg (t.Number 1) ∷ arg (t.Number 0) ∷ arg (t.Number 0) ∷ [])) Unsupported
