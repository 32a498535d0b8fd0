-- What sequences are run on: how the values of variables are kept, and what a call of the target does.
use Rattle.std.specs.Prelude.{ℕ, ◌+◌, Bool, List, Result, Ok, Err}
use Rattle.target_machine.specs.declared.unit.HaltCause.{HaltCause}
use Rattle.target_machine.specs.declared.unit.Call.{Call}
use Rattle.target_machine.specs.declared.unit.ProbeCall.{ProbeCall}
use Rattle.target_machine.specs.declared.unit.Unit.{Unit as AccessUnit}
use Rattle.sequence_rules.specs.declared.bindings.Binding.{Binding}

-- Why nothing more is done: a cause to halt, a fault of this call, a call that is not answered because a retry ended, or a loss. A run is lost
-- where something is missing which every valid set has.
pub data Over : Type 0 where
  Halted : HaltCause → Over
  Faulted : Call → Over
  Unanswered : Over
  Lost : Over

-- The operations of a machine. V are the values of variables, and T is the rest of what is acted on.
pub record Machine (V T : Type 0) : Type 0 where
  -- the value that a number is
  pub number : ℕ → V
  -- the number of a value, where it is used
  pub used : V → T → ℕ × T
  -- an access, which is forgiving or not
  pub asked : AccessUnit → Bool → T → Result (V × T) (Over × T)
  -- a command of the probe
  pub commanded : ProbeCall → T → Result (ℕ × T) (Over × T)
  -- all that was asked is confirmed
  pub confirmed : T → T
  -- a line is written, after all that was asked is confirmed
  pub written : List ℕ → T → T
  -- whether the run ends where something is missing which every valid set has; else 0 or nothing takes its place
  pub is_watchful : Bool

-- The variables that all sequences share, those that the running sequence declared (the newest last), the three counts that have
-- limits, and the rest.
pub record State (V T : Type 0) : Type 0 where
  pub globals : List (Binding V)
  pub locals : List (Binding V)
  pub units : ℕ
  pub lines : ℕ
  pub steps : ℕ
  pub rest : T

-- a value and the state after it, or why nothing more is done and the state then
abbrev pub Out : Type 0 → Type 0 → Type 0 → Type 0
Out V T A = Result (A × State V T) (Over × State V T)

-- the run halts
abbrev pub halt : {V T A : Type 0} → HaltCause → State V T → Out V T A
halt cause s = Err (Halted cause, s)

-- the state with another rest
abbrev pub with_rest : {V T : Type 0} → State V T → T → State V T
with_rest s t = record { globals = s.globals; locals = s.locals; units = s.units; lines = s.lines; steps = s.steps; rest = t }

-- one more unit, after which the rest is this
abbrev pub unit_more : {V T : Type 0} → State V T → T → State V T
unit_more s t = record { globals = s.globals; locals = s.locals; units = s.units + 1; lines = s.lines; steps = s.steps; rest = t }

-- one more line, after which the rest is this
abbrev pub line_more : {V T : Type 0} → State V T → T → State V T
line_more s t = record { globals = s.globals; locals = s.locals; units = s.units; lines = s.lines + 1; steps = s.steps; rest = t }

-- one more step
abbrev pub step_more : {V T : Type 0} → State V T → State V T
step_more s = record { globals = s.globals; locals = s.locals; units = s.units; lines = s.lines; steps = s.steps + 1; rest = s.rest }

-- the state with other variables of its sequence
abbrev pub with_locals : {V T : Type 0} → State V T → List (Binding V) → State V T
with_locals s locals = record { globals = s.globals; locals = locals; units = s.units; lines = s.lines; steps = s.steps; rest = s.rest }

-- the state with other variables
abbrev pub with_variables : {V T : Type 0} → State V T → List (Binding V) → List (Binding V) → State V T
with_variables s globals locals = record { globals = globals; locals = locals; units = s.units; lines = s.lines; steps = s.steps; rest = s.rest }

-- the last state of an outcome
abbrev pub end_state : {V T A : Type 0} → Out V T A → State V T
end_state (Ok x) = x.1
end_state (Err e) = e.1

-- the rest after what a call answers
abbrev pub rest_of : {T X : Type 0} → Result (X × T) (Over × T) → T
rest_of (Ok x) = x.1
rest_of (Err e) = e.1
