-- Whole runs, what they come to, and what a stop leaves.
use Rattle.std.specs.Prelude.{ℕ, true, false, List, [], map, take, length, Option, Some, None, Ok, Err}
use Rattle.target_calls.specs.declared.calls.Ask.{Ask}
use Rattle.target_calls.specs.declared.calls.Value.{Value}
use Rattle.target_calls.specs.NeedPoints.{Asks, Costs, nothing_asked, asks_at_need, asks_at_finish}
use Rattle.target_calls.specs.World.{World, start_world, world_after}
use Rattle.sequence_trees.specs.Trees.{SetTrees}
use Rattle.target_machine.specs.State.{TargetState}
use Rattle.target_machine.specs.declared.unit.Call.{Call}
use Rattle.target_machine.specs.declared.unit.HaltCause.{HaltCause}
use Rattle.target_machine.specs.declared.unit.Settings.{Settings}
use Rattle.target_machine.specs.declared.unit.Variable.{Variable}
use Rattle.sequence_rules.specs.declared.bindings.Binding.{Binding}
use Rattle.sequence_rules.specs.Direct.{Now, now_at, direct}
use Rattle.sequence_rules.specs.Late.{Late, late_of, late}
use Rattle.sequence_rules.specs.Machine as machine
use Rattle.sequence_rules.specs.Machine.{Over, Machine, State, Out, end_state}
use Rattle.sequence_rules.specs.Steps.{run_of, start_state}

-- What is run: a set, the name of the sequence that the run starts with, how many microseconds a turn counts as, and the
-- starting values of the predefined variables.
pub record Program : Type 0 where
  pub set : SetTrees
  pub start : List ℕ
  pub turn_us : ℕ
  pub predefined : List (Binding ℕ)

-- variables with their values
abbrev pub variables_of : List Variable → List (Binding ℕ)
variables_of variables = map (λ (v : Variable). record { name = v.name; value = v.value }) variables

-- what is run of a set: the sequence of a name, with these settings
abbrev pub program_of : SetTrees → List ℕ → Settings → Program
program_of set start settings =
    record { set = set; start = start; turn_us = settings.turn_us; predefined = variables_of settings.start }

-- variables of numbers as variables of values
abbrev pub as_values : {V T : Type 0} → Machine V T → List (Binding ℕ) → List (Binding V)
as_values m bs = map (λ (b : Binding ℕ). record { name = b.name; value = m.number b.value }) bs

-- a run from the start, on a machine
abbrev pub run_on : {V T : Type 0} → Machine V T → Program → T → Out V T (Unit {0})
run_on m p rest = run_of m p.turn_us p.set p.start (start_state m p.turn_us p.set (as_values m p.predefined) rest)

-- The meaning of a program in a world, after what was written before.
abbrev pub meaning : World → Program → Option (List ℕ) → Out ℕ Now (Unit {0})
meaning w p written = run_on (direct false) p (now_at w written)

-- the same, but over where something is missing which every valid set has
abbrev pub watched_run : World → Program → Option (List ℕ) → Out ℕ Now (Unit {0})
watched_run w p written = run_on (direct true) p (now_at w written)

-- the same with results that come later
abbrev pub late_meaning : Costs → World → Program → Option (List ℕ) → Out Value Late (Unit {0})
late_meaning cost w p written = run_on (late cost w) p (late_of nothing_asked written)

-- ---- what a run comes to

-- How a run ended: its steps are done, or it halted, or its last unit met a fault that is not forgiven or was not answered. Where
-- all calls are answered and the set is valid it is one of the first three.
pub data Ending : Type 0 where
  Done : Ending
  Halted : HaltCause → Ending
  Faulted : Call → Ending
  Unanswered : Ending
  Lost : Ending

-- What a run comes to.
pub record Outcome : Type 0 where
  pub ending : Ending
  -- the variables that all sequences share, where it is Done or Halted
  pub variables : List (Binding ℕ)
  -- the calls, one for each unit, and how many of them were skipped
  pub calls : List Ask
  pub skipped : ℕ
  -- what was written, where that is known
  pub written : Option (List ℕ)
  pub target : TargetState

-- the outcome with these variables and this rest
abbrev pub outcome_at : Ending → List (Binding ℕ) → Now → Outcome
outcome_at ending variables t =
    record { ending = ending; variables = variables; calls = t.calls; skipped = t.skipped; written = t.written; target = t.world.target }

-- the outcome of a run that is over
abbrev pub outcome_over : Over → State ℕ Now → Outcome
outcome_over (machine.Halted cause) s = outcome_at (Halted cause) s.globals s.rest
outcome_over (machine.Faulted call) s = outcome_at (Faulted call) [] s.rest
outcome_over machine.Unanswered s = outcome_at Unanswered [] s.rest
outcome_over machine.Lost s = outcome_at Lost [] s.rest

-- the outcome of a run
abbrev pub outcome_of : Out ℕ Now (Unit {0}) → Outcome
outcome_of (Ok x) = outcome_at Done x.1.globals x.1.rest
outcome_of (Err e) = outcome_over e.0 e.1

-- What a program comes to on a target, after what was written before. A run that is `Faulted` faults at the last of its units.
abbrev pub outcome : Program → TargetState → Option (List ℕ) → Outcome
outcome p t written = outcome_of (meaning (start_world t None) p written)

-- The same where only so many units are answered: the run ends where the next one is asked.
abbrev pub outcome_within : ℕ → Program → TargetState → Option (List ℕ) → Outcome
outcome_within m p t written = outcome_of (meaning (start_world t (Some m)) p written)

-- how many units a run asked
abbrev pub units_of : Outcome → ℕ
units_of o = length o.calls

-- ---- what a stop leaves

-- the target after the first units of a run were attempted: with one that faults, and with the ABORT after one that was skipped
abbrev pub target_at : ℕ → Program → TargetState → TargetState
target_at n p t = (world_after (start_world t None) (take n (outcome p t None).calls)).target

-- what is written before one more unit than so many is asked, or all of it where that never is
abbrev pub written_before : ℕ → Program → TargetState → Option (List ℕ) → Option (List ℕ)
written_before m p t written = (outcome_within m p t written).written

-- A run that is cut: the target after n units, and what is written before unit m + 1 is asked.
pub record Cut : Type 0 where
  pub target : TargetState
  pub written : Option (List ℕ)

-- the cut of a program
abbrev pub cut : ℕ → ℕ → Program → TargetState → Option (List ℕ) → Cut
cut m n p t written = record { target = target_at n p t; written = written_before m p t written }

-- ---- need points

-- what was asked by the end of a run that is Done or Halted, with the need point of its end
abbrev pub asks_at_end : Costs → Program → TargetState → Asks
asks_at_end cost p t = asks_at_need (asks_at_finish (end_state (late_meaning cost (start_world t None) p None)).rest.asks)

-- how many need points there are in such a run
abbrev pub needs : Costs → Program → TargetState → ℕ
needs cost p t = (asks_at_end cost p t).needs
