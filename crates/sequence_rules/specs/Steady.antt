-- What each operation of a machine keeps of the rest is kept by all that is done on it.
use Rattle.std.specs.Prelude.{ℕ, Bool, List}
use Rattle.target_machine.specs.declared.unit.ProbeCall.{ProbeCall}
use Rattle.target_machine.specs.declared.unit.Unit.{Unit as AccessUnit}
use Rattle.sequence_rules.specs.Machine.{Machine, State, Out, end_state, rest_of}

-- Step relates the rest before each operation of the machine with the rest after it, and such steps in a row are one.
pub record Steady {V T : Type 0} (m : Machine V T) (Step : T → T → Type 0) : Type 0 where
  pub same : (t : T) → Step t t
  pub on : (a b c : T) → Step a b → Step b c → Step a c
  pub used : (v : V) (t : T) → Step t (m.used v t).1
  pub asked : (u : AccessUnit) (forgive : Bool) (t : T) → Step t (rest_of (m.asked u forgive t))
  pub commanded : (c : ProbeCall) (t : T) → Step t (rest_of (m.commanded c t))
  pub confirmed : (t : T) → Step t (m.confirmed t)
  pub written : (line : List ℕ) (t : T) → Step t (m.written line t)

-- it relates the rest of a state with the rest of the last state of what comes of it
pub record Goes {V T A : Type 0} (Step : T → T → Type 0) (s : State V T) (out : Out V T A) : Type 0 where
  pub so : Step s.rest (end_state out).rest
