-- The frame of a call of a run: when it may be made, what it gives, what it keeps, and how it ends.
use Rattle.std.specs.Prelude.{◌≡◌, ℕ, Bool, List, length, Option, None, Result}
use Rattle.probe_core.specs.Bench.{BenchState}
use Rattle.target_calls.specs.declared.calls.Value.{Value}
use Rattle.target_calls.specs.NeedPoints.{Costs}
use Rattle.access_calls.specs.Keeps.{KeepsAccess}
use Rattle.access_calls.specs.Left.{IsLeft}
use Rattle.access_calls.specs.Reported.{AccessView, world_from}
use Rattle.sequence_rules.specs.declared.bindings.Binding.{Binding}
use Rattle.sequence_rules.specs.Known.{Knows}
use Rattle.sequence_rules.specs.Late.{Late, late}
use Rattle.sequence_rules.specs.Machine.{Machine, State, Out}
use Rattle.function_calls.specs.declared.end.End.{End}
use Rattle.function_calls.specs.declared.held.Held.{Held}
use Rattle.function_calls.specs.Ends.{CallEndIs, CallHasSinkCause, CountsAskedUnits, MeansLate, NoWriteFault}
use Rattle.function_calls.specs.Held.{late_state_of, late_state_seen, state_with}
use Rattle.function_calls.specs.Lines.{AppendsLines, WritesLines}

-- A call may be made: the access has no end, and one call was asked for each unit that is counted.
pub record IsReadyToCall (units : ℕ) (a : AccessView) : Type 0 where
  pub no_end : a.end ≡ None
  pub counted : units ≡ length a.asks.calls

-- How a call ends that only uses values. The access has ended where the answer says so, and else it goes on. Nothing was asked, and no answer
-- says that a sink failed.
pub record EndsUse {T : Type 0} (result : Result T End) (old new : AccessView) : Type 0 where
  pub end : CallEndIs result new.end
  pub calls : new.asks.calls ≡ old.asks.calls
  pub cause : NoWriteFault result

-- How a call ends that has no sink. The access has ended where the answer says so, and else it goes on. One call was asked for each unit that is
-- counted, except after a stop or where memory was refused. No answer says that a sink failed.
pub record EndsCall {T : Type 0} (result : Result T End) (units : ℕ) (a : AccessView) : Type 0 where
  pub end : CallEndIs result a.end
  pub counted : CountsAskedUnits result units a.asks.calls
  pub cause : NoWriteFault result

-- How a call ends that may write lines. The access and the count of units are as at a call without a sink. What the sink holds stays known, and
-- whole lines are written after whole lines, except perhaps where the sink failed. Its count of faults rose where the answer says that it
-- failed, and else it is the same.
pub record EndsWriting {T K : Type 0} (written : K → Option (List ℕ)) (faults : K → ℕ) (result : Result T End) (units : ℕ) (a : AccessView) (old new : K) : Type 0 where
  pub end : CallEndIs result a.end
  pub counted : CountsAskedUnits result units a.asks.calls
  pub knows : (known : Bool) → Knows known (written old) → Knows known (written new)
  pub lines : (before : Option (List ℕ)) → AppendsLines before (written old) → WritesLines result before (written new)
  pub cause : CallHasSinkCause result (faults old) (faults new)

-- What comes of a part of a program where results come later. From a state it has an answer and the state after it, or why nothing more is done.
abbrev pub LateMeaning : Type 0 → Type 0
LateMeaning A = Machine Value Late → State Value Late → Out Value Late A

-- A function that only uses values does what this meaning says.
pub record UsesValues {S A : Type 0} (meaning : LateMeaning A) (cost : Costs) (begun : S → BenchState → Type 0) (reported : S → AccessView)
    (identity : S → ℕ) (old new : S) (result : Result A End) : Type 0 where
  -- In each world that is left its answer and the state that it leaves are those of the meaning, whatever is held and was written.
  pub gives : (m : BenchState) (answered : Option ℕ) (globals locals : List (Binding Value)) (units lines steps : ℕ) (written : Option (List ℕ))
      → begun old m → IsLeft (reported new) answered
      → MeansLate (world_from m answered) (reported new) result (state_with globals locals units lines steps (reported new).asks written)
      (meaning (late cost (world_from m answered)) (state_with globals locals units lines steps (reported old).asks written))
  -- What each call keeps of its access is kept.
  pub keeps : KeepsAccess begun reported identity old new
  -- It ends as what only uses values.
  pub ends : EndsUse result (reported old) (reported new)

-- A function that only uses values which a run holds does what this meaning says.
pub record RunsUse {S A : Type 0} (meaning : LateMeaning A) (cost : Costs) (begun : S → BenchState → Type 0) (reported : S → AccessView)
    (identity : S → ℕ) (held : Held) (old new : S) (result : Result A End) : Type 0 where
  -- In each world that is left its answer and the state that it leaves are those of the meaning, whatever was written.
  pub gives : (m : BenchState) (answered : Option ℕ) (written : Option (List ℕ)) → begun old m → IsLeft (reported new) answered
      → MeansLate (world_from m answered) (reported new) result (late_state_of held (reported new).asks written)
      (meaning (late cost (world_from m answered)) (late_state_of held (reported old).asks written))
  -- What each call keeps of its access is kept.
  pub keeps : KeepsAccess begun reported identity old new
  -- It ends as what only uses values.
  pub ends : EndsUse result (reported old) (reported new)

-- A function that uses no sink does what this meaning says.
pub record RunsCall {S A : Type 0} (meaning : LateMeaning A) (cost : Costs) (begun : S → BenchState → Type 0) (reported : S → AccessView)
    (identity : S → ℕ) (before : Held) (old : S) (now : Held) (new : S) (result : Result A End) : Type 0 where
  -- In each world that is left its answer and the state that it leaves are those of the meaning, whatever was written. The world is that
  -- of a state in which the access began, and of how many calls may still be answered.
  pub gives : (m : BenchState) (answered : Option ℕ) (written : Option (List ℕ)) → begun old m → IsLeft (reported new) answered
      → MeansLate (world_from m answered) (reported new) result (late_state_of now (reported new).asks written)
      (meaning (late cost (world_from m answered)) (late_state_of before (reported old).asks written))
  -- What each call keeps of its access is kept.
  pub keeps : KeepsAccess begun reported identity old new
  -- It ends as a call without a sink.
  pub ends : EndsCall result now.units (reported new)

-- A function that may write lines does what this meaning says.
pub record RunsWriting {S K A : Type 0} (meaning : LateMeaning A) (cost : Costs) (begun : S → BenchState → Type 0) (reported : S → AccessView)
    (identity : S → ℕ) (written : K → Option (List ℕ)) (faults : K → ℕ) (before : Held) (old : S) (first : K) (now : Held) (new : S) (last : K)
    (result : Result A End) : Type 0 where
  -- In each world that is left its answer and the state that it leaves are those of the meaning. What the sink holds is in both states, where
  -- that is known.
  pub gives : (m : BenchState) (answered : Option ℕ) (known : Bool) → begun old m → IsLeft (reported new) answered → Knows known (written first)
      → MeansLate (world_from m answered) (reported new) result (late_state_seen known now (reported new).asks (written last))
      (meaning (late cost (world_from m answered)) (late_state_seen known before (reported old).asks (written first)))
  -- What each call keeps of its access is kept.
  pub keeps : KeepsAccess begun reported identity old new
  -- It ends as a call that may write lines.
  pub ends : EndsWriting written faults result now.units (reported new) first last
