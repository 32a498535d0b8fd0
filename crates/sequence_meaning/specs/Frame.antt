-- What each function of the runner does: what it gives, what it keeps, and how it ends.
use Rattle.std.specs.Prelude.{◌≡◌, ℕ, Bool, List, Option, Result}
use Rattle.target_calls.specs.World.{World}
use Rattle.target_machine.specs.State.{TargetState}
use Rattle.sequence_rules.specs.Direct.{Now}
use Rattle.sequence_rules.specs.Known.{Knows}
use Rattle.sequence_rules.specs.Machine.{State}
use Rattle.sequence_meaning.specs.declared.end.Stopped.{Stopped}
use Rattle.sequence_meaning.specs.declared.held.DirectHeld.{DirectHeld}
use Rattle.sequence_meaning.specs.Held.{IsCaused, IsMadeByCalls, Meaning, MeansDirect, state_of, state_seen}

-- Where the target, and the access ports that are known to have large addresses, are as the calls so far leave them, they are so
-- afterwards too.
pub record KeepsMade (old : DirectHeld) (before : TargetState) (new : DirectHeld) (after : TargetState) : Type 0 where
  pub on : (w : World) → IsMadeByCalls w old before → IsMadeByCalls w new after

-- The same, and what a sink holds stays known.
pub record KeepsMadeAndKnown {K : Type 0} (written : K → Option (List ℕ)) (old : DirectHeld) (before : TargetState) (first : K)
    (new : DirectHeld) (after : TargetState) (last : K) : Type 0 where
  pub made : KeepsMade old before new after
  pub knows : (known : Bool) → Knows known (written first) → Knows known (written last)

-- A function changes what is held to this state, whatever the target is and was written. What holds of the target goes on.
pub record Changes (old new : DirectHeld) (change : State ℕ Now → State ℕ Now) : Type 0 where
  pub state : (target : TargetState) (written : Option (List ℕ)) → state_of new target written ≡ change (state_of old target written)
  pub keeps : (target : TargetState) → KeepsMade old target new target

-- A function of the runner that uses no sink does what this meaning says.
pub record RunsWithoutSink {A : Type 0} (meaning : Meaning A) (old : DirectHeld) (before : TargetState)
    (new : DirectHeld) (after : TargetState) (result : Result A Stopped) : Type 0 where
  -- Whatever was written, its answer and the state that it leaves are those of the meaning.
  pub gives : (written : Option (List ℕ)) → MeansDirect new.end result (state_of new after written) (meaning (state_of old before written))
  -- What holds of the target goes on.
  pub keeps : KeepsMade old before new after
  -- It does not end by a fault of a sink.
  pub cause : (faults : ℕ) → IsCaused new.end result faults faults

-- A function of the runner does what this meaning says.
pub record RunsDirect {K A : Type 0} (meaning : Meaning A) (written : K → Option (List ℕ)) (faults : K → ℕ)
    (old : DirectHeld) (before : TargetState) (first : K) (new : DirectHeld) (after : TargetState) (last : K)
    (result : Result A Stopped) : Type 0 where
  -- Whatever is known of what was written, its answer and the state that it leaves are those of the meaning.
  pub gives : (known : Bool) → Knows known (written first)
      → MeansDirect new.end result (state_seen known new after (written last)) (meaning (state_seen known old before (written first)))
  -- What holds of the target and is known of the sink goes on.
  pub keeps : KeepsMadeAndKnown written old before first new after last
  -- The sink failed only where its count of faults rose, or stands at its last value; any other end leaves the count.
  pub cause : IsCaused new.end result (faults first) (faults last)
