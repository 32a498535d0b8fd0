-- The frames of functions in a row.
use Rattle.std.proofs.Common.{◌≡◌, ℕ, List, Option, Result, Ok, Err, IsErr, subst}
use Rattle.target_machine.specs.State.{TargetState}
use Rattle.sequence_rules.specs.Direct.{Now}
use Rattle.sequence_rules.specs.Known.{known_part}
use Rattle.sequence_rules.specs.Machine.{Out, State}
use Rattle.sequence_rules.proofs.KnownLemmas.{known_more, knows_more, knows_part}
use Rattle.sequence_meaning.specs.declared.end.DirectEnd.{DirectEnd}
use Rattle.sequence_meaning.specs.declared.end.Stopped.{Stopped}
use Rattle.sequence_meaning.specs.declared.held.DirectHeld.{DirectHeld}
use Rattle.sequence_meaning.specs.Frame.{KeepsMade, KeepsMadeAndKnown, RunsDirect, RunsWithoutSink}
use Rattle.sequence_meaning.specs.Held.{EndsDirect, IsCaused, IsEndCaused, Meaning, MeansDirect}

-- two functions in a row keep what each of them keeps
pub made_on : {a b c : DirectHeld} {t u v : TargetState} → KeepsMade a t b u → KeepsMade b u c v → KeepsMade a t c v
made_on first second = record { on = λ w made. second.on w (first.on w made) }

module _ {K : Type 0} {written : K → Option (List ℕ)} where
  -- what uses no sink keeps it
  pub keeps_made : {a b : DirectHeld} {t u : TargetState} {k : K} → KeepsMade a t b u → KeepsMadeAndKnown written a t k b u k
  keeps_made first = record { made = first; knows = λ known knows. knows }

  -- two functions in a row keep what each of them keeps
  pub keeps_on : {a b c : DirectHeld} {t u v : TargetState} {k l m : K} → KeepsMadeAndKnown written a t k b u l → KeepsMadeAndKnown written b u l c v m → KeepsMadeAndKnown written a t k c v m
  keeps_on first second = record { made = made_on first.made second.made; knows = λ known knows. second.knows known (first.knows known knows) }

  -- the same, where the first uses no sink
  pub keeps_after : {a b c : DirectHeld} {t u v : TargetState} {k l : K} → KeepsMade a t b u → KeepsMadeAndKnown written b u k c v l → KeepsMadeAndKnown written a t k c v l
  keeps_after first second = record { made = made_on first second.made; knows = second.knows }

  -- the same, where the second uses no sink
  pub keeps_before : {a b c : DirectHeld} {t u v : TargetState} {k l : K} → KeepsMadeAndKnown written a t k b u l → KeepsMade b u c v → KeepsMadeAndKnown written a t k c v l
  keeps_before first second = record { made = made_on first.made second; knows = first.knows }

-- a function without a sink leaves every sink as it is
pub runs_with_sink : {K A : Type 0} {meaning : Meaning A} {written : K → Option (List ℕ)} {faults : K → ℕ} {a b : DirectHeld} {t u : TargetState} {k : K} {result : Result A Stopped}
    → RunsWithoutSink meaning a t b u result → RunsDirect meaning written faults a t k b u k result
runs_with_sink {written = written} {faults = faults} {k = k} h = record {
  gives = λ known knows. h.gives (known_part known (written k));
  keeps = keeps_made h.keeps;
  cause = h.cause (faults k);
}

-- before a call the count of faults stayed
pub cause_on : (e : DirectEnd) (first before now : ℕ) → before ≡ first → IsEndCaused e before now → IsEndCaused e first now
cause_on e first before now same h = subst (λ n. IsEndCaused e n now) same h

-- the same of an answer that is not known
pub caused_on : {A : Type 0} (e : DirectEnd) (result : Result A Stopped) (first before now : ℕ) → before ≡ first → IsCaused e result before now → IsCaused e result first now
caused_on e result first before now same h = subst (λ n. IsCaused e result n now) same h

-- an answer that is no value: why the code ends is why the meaning ends
pub stopped_means : {A : Type 0} (e : DirectEnd) (result : Result A Stopped) (now : State ℕ Now) (out : Out ℕ Now A) → IsErr result → EndsDirect e now out → MeansDirect e result now out
stopped_means e (Ok x) now out h k = absurd cc
stopped_means e (Err stopped) now out h k = k

-- an answer that is no value, by the count of faults
pub stopped_caused : {A : Type 0} (e : DirectEnd) (result : Result A Stopped) (before now : ℕ) → IsErr result → IsEndCaused e before now → IsCaused e result before now
stopped_caused e (Ok x) before now h k = absurd cc
stopped_caused e (Err stopped) before now h k = k

pub ruleset frames = (cause_on, keeps_on)

-- what is known of a sink to which a line was appended
pub ruleset lines_known = (known_more, knows_more, knows_part)
