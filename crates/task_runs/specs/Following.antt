-- What follows a run, over an access: how far it has come, in a world that is left.
use Rattle.std.specs.Prelude.{◌≡◌, ◌⊎◌, ℕ, ◌+◌, ◌≤◌, List, ◌++◌, length, Option, Some, None, Result, Ok, Err, ⊤}
use Rattle.std.specs.Io.KnownBytes.{Appends}
use Rattle.target_calls.specs.Asks.{settled_last}
use Rattle.target_calls.specs.declared.calls.Ask.{Ask}
use Rattle.probe_core.specs.Bench.{BenchState}
use Rattle.access_calls.specs.Asking.{EndsByStop}
use Rattle.access_calls.specs.Endings.{ending_of}
use Rattle.access_calls.specs.Keeps.{KeepsAccess}
use Rattle.access_calls.specs.Reported.{AccessView}
use Rattle.access_calls.specs.declared.ended.Ending.{Ending}
use Rattle.access_calls.specs.declared.ended.Ending.TheVariants as ending
use Rattle.access_calls.specs.declared.stop.Stop.{Stop}
use Rattle.access_calls.specs.declared.stop.Stop.TheVariants.{Cut, BenchFault, ReplyBad, OutOfMemory}
use Rattle.access_calls.specs.declared.stop.StopCause.{StopCause}
use Rattle.access_calls.specs.declared.stop.StopCause.TheVariants.{Faulted, NoAnswer}
use Rattle.dap_base.specs.Causes.{Rose}
use Rattle.function_calls.specs.Lines.{AppendsLines}
use Rattle.sequels.specs.Limits.{GoesOnFrom}
use Rattle.sequels.specs.Sequel.{Comes}
use Rattle.sequels.specs.declared.close.Close.{Close}
use Rattle.sequels.specs.declared.close.Close.TheVariants.{Nothing}
use Rattle.access_calls.specs.declared.ended.Ended.{Ended}
use Rattle.task_runs.specs.declared.task.TaskEnded.{TaskEnded}
use Rattle.task_runs.specs.declared.following.Closed.{Closed}
use Rattle.task_runs.specs.declared.following.Unclosed.{Unclosed}
use Rattle.task_runs.specs.declared.following.Unclosed.TheVariants as unclosed

-- ---- in a world that is left, where a sequel comes to this after the old calls

-- It came to its end: its calls were asked, of which the last one is marked, and its lines were written.
pub record CameToEnd (c : Comes Close) (old new : List Ask) (before now : Option (List ℕ)) (x : Close) : Type 0 where
  pub end : c.end ≡ Some x
  pub calls : new ≡ settled_last (old ++ c.calls)
  pub written : Appends before now c.written

-- One list of calls goes on from what was asked, and from the calls of the sequel. Where that has an end, the list has no more calls.
pub record Shares (c : Comes Close) (old new : List Ask) : Type 0 where
  pub all : List Ask
  pub ours : GoesOnFrom new all
  pub theirs : GoesOnFrom (old ++ c.calls) all
  pub only : (x : Close) → c.end ≡ Some x → length all ≤ length (old ++ c.calls)

-- It was left in its middle: what was written comes first in its lines, and what was asked among the first calls.
pub record LeftInMiddle (c : Comes Close) (old new : List Ask) (before now : Option (List ℕ)) : Type 0 where
  pub part : List ℕ
  pub rest : List ℕ
  pub lines : c.written ≡ part ++ rest
  pub written : Appends before now part
  pub calls : Shares c old new

-- It stops at the call after so many, the old ones among them; or, where a retry ended, it came to its end after all of them.
abbrev pub SequelStopsAt : StopCause → ℕ → Comes Close → List Ask → Type 0
SequelStopsAt Faulted lines c old = (c.end ≡ None) × (length (old ++ c.calls) ≡ lines + 1)
SequelStopsAt NoAnswer lines c old = ((c.end ≡ None) × (length (old ++ c.calls) ≡ lines + 1)) ⊎ ((x : Close) × (c.end ≡ Some x) × (length (old ++ c.calls) ≡ lines))

-- It was cut: it stops there, and exactly its lines were written.
pub record SequelIsCutOff (cause : StopCause) (lines : ℕ) (c : Comes Close) (old new : List Ask) (before now : Option (List ℕ)) : Type 0 where
  pub stops : SequelStopsAt cause lines c old
  pub written : Appends before now c.written
  pub calls : Shares c old new

-- By what was answered.
abbrev pub FollowsAs : ℕ → Comes Close → Result Closed Unclosed → List Ask → List Ask → Option (List ℕ) → Option (List ℕ) → Type 0
FollowsAs lines c (Ok x) old new before now = CameToEnd c old new before now x.close
FollowsAs lines c (Err unclosed.WriteFault) old new before now = LeftInMiddle c old new before now
FollowsAs lines c (Err (unclosed.Stopped (Cut r))) old new before now = SequelIsCutOff r.cause lines c old new before now
FollowsAs lines c (Err (unclosed.Stopped (BenchFault issued confirmed))) old new before now = LeftInMiddle c old new before now
FollowsAs lines c (Err (unclosed.Stopped ReplyBad)) old new before now = LeftInMiddle c old new before now
FollowsAs lines c (Err (unclosed.Stopped OutOfMemory)) old new before now = LeftInMiddle c old new before now

-- ---- over any access and any sink

-- the ending of a run whose sequel did not come to its end
abbrev pub ending_by : Unclosed → Ending
ending_by unclosed.WriteFault = ending.WriteFault
ending_by (unclosed.Stopped s) = ending_of s

-- the access has the end that is answered, and else none
abbrev pub ClosingEndIs : {A : Type 0} → Result A Unclosed → Option Stop → Type 0
ClosingEndIs (Ok x) end = end ≡ None
ClosingEndIs (Err unclosed.WriteFault) end = end ≡ None
ClosingEndIs (Err (unclosed.Stopped s)) end = EndsByStop s end

-- the sink's count of faults rose where it failed, and else it is the same
abbrev pub ClosingHasSinkCause : {A : Type 0} → Result A Unclosed → ℕ → ℕ → Type 0
ClosingHasSinkCause (Ok x) before now = now ≡ before
ClosingHasSinkCause (Err unclosed.WriteFault) before now = Rose before now
ClosingHasSinkCause (Err (unclosed.Stopped s)) before now = now ≡ before

-- the answer does not say that a sink failed
abbrev pub ClosingHasNoWriteFault : {A : Type 0} → Result A Unclosed → Type 0
ClosingHasNoWriteFault (Ok x) = ⊤
ClosingHasNoWriteFault (Err unclosed.WriteFault) = ⊥
ClosingHasNoWriteFault (Err (unclosed.Stopped s)) = ⊤

-- whole lines were written, except perhaps where the sink failed
abbrev pub ClosingHasLines : {A : Type 0} → Result A Unclosed → Option (List ℕ) → Option (List ℕ) → Type 0
ClosingHasLines (Ok x) old new = AppendsLines old new
ClosingHasLines (Err unclosed.WriteFault) old new = ⊤
ClosingHasLines (Err (unclosed.Stopped s)) old new = AppendsLines old new

-- How what follows a run ends: the access has the end that is answered, and else none; whole lines are written, except perhaps where the
-- sink failed; its count of faults rose where the answer says that it failed, and else it is the same; and what each call of an access
-- keeps is kept.
pub record EndsFollowing {S T K : Type 0} (begun : S → BenchState → Type 0) (reported : S → AccessView) (identity : S → ℕ)
    (written : K → Option (List ℕ)) (faults : K → ℕ) (result : Result T Unclosed) (old new : S) (sink_old sink_new : K) : Type 0 where
  pub end : ClosingEndIs result (reported new).end
  pub lines : ClosingHasLines result (written sink_old) (written sink_new)
  pub cause : ClosingHasSinkCause result (faults sink_old) (faults sink_new)
  pub keeps : KeepsAccess begun reported identity old new

-- ---- the answer

-- A run that was done, with what followed it: where that came to its end, the units of both; else the ending by which it did not.
pub record HasClosed (closed : Closed) (ended : Ended) (skipped : ℕ) (task : TaskEnded) : Type 0 where
  pub ending : task.ended.ending ≡ ended.ending
  pub units : task.ended.units ≡ ended.units + closed.units
  pub skips : task.ended.skipped ≡ skipped
  pub variables : task.ended.variables ≡ ended.variables
  pub close : task.close ≡ closed.close

-- A run that was done, with a sequel that did not come to its end: the ending is that by which it did not.
pub record HasNotClosed (unclosed : Unclosed) (skipped : ℕ) (task : TaskEnded) : Type 0 where
  pub ending : task.ended.ending ≡ ending_by unclosed
  pub skips : task.ended.skipped ≡ skipped
  pub close : task.close ≡ Nothing

-- The task is what the run and the answer of its sequel make it.
abbrev pub TaskIsClosed : Result Closed Unclosed → Ended → ℕ → TaskEnded → Type 0
TaskIsClosed (Ok x) ended skipped task = HasClosed x ended skipped task
TaskIsClosed (Err x) ended skipped task = HasNotClosed x skipped task
