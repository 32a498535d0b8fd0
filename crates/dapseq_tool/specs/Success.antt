-- What a call does that nothing outside disturbs.
use Rattle.std.specs.Prelude.{◌≡◌, ◌≢◌, ℕ, ◌≤◌, List, ◌++◌, Option, Some, IsSome}
use Rattle.std.specs.List.{All}
use Rattle.std.specs.Io.KnownBytes.{Appends}
use Rattle.dap_base.specs.Causes.{IsQuiet, Rose}
use Rattle.probe_core.specs.Bench.{BenchState}
use Rattle.job_runs.specs.Meant.{EndsAsMeant}
use Rattle.access_calls.specs.Opening.{HasBadReply}
use Rattle.job_runs.specs.Runs as runs
use Rattle.job_runs.specs.Runs.{AccessKind, Left, NoneEnded, config_of, job_close, known_after, run_after_load}
use Rattle.job_runs.specs.Texts.{whole_text}
use Rattle.access_calls.specs.declared.ended.Ending.TheVariants as e
use Rattle.dapseq_tool.specs.Purpose.{shows_packets, task_by}
use Rattle.dapseq_tool.specs.Answers.{answer_status, answer_text, head_text, run_status}
use Rattle.dapseq_tool.specs.Asked.{AsksForRequest}
use Rattle.dapseq_tool.specs.Headline.{BenchCall, RunEnd}
use Rattle.job_source.specs.Source.{AreBytesOf}
use Rattle.dapseq_tool.specs.declared.asking.Answer.{Answer}
use Rattle.dapseq_tool.specs.declared.asking.Requested.{Requested}
use Rattle.dapseq_tool.specs.declared.asking.Run.{Run}
use Rattle.dapseq_tool.specs.declared.asking.What.{What}
use Rattle.dapseq_tool.specs.declared.asking.What.TheVariants as whats
use Rattle.dapseq_tool.specs.declared.status.Status.TheVariants as status

-- nothing outside failed: no count of faults rose or is at its last value, and memory was not refused
pub record IsQuietCall (call : BenchCall) : Type 0 where
  pub source : IsQuiet call.old.source_faults call.new.source_faults
  pub sink : IsQuiet call.old.sink_faults call.new.sink_faults
  pub bench : IsQuiet call.old.reported.faults call.new.reported.faults
  pub memory : call.end ≢ status.OutOfMemory

-- a fault of the sink or of the bench shows in its count
pub record HasCauses (call : BenchCall) : Type 0 where
  pub write : call.end ≡ status.WriteFault → Rose call.old.sink_faults call.new.sink_faults
  pub bench : call.end ≡ status.BenchFault → Rose call.old.reported.faults call.new.reported.faults

-- the answer was written whole, after the head, and the status is its own
pub record AnswerIsWritten (call : BenchCall) (number : Option ℕ) (answer : Answer) : Type 0 where
  pub text : Appends call.old.written call.new.written (head_text number ++ answer_text answer)
  pub status : call.end ≡ answer_status answer

-- what is run, from where its access began
abbrev pub run_from : AccessKind → Run → Option (List ℕ) → runs.Run
run_from access run before = run_after_load access (config_of run.valid.job.settings) run.valid.job.bench (task_by run) before

-- what a run left that ended so, over this bench
abbrev pub left_by_run : Option (List ℕ) → RunEnd → BenchState → Left
left_by_run before r n = record { ended = r.ended; written = known_after before r.written; bench = n }

-- The run ended as it is meant to, from the target of its job on. Its report, and the trace where it is requested, was written whole after the
-- head and the lines of the run. The status is that of how it ended. Where no stall of the job is over its retry number, no retry ended.
pub record HasRunAsMeant (access : AccessKind) (call : BenchCall) (number : Option ℕ) (run : Run) : Type 0 where
  pub before : Option (List ℕ)
  pub head : Appends call.old.written before (head_text number)
  pub r : RunEnd
  pub last : BenchState
  pub state : call.new.state ≡ Some last
  pub meant : EndsAsMeant (run_from access run before) (left_by_run before r last)
  pub none_over : All (λ stall. stall ≤ run.valid.job.settings.retry) run.valid.job.bench.stalls → NoneEnded (run_from access run before) (left_by_run before r last)
  pub text : Appends r.written call.new.written (whole_text (shows_packets run.purpose) r.ended r.close r.sent r.got run.valid.job last)
  pub close : r.ended.ending ≡ e.Done → r.close ≡ job_close (config_of run.valid.job.settings) run.valid.job.bench (task_by run) before
  pub status : call.end ≡ run_status r.ended.ending r.close

-- what was asked for was done
abbrev pub RequestIsDone : AccessKind → BenchCall → Option ℕ → What → Type 0
RequestIsDone access call number (whats.Answer answer) = AnswerIsWritten call number answer
RequestIsDone access call number (whats.Run run) = HasRunAsMeant access call number run

-- Let nothing outside fail, and the bench be observable. Then there are bytes, those of the source where it is observable, of which the words
-- ask for something, and that was done.
abbrev pub Success : AccessKind → BenchCall → Type 0
Success access call = IsQuietCall call → IsSome call.old.state
    → (bytes : List ℕ) × (asked : Requested) × AreBytesOf call.old.left bytes × AsksForRequest call.words bytes asked × RequestIsDone access call asked.number asked.what

-- ---- a bad reply

-- The last exchange began in this call, and at one of its places stand a packet and a reply that the packet may not get. The bench is
-- not observable.
pub record HasGotBadReply (call : BenchCall) : Type 0 where
  pub sent : List ℕ
  pub got : List ℕ
  pub bad : HasBadReply call.old.reported call.new.reported sent got
  pub unseen : IsSome call.old.state → ⊥
