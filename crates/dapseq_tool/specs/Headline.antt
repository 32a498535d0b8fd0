-- What a whole call does, by what is known of its objects before and after it.
use Rattle.std.specs.Prelude.{◌≡◌, ◌⊎◌, ℕ, Bool, false, List, ◌++◌, Option, Some, None, IsSome, ⊤}
use Rattle.std.specs.Io.KnownBytes.{Appends}
use Rattle.dap_base.specs.Causes.{IsQuiet, Rose}
use Rattle.dap_base.specs.Streams.{AppendsPrefix}
use Rattle.probe_core.specs.Bench.{Reported, BenchState, Seen}
use Rattle.probe_core.specs.Probe.{fresh_probe}
use Rattle.probe_core.specs.Runs.{IsWholeRun}
use Rattle.access_calls.specs.Causes.{code_of_cause}
use Rattle.access_calls.specs.declared.ended.Ended.{Ended}
use Rattle.access_calls.specs.declared.ended.Ending.TheVariants as e
use Rattle.access_calls.specs.declared.stop.Report.{Report}
use Rattle.report_lines.specs.Endings.{ending_lines, shows_target}
use Rattle.control_flow.specs.Answers.{HasLines}
use Rattle.access_calls.specs.Opening.{HasBadReply}
use Rattle.job_runs.specs.Ends.{HasGotResponse}
use Rattle.job_runs.specs.Runs.{AccessKind, JobComesTo, config_of, job_close, known_after}
use Rattle.job_runs.specs.Texts.{first_lines, whole_text}
use Rattle.sequels.specs.declared.close.Close.{Close}
use Rattle.sequels.specs.declared.close.Close.TheVariants as closes
use Rattle.job_source.specs.Source.{AreBytesOf, AreTaken}
use Rattle.dapseq_tool.specs.Purpose.{sequel_by, shows_packets, task_by}
use Rattle.dapseq_tool.specs.Answers.{answer_status, answer_text, head_text, run_status}
use Rattle.dapseq_tool.specs.Asked.{AsksForRequest}
use Rattle.dapseq_tool.specs.declared.asking.Answer.{Answer}
use Rattle.dapseq_tool.specs.declared.asking.Requested.{Requested}
use Rattle.dapseq_tool.specs.declared.asking.Run.{Run}
use Rattle.dapseq_tool.specs.declared.asking.What.{What}
use Rattle.dapseq_tool.specs.declared.asking.What.TheVariants as whats
use Rattle.dapseq_tool.specs.declared.status.Status.{Status}
use Rattle.dapseq_tool.specs.declared.status.Status.TheVariants as status
use Rattle.tool_calls.specs.Calls.{source_fault_line}

-- ---- a call

-- What is known of a source, a sink and a bench at a moment. That is the bytes that are left, those that were written and the state, each where
-- the object is observable, and what every object reports.
pub record BenchMoment : Type 0 where
  pub left : Option (List ℕ)
  pub source_faults : ℕ
  pub written : Option (List ℕ)
  pub sink_faults : ℕ
  pub reported : Reported
  pub state : Option BenchState

-- the same, by the ghost members of the three traits
abbrev pub bench_moment : {S K B : Type 0} → (S → Option (List ℕ)) → (S → ℕ) → (K → Option (List ℕ)) → (K → ℕ) → (B → Reported) → (B → Option BenchState) → S → K → B
    → BenchMoment
bench_moment left source_faults written sink_faults reported state source sink bench = record {
  left = left source;
  source_faults = source_faults source;
  written = written sink;
  sink_faults = sink_faults sink;
  reported = reported bench;
  state = state bench;
}

-- A call: its words, what is known before it and after it, and its status.
pub record BenchCall : Type 0 where
  pub words : List (List ℕ)
  pub old : BenchMoment
  pub new : BenchMoment
  pub end : Status

-- ---- what is written

-- a call can fail while it writes a text so
abbrev pub FailsWriting : Status → Type 0
FailsWriting status.BenchFault = ⊤
FailsWriting status.WriteFault = ⊤
FailsWriting status.OutOfMemory = ⊤
FailsWriting other = ⊥

-- a call can fail while it writes a text that no bench is asked for
abbrev pub FailsPutting : Status → Type 0
FailsPutting status.WriteFault = ⊤
FailsPutting status.OutOfMemory = ⊤
FailsPutting other = ⊥

-- The text was appended, and the status is its own; or writing it failed, and a part of it was appended, from its front.
abbrev pub IsWritten : Option (List ℕ) → Option (List ℕ) → List ℕ → Status → Status → Type 0
IsWritten old new text own end = ((end ≡ own) × Appends old new text) ⊎ (FailsWriting end × AppendsPrefix old new text)

-- the same of a text that no bench is asked for
abbrev pub IsPut : Option (List ℕ) → Option (List ℕ) → List ℕ → Status → Status → Type 0
IsPut old new text own end = ((end ≡ own) × Appends old new text) ⊎ (FailsPutting end × AppendsPrefix old new text)

-- A text that begins with these lines was appended, and the status is its own; or writing it failed, and a part of it was appended,
-- from its front.
pub record WritesFirst (old new : Option (List ℕ)) (lines : List ℕ) (own end : Status) : Type 0 where
  pub rest : List ℕ
  pub text : IsWritten old new (lines ++ rest) own end

-- ---- where no run is asked for

-- the answer is written after the head, and the bench is the one that it was
pub record WritesAnswer (call : BenchCall) (unchanged : Type 0) (number : Option ℕ) (answer : Answer) : Type 0 where
  pub text : IsPut call.old.written call.new.written (head_text number ++ answer_text answer) (answer_status answer) call.end
  pub bench : unchanged

-- ---- where a run is asked for

-- How a run ended: its answer, how what follows it came to its end, the packet and the reply where the reply was bad, and what was written by then.
pub record RunEnd : Type 0 where
  pub ended : Ended
  pub close : Close
  pub sent : List ℕ
  pub got : List ℕ
  pub written : Option (List ℕ)

-- What is known after the report of a run: what was written, the status, and the bench.
pub record After : Type 0 where
  pub written : Option (List ℕ)
  pub end : Status
  pub bench : Seen

-- What a run came to on an observable bench, and what was written after it: the report and the trace. A log that is kept whole is
-- a run of the job's probe.
pub record IsRunTo (access : AccessKind) (run : Run) (before : Option (List ℕ)) (r : RunEnd) (a : After) (n : BenchState) : Type 0 where
  pub state : a.bench.state ≡ Some n
  pub comes : JobComesTo access (config_of run.valid.job.settings) run.valid.job.bench (task_by run) before
      (record { ended = r.ended; written = known_after before r.written; bench = n })
  pub close : r.ended.ending ≡ e.Done → r.close ≡ job_close (config_of run.valid.job.settings) run.valid.job.bench (task_by run) before
  pub text : IsWritten r.written a.written (whole_text (shows_packets run.purpose) r.ended r.close r.sent r.got run.valid.job n) (run_status r.ended.ending r.close) a.end
  pub log : IsWholeRun (fresh_probe run.valid.job.bench) n

-- A run that ended so, from a bench that reported this. On an observable bench it came to what the run means, and its report was written. On any
-- bench, a report that does not show the target was written. The status is that of the run, unless writing failed. The run wrote whole lines,
-- except perhaps where the sink failed, and the lines of its ending come first of what was written after it. A cut comes with a reply of its
-- response, and a bad reply is the one that is reported.
pub record HasRunAndReported (access : AccessKind) (run : Run) (observable : Type 0) (old : Reported) (before : Option (List ℕ)) (r : RunEnd) (a : After) : Type 0 where
  pub comes : observable → (n : BenchState) × IsRunTo access run before r a n
  pub alone : shows_target r.ended.ending ≡ false →
      IsPut r.written a.written (ending_lines r.ended.ending r.ended r.sent r.got) (run_status r.ended.ending closes.Nothing) a.end
  pub lines : HasLines r.ended.ending before r.written
  pub front : WritesFirst r.written a.written (first_lines r.ended r.close r.sent r.got) (run_status r.ended.ending r.close) a.end
  pub status : (a.end ≡ run_status r.ended.ending r.close) ⊎ FailsWriting a.end
  pub nothing : sequel_by run.purpose run.valid.image ≡ None → r.close ≡ closes.Nothing
  pub unclosed : (r.ended.ending ≡ e.Done → ⊥) → r.close ≡ closes.Nothing
  pub cut : (report : Report) → r.ended.ending ≡ e.Cut report → HasGotResponse (code_of_cause report.cause) old a.bench.reported
  pub bad : r.ended.ending ≡ e.ReplyBad → HasBadReply old a.bench.reported r.sent r.got

-- the same moment without the source
abbrev pub after_of : BenchMoment → Status → After
after_of m end = record { written = m.written; end = end; bench = record { reported = m.reported; state = m.state } }

-- What is done of a run. There is a head, and it is not written whole; or the bench was not loaded, and is as it was; or it ran.
pub data Runs (access : AccessKind) (call : BenchCall) (unchanged : Type 0) (number : Option ℕ) (run : Run) : Type 0 where
  not_headed : IsSome number → FailsPutting call.end → AppendsPrefix call.old.written call.new.written (head_text number) →
      unchanged → Runs access call unchanged number run
  not_loaded : (call.end ≡ status.BenchFault) ⊎ (call.end ≡ status.OutOfMemory) → Appends call.old.written call.new.written (head_text number)
      → call.new.state ≡ call.old.state → Runs access call unchanged number run
  ran : (before : Option (List ℕ)) (r : RunEnd) → Appends call.old.written before (head_text number)
      → HasRunAndReported access run (IsSome call.old.state) call.old.reported before r (after_of call.new call.end) → Runs access call unchanged number run

-- ---- both

-- what is done of what was asked for
abbrev pub DoesWhat : AccessKind → BenchCall → Type 0 → Option ℕ → What → Type 0
DoesWhat access call unchanged number (whats.Answer answer) = WritesAnswer call unchanged number answer
DoesWhat access call unchanged number (whats.Run run) = Runs access call unchanged number run

-- What a call does; `unchanged` says that the bench is the one that it was. There are bytes, those of the source where it is
-- observable, of which the words ask for something, and it was done. Or the source failed, or memory was refused before it was
-- known what is asked for.
pub data DoesWithBench (access : AccessKind) (call : BenchCall) (unchanged : Type 0) : Type 0 where
  does : (bytes : List ℕ) (asked : Requested) → AreBytesOf call.old.left bytes → AsksForRequest call.words bytes asked
      → DoesWhat access call unchanged asked.number asked.what → DoesWithBench access call unchanged
  unread : Rose call.old.source_faults call.new.source_faults → IsPut call.old.written call.new.written source_fault_line status.ReadFault call.end →
      unchanged → DoesWithBench access call unchanged
  no_memory : call.end ≡ status.OutOfMemory → call.new.written ≡ call.old.written → unchanged → DoesWithBench access call unchanged
