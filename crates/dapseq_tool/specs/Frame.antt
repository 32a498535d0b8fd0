-- What a call keeps, whatever it was asked for.
use Rattle.std.specs.Prelude.{◌≡◌, ◌≢◌, ◌⊎◌, ℕ, List, Option, Result, Ok, Err, IsSome}
use Rattle.std.specs.Io.KnownBytes.{Appends}
use Rattle.dap_base.specs.Streams.{AppendsPrefix}
use Rattle.probe_core.specs.Bench.{Reported, Seen}
use Rattle.access_calls.specs.Opening.{BenchIsIdle}
use Rattle.dapseq_tool.specs.RunEnds.{DoesAfter}
use Rattle.dap_base.specs.Causes.{IsQuiet, Rose}
use Rattle.dapseq_tool.specs.Answers.{IsRunStatus, head_text}
use Rattle.dapseq_tool.specs.Asked.{AsksForRequest, IsNoCommand, IsReadLine, IsRunLine, IsSoundRequest, IsSoundRun, OnRun}
use Rattle.dapseq_tool.specs.Headline.{After, BenchCall, DoesWithBench, FailsPutting, FailsWriting, IsPut}
use Rattle.job_source.specs.Source.{AreBytesOf, AreTaken}
use Rattle.job_runs.specs.Runs.{AccessKind}
use Rattle.dapseq_tool.specs.declared.asking.Answer.TheVariants as answers
use Rattle.dapseq_tool.specs.declared.asking.Requested.{Requested}
use Rattle.tool_calls.specs.declared.unasked.Unasked.{Unasked}
use Rattle.tool_calls.specs.declared.unasked.Unasked.TheVariants as unasked
use Rattle.dapseq_tool.specs.declared.asking.Run.{Run}
use Rattle.dapseq_tool.specs.declared.asking.What.{What}
use Rattle.dapseq_tool.specs.declared.asking.What.TheVariants as whats
use Rattle.dapseq_tool.specs.declared.status.Status.{Status}
use Rattle.dapseq_tool.specs.declared.status.Status.TheVariants as statuses
use Rattle.tool_calls.specs.Calls.{source_fault_line}

-- ---- what is asked for

-- What is asked for is in its ranges, a run only where this is so, and never the usage.
pub record IsFit (runs : Type 0) (what : What) : Type 0 where
  pub sound : IsSoundRequest what
  pub run : OnRun what (λ run. runs)
  pub used : what ≢ whats.Answer answers.Usage

-- The words and the bytes of a source ask for it. They ask for the usage exactly where they are no command, and for a run only where they are a
-- command that runs. It is in its ranges.
pub record RequestIsAsked (words : List (List ℕ)) (left : Option (List ℕ)) (asked : Requested) : Type 0 where
  pub asks : (bytes : List ℕ) × AreBytesOf left bytes × AsksForRequest words bytes asked
  pub usage : asked.what ≡ whats.Answer answers.Usage → IsNoCommand words
  pub usage_only : IsNoCommand words → asked.what ≡ whats.Answer answers.Usage
  pub sound : IsSoundRequest asked.what
  pub run : OnRun asked.what (λ run. IsRunLine words)

-- ---- what is done

-- A fault of the sink has its cause, and one that comes is reported.
pub record CountsSink (old new : ℕ) (end : Status) : Type 0 where
  pub cause : end ≡ statuses.WriteFault → Rose old new
  pub counted : (new ≡ old) ⊎ (end ≡ statuses.WriteFault)

-- A fault of the bench has its cause; one that comes is reported, unless writing fails.
pub record CountsBench (old new : ℕ) (end : Status) : Type 0 where
  pub cause : end ≡ statuses.BenchFault → Rose old new
  pub counted : (new ≡ old) ⊎ FailsWriting end

-- What is kept over a bench: `same` says that it is the same one, and each fault of the sink and of the bench has its cause and is reported.
pub record KeepsOver (same : Type 0) (sink_old sink_new bench_old bench_new : ℕ) (end : Status) : Type 0 where
  pub identity : same
  pub sink : CountsSink sink_old sink_new end
  pub bench : CountsBench bench_old bench_new end

-- The same of a run, whose status is one that a run can have.
pub record KeepsRun (same : Type 0) (sink_old sink_new bench_old bench_new : ℕ) (end : Status) : Type 0 where
  pub identity : same
  pub sink : CountsSink sink_old sink_new end
  pub bench : CountsBench bench_old bench_new end
  pub among : IsRunStatus end

-- A run is in its ranges, and a bench that reports this is idle and has the limits of its job.
pub record IsLoadedFor (run : Run) (reported : Reported) : Type 0 where
  pub sound : IsSoundRun run
  pub idle : BenchIsIdle reported
  pub limits : run.valid.job.bench.limits ≡ reported.limits

-- The status is one that what is asked for can have. A run has its own, the usage comes where it is asked for, and no source is read.
pub record IsStatusFor (what : What) (end : Status) : Type 0 where
  pub run : OnRun what (λ run. IsRunStatus end)
  pub usage : end ≡ statuses.Usage → what ≡ whats.Answer answers.Usage
  pub usage_only : what ≡ whats.Answer answers.Usage → (end ≡ statuses.Usage) ⊎ (end ≡ statuses.WriteFault) ⊎ (end ≡ statuses.OutOfMemory)
  pub unread : end ≢ statuses.ReadFault

-- What is done of what is asked for. The first line was written, and then the rest was done. Or it was not written whole, and the bench is the
-- one that it was.
pub data IsFulfilled (access : AccessKind) (asked : Requested) (old : Seen) (unchanged : Type 0) (before : Option (List ℕ)) (after : After) : Type 0 where
  performed : (mid : Option (List ℕ)) → Appends before mid (head_text asked.number) →
      DoesAfter access asked.what old unchanged mid after → IsStatusFor asked.what after.end
      → IsFulfilled access asked old unchanged before after
  not_headed : IsSome asked.number → FailsPutting after.end → AppendsPrefix before after.written (head_text asked.number) →
      unchanged → IsFulfilled access asked old unchanged before after

-- What is written where it is not known what is asked for, and the status. Nothing is written where memory was refused, and else the line of a
-- source that failed.
pub data IsUnasked (end : Unasked) (before now : Option (List ℕ)) (status : Status) : Type 0 where
  memory : end ≡ unasked.OutOfMemory → status ≡ statuses.OutOfMemory → now ≡ before → IsUnasked end before now status
  source : end ≡ unasked.ReadFault → IsPut before now source_fault_line statuses.ReadFault status → (status ≡ statuses.ReadFault) ⊎ (status ≡ statuses.WriteFault)
      → IsUnasked end before now status

-- What is done of what was found out of the words and the source. That is what is asked for, or the end where this is not known, with the bench
-- as it was.
pub data RequestIsFinished (access : AccessKind) (asked : Result Requested Unasked) (old : Seen) (unchanged : Type 0) (before : Option (List ℕ))
    (after : After) : Type 0 where
  known : (x : Requested) → asked ≡ Ok x → IsFulfilled access x old unchanged before after → RequestIsFinished access asked old unchanged before after
  unknown : (end : Unasked) → asked ≡ Err end → IsUnasked end before after.written after.end → unchanged → RequestIsFinished access asked old unchanged before after

-- What every call keeps. The words alone decide on the usage, and whether the source is read; `untaken` says that it is the one that it
-- was. The bench is called in the modes that run alone; `unchanged` says that it is the one that it was. Each fault has its cause, and
-- one that comes is reported.
pub record IsFramed (call : BenchCall) (untaken unchanged : Type 0) : Type 0 where
  pub usage : call.end ≡ statuses.Usage → IsNoCommand call.words
  pub usage_only : IsNoCommand call.words → (call.end ≡ statuses.Usage) ⊎ (call.end ≡ statuses.WriteFault) ⊎ (call.end ≡ statuses.OutOfMemory)
  pub unread : (IsReadLine call.words → ⊥) → untaken
  pub taken : IsReadLine call.words → IsQuiet call.old.source_faults call.new.source_faults → call.end ≢ statuses.OutOfMemory → AreTaken call.old.left call.new.left
  pub bench_only_in_run : unchanged ⊎ IsRunLine call.words
  pub refusal_keeps_bench : call.end ≡ statuses.Refused → unchanged
  pub read_fault_keeps_bench : call.end ≡ statuses.ReadFault → unchanged
  pub source_fault_keeps_bench : (call.new.source_faults ≡ call.old.source_faults) ⊎ unchanged
  pub read : call.end ≡ statuses.ReadFault → Rose call.old.source_faults call.new.source_faults
  pub source_counted : (call.new.source_faults ≡ call.old.source_faults) ⊎ (call.end ≡ statuses.ReadFault) ⊎ (call.end ≡ statuses.WriteFault)
  pub sink : CountsSink call.old.sink_faults call.new.sink_faults call.end
  pub bench : CountsBench call.old.reported.faults call.new.reported.faults call.end

-- A whole call: what it does, and what it keeps.
pub record IsCall (access : AccessKind) (call : BenchCall) (untaken unchanged : Type 0) : Type 0 where
  pub asked : DoesWithBench access call unchanged
  pub frame : IsFramed call untaken unchanged
