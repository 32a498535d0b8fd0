-- What is asked for is what was done.
use Rattle.std.proofs.Common.{◌≡◌, ◌∙◌, ◌⊎◌, inl, inr, ℕ, List, ◌++◌, Option, Ok, Err, refl, sym, ap, subst}
use Rattle.std.specs.Prelude.{IsSome}
use Rattle.std.specs.Io.KnownBytes.{Appends}
use Rattle.dap_base.specs.Streams.{AppendsPrefix}
use Rattle.probe_core.specs.Bench.{Seen}
use Rattle.text_lines.proofs.PutLemmas.{prefix_first, put_after}
use Rattle.text_lines.specs.declared.putting.TextError.{TextError}
use Rattle.text_lines.specs.declared.putting.TextError.TheVariants as errors
use Rattle.dapseq_tool.specs.Answers.{answer_status, answer_text, head_text}
use Rattle.dapseq_tool.specs.Asked.{AsksForRequest}
use Rattle.dapseq_tool.specs.Headline.{BenchCall, DoesWhat, DoesWithBench, FailsPutting, IsPut, Runs, after_of, does, not_headed, not_loaded, ran}
use Rattle.job_source.specs.Source.{AreBytesOf}
use Rattle.dapseq_tool.specs.RunEnds as after
use Rattle.dapseq_tool.specs.RunEnds.{AskedRun, DoesAfter}
use Rattle.dapseq_tool.specs.declared.asking.Answer.{Answer}
use Rattle.dapseq_tool.specs.declared.asking.Requested.{Requested}
use Rattle.dapseq_tool.specs.declared.asking.Run.{Run}
use Rattle.dapseq_tool.specs.declared.asking.What.{What}
use Rattle.dapseq_tool.specs.declared.asking.What.TheVariants as whats
use Rattle.dapseq_tool.specs.declared.status.Status.{Status}
use Rattle.job_runs.specs.Runs.{AccessKind}

-- ---- texts

-- a text after one that was put whole
pub then_put : (old mid new : Option (List ℕ)) (first second : List ℕ) (own end : Status) → Appends old mid first → IsPut mid new second own end → IsPut old new (first ++ second) own end
then_put old mid new first second own end put (inl h) = inl (h.0, put_after {E = TextError} old mid new (Ok tt) first second put h.1)
then_put old mid new first second own end put (inr h) = inr (h.0, put_after {E = TextError} old mid new (Err errors.Failed) first second put h.1)

-- ---- what is asked for

-- after the first line
pub what_is_done : (access : AccessKind) (call : BenchCall) (unchanged : Type 0) (number : Option ℕ) (what : What) (old : Seen) (mid : Option (List ℕ))
    → old ≡ record { reported = call.old.reported; state = call.old.state } → Appends call.old.written mid (head_text number)
    → DoesAfter access what old unchanged mid (after_of call.new call.end) → DoesWhat access call unchanged number what
what_is_done access call unchanged number (whats.Answer answer) old mid is head h =
    record { text = then_put call.old.written mid call.new.written (head_text number) (answer_text answer) (answer_status answer) call.end head h.0; bench = h.1 }
what_is_done access call unchanged number (whats.Run run) old mid is head h =
    by_run (subst (λ (o : Seen). AskedRun access run o mid (after_of call.new call.end)) is h)
  where
    by_run : AskedRun access run (record { reported = call.old.reported; state = call.old.state }) mid (after_of call.new call.end) → Runs access call unchanged number run
    by_run x = elim x [
      | after.not_loaded end same state ↦ not_loaded end (subst (λ (w : Option (List ℕ)). Appends call.old.written w (head_text number)) (sym same) head) state
      | after.ran r has ↦ ran mid r head has
    ]

-- where the first line is not written whole
pub what_is_begun : (access : AccessKind) (call : BenchCall) (unchanged : Type 0) (number : Option ℕ) (what : What) → IsSome number → FailsPutting call.end
    → AppendsPrefix call.old.written call.new.written (head_text number) → unchanged → DoesWhat access call unchanged number what
what_is_begun access call unchanged number (whats.Answer answer) some fails part same =
    record { text = inr (fails, prefix_first call.old.written call.new.written (head_text number) (answer_text answer) part); bench = same }
what_is_begun access call unchanged number (whats.Run run) some fails part same = not_headed some fails part same

pub is_done : (access : AccessKind) (call : BenchCall) (unchanged : Type 0) (asked : Requested) → ((bytes : List ℕ) × AreBytesOf call.old.left bytes × AsksForRequest call.words bytes asked)
    → DoesWhat access call unchanged asked.number asked.what → DoesWithBench access call unchanged
is_done access call unchanged asked known done = does known.0 asked known.1 known.2 done
