-- What was done by a call that nothing outside disturbed.
use Rattle.std.proofs.Common.{◌≡◌, ◌∙◌, ◌⊎◌, inl, inr, ℕ, ◌+◌, ◌-◌, ◌^◌, ◌<◌, ◌≤◌, min, List, ◌++◌, Bool, false, true, Option, None, Some, refl, sym, ap, subst}
use Rattle.std.specs.Prelude.{IsSome}
use Rattle.std.specs.Io.KnownBytes.{Appends}
use Rattle.dap_base.specs.Streams.{AppendsPrefix}
use Rattle.dap_base.proofs.Basics.{not_rose}
use Rattle.probe_core.specs.Bench.{BenchState}
use Rattle.access_calls.specs.declared.ended.Ending.{Ending}
use Rattle.access_calls.specs.declared.ended.Ending.TheVariants as e
use Rattle.job_runs.specs.Meant.{EndsAsMeant, FailedOutside}
use Rattle.job_runs.specs.Runs.{AccessKind, IsNotOpened, IsUnopened, LeavesAs, not_opened, opened}
use Rattle.job_runs.proofs.MeantLemmas.{ends_as_meant}
use Rattle.sequels.specs.declared.close.Close.{Close}
use Rattle.dapseq_tool.proofs.RunLemmas.{put_written, putting_fails}
use Rattle.dapseq_tool.specs.Answers.{answer_status, answer_text, head_text, run_status}
use Rattle.dapseq_tool.specs.Headline.{After, BenchCall, DoesWhat, DoesWithBench, FailsWriting, HasRunAndReported, IsRunTo, IsWritten, RunEnd, Runs, WritesAnswer, after_of, does, no_memory, not_headed, not_loaded, ran, unread}
use Rattle.dapseq_tool.specs.Success.{AnswerIsWritten, HasCauses, HasRunAsMeant, IsQuietCall, RequestIsDone, Success, left_by_run, run_from}
use Rattle.dapseq_tool.specs.declared.asking.Answer.{Answer}
use Rattle.dapseq_tool.specs.declared.asking.Run.{Run}
use Rattle.dapseq_tool.specs.declared.asking.What.{What}
use Rattle.dapseq_tool.specs.declared.asking.What.TheVariants as whats
use Rattle.dapseq_tool.specs.declared.status.Status.{Status}
use Rattle.dapseq_tool.specs.declared.status.Status.TheVariants as status

-- ---- a quiet call

fails_by : (end : Status) → (end ≡ status.BenchFault → ⊥) → (end ≡ status.WriteFault → ⊥) → (end ≡ status.OutOfMemory → ⊥) → FailsWriting end → ⊥
fails_by status.Done b w m h = h
fails_by status.Refused b w m h = h
fails_by status.Usage b w m h = h
fails_by status.Stopped b w m h = h
fails_by status.BenchFault b w m h = b refl
fails_by status.ReadFault b w m h = h
fails_by status.WriteFault b w m h = w refl
fails_by status.OutOfMemory b w m h = m refl
fails_by status.ReplyBad b w m h = h

no_failure : (call : BenchCall) → IsQuietCall call → HasCauses call → FailsWriting call.end → ⊥
no_failure call quiet causes fails =
    fails_by call.end
    (λ is. not_rose call.old.reported.faults call.new.reported.faults quiet.bench (causes.bench is))
    (λ is. not_rose call.old.sink_faults call.new.sink_faults quiet.sink (causes.write is)) quiet.memory fails

-- a text that was written whole
whole : (old new : Option (List ℕ)) (text : List ℕ) (own end : Status) → (FailsWriting end → ⊥) → IsWritten old new text own end → (end ≡ own) × Appends old new text
whole old new text own end none (inl h) = (h.0, h.1)
whole old new text own end none (inr h) = absurd (none h.0)

outside_fails : (ending : Ending) (close : Close) → FailedOutside ending → FailsWriting (run_status ending close)
outside_fails e.Done close h = absurd h
outside_fails (e.Halted cause) close h = absurd h
outside_fails (e.Cut report) close h = absurd h
outside_fails (e.BenchFault issued confirmed) close h = tt
outside_fails e.ReplyBad close h = absurd h
outside_fails e.WriteFault close h = tt
outside_fails e.OutOfMemory close h = tt

unopened_outside : (ending : Ending) → IsUnopened ending → FailedOutside ending
unopened_outside e.Done h = absurd h
unopened_outside (e.Halted cause) h = absurd h
unopened_outside (e.Cut report) h = absurd h
unopened_outside (e.BenchFault issued confirmed) h = tt
unopened_outside e.ReplyBad h = absurd h
unopened_outside e.WriteFault h = absurd h
unopened_outside e.OutOfMemory h = tt

module _ (access : AccessKind) (call : BenchCall) (number : Option ℕ) (run : Run) (none : FailsWriting call.end → ⊥) where
  -- nothing outside failed where the status says no such fault
  not_outside : (ending : Ending) (close : Close) → call.end ≡ run_status ending close → FailedOutside ending → ⊥
  not_outside ending close is h = none (subst FailsWriting (sym is) (outside_fails ending close h))

  as_it_is : (before : Option (List ℕ)) (r : RunEnd) (n : BenchState) → LeavesAs r.ended.ending (run_from access run before) (left_by_run before r n)
      → call.end ≡ run_status r.ended.ending r.close → EndsAsMeant (run_from access run before) (left_by_run before r n)
  as_it_is before r n leaves is = ends_as_meant r.ended.ending (run_from access run before) (left_by_run before r n) refl leaves (not_outside r.ended.ending r.close is)

  as_meant : (before : Option (List ℕ)) (r : RunEnd) (n : BenchState) → Appends call.old.written before (head_text number)
      → IsRunTo access run before r (after_of call.new call.end) n → HasRunAsMeant access call number run
  as_meant before r n head h =
      let put = whole r.written call.new.written _ (run_status r.ended.ending r.close) call.end none h.text in
      elim h.comes [
        | not_opened o ↦ absurd (not_outside r.ended.ending r.close put.0 (unopened_outside r.ended.ending o.ending))
        | opened leaves ↦ record {
          before = before;
          head = head;
          r = r;
          last = n;
          state = h.state;
          meant = as_it_is before r n leaves put.0;
          none_over = (as_it_is before r n leaves put.0).none_over;
          text = put.1;
          close = h.close;
          status = put.0;
        }
      ]

  run_done : (unchanged : Type 0) → IsSome call.old.state → Runs access call unchanged number run → HasRunAsMeant access call number run
  run_done unchanged some h = elim h [
    | not_headed headed fails part same ↦ absurd (none (putting_fails call.end fails))
    | not_loaded end head state ↦ absurd (by_end end)
    | ran before r head has ↦ let x = has.comes some in as_meant before r x.0 head x.1
  ]
    where
      by_end : (call.end ≡ status.BenchFault) ⊎ (call.end ≡ status.OutOfMemory) → ⊥
      by_end (inl is) = none (subst FailsWriting (sym is) tt)
      by_end (inr is) = none (subst FailsWriting (sym is) tt)

what_done : (access : AccessKind) (call : BenchCall) (unchanged : Type 0) (number : Option ℕ) (what : What) → (FailsWriting call.end → ⊥) → IsSome call.old.state
    → DoesWhat access call unchanged number what → RequestIsDone access call number what
what_done access call unchanged number (whats.Answer answer) none some h =
    let put = whole call.old.written call.new.written (head_text number ++ answer_text answer) (answer_status answer) call.end none (put_written call.old.written call.new.written (head_text number ++ answer_text answer) (answer_status answer) call.end h.text) in
    record { text = put.1; status = put.0 }
what_done access call unchanged number (whats.Run run) none some h = run_done access call number run none unchanged some h

pub success : (access : AccessKind) (call : BenchCall) (unchanged : Type 0) → DoesWithBench access call unchanged → HasCauses call → Success access call
success access call unchanged d causes = λ quiet some. elim d [
  | does bytes asked are asks done ↦ (bytes, asked, are, asks, what_done access call unchanged asked.number asked.what (no_failure call quiet causes) some done)
  | unread rose text same ↦ absurd (not_rose call.old.source_faults call.new.source_faults quiet.source rose)
  | no_memory is text same ↦ absurd (quiet.memory is)
]
