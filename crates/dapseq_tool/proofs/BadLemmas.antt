-- What is known of a bad reply.
use Rattle.std.proofs.Common.{◌≡◌, ◌∙◌, ◌⊎◌, inl, inr, ℕ, List, Option, None, Some, refl, sym, ap, subst}
use Rattle.std.specs.Prelude.{IsSome}
use Rattle.probe_core.specs.Bench.{BenchState}
use Rattle.access_calls.specs.declared.ended.Ending.{Ending}
use Rattle.access_calls.specs.declared.ended.Ending.TheVariants as e
use Rattle.access_calls.specs.Opening.{HasBadReply}
use Rattle.job_runs.specs.Runs.{AccessKind, IsUnopened, JobComesTo, LeavesAs, not_opened, opened}
use Rattle.sequels.specs.declared.close.Close.{Close}
use Rattle.dapseq_tool.proofs.RunLemmas.{close_apart, putting_fails}
use Rattle.dapseq_tool.specs.Answers.{answer_status, answer_text, head_text, run_status}
use Rattle.dapseq_tool.specs.Headline.{After, BenchCall, DoesWhat, DoesWithBench, FailsWriting, HasRunAndReported, IsPut, IsRunTo, RunEnd, Runs, after_of, does, no_memory, not_headed, not_loaded, ran, unread}
use Rattle.dapseq_tool.specs.Success.{HasGotBadReply, left_by_run, run_from}
use Rattle.dapseq_tool.specs.declared.asking.Answer.{Answer}
use Rattle.dapseq_tool.specs.declared.asking.Answer.TheVariants as answers
use Rattle.dapseq_tool.specs.declared.asking.Run.{Run}
use Rattle.dapseq_tool.specs.declared.asking.What.{What}
use Rattle.dapseq_tool.specs.declared.asking.What.TheVariants as whats
use Rattle.dapseq_tool.specs.declared.status.Status.{Status}
use Rattle.dapseq_tool.specs.declared.status.Status.TheVariants as status
use Rattle.tool_calls.specs.Calls.{source_fault_line}

not_failing : (end : Status) → end ≡ status.ReplyBad → FailsWriting end → ⊥
not_failing end is h = subst FailsWriting is h

answers_well : (a : Answer) → answer_status a ≡ status.ReplyBad → ⊥
unfolding answer_status
answers_well answers.Usage is = cc is
answers_well answers.TooLong is = cc is
answers_well answers.NoSequence is = cc is
answers_well (answers.Refused r) is = cc is
answers_well (answers.CheckOk set) is = cc is
answers_well (answers.Audited audit) is = cc is
answers_well (answers.AuditRefused fault) is = cc is
answers_well answers.NoTrace is = cc is

bad_ending : (ending : Ending) (close : Close) → run_status ending close ≡ status.ReplyBad → ending ≡ e.ReplyBad
bad_ending e.Done close is = absurd ((close_apart close).1 is)
bad_ending (e.Halted cause) close is = absurd (cc is)
bad_ending (e.Cut report) close is = absurd (cc is)
bad_ending (e.BenchFault issued confirmed) close is = absurd (cc is)
bad_ending e.ReplyBad close is = refl
bad_ending e.WriteFault close is = absurd (cc is)
bad_ending e.OutOfMemory close is = absurd (cc is)

-- such a text has no such status
written_well : (old new : Option (List ℕ)) (text : List ℕ) (own end : Status) → (own ≡ status.ReplyBad → ⊥) → IsPut old new text own end → end ≡ status.ReplyBad → ⊥
written_well old new text own end none (inl h) is = none (sym h.0 ∙ is)
written_well old new text own end none (inr h) is = not_failing end is (putting_fails end h.0)

run_ending : (ending : Ending) (close : Close) (end : Status) → end ≡ status.ReplyBad → (end ≡ run_status ending close) ⊎ FailsWriting end → ending ≡ e.ReplyBad
run_ending ending close end is (inl h) = bad_ending ending close (sym h ∙ is)
run_ending ending close end is (inr h) = absurd (not_failing end is h)

-- an observable bench gives no bad reply
comes_well : (access : AccessKind) (run : Run) (before : Option (List ℕ)) (r : RunEnd) (a : After) (n : BenchState) → r.ended.ending ≡ e.ReplyBad
    → IsRunTo access run before r a n → ⊥
comes_well access run before r a n is h = elim h.comes [
  | not_opened o ↦ subst IsUnopened is o.ending
  | opened leaves ↦ subst (λ (x : Ending). LeavesAs x (run_from access run before) (left_by_run before r n)) is leaves
]

-- what is known of it by a run that ended so
by_run : (access : AccessKind) (call : BenchCall) (run : Run) (before : Option (List ℕ)) (r : RunEnd) → call.end ≡ status.ReplyBad
    → HasRunAndReported access run (IsSome call.old.state) call.old.reported before r (after_of call.new call.end) → HasGotBadReply call
by_run access call run before r is h =
    let bad = run_ending r.ended.ending r.close call.end is h.status in
    record { sent = r.sent; got = r.got; bad = h.bad bad; unseen = λ some. comes_well access run before r (after_of call.new call.end) _ bad (h.comes some).1 }

run_bad : (access : AccessKind) (call : BenchCall) (unchanged : Type 0) (number : Option ℕ) (run : Run) → call.end ≡ status.ReplyBad
    → Runs access call unchanged number run → HasGotBadReply call
run_bad access call unchanged number run is h = elim h [
  | not_headed some fails part same ↦ absurd (not_failing call.end is (putting_fails call.end fails))
  | not_loaded end head state ↦ absurd (by_end end)
  | ran before r head has ↦ by_run access call run before r is has
]
  where
    by_end : (call.end ≡ status.BenchFault) ⊎ (call.end ≡ status.OutOfMemory) → ⊥
    by_end (inl fault) = not_failing call.end is (subst FailsWriting (sym fault) tt)
    by_end (inr fault) = not_failing call.end is (subst FailsWriting (sym fault) tt)

what_bad : (access : AccessKind) (call : BenchCall) (unchanged : Type 0) (number : Option ℕ) (what : What) → call.end ≡ status.ReplyBad
    → DoesWhat access call unchanged number what → HasGotBadReply call
what_bad access call unchanged number (whats.Answer answer) is h = absurd (written_well call.old.written call.new.written _ (answer_status answer) call.end (answers_well answer) h.text is)
what_bad access call unchanged number (whats.Run run) is h = run_bad access call unchanged number run is h

fault_well : status.ReadFault ≡ status.ReplyBad → ⊥
fault_well e = cc e

memory_well : (end : Status) → end ≡ status.OutOfMemory → end ≡ status.ReplyBad → ⊥
memory_well end one two = let z : status.OutOfMemory ≡ status.ReplyBad = sym one ∙ two in cc

pub bad_reply : (access : AccessKind) (call : BenchCall) (unchanged : Type 0) → DoesWithBench access call unchanged → call.end ≡ status.ReplyBad → HasGotBadReply call
bad_reply access call unchanged d is = elim d [
  | does bytes asked are asks done ↦ what_bad access call unchanged asked.number asked.what is done
  | unread rose text same ↦ absurd (written_well call.old.written call.new.written source_fault_line status.ReadFault call.end fault_well text is)
  | no_memory memory text same ↦ absurd (memory_well call.end memory is)
]
