-- What calls keep: how faults are counted, and what follows for a whole call.
use Rattle.std.proofs.Common.{◌≡◌, ◌∙◌, ◌⊎◌, inl, inr, ℕ, ◌+◌, ◌-◌, ◌^◌, ◌<◌, ◌≤◌, min, List, Option, Result, Ok, Err, refl, sym, ap, subst}
use Rattle.std.specs.Prelude.{◌≢◌, IfOk, IsErrOf, OnOk}
use Rattle.dap_base.specs.Causes.{Rose}
use Rattle.dap_base.proofs.Basics.{not_rose}
use Rattle.text_lines.specs.Causes.{NamesFault}
use Rattle.text_lines.specs.declared.putting.TextError.{TextError}
use Rattle.text_lines.specs.declared.putting.TextError.TheVariants as errors
use Rattle.probe_core.specs.Bench.{Seen}
use Rattle.job_check.specs.declared.answer.Refusal.{Refusal}
use Rattle.sequence_resolve.specs.declared.entry.SeqSet.{SeqSet}
use Rattle.job_runs.specs.Runs.{AccessKind}
use Rattle.dapseq_tool.specs.Answers.{IsAnswerStatus, IsRunStatus, answer_status, failed_status}
use Rattle.dapseq_tool.specs.Asked.{IsNoCommand, IsReadLine, IsRunLine, IsSoundAnswer, IsSoundRequest, IsSoundRun, IsSoundWhat, OnRun}
use Rattle.dapseq_tool.specs.Frame as frame
use Rattle.dapseq_tool.specs.Frame.{CountsBench, CountsSink, RequestIsAsked, IsFit, RequestIsFinished, IsFramed, IsFulfilled, IsStatusFor, IsUnasked, known, memory, performed, source, unknown}
use Rattle.dapseq_tool.proofs.CallLemmas.{is_done, what_is_begun, what_is_done}
use Rattle.dapseq_tool.specs.Headline.{After, BenchCall, DoesWithBench, FailsPutting, FailsWriting, IsPut, after_of, no_memory, unread}
use Rattle.job_source.specs.Source.{AreTaken}
use Rattle.dapseq_tool.specs.RunEnds.{DoesAfter}
use Rattle.dapseq_tool.specs.declared.asking.Answer.{Answer}
use Rattle.dapseq_tool.specs.declared.asking.Answer.TheVariants as answers
use Rattle.dapseq_tool.specs.declared.asking.Requested.{Requested}
use Rattle.dapseq_tool.specs.declared.asking.Run.{Run}
use Rattle.tool_calls.specs.declared.unasked.Unasked.{Unasked}
use Rattle.tool_calls.specs.declared.unasked.Unasked.TheVariants as unasked
use Rattle.dapseq_tool.specs.declared.asking.What.{What}
use Rattle.dapseq_tool.specs.declared.asking.What.TheVariants as whats
use Rattle.dapseq_tool.specs.declared.status.Status.{Status}
use Rattle.dapseq_tool.specs.declared.status.Status.TheVariants as status

-- ---- statuses

pub putting_is : (end : Status) → FailsPutting end → (end ≡ status.WriteFault) ⊎ (end ≡ status.OutOfMemory)
putting_is status.Done h = absurd h
putting_is status.Refused h = absurd h
putting_is status.Usage h = absurd h
putting_is status.Stopped h = absurd h
putting_is status.BenchFault h = absurd h
putting_is status.ReadFault h = absurd h
putting_is status.WriteFault h = inl refl
putting_is status.OutOfMemory h = inr refl
putting_is status.ReplyBad h = absurd h

putting_answers : (end : Status) → FailsPutting end → IsAnswerStatus end
putting_answers status.Done h = absurd h
putting_answers status.Refused h = absurd h
putting_answers status.Usage h = absurd h
putting_answers status.Stopped h = absurd h
putting_answers status.BenchFault h = absurd h
putting_answers status.ReadFault h = absurd h
putting_answers status.WriteFault h = tt
putting_answers status.OutOfMemory h = tt
putting_answers status.ReplyBad h = absurd h

-- the status of an answer that is written is one of answers
answer_among : (a : Answer) → IsAnswerStatus (answer_status a)
unfolding answer_status
answer_among answers.Usage = tt
answer_among answers.TooLong = tt
answer_among answers.NoSequence = tt
answer_among (answers.Refused r) = tt
answer_among (answers.CheckOk set) = tt
answer_among (answers.Audited audit) = tt
answer_among (answers.AuditRefused fault) = tt
answer_among answers.NoTrace = tt

-- only the usage has its status
usage_status : (a : Answer) → answer_status a ≡ status.Usage → a ≡ answers.Usage
unfolding answer_status
usage_status answers.Usage is = refl
usage_status answers.TooLong is = absurd (cc is)
usage_status answers.NoSequence is = absurd (cc is)
usage_status (answers.Refused r) is = absurd (cc is)
usage_status (answers.CheckOk set) is = absurd (cc is)
usage_status (answers.Audited audit) is = absurd (cc is)
usage_status (answers.AuditRefused fault) is = absurd (cc is)
usage_status answers.NoTrace is = absurd (cc is)

status_of_usage : answer_status answers.Usage ≡ status.Usage
unfolding answer_status
status_of_usage = refl

pub inner : (a b : Answer) → whats.Answer a ≡ whats.Answer b → a ≡ b
inner a b e = cc

module _ (old new : Option (List ℕ)) (text : List ℕ) (a : Answer) (end : Status) (put : IsPut old new text (answer_status a) end) where
  pub put_among : IsAnswerStatus end
  put_among = elim put [ inl h ↦ subst IsAnswerStatus (sym h.0) (answer_among a) | inr h ↦ putting_answers end h.0 ]

  -- an answer that is written so ends with a status that it can have
  put_usage : end ≡ status.Usage → whats.Answer a ≡ whats.Answer answers.Usage
  put_usage is = elim put [ inl h ↦ ap whats.Answer (usage_status a (sym h.0 ∙ is)) | inr h ↦ absurd (subst FailsPutting is h.0) ]

  put_usage_only : whats.Answer a ≡ whats.Answer answers.Usage → (end ≡ status.Usage) ⊎ (end ≡ status.WriteFault) ⊎ (end ≡ status.OutOfMemory)
  put_usage_only is = elim put [ inl h ↦ inl (h.0 ∙ ap answer_status (inner a answers.Usage is) ∙ status_of_usage) | inr h ↦ inr (putting_is end h.0) ]

  pub status_of_answer : IsStatusFor (whats.Answer a) end
  status_of_answer = record {
    run = tt;
    usage = put_usage;
    usage_only = put_usage_only;
    unread = λ is. subst IsAnswerStatus is put_among;
  }

  pub none_of_bench_answer : (n : ℕ) → CountsBench n n end
  none_of_bench_answer n = record { cause = λ is. absurd (subst IsAnswerStatus is put_among); counted = inl refl }

no_fault : (a : Answer) → answer_status a ≡ status.WriteFault → ⊥
unfolding answer_status
no_fault answers.Usage e = cc e
no_fault answers.TooLong e = cc e
no_fault answers.NoSequence e = cc e
no_fault (answers.Refused r) e = cc e
no_fault (answers.CheckOk set) e = cc e
no_fault (answers.Audited audit) e = cc e
no_fault (answers.AuditRefused fault) e = cc e
no_fault answers.NoTrace e = cc e

-- an answer that is written whole ends with no fault of the sink
pub own_no_fault : (a : Answer) (end : Status) → end ≡ answer_status a → end ≢ status.WriteFault
own_no_fault a end is fault = no_fault a (sym is ∙ fault)

pub status_for : (what one : What) (end : Status) → what ≡ one → IsStatusFor one end → IsStatusFor what end
status_for what one end is h = subst (λ (w : What). IsStatusFor w end) (sym is) h

pub does_what : (access : AccessKind) (what one : What) (old : Seen) (unchanged : Type 0) (before : Option (List ℕ)) (after : After) → what ≡ one
    → DoesAfter access one old unchanged before after → DoesAfter access what old unchanged before after
does_what access what one old unchanged before after is h = subst (λ (w : What). DoesAfter access w old unchanged before after) (sym is) h

pub status_of_run : (run : Run) (end : Status) → IsRunStatus end → IsStatusFor (whats.Run run) end
status_of_run run end among = record {
  run = among;
  usage = λ is. absurd (subst IsRunStatus is among);
  usage_only = λ is. absurd (let z : whats.Run run ≡ whats.Answer answers.Usage = is in cc);
  unread = λ is. subst IsRunStatus is among;
}

-- ---- counts of faults

pub none_of_bench : (n : ℕ) (end : Status) → end ≢ status.BenchFault → CountsBench n n end
none_of_bench n end none = record { cause = λ is. absurd (none is); counted = inl refl }

pub putting_no_bench : (n : ℕ) (end : Status) → FailsPutting end → CountsBench n n end
putting_no_bench n end fails = none_of_bench n end (λ is. subst FailsPutting is fails)

pub none_of_sink : (n : ℕ) (end : Status) → end ≢ status.WriteFault → CountsSink n n end
none_of_sink n end none = record { cause = λ is. absurd (none is); counted = inl refl }

pub sink_same : (a b : ℕ) (end : Status) → b ≡ a → end ≢ status.WriteFault → CountsSink a b end
sink_same a b end same none = record { cause = λ is. absurd (none is); counted = inl same }

-- after a call that kept the count
pub sink_after : (a b c : ℕ) (end : Status) → b ≡ a → CountsSink b c end → CountsSink a c end
sink_after a b c end same h = subst (λ (n : ℕ). CountsSink n c end) same h

failed_is : (e : TextError) → failed_status e ≡ status.WriteFault → e ≡ errors.Failed
failed_is errors.Failed is = refl
failed_is errors.OutOfMemory is = absurd (cc is)

pub failed_fails : (e : TextError) (end : Status) → end ≡ failed_status e → FailsPutting end
failed_fails errors.Failed end is = subst FailsPutting (sym is) tt
failed_fails errors.OutOfMemory end is = subst FailsPutting (sym is) tt

-- a text that was not written whole
pub failed_counts : {T : Type 0} (e : TextError) (end : Status) (a b : ℕ) → end ≡ failed_status e → NamesFault {T = T} errors.Failed a b (Err e) → CountsSink a b end
failed_counts e end a b is names = record {
  cause = λ fault. names.failed (ap Err (failed_is e (sym is ∙ fault)));
  counted = elim names.else [ inl h ↦ inr (is ∙ ap failed_status h) | inr same ↦ inl same ];
}

-- where memory was refused while the source was read
pub quiet_memory : {T : Type 0} (e : Unasked) (a b : ℕ) → e ≡ unasked.OutOfMemory → NamesFault {T = T} unasked.ReadFault a b (Err e) → b ≡ a
quiet_memory e a b is names = elim names.else [ inl fault ↦ absurd (let z : unasked.OutOfMemory ≡ unasked.ReadFault = sym is ∙ fault in cc) | inr same ↦ same ]

-- ---- what is asked for

module _ (runs : Type 0) where
  pub fit_answer : (a : Answer) → IsSoundAnswer a → a ≢ answers.Usage → IsFit runs (whats.Answer a)
  unfolding IsSoundWhat
  fit_answer a sound used = record { sound = record { so = sound }; run = tt; used = λ is. used (inner a answers.Usage is) }

  pub fit_run : (run : Run) → IsSoundRun run → runs → IsFit runs (whats.Run run)
  unfolding IsSoundWhat
  fit_run run sound so = record { sound = record { so = sound }; run = so; used = λ is. let z : whats.Run run ≡ whats.Answer answers.Usage = is in cc }

  pub fit_refused : (r : Refusal) → IsFit runs (whats.Answer (answers.Refused r))
  unfolding IsSoundAnswer
  fit_refused r = fit_answer (answers.Refused r) tt (λ is. cc is)

  pub fit_check_ok : (set : SeqSet) → IsFit runs (whats.Answer (answers.CheckOk set))
  unfolding IsSoundAnswer
  fit_check_ok set = fit_answer (answers.CheckOk set) tt (λ is. cc is)

  pub fit_too_long : IsFit runs (whats.Answer answers.TooLong)
  unfolding IsSoundAnswer
  fit_too_long = fit_answer answers.TooLong tt (λ is. cc is)

pub plain : (a : Answer) → IsSoundAnswer a → IsSoundRequest (whats.Answer a)
unfolding IsSoundWhat
plain a sound = record { so = sound }

pub on_run_so : (p q : Type 0) → (p → q) → (what : What) → OnRun what (λ run. p) → OnRun what (λ run. q)
on_run_so p q so (whats.Answer a) h = tt
on_run_so p q so (whats.Run run) h = so h

pub fit_so : (p q : Type 0) → (p → q) → (what : What) → IsFit p what → IsFit q what
fit_so p q so what h = record { sound = h.sound; run = on_run_so p q so what h.run; used = h.used }

pub all_fit_so : {E : Type 0} (p q : Type 0) → (p → q) → (r : Result What E) → IfOk r (IsFit p) → IfOk r (IsFit q)
all_fit_so p q so (Ok what) h = fit_so p q so what h
all_fit_so p q so (Err e) h = tt

sound_answer : (a : Answer) → IsSoundRequest (whats.Answer a) → IsSoundAnswer a
unfolding IsSoundWhat
sound_answer a h = h.so

sound_run : (run : Run) → IsSoundRequest (whats.Run run) → IsSoundRun run
unfolding IsSoundWhat
sound_run run h = h.so

pub sound_by_answer : (what : What) (a : Answer) → what ≡ whats.Answer a → IsSoundRequest what → IsSoundAnswer a
sound_by_answer what a is h = sound_answer a (subst IsSoundRequest is h)

pub sound_by_run : (what : What) (run : Run) → what ≡ whats.Run run → IsSoundRequest what → IsSoundRun run
sound_by_run what run is h = sound_run run (subst IsSoundRequest is h)

-- ---- a whole call

module _ (call : BenchCall) (untaken unchanged : Type 0) where
  -- The bench is the one that it was, the source did not fail, and a line was not written whole, or memory was refused.
  pub framed_failed : FailsPutting call.end → ((IsReadLine call.words → ⊥) → untaken)
      → (IsReadLine call.words → call.end ≢ status.OutOfMemory → AreTaken call.old.left call.new.left) → unchanged
      → call.new.source_faults ≡ call.old.source_faults → CountsSink call.old.sink_faults call.new.sink_faults call.end
      → CountsBench call.old.reported.faults call.new.reported.faults call.end → IsFramed call untaken unchanged
  framed_failed fails unread_by taken same quiet sink bench = record {
    usage = λ is. absurd (subst FailsPutting is fails);
    usage_only = λ none. inr (putting_is call.end fails);
    unread = unread_by;
    taken = λ line still some. taken line some;
    bench_only_in_run = inl same;
    refusal_keeps_bench = λ is. same;
    read_fault_keeps_bench = λ is. same;
    source_fault_keeps_bench = inl quiet;
    read = λ is. absurd (subst FailsPutting is fails);
    source_counted = inl quiet;
    sink = sink;
    bench = bench;
  }

  unread_no_usage : (call.end ≡ status.ReadFault) ⊎ (call.end ≡ status.WriteFault) → call.end ≡ status.Usage → ⊥
  unread_no_usage (inl e) is = let z : status.ReadFault ≡ status.Usage = sym e ∙ is in cc
  unread_no_usage (inr e) is = let z : status.WriteFault ≡ status.Usage = sym e ∙ is in cc

  -- the source failed
  pub framed_unread : (call.end ≡ status.ReadFault) ⊎ (call.end ≡ status.WriteFault) → IsReadLine call.words → Rose call.old.source_faults call.new.source_faults → unchanged
      → CountsSink call.old.sink_faults call.new.sink_faults call.end → CountsBench call.old.reported.faults call.new.reported.faults call.end → IsFramed call untaken unchanged
  framed_unread ends line rose same sink bench = record {
    usage = λ is. absurd (unread_no_usage ends is);
    usage_only = λ none. absurd (none line.0 line.1);
    unread = λ none. absurd (none line);
    taken = λ line quiet some. absurd (not_rose call.old.source_faults call.new.source_faults quiet rose);
    bench_only_in_run = inl same;
    refusal_keeps_bench = λ is. same;
    read_fault_keeps_bench = λ is. same;
    source_fault_keeps_bench = inr same;
    read = λ is. rose;
    source_counted = inr ends;
    sink = sink;
    bench = bench;
  }

  kept_or_run : (access : AccessKind) (what : What) (old : Seen) (before : Option (List ℕ)) (after : After) (P : Type 0) → DoesAfter access what old unchanged before after → OnRun what (λ run. P) → unchanged ⊎ P
  kept_or_run access (whats.Answer a) old before after P h runs = inl h.1
  kept_or_run access (whats.Run run) old before after P h runs = inr runs

  kept_unless : (P : Type 0) → unchanged ⊎ P → (P → ⊥) → unchanged
  kept_unless P (inl same) none = same
  kept_unless P (inr so) none = absurd (none so)

  -- what is asked for was done
  pub framed_done : (access : AccessKind) (asked : Requested) (old : Seen) (before : Option (List ℕ)) (after : After) → RequestIsAsked call.words call.old.left asked
      → ((IsReadLine call.words → ⊥) → untaken) → (IsReadLine call.words → AreTaken call.old.left call.new.left) → DoesAfter access asked.what old unchanged before after
      → IsStatusFor asked.what call.end → call.new.source_faults ≡ call.old.source_faults → CountsSink call.old.sink_faults call.new.sink_faults call.end
      → CountsBench call.old.reported.faults call.new.reported.faults call.end → IsFramed call untaken unchanged
  framed_done access asked old before after is unread_by taken done end quiet sink bench = record {
    usage = λ h. is.usage (end.usage h);
    usage_only = λ none. end.usage_only (is.usage_only none);
    unread = unread_by;
    taken = λ line still some. taken line;
    bench_only_in_run = kept_or_run access asked.what old before after (IsRunLine call.words) done is.run;
    refusal_keeps_bench = λ h. kept_unless (IsRunStatus call.end) (kept_or_run access asked.what old before after (IsRunStatus call.end) done end.run) (subst IsRunStatus h);
    read_fault_keeps_bench = λ h. absurd (end.unread h);
    source_fault_keeps_bench = inl quiet;
    read = λ h. absurd (end.unread h);
    source_counted = inl quiet;
    sink = sink;
    bench = bench;
  }

-- ---- the parts of a call

-- a call that is not asked for anything ends with no fault of the bench
pub no_bench_unasked : (end : Unasked) (before now : Option (List ℕ)) (s : Status) (n : ℕ) → IsUnasked end before now s → CountsBench n n s
no_bench_unasked end before now s n h = elim h [
  | memory is done same ↦ none_of_bench n s (λ fault. let z : status.OutOfMemory ≡ status.BenchFault = sym done ∙ fault in cc)
  | source is put ends ↦ none_of_bench n s (unread_no_bench s ends)
]
  where
    unread_no_bench : (s : Status) → (s ≡ status.ReadFault) ⊎ (s ≡ status.WriteFault) → s ≢ status.BenchFault
    unread_no_bench s (inl e) is = let z : status.ReadFault ≡ status.BenchFault = sym e ∙ is in cc
    unread_no_bench s (inr e) is = let z : status.WriteFault ≡ status.BenchFault = sym e ∙ is in cc

module _ (access : AccessKind) (call : BenchCall) (untaken unchanged : Type 0) where
  pub fulfilled : (asked : Requested) → RequestIsAsked call.words call.old.left asked
      → IsFulfilled access asked (record { reported = call.old.reported; state = call.old.state }) unchanged call.old.written (after_of call.new call.end) → DoesWithBench access call unchanged
  fulfilled asked is h = elim h [
    | performed mid head done status_is ↦ is_done access call unchanged asked is.asks
        (what_is_done access call unchanged asked.number asked.what (record { reported = call.old.reported; state = call.old.state }) mid refl head done)
    | frame.not_headed some fails part same ↦ is_done access call unchanged asked is.asks (what_is_begun access call unchanged asked.number asked.what some fails part same)
  ]

  pub fulfilled_framed : (asked : Requested) → RequestIsAsked call.words call.old.left asked
      → ((IsReadLine call.words → ⊥) → untaken) → (IsReadLine call.words → AreTaken call.old.left call.new.left)
      → call.new.source_faults ≡ call.old.source_faults → CountsSink call.old.sink_faults call.new.sink_faults call.end
      → CountsBench call.old.reported.faults call.new.reported.faults call.end
      → IsFulfilled access asked (record { reported = call.old.reported; state = call.old.state }) unchanged call.old.written (after_of call.new call.end) → IsFramed call untaken unchanged
  fulfilled_framed asked is unread_by taken quiet sink bench h = elim h [
    | performed mid head done status_is ↦
        framed_done call untaken unchanged access asked (record { reported = call.old.reported; state = call.old.state }) mid (after_of call.new call.end) is unread_by taken done status_is quiet sink bench
    | frame.not_headed some fails part same ↦ framed_failed call untaken unchanged fails unread_by (λ line some. taken line) same quiet sink bench
  ]

  pub unasked_done : {T : Type 0} (end : Unasked) → NamesFault {T = T} unasked.ReadFault call.old.source_faults call.new.source_faults (Err end) → unchanged
      → IsUnasked end call.old.written call.new.written call.end → DoesWithBench access call unchanged
  unasked_done end names same h = elim h [
    | memory is done nothing ↦ no_memory done nothing same
    | source is put ends ↦ unread (names.failed (ap Err is)) put same
  ]

  pub unasked_framed : {T : Type 0} (end : Unasked) → NamesFault {T = T} unasked.ReadFault call.old.source_faults call.new.source_faults (Err end)
      → ((IsReadLine call.words → ⊥) → untaken) → (end ≡ unasked.ReadFault → IsReadLine call.words) → unchanged → CountsSink call.old.sink_faults call.new.sink_faults call.end
      → CountsBench call.old.reported.faults call.new.reported.faults call.end → IsUnasked end call.old.written call.new.written call.end → IsFramed call untaken unchanged
  unasked_framed end names unread_by line same sink bench h = elim h [
    | memory is done nothing ↦
        framed_failed call untaken unchanged (subst FailsPutting (sym done) tt) unread_by (λ line some. absurd (some done)) same
        (quiet_memory end call.old.source_faults call.new.source_faults is names) sink bench
    | source is put ends ↦ framed_unread call untaken unchanged ends (line is) (names.failed (ap Err is)) same sink bench
  ]

  -- the words and the source, as they were read
  module _ (r : Result Requested Unasked) (asks : IfOk r (RequestIsAsked call.words call.old.left)) (names : NamesFault unasked.ReadFault call.old.source_faults call.new.source_faults r) where
    pub finished : RequestIsFinished access r (record { reported = call.old.reported; state = call.old.state }) unchanged call.old.written (after_of call.new call.end) → DoesWithBench access call unchanged
    finished h = elim h [
      | known x is done ↦ fulfilled x (subst (λ (q : Result Requested Unasked). IfOk q (RequestIsAsked call.words call.old.left)) is asks) done
      | unknown end is done same ↦
          unasked_done {T = Requested} end (subst (λ (q : Result Requested Unasked). NamesFault unasked.ReadFault call.old.source_faults call.new.source_faults q) is names) same done
    ]

    pub finished_framed : ((IsReadLine call.words → ⊥) → untaken) → OnOk r (IsReadLine call.words → AreTaken call.old.left call.new.left)
        → (IsErrOf r unasked.ReadFault → IsReadLine call.words) → CountsSink call.old.sink_faults call.new.sink_faults call.end
        → CountsBench call.old.reported.faults call.new.reported.faults call.end
        → RequestIsFinished access r (record { reported = call.old.reported; state = call.old.state }) unchanged call.old.written (after_of call.new call.end) → IsFramed call untaken unchanged
    finished_framed unread_by taken fault sink bench h = elim h [
      | known x is done ↦
          fulfilled_framed x (subst (λ (q : Result Requested Unasked). IfOk q (RequestIsAsked call.words call.old.left)) is asks) unread_by
          (subst (λ (q : Result Requested Unasked). OnOk q (IsReadLine call.words → AreTaken call.old.left call.new.left)) is taken)
          (subst (λ (q : Result Requested Unasked). NamesFault unasked.ReadFault call.old.source_faults call.new.source_faults q) is names).else sink bench done
      | unknown end is done same ↦
          unasked_framed {T = Requested} end (subst (λ (q : Result Requested Unasked). NamesFault unasked.ReadFault call.old.source_faults call.new.source_faults q) is names) unread_by
          (λ failed. fault (is ∙ ap Err failed)) same sink bench done
    ]

pub sound_asked : {E : Type 0} (words : List (List ℕ)) (left : Option (List ℕ)) (r : Result Requested E) → IfOk r (RequestIsAsked words left) → IfOk r (λ asked. IsSoundRequest asked.what)
sound_asked words left (Ok asked) h = h.sound
sound_asked words left (Err e) h = tt

pub sound_by : (r : Result Requested Unasked) (x : Requested) → r ≡ Ok x → IfOk r (λ asked. IsSoundRequest asked.what) → IsSoundRequest x.what
sound_by r x is h = subst (λ (q : Result Requested Unasked). IfOk q (λ asked. IsSoundRequest asked.what)) is h

-- a bench that is the one that it was in other words
pub framed_so : (call : BenchCall) (untaken u v : Type 0) → (u → v) → IsFramed call untaken u → IsFramed call untaken v
framed_so call untaken u v so h = record {
  usage = h.usage;
  usage_only = h.usage_only;
  unread = h.unread;
  taken = h.taken;
  bench_only_in_run = elim h.bench_only_in_run [ inl same ↦ inl (so same) | inr line ↦ inr line ];
  refusal_keeps_bench = λ is. so (h.refusal_keeps_bench is);
  read_fault_keeps_bench = λ is. so (h.read_fault_keeps_bench is);
  source_fault_keeps_bench = elim h.source_fault_keeps_bench [ inl quiet ↦ inl quiet | inr same ↦ inr (so same) ];
  read = h.read;
  source_counted = h.source_counted;
  sink = h.sink;
  bench = h.bench;
}
