-- From a run and its text to its status, and what it shows of faults.
use Rattle.std.proofs.Common.{◌≡◌, ◌∙◌, ◌⊎◌, inl, inr, ℕ, ◌-◌, List, ◌++◌, true, false, Option, None, Some, Result, Ok, Err, refl, sym, ap, subst, arith}
use Rattle.std.specs.Prelude.{◌≢◌, IfErr, IfSome, IsSome}
use Rattle.dap_base.specs.Causes.{Rose}
use Rattle.dap_base.specs.Streams.{PutAppends}
use Rattle.text_lines.specs.Causes.{NamesFault}
use Rattle.probe_core.specs.Bench.{BenchState, IsSame, Reported, StepsTo, fresh, reported_after_load}
use Rattle.probe_core.specs.Probe.{fresh_probe}
use Rattle.probe_core.specs.Runs.{IsWholeRun, KeepsLog, KeepsRuns}
use Rattle.probe_core.specs.declared.job.BenchJob.{BenchJob}
use Rattle.access_calls.specs.declared.ended.Ending.{Ending}
use Rattle.access_calls.specs.declared.ended.Ending.TheVariants as e
use Rattle.report_lines.specs.Frame.{PutsFirst}
use Rattle.report_lines.specs.declared.put.TextEnd.{TextEnd}
use Rattle.report_lines.specs.declared.put.TextEnd.TheVariants as texts
use Rattle.job_runs.specs.Ends.{HasBenchCause, HasGotResponse}
use Rattle.access_calls.specs.Opening.{HasBadReply}
use Rattle.dapseq_tool.specs.Answers.{IsRunStatus, close_status, run_status, status_after, text_status}
use Rattle.control_flow.specs.Answers.{RunHasSinkCause}
use Rattle.probe_core.specs.Loads.{HasLoadCause}
use Rattle.probe_core.specs.declared.interface.LoadError.{LoadError}
use Rattle.probe_core.specs.declared.interface.LoadError.TheVariants as loads
use Rattle.job_runs.specs.Texts.{has_report}
use Rattle.dapseq_tool.specs.Frame.{CountsBench, CountsSink}
use Rattle.report_lines.specs.Endings.{shows_target}
use Rattle.sequels.specs.Sequel.{Sequel}
use Rattle.sequels.specs.declared.close.Close.{Close}
use Rattle.sequels.specs.declared.close.Close.TheVariants as closes
use Rattle.task_runs.specs.Tasks.{ClosesAs, sequel_of}
use Rattle.task_runs.specs.declared.followed.Followed.{Followed}
use Rattle.task_runs.specs.declared.followed.Followed.TheVariants as follows
use Rattle.dapseq_tool.specs.Headline.{FailsPutting, FailsWriting, IsPut, IsWritten, WritesFirst}
use Rattle.dapseq_tool.specs.declared.status.Status.{Status}
use Rattle.dapseq_tool.specs.declared.status.Status.TheVariants as status

abbrev W : Type 0
W = Result (Unit {0}) TextEnd

-- ---- statuses

pub text_fails : (t : TextEnd) → FailsWriting (text_status t)
text_fails texts.BenchFault = tt
text_fails texts.WriteFault = tt
text_fails texts.OutOfMemory = tt

pub putting_fails : (end : Status) → FailsPutting end → FailsWriting end
putting_fails status.Done h = absurd h
putting_fails status.Refused h = absurd h
putting_fails status.Usage h = absurd h
putting_fails status.Stopped h = absurd h
putting_fails status.BenchFault h = absurd h
putting_fails status.ReadFault h = absurd h
putting_fails status.WriteFault h = tt
putting_fails status.OutOfMemory h = tt
putting_fails status.ReplyBad h = absurd h

pub put_written : (old new : Option (List ℕ)) (text : List ℕ) (own end : Status) → IsPut old new text own end → IsWritten old new text own end
put_written old new text own end (inl h) = inl h
put_written old new text own end (inr h) = inr (putting_fails end h.0, h.1)

-- the text was written, or writing it failed
pub text_written : (w : W) (ending : Ending) (close : Close) (mid new : Option (List ℕ)) (text : List ℕ) (end : Status) → end ≡ status_after w ending close → PutAppends mid new w text
    → IsWritten mid new text (run_status ending close) end
text_written (Ok u) ending close mid new text end is put = inl (is, put)
text_written (Err t) ending close mid new text end is put = inr (subst FailsWriting (sym is) (text_fails t), put)

-- the same of lines that come first
pub first_written : (w : W) (ending : Ending) (close : Close) (mid new : Option (List ℕ)) (lines : List ℕ) (end : Status) → end ≡ status_after w ending close → PutsFirst lines mid new w
    → WritesFirst mid new lines (run_status ending close) end
first_written w ending close mid new lines end is first = record { rest = first.rest; text = text_written w ending close mid new (lines ++ first.rest) end is first.puts }

-- the same of a text that no bench is asked for
pub text_put : (w : W) (ending : Ending) (close : Close) (mid new : Option (List ℕ)) (text : List ℕ) (end : Status) → end ≡ status_after w ending close → IfErr w (λ t. t ≢ texts.BenchFault) → PutAppends mid new w text
    → IsPut mid new text (run_status ending close) end
text_put (Ok u) ending close mid new text end is unasked put = inl (is, put)
text_put (Err texts.BenchFault) ending close mid new text end is unasked put = absurd (unasked refl)
text_put (Err texts.WriteFault) ending close mid new text end is unasked put = inr (subst FailsPutting (sym is) tt, put)
text_put (Err texts.OutOfMemory) ending close mid new text end is unasked put = inr (subst FailsPutting (sym is) tt, put)

pub status_is : (w : W) (ending : Ending) (close : Close) (end : Status) → end ≡ status_after w ending close → (end ≡ run_status ending close) ⊎ FailsWriting end
status_is (Ok u) ending close end is = inl is
status_is (Err t) ending close end is = inr (subst FailsWriting (sym is) (text_fails t))

close_among : (close : Close) → IsRunStatus (close_status close)
close_among closes.Nothing = tt
close_among (closes.Loaded bytes writes) = tt
close_among (closes.Differs address wanted found) = tt
close_among closes.Scanned = tt
close_among closes.Full = tt

-- a run that is done has none of these statuses
pub close_apart : (close : Close) → (close_status close ≡ status.BenchFault → ⊥) × (close_status close ≡ status.ReplyBad → ⊥)
close_apart closes.Nothing = ((λ is. cc is), (λ is. cc is))
close_apart (closes.Loaded bytes writes) = ((λ is. cc is), (λ is. cc is))
close_apart (closes.Differs address wanted found) = ((λ is. cc is), (λ is. cc is))
close_apart closes.Scanned = ((λ is. cc is), (λ is. cc is))
close_apart closes.Full = ((λ is. cc is), (λ is. cc is))

run_among : (ending : Ending) (close : Close) → IsRunStatus (run_status ending close)
run_among e.Done close = close_among close
run_among (e.Halted cause) close = tt
run_among (e.Cut report) close = tt
run_among (e.BenchFault issued confirmed) close = tt
run_among e.ReplyBad close = tt
run_among e.WriteFault close = tt
run_among e.OutOfMemory close = tt

text_among : (t : TextEnd) → IsRunStatus (text_status t)
text_among texts.BenchFault = tt
text_among texts.WriteFault = tt
text_among texts.OutOfMemory = tt

pub among : (w : W) (ending : Ending) (close : Close) (end : Status) → end ≡ status_after w ending close → IsRunStatus end
among (Ok u) ending close end is = subst IsRunStatus (sym is) (run_among ending close)
among (Err t) ending close end is = subst IsRunStatus (sym is) (text_among t)

-- ---- faults of the sink

rose_here : (a b c : ℕ) → b ≡ a → Rose b c → Rose a c
rose_here a b c is h = subst (λ n. Rose n c) is h

rose_on : (a b c : ℕ) → Rose a b → c ≡ b → Rose a c
rose_on a b c h is = subst (Rose a) (sym is) h

rose_after : (a b c : ℕ) → Rose a b → Rose b c → Rose a c
rose_after a b c first second = omega (arith, first, second)

then_rose : (a b c : ℕ) → Rose a b ⊎ (b ≡ a) → Rose b c → Rose a c
then_rose a b c (inl first) second = rose_after a b c first second
then_rose a b c (inr is) second = rose_here a b c is second

sink_in_run : (ending : Ending) (a b : ℕ) → RunHasSinkCause ending a b → (Rose a b × (ending ≡ e.WriteFault)) ⊎ (b ≡ a)
sink_in_run e.Done a b h = inr h
sink_in_run (e.Halted cause) a b h = inr h
sink_in_run (e.Cut report) a b h = inr h
sink_in_run (e.BenchFault issued confirmed) a b h = inr h
sink_in_run e.ReplyBad a b h = inr h
sink_in_run e.WriteFault a b h = inl (h, refl)
sink_in_run e.OutOfMemory a b h = inr h

close_writes : (close : Close) → close_status close ≡ status.WriteFault → ⊥
close_writes closes.Nothing is = cc is
close_writes (closes.Loaded bytes writes) is = cc is
close_writes (closes.Differs address wanted found) is = cc is
close_writes closes.Scanned is = cc is
close_writes closes.Full is = cc is

sink_by_run : (ending : Ending) (close : Close) (a b : ℕ) → run_status ending close ≡ status.WriteFault → RunHasSinkCause ending a b → Rose a b
sink_by_run e.Done close a b is h = absurd (close_writes close is)
sink_by_run (e.Halted cause) close a b is h = absurd (cc is)
sink_by_run (e.Cut report) close a b is h = absurd (cc is)
sink_by_run (e.BenchFault issued confirmed) close a b is h = absurd (cc is)
sink_by_run e.ReplyBad close a b is h = absurd (cc is)
sink_by_run e.WriteFault close a b is h = h
sink_by_run e.OutOfMemory close a b is h = absurd (cc is)

sink_by_text : (t : TextEnd) → text_status t ≡ status.WriteFault → t ≡ texts.WriteFault
sink_by_text texts.BenchFault is = absurd (cc is)
sink_by_text texts.WriteFault is = refl
sink_by_text texts.OutOfMemory is = absurd (cc is)

rose_or_same : (ending : Ending) (a b : ℕ) → RunHasSinkCause ending a b → Rose a b ⊎ (b ≡ a)
rose_or_same ending a b h = elim (sink_in_run ending a b h) [ inl x ↦ inl x.0 | inr same ↦ inr same ]

sink_cause : (w : W) (ending : Ending) (close : Close) (end : Status) (a b c : ℕ) → end ≡ status_after w ending close → RunHasSinkCause ending a b → NamesFault texts.WriteFault b c w
    → end ≡ status.WriteFault → Rose a c
sink_cause (Ok u) ending close end a b c is in_run in_text fault = rose_on a b c (sink_by_run ending close a b (sym is ∙ fault) in_run) in_text.else
sink_cause (Err t) ending close end a b c is in_run in_text fault =
    then_rose a b c (rose_or_same ending a b in_run) (in_text.failed (ap Err (sink_by_text t (sym is ∙ fault))))

counted_by_text : (w : W) (ending : Ending) (close : Close) (end : Status) (a b c : ℕ) → end ≡ status_after w ending close → b ≡ a → NamesFault texts.WriteFault b c w → (c ≡ a) ⊎ (end ≡ status.WriteFault)
counted_by_text (Ok u) ending close end a b c is same in_text = inl (in_text.else ∙ same)
counted_by_text (Err t) ending close end a b c is same in_text = elim in_text.else [ inl fault ↦ inr (is ∙ ap text_status fault) | inr quiet ↦ inl (quiet ∙ same) ]

sink_counted : (w : W) (ending : Ending) (close : Close) (end : Status) (a b c : ℕ) → end ≡ status_after w ending close → (has_report ending ≡ false → w ≡ Ok tt) → RunHasSinkCause ending a b
    → NamesFault texts.WriteFault b c w → (c ≡ a) ⊎ (end ≡ status.WriteFault)
sink_counted w ending close end a b c is silent in_run in_text = elim (sink_in_run ending a b in_run) [
  | inl x ↦
      let none : has_report ending ≡ false = ap has_report x.1 in
      inr (is ∙ ap (λ (v : W). status_after v ending close) (silent none) ∙ ap (λ (v : Ending). run_status v close) x.1)
  | inr same ↦ counted_by_text w ending close end a b c is same in_text
]

-- a run and its text count the faults of the sink
pub counts_sink : (w : W) (ending : Ending) (close : Close) (end : Status) (a b c : ℕ) → end ≡ status_after w ending close → (has_report ending ≡ false → w ≡ Ok tt) → RunHasSinkCause ending a b
    → NamesFault texts.WriteFault b c w → CountsSink a c end
counts_sink w ending close end a b c is silent in_run in_text = record {
  cause = sink_cause w ending close end a b c is in_run in_text;
  counted = sink_counted w ending close end a b c is silent in_run in_text;
}

-- ---- faults of the bench

bench_in_run : (ending : Ending) (close : Close) (a b : ℕ) → HasBenchCause ending a b → (Rose a b × FailsWriting (run_status ending close)) ⊎ (b ≡ a)
bench_in_run e.Done close a b h = inr h
bench_in_run (e.Halted cause) close a b h = inr h
bench_in_run (e.Cut report) close a b h = inr h
bench_in_run (e.BenchFault issued confirmed) close a b h = inl (h, tt)
bench_in_run e.ReplyBad close a b h = inr h
bench_in_run e.WriteFault close a b h = inr h
bench_in_run e.OutOfMemory close a b h = inr h

bench_by_run : (ending : Ending) (close : Close) (a b : ℕ) → run_status ending close ≡ status.BenchFault → HasBenchCause ending a b → Rose a b
bench_by_run e.Done close a b is h = absurd ((close_apart close).0 is)
bench_by_run (e.Halted cause) close a b is h = absurd (cc is)
bench_by_run (e.Cut report) close a b is h = absurd (cc is)
bench_by_run (e.BenchFault issued confirmed) close a b is h = h
bench_by_run e.ReplyBad close a b is h = absurd (cc is)
bench_by_run e.WriteFault close a b is h = absurd (cc is)
bench_by_run e.OutOfMemory close a b is h = absurd (cc is)

bench_by_text : (t : TextEnd) → text_status t ≡ status.BenchFault → t ≡ texts.BenchFault
bench_by_text texts.BenchFault is = refl
bench_by_text texts.WriteFault is = absurd (cc is)
bench_by_text texts.OutOfMemory is = absurd (cc is)

rose_in_run : (ending : Ending) (a b : ℕ) → HasBenchCause ending a b → Rose a b ⊎ (b ≡ a)
rose_in_run ending a b h = elim (bench_in_run ending closes.Nothing a b h) [ inl x ↦ inl x.0 | inr same ↦ inr same ]

bench_cause : (w : W) (ending : Ending) (close : Close) (end : Status) (a b c : ℕ) → end ≡ status_after w ending close → HasBenchCause ending a b → NamesFault texts.BenchFault b c w
    → end ≡ status.BenchFault → Rose a c
bench_cause (Ok u) ending close end a b c is in_run in_text fault = rose_on a b c (bench_by_run ending close a b (sym is ∙ fault) in_run) in_text.else
bench_cause (Err t) ending close end a b c is in_run in_text fault =
    then_rose a b c (rose_in_run ending a b in_run) (in_text.failed (ap Err (bench_by_text t (sym is ∙ fault))))

bench_counted : (w : W) (ending : Ending) (close : Close) (end : Status) (a b c : ℕ) → end ≡ status_after w ending close → HasBenchCause ending a b → NamesFault texts.BenchFault b c w → (c ≡ a) ⊎ FailsWriting end
bench_counted (Ok u) ending close end a b c is in_run in_text = elim (bench_in_run ending close a b in_run) [ inl x ↦ inr (subst FailsWriting (sym is) x.1) | inr same ↦ inl (in_text.else ∙ same) ]
bench_counted (Err t) ending close end a b c is in_run in_text = inr (subst FailsWriting (sym is) (text_fails t))

-- a run and its text count the faults of the bench
pub counts_bench : (w : W) (ending : Ending) (close : Close) (end : Status) (a b c : ℕ) → end ≡ status_after w ending close → HasBenchCause ending a b → NamesFault texts.BenchFault b c w → CountsBench a c end
counts_bench w ending close end a b c is in_run in_text = record {
  cause = bench_cause w ending close end a b c is in_run in_text;
  counted = bench_counted w ending close end a b c is in_run in_text;
}

-- after a load that kept the count
pub bench_after : (a b c : ℕ) (end : Status) → b ≡ a → CountsBench b c end → CountsBench a c end
bench_after a b c end same h = subst (λ (n : ℕ). CountsBench n c end) same h

-- a load that failed
pub load_failed : {T : Type 0} (x : LoadError) (a b : ℕ) → x ≡ loads.Failed → HasLoadCause {T = T} a b (Err x) → CountsBench a b status.BenchFault
load_failed x a b is h = record { cause = λ fault. h.failed (ap Err is); counted = inr tt }

-- a load that was refused memory
pub load_refused : {T : Type 0} (x : LoadError) (a b : ℕ) → x ≡ loads.OutOfMemory → HasLoadCause {T = T} a b (Err x) → CountsBench a b status.OutOfMemory
load_refused x a b is h = record { cause = λ fault. absurd (cc fault); counted = inl (h.memory (ap Err is)) }

-- ---- a bench that is observable

-- the log of a bench that was just loaded is a run of the job's probe
fresh_run : (job : BenchJob) → IsWholeRun (fresh_probe job) (fresh job)
fresh_run job = λ whole. refl

-- what is kept of a log since a load
kept_log : (job : BenchJob) (old new : Option BenchState) (n : BenchState) → old ≡ Some (fresh job) → new ≡ Some n → KeepsRuns old new → KeepsLog (fresh job) n
kept_log job old new n is is_new keeps = subst (λ (o : Option BenchState). KeepsRuns (Some (fresh job)) o) is_new (subst (λ (o : Option BenchState). KeepsRuns o new) is keeps)

pub kept_run : (job : BenchJob) (old new : Option BenchState) (n : BenchState) → old ≡ Some (fresh job) → new ≡ Some n → KeepsRuns old new → IsWholeRun (fresh_probe job) n
kept_run job old new n is is_new keeps = (kept_log job old new n is is_new keeps).runs (fresh_probe job) (fresh_run job)

pub on_some : (o : Option BenchState) (n : BenchState) (P : BenchState → Type 0) → o ≡ Some n → IfSome o P → P n
on_some o n P is h = subst (λ (x : Option BenchState). IfSome x P) is h

pub loaded_state : (job : BenchJob) (old new : Option BenchState) → IsSome old → StepsTo (λ m n. n ≡ fresh job) old new → new ≡ Some (fresh job)
loaded_state job None new some h = absurd (let z : false ≡ true = some in cc)
loaded_state job (Some m) None some h = absurd h
loaded_state job (Some m) (Some n) some h = ap Some h

-- ---- a bad reply

-- nothing changed but the count of faults
pub bad_after : (old mid new : Reported) (sent got : List ℕ) → IsSame mid new → HasBadReply old mid sent got → HasBadReply old new sent got
bad_after old mid new sent got same h =
    subst (λ (r : Reported). HasBadReply old r sent got) (sym same) (record { begun = h.begun; place = h.place; packet = h.packet; reply = h.reply; bad = h.bad })

-- a load keeps the number of exchanges
pub bad_before : (old mid new : Reported) (job : BenchJob) (sent got : List ℕ) → mid ≡ reported_after_load old job → HasBadReply mid new sent got → HasBadReply old new sent got
bad_before old mid new job sent got is h =
    let k = subst (λ (r : Reported). HasBadReply r new sent got) is h in
    record { begun = k.begun; place = k.place; packet = k.packet; reply = k.reply; bad = k.bad }

-- ---- a response

-- nothing changed but the count of faults
pub got_after : (code : ℕ) (old mid new : Reported) → IsSame mid new → HasGotResponse code old mid → HasGotResponse code old new
got_after code old mid new same h =
    subst (λ (r : Reported). HasGotResponse code old r) (sym same) (record { begun = h.begun; place = h.place; response = h.response })

-- a load keeps the number of exchanges
pub got_before : (code : ℕ) (old mid new : Reported) (job : BenchJob) → mid ≡ reported_after_load old job → HasGotResponse code mid new → HasGotResponse code old new
got_before code old mid new job is h =
    let k = subst (λ (r : Reported). HasGotResponse code r new) is h in
    record { begun = k.begun; place = k.place; response = k.response }

-- ---- how what follows came to its end

-- a run whose report does not show the target is not done
pub hidden_end : (ending : Ending) → shows_target ending ≡ false → ending ≡ e.Done → ⊥
hidden_end ending hidden is = (let bad : shows_target e.Done ≡ false = ap shows_target (sym is) ∙ hidden in cc)

-- nor is one that has no report
pub silent_end : (ending : Ending) → has_report ending ≡ false → ending ≡ e.Done → ⊥
silent_end ending silent is = (let bad : has_report e.Done ≡ false = ap has_report (sym is) ∙ silent in cc)

done_or_not : (ending : Ending) → (ending ≡ e.Done) ⊎ (ending ≡ e.Done → ⊥)
done_or_not e.Done = inl refl
done_or_not (e.Halted cause) = inr (λ is. cc is)
done_or_not (e.Cut report) = inr (λ is. cc is)
done_or_not (e.BenchFault issued confirmed) = inr (λ is. cc is)
done_or_not e.ReplyBad = inr (λ is. cc is)
done_or_not e.WriteFault = inr (λ is. cc is)
done_or_not e.OutOfMemory = inr (λ is. cc is)

closes_nothing : (f : Followed) (close : Close) → sequel_of f ≡ None → ClosesAs f close → close ≡ closes.Nothing
closes_nothing follows.Nothing close none h = h
closes_nothing (follows.Load ap' image) close none h = absurd cc
closes_nothing (follows.Scan ap') close none h = absurd cc

-- where nothing follows it closes by nothing
pub nothing_closes : (f : Followed) (ending : Ending) (close : Close) (s : Option (Sequel Close)) → sequel_of f ≡ s → (ending ≡ e.Done → ClosesAs f close) → ((ending ≡ e.Done → ⊥) → close ≡ closes.Nothing)
    → s ≡ None → close ≡ closes.Nothing
nothing_closes f ending close s is done other none = elim (done_or_not ending) [ inl here ↦ closes_nothing f close (is ∙ none) (done here) | inr never ↦ other never ]
