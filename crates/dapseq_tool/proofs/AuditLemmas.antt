-- What an audit asks for: one thing, and something.
use Rattle.std.proofs.Common.{◌≡◌, ◌∙◌, inl, inr, ℕ, ◌^◌, ◌<◌, ◌≤◌, not, List, [], ◌∷◌, length, count_by, codes, Option, Some, None, Result, Ok, Err, refl, sym, ap, subst, arith}
use Rattle.std.specs.Prelude.{◌≢◌, IfOk}
use Rattle.std.specs.List.{All}
use Rattle.std.proofs.lemmas.List.{length-map}
use Rattle.std.proofs.lemmas.List.Elements.{All-tail}
use Rattle.serde_json.specs.Data.{Data}
use Rattle.json_form.specs.Reading.{never}
use Rattle.json_form.specs.Form.{MayHave, IsListOf, Alone}
use Rattle.json_form.proofs.ItemLaws.{list_length}
use Rattle.probe_core.specs.Log.{Entry}
use Rattle.probe_core.specs.Probe.{ProbeState, fresh_probe}
use Rattle.trace_audit.specs.Audits.{IsAudited, IsFault, IsFirstWrong, entries_of, entry_of}
use Rattle.trace_audit.specs.Texts.{AreEntriesOf, IsEntry}
use Rattle.trace_audit.specs.declared.auditing.Audited.{Audited}
use Rattle.trace_audit.specs.declared.auditing.AuditFault.{AuditFault}
use Rattle.trace_audit.specs.declared.auditing.AuditFault.TheVariants as faults
use Rattle.trace_audit.specs.declared.entry.Entry as trace
use Rattle.trace_audit.proofs.RunLemmas.{judge, no_run, one_end, one_fault}
use Rattle.trace_audit.proofs.TextLemmas.{one_list}
use Rattle.job_text.specs.declared.job.Job.{Job}
use Rattle.job_text.specs.Answers.{Describes}
use Rattle.job_text.specs.JobForm.{IsEntryOf}
use Rattle.job_text.specs.Ranges.{AreEntryTexts}
use Rattle.job_text.proofs.SettingLaws.{trace_entries}
use Rattle.job_text.proofs.AnswerLaws.{one_job}
use Rattle.job_check.proofs.OneAnswer.{job_and_none, one_no_job}
use Rattle.job_check.proofs.SomeJob.{job_or_none}
use Rattle.dapseq_tool.specs.Audit.{AsksOfAudit, HasEntries, IsAuditAnswer, IsAuditOf, IsWrongTrace, TraceIsAccepted, accepted, described, no_trace, not_described, wrong}
use Rattle.dapseq_tool.specs.declared.asking.Answer.{Answer}
use Rattle.dapseq_tool.specs.declared.asking.Answer.TheVariants as answers
use Rattle.dapseq_tool.specs.declared.asking.What.{What}
use Rattle.dapseq_tool.specs.declared.asking.What.TheVariants as whats
use Rattle.dapseq_tool.specs.declared.auditing.Audit.{Audit}

-- ---- the trace of a job

abbrev Texts : Type 0
Texts = List (List ℕ)

abbrev some_texts : Texts → Option Texts
some_texts texts = Some texts

same_texts : (a b : Texts) → some_texts a ≡ some_texts b → a ≡ b
same_texts a b e = cc

no_texts : (a : Texts) → some_texts a ≡ None → ⊥
no_texts a e = cc

-- a trace has one list of entries
pub same_entries : (job : Job) (xs ys : List Entry) → HasEntries job xs → HasEntries job ys → xs ≡ ys
same_entries job xs ys p q =
    let same : p.texts ≡ q.texts = same_texts p.texts q.texts (sym p.trace ∙ q.trace) in
    one_list q.texts xs ys (subst (λ (texts : Texts). AreEntriesOf texts xs) same p.are) q.are

pub entries_or_none : (job : Job) (es : List Entry) → HasEntries job es → job.trace ≡ None → ⊥
entries_or_none job es has none = no_texts has.texts (sym has.trace ∙ none)

-- ---- one answer to a job

made : (a : Audited) (probe : ProbeState) (packets replies : ℕ) → a.probe ≡ probe → a.packets ≡ packets → a.replies ≡ replies → a ≡ record { probe = probe; packets = packets; replies = replies }
made a probe packets replies p q r =
    ap (λ (x : ProbeState). record { probe = x; packets = a.packets; replies = a.replies }) p
    ∙ ap (λ (n : ℕ). record { probe = probe; packets = n; replies = a.replies }) q
    ∙ ap (λ (n : ℕ). record { probe = probe; packets = packets; replies = n }) r

pub one_audited : (first : ProbeState) (es : List Entry) (a b : Audited) → IsAudited first es a → IsAudited first es b → a ≡ b
one_audited first es a b p q = made a b.probe b.packets b.replies (one_end first a.probe b.probe es p.run q.run) (p.packets ∙ sym q.packets) (p.replies ∙ sym q.replies)

one_accepted : (job : Job) (a b : Audit) → TraceIsAccepted job a → TraceIsAccepted job b → a ≡ b
one_accepted job a b p q =
    let es = same_entries job p.es q.es p.entries q.entries in
    let audited = one_audited (fresh_probe job.bench) q.es a.audited b.audited (subst (λ (l : List Entry). IsAudited (fresh_probe job.bench) l a.audited) es p.run) q.run in
    ap (λ (j : Job). record { job = j; audited = a.audited }) (p.of ∙ sym q.of) ∙ ap (λ (x : Audited). record { job = b.job; audited = x }) audited

one_wrong : (job : Job) (x y : AuditFault) → IsWrongTrace job x → IsWrongTrace job y → x ≡ y
one_wrong job x y p q =
    let es = same_entries job p.es q.es p.entries q.entries in
    one_fault (fresh_probe job.bench) q.es x y (subst (λ (l : List Entry). IsFirstWrong (fresh_probe job.bench) l x) es p.wrong) q.wrong

pub accepted_or_wrong : (job : Job) (a : Audit) (fault : AuditFault) → TraceIsAccepted job a → IsWrongTrace job fault → ⊥
accepted_or_wrong job a fault p q =
    let es = same_entries job q.es p.es q.entries p.entries in
    no_run (fresh_probe job.bench) a.audited.probe p.es fault (subst (λ (l : List Entry). IsFirstWrong (fresh_probe job.bench) l fault) es q.wrong) p.run.run

one_audit_of : (job : Job) (x y : Answer) → IsAuditOf job x → IsAuditOf job y → x ≡ y
one_audit_of job x y p q = elim p [
  | accepted a is x_is ↦ elim q [
    | accepted b too y_is ↦ x_is ∙ ap answers.Audited (one_accepted job a b is too) ∙ sym y_is
    | wrong fault bad y_is ↦ absurd (accepted_or_wrong job a fault is bad)
    | no_trace none y_is ↦ absurd (entries_or_none job is.es is.entries none)
  ]
  | wrong fault bad x_is ↦ elim q [
    | accepted b is y_is ↦ absurd (accepted_or_wrong job b fault is bad)
    | wrong other too y_is ↦ x_is ∙ ap answers.AuditRefused (one_wrong job fault other bad too) ∙ sym y_is
    | no_trace none y_is ↦ absurd (entries_or_none job bad.es bad.entries none)
  ]
  | no_trace none x_is ↦ elim q [
    | accepted b is y_is ↦ absurd (entries_or_none job is.es is.entries none)
    | wrong fault bad y_is ↦ absurd (entries_or_none job bad.es bad.entries none)
    | no_trace too y_is ↦ x_is ∙ sym y_is
  ]
]

-- ---- one answer to bytes

of_jobs : (bytes : List ℕ) (x y : Answer) (a b : Job) → Describes bytes a → Describes bytes b → IsAuditOf a x → IsAuditOf b y → x ≡ y
of_jobs bytes x y a b is too p q = one_audit_of a x y p (subst (λ (job : Job). IsAuditOf job y) (one_job bytes b a too is) q)

one_audit_answer : (bytes : List ℕ) (x y : Answer) → IsAuditAnswer bytes x → IsAuditAnswer bytes y → x ≡ y
one_audit_answer bytes x y p q = elim p [
  | described a is x_of ↦ elim q [ described b too y_of ↦ of_jobs bytes x y a b is too x_of y_of | not_described r none y_is ↦ absurd (job_and_none bytes a r is none) ]
  | not_described r none x_is ↦ elim q [
    | described b is y_of ↦ absurd (job_and_none bytes b r is none)
    | not_described other too y_is ↦ x_is ∙ ap answers.Refused (one_no_job bytes r other none too) ∙ sym y_is
  ]
]

pub one_audit : (bytes : List ℕ) (x y : What) → AsksOfAudit bytes x → AsksOfAudit bytes y → x ≡ y
one_audit bytes x y p q = p.2 ∙ ap whats.Answer (one_audit_answer bytes p.0 q.0 p.1 q.1) ∙ sym q.2

-- ---- an answer

head_of : (text : List ℕ) (texts : Texts) → All IsEntry (text ∷ texts) → IsEntry text
head_of text texts all = all 0 [] (omega arith)

-- texts that are those of entries have a list of them
pub entries_in : (texts : Texts) → All IsEntry texts → (es : List Entry) × AreEntriesOf texts es
entries_in [] all = ([], tt)
entries_in (text ∷ texts) all =
    let here = head_of text texts all in
    let rest = entries_in texts (All-tail IsEntry text texts all) in
    (here.0 ∷ rest.0, (here.1, rest.1))

judged : (job : Job) (es : List Entry) → HasEntries job es → (answer : Answer) × IsAuditOf job answer
judged job es has = elim (judge (fresh_probe job.bench) es) [
  | inl run ↦
      let audited : Audited = record { probe = run.0; packets = count_by (λ e. not e.is_reply) es; replies = count_by (λ e. e.is_reply) es } in
      let audit : Audit = record { job = job; audited = audited } in
      (answers.Audited audit, accepted audit (record { of = refl; es = es; entries = has; run = record { run = run.1; packets = refl; replies = refl } }) refl)
  | inr bad ↦ (answers.AuditRefused bad.0, wrong bad.0 (record { es = es; entries = has; wrong = bad.1 }) refl)
]

by_trace : (job : Job) (trace : Option Texts) → job.trace ≡ trace → AreEntryTexts trace → (answer : Answer) × IsAuditOf job answer
by_trace job None is are = (answers.NoTrace, no_trace is refl)
by_trace job (Some texts) is are = let found = entries_in texts are in judged job found.0 (record { texts = texts; trace = is; are = found.1 })

of_job : (bytes : List ℕ) (job : Job) → Describes bytes job → (answer : Answer) × IsAuditOf job answer
of_job bytes job is = by_trace job job.trace refl (trace_entries is.0 job is.2)

pub some_audit : (bytes : List ℕ) → (what : What) × AsksOfAudit bytes what
some_audit bytes = elim (job_or_none bytes) [
  | inl found ↦ let a = of_job bytes found.0 found.1 in (whats.Answer a.0, (a.0, described found.0 found.1 a.1, refl))
  | inr none ↦ (whats.Answer (answers.Refused none.0), (answers.Refused none.0, not_described none.0 none.1 refl, refl))
]

-- ---- the audit of a job that was read

few_in : (d : Data) (trace : Option Texts) → MayHave (codes "trace") (IsListOf (Some 65536) (Alone IsEntryOf) never) d trace → (texts : Texts) → trace ≡ Some texts → length texts ≤ 65536
few_in d trace (inl has) texts is =
    let same : has.0 ≡ texts = same_texts has.0 texts (sym has.1 ∙ is) in
    subst (λ (ts : Texts). length ts ≤ 65536) same (list_length 65536 (Alone IsEntryOf) never has.2.0 has.0 has.2.2)
few_in d trace (inr none) texts is = absurd (no_texts texts (sym is ∙ none.1))

as_many : (texts : Texts) (es : List Entry) → AreEntriesOf texts es → length es ≡ length texts
as_many [] [] are = refl
as_many [] (e ∷ es) are = absurd are
as_many (text ∷ texts) [] are = absurd are
as_many (text ∷ texts) (e ∷ es) are = omega (arith, as_many texts es are.1)

-- the entries of a job are few
pub few_entries : (bytes : List ℕ) (job : Job) (texts : Texts) (es : List trace.Entry) → Describes bytes job → job.trace ≡ Some texts → AreEntriesOf texts (entries_of es) → length es < 2 ^ 32
few_entries bytes job texts es is at are = omega (arith, few_in is.0 job.trace is.2.trace texts at, as_many texts (entries_of es) are, length-map es entry_of)

-- the texts of a job are those of entries
pub texts_are : (bytes : List ℕ) (job : Job) (texts : Texts) → Describes bytes job → job.trace ≡ Some texts → All IsEntry texts
texts_are bytes job texts is trace = subst AreEntryTexts trace (trace_entries is.0 job is.2)

module _ (job : Job) (texts : Texts) (es : List Entry) (at : job.trace ≡ Some texts) (are : AreEntriesOf texts es) where
  has : HasEntries job es
  has = record { texts = texts; trace = at; are = are }

  pub accepted_of : (audited : Audited) → IsAudited (fresh_probe job.bench) es audited → IsAuditOf job (answers.Audited (record { job = job; audited = audited }))
  accepted_of audited run = accepted (record { job = job; audited = audited }) (record { of = refl; es = es; entries = has; run = run }) refl

  first_wrong : (fault : AuditFault) → fault ≢ faults.OutOfMemory → IsFault (fresh_probe job.bench) es fault → IsFirstWrong (fresh_probe job.bench) es fault
  first_wrong faults.OutOfMemory some is = absurd (some refl)
  first_wrong (faults.Refused n refusal) some is = is
  first_wrong (faults.NoReply n) some is = is
  first_wrong (faults.WrongReply n) some is = is

  pub refused_of : {E : Type 0} (fault : AuditFault) (r : Result Answer E) → IsFault (fresh_probe job.bench) es fault → IfOk r (λ answer. answer ≡ answers.AuditRefused fault)
      → IfOk r (λ answer. fault ≢ faults.OutOfMemory) → IfOk r (IsAuditOf job)
  refused_of fault (Ok answer) is same some = wrong fault (record { es = es; entries = has; wrong = first_wrong fault some is }) same
  refused_of fault (Err e) is same some = tt
