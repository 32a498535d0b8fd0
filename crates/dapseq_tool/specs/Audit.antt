-- What an audit of the trace of a job asks for.
use Rattle.std.specs.Prelude.{◌≡◌, ℕ, List, Some, None}
use Rattle.probe_core.specs.Log.{Entry}
use Rattle.probe_core.specs.Probe.{fresh_probe}
use Rattle.trace_audit.specs.Audits.{IsAudited, IsFirstWrong}
use Rattle.trace_audit.specs.Texts.{AreEntriesOf}
use Rattle.trace_audit.specs.declared.auditing.AuditFault.{AuditFault}
use Rattle.job_text.specs.declared.job.Job.{Job}
use Rattle.job_text.specs.Answers.{Describes}
use Rattle.job_check.specs.declared.answer.Refusal.{Refusal}
use Rattle.job_check.specs.Answers.{NoJob}
use Rattle.dapseq_tool.specs.declared.asking.Answer.{Answer}
use Rattle.dapseq_tool.specs.declared.asking.Answer.TheVariants as answers
use Rattle.dapseq_tool.specs.declared.asking.What.{What}
use Rattle.dapseq_tool.specs.declared.asking.What.TheVariants as whats
use Rattle.dapseq_tool.specs.declared.auditing.Audit.{Audit}

-- the job has a trace, of which these are the entries
pub record HasEntries (job : Job) (es : List Entry) : Type 0 where
  pub texts : List (List ℕ)
  pub trace : job.trace ≡ Some texts
  pub are : AreEntriesOf texts es

-- the trace of the job is a run of its probe: with the probe after it, and how many packets and replies it has
pub record TraceIsAccepted (job : Job) (audit : Audit) : Type 0 where
  pub of : audit.job ≡ job
  pub es : List Entry
  pub entries : HasEntries job es
  pub run : IsAudited (fresh_probe job.bench) es audit.audited

-- the trace of the job is no run of its probe: with its first entry that cannot come, and why
pub record IsWrongTrace (job : Job) (fault : AuditFault) : Type 0 where
  pub es : List Entry
  pub entries : HasEntries job es
  pub wrong : IsFirstWrong (fresh_probe job.bench) es fault

-- the answer to a job: its trace is accepted, or refused, or there is none
pub data IsAuditOf (job : Job) (answer : Answer) : Type 0 where
  accepted : (audit : Audit) → TraceIsAccepted job audit → answer ≡ answers.Audited audit → IsAuditOf job answer
  wrong : (fault : AuditFault) → IsWrongTrace job fault → answer ≡ answers.AuditRefused fault → IsAuditOf job answer
  no_trace : job.trace ≡ None → answer ≡ answers.NoTrace → IsAuditOf job answer

-- The answer to the bytes of a job: that to the job which they describe, or why they describe none. Neither the sequences of the job
-- nor its starting values are looked at.
pub data IsAuditAnswer (bytes : List ℕ) (answer : Answer) : Type 0 where
  described : (job : Job) → Describes bytes job → IsAuditOf job answer → IsAuditAnswer bytes answer
  not_described : (r : Refusal) → NoJob bytes r → answer ≡ answers.Refused r → IsAuditAnswer bytes answer

-- an audit asks for this answer
abbrev pub AsksOfAudit : List ℕ → What → Type 0
AsksOfAudit bytes what = (answer : Answer) × IsAuditAnswer bytes answer × (what ≡ whats.Answer answer)
