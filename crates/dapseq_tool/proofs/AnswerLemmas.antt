-- What is written of each answer, by its own line or lines.
use Rattle.std.proofs.Common.{◌≡◌, ◌∙◌, ℕ, List, Option, Result, refl, sym, ap, subst}
use Rattle.dap_base.specs.Streams.{PutAppends}
use Rattle.check_lines.specs.CheckLines.{check_text}
use Rattle.check_lines.specs.RefusalLines.{no_sequence_line, refusal_line, too_long_line, usage_line}
use Rattle.report_lines.specs.Audit.{audit_fault_line, audited_lines}
use Rattle.trace_audit.specs.declared.auditing.AuditFault.{AuditFault}
use Rattle.sequence_resolve.specs.declared.entry.SeqSet.{SeqSet}
use Rattle.job_check.specs.declared.answer.Refusal.{Refusal}
use Rattle.dapseq_tool.specs.Answers.{answer_text, no_trace_line}
use Rattle.dapseq_tool.specs.Asked.{IsSoundAnswer, IsSoundAudit}
use Rattle.dapseq_tool.specs.declared.asking.Answer.{Answer}
use Rattle.dapseq_tool.specs.declared.asking.Answer.TheVariants as answers
use Rattle.dapseq_tool.specs.declared.auditing.Audit.{Audit}

pub of_usage : answer_text answers.Usage ≡ usage_line
unfolding answer_text
of_usage = refl

pub of_too_long : answer_text answers.TooLong ≡ too_long_line
unfolding answer_text
of_too_long = refl

pub of_no_sequence : answer_text answers.NoSequence ≡ no_sequence_line
unfolding answer_text
of_no_sequence = refl

pub of_refused : (refusal : Refusal) → answer_text (answers.Refused refusal) ≡ refusal_line refusal
unfolding answer_text
of_refused refusal = refl

pub of_check_ok : (set : SeqSet) → answer_text (answers.CheckOk set) ≡ check_text set
unfolding answer_text
of_check_ok set = refl

pub of_audited : (audit : Audit) → answer_text (answers.Audited audit) ≡ audited_lines audit.audited audit.job
unfolding answer_text
of_audited audit = refl

pub of_audit_refused : (fault : AuditFault) → answer_text (answers.AuditRefused fault) ≡ audit_fault_line fault
unfolding answer_text
of_audit_refused fault = refl

pub of_no_trace : answer_text answers.NoTrace ≡ no_trace_line
unfolding answer_text
of_no_trace = refl

-- these lines are the text of the answer
pub puts_answer : {E : Type 0} (a one : Answer) (lines : List ℕ) (old new : Option (List ℕ)) (r : Result (Unit {0}) E) → a ≡ one → answer_text one ≡ lines → PutAppends old new r lines
    → PutAppends old new r (answer_text a)
puts_answer a one lines old new r is are put = subst (λ (text : List ℕ). PutAppends old new r text) (sym are ∙ ap answer_text (sym is)) put

-- the job of a trace that is accepted is in its ranges
pub audit_sound : (a : Answer) (audit : Audit) → a ≡ answers.Audited audit → IsSoundAnswer a → IsSoundAudit audit
unfolding IsSoundAnswer
audit_sound a audit is sound = subst IsSoundAnswer is sound
