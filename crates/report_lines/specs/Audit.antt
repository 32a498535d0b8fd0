-- The text of an audit.
use Rattle.std.specs.Prelude.{ℕ, List, [], ◌++◌, codes, decimal}
use Rattle.probe_core.specs.Probe.{target_of}
use Rattle.probe_core.specs.declared.probe.ProbeRefusal.{ProbeRefusal}
use Rattle.probe_core.specs.declared.probe.ProbeRefusal.TheVariants as refusals
use Rattle.job_text.specs.declared.job.Job.{Job}
use Rattle.trace_audit.specs.declared.auditing.Audited.{Audited}
use Rattle.trace_audit.specs.declared.auditing.AuditFault.{AuditFault}
use Rattle.trace_audit.specs.declared.auditing.AuditFault.TheVariants as faults
use Rattle.report_lines.specs.Target.{target_lines}

-- how many entries of an accepted trace are packets, and how many are replies
abbrev pub audit_ok_line : Audited → List ℕ
audit_ok_line a = codes "audit ok packets " ++ decimal a.packets ++ codes " replies " ++ decimal a.replies ++ codes "\n"

-- an accepted trace: its numbers, and the target that it leads to
abbrev pub audited_lines : Audited → Job → List ℕ
audited_lines a job = audit_ok_line a ++ target_lines (target_of a.probe) job.bench.target.aps job.watch

-- why a probe does not take a packet
abbrev pub refusal_word : ProbeRefusal → List ℕ
refusal_word refusals.TooLong = codes "TooLong"
refusal_word refusals.Held = codes "Held"
refusal_word refusals.Unread = codes "Unread"

-- the first entry that cannot come: why, and its number from 0
abbrev pub refused_line : List ℕ → ℕ → List ℕ
refused_line kind number = codes "refused audit " ++ kind ++ codes " " ++ decimal number ++ codes "\n"

-- A trace that is refused has a line. Where memory was refused there is none.
abbrev pub audit_fault_line : AuditFault → List ℕ
audit_fault_line (faults.Refused number refusal) = refused_line (refusal_word refusal) number
audit_fault_line (faults.NoReply number) = refused_line (codes "NoReply") number
audit_fault_line (faults.WrongReply number) = refused_line (codes "WrongReply") number
audit_fault_line faults.OutOfMemory = []
