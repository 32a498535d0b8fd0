use Rattle.trace_audit.specs.Audits.{entries_of}
use Rattle.dapseq_tool.proofs.AuditLemmas.{accepted_of, few_entries, refused_of, texts_are}
use Rattle.dapseq_tool.proofs.auditing.audit_job.Goals as goal

pub entries_of-requires : goal.entries_of-requires
entries_of-requires c = texts_are c.requires.described.0 c.args.job c.in-Some.texts c.requires.described.1 c.in-Some.is

pub audit-requires-clause-few : goal.audit-requires-clause-few
audit-requires-clause-few c = few_entries c.requires.described.0 c.args.job c.in-Some.texts c.in_ok-entries.entries c.requires.described.1 c.in-Some.is c.in_ok-entries.ensures

pub returns-in-Ok-clause-answer : goal.returns-in-Ok-clause-answer
returns-in-Ok-clause-answer c =
    accepted_of c.args.job c.in-Some.texts (entries_of c.in_ok-entries.entries) c.in-Some.is c.in_ok-entries.ensures c.in-Ok.audited c.in-Ok.ensures.answer

pub returns-in-Err-clause-answer : goal.returns-in-Err-clause-answer
returns-in-Err-clause-answer c =
    refused_of c.args.job c.in-Some.texts (entries_of c.in_ok-entries.entries) c.in-Some.is c.in_ok-entries.ensures c.in-Err.fault c.refuse.result
    c.in-Err.ensures.answer c.refuse.ensures.answer c.refuse.ensures.some
