use Rattle.report_lines.proofs.audit.audit_fault_text.Goals as goal

pub returns-in-WrongReply : goal.returns-in-WrongReply
returns-in-WrongReply g c = record { puts = rw c.in-WrongReply.is c.write_refused-in-WrongReply.ensures.puts }
