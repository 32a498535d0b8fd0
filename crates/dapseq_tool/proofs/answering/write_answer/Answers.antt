use Rattle.std.proofs.Common.{refl}
use Rattle.check_lines.specs.CheckLines.{check_text}
use Rattle.check_lines.specs.RefusalLines.{no_sequence_line, refusal_line, too_long_line, usage_line}
use Rattle.report_lines.specs.Audit.{audit_fault_line, audited_lines}
use Rattle.dapseq_tool.specs.Answers.{no_trace_line}
use Rattle.dapseq_tool.specs.declared.asking.Answer.TheVariants as answers
use Rattle.dapseq_tool.proofs.AnswerLemmas.{audit_sound, of_audit_refused, of_audited, of_check_ok, of_no_sequence, of_no_trace, of_refused, of_too_long, of_usage, puts_answer}
use Rattle.dapseq_tool.proofs.answering.write_answer.Goals as goal

pub write_audited-requires : goal.write_audited-requires
write_audited-requires g c = audit_sound c.args.answer.now c.in-Audited.audit c.in-Audited.is c.requires

pub returns-in-Usage : goal.returns-in-Usage
returns-in-Usage g c = record {
  puts = record {
    text = puts_answer c.args.answer.now answers.Usage usage_line _ _ c.write_usage.result c.in-Usage.is of_usage c.write_usage.ensures.puts.text;
    sink = c.write_usage.ensures.puts.sink;
  };
}

pub returns-in-TooLong : goal.returns-in-TooLong
returns-in-TooLong g c = record {
  puts = record {
    text = puts_answer c.args.answer.now answers.TooLong too_long_line _ _ c.write_too_long.result c.in-TooLong.is of_too_long c.write_too_long.ensures.puts.text;
    sink = c.write_too_long.ensures.puts.sink;
  };
}

pub returns-in-NoSequence : goal.returns-in-NoSequence
returns-in-NoSequence g c = record {
  puts = record {
    text = puts_answer c.args.answer.now answers.NoSequence no_sequence_line _ _ c.write_no_sequence.result c.in-NoSequence.is of_no_sequence c.write_no_sequence.ensures.puts.text;
    sink = c.write_no_sequence.ensures.puts.sink;
  };
}

pub returns-in-Refused : goal.returns-in-Refused
returns-in-Refused g c = record {
  puts = record {
    text = puts_answer c.args.answer.now (answers.Refused c.in-Refused.refusal) (refusal_line c.in-Refused.refusal) _ _ c.write_refusal.result c.in-Refused.is (of_refused c.in-Refused.refusal) c.write_refusal.ensures.puts.text;
    sink = c.write_refusal.ensures.puts.sink;
  };
}

pub returns-in-CheckOk : goal.returns-in-CheckOk
returns-in-CheckOk g c = record {
  puts = record {
    text = puts_answer c.args.answer.now (answers.CheckOk c.in-CheckOk.set) (check_text c.in-CheckOk.set) _ _ c.write_check.result c.in-CheckOk.is (of_check_ok c.in-CheckOk.set) c.write_check.ensures.puts.text;
    sink = c.write_check.ensures.puts.sink;
  };
}

pub returns-in-Audited : goal.returns-in-Audited
returns-in-Audited g c = record {
  puts = record {
    text = puts_answer c.args.answer.now (answers.Audited c.in-Audited.audit) (audited_lines c.in-Audited.audit.audited c.in-Audited.audit.job) _ _ c.write_audited.result c.in-Audited.is (of_audited c.in-Audited.audit) c.write_audited.ensures.puts.text;
    sink = c.write_audited.ensures.puts.sink;
  };
}

pub returns-in-AuditRefused : goal.returns-in-AuditRefused
returns-in-AuditRefused g c = record {
  puts = record {
    text = puts_answer c.args.answer.now (answers.AuditRefused c.in-AuditRefused.fault) (audit_fault_line c.in-AuditRefused.fault) _ _ c.write_audit_fault.result c.in-AuditRefused.is (of_audit_refused c.in-AuditRefused.fault) c.write_audit_fault.ensures.puts.text;
    sink = c.write_audit_fault.ensures.puts.sink;
  };
}

pub returns-in-NoTrace : goal.returns-in-NoTrace
returns-in-NoTrace g c = record {
  puts = record {
    text = puts_answer c.args.answer.now answers.NoTrace no_trace_line _ _ c.put_text.result c.in-NoTrace.is of_no_trace c.put_text.ensures.puts.text;
    sink = c.put_text.ensures.puts.sink;
  };
}
