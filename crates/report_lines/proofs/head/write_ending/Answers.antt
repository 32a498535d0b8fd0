use Rattle.report_lines.proofs.head.write_ending.Goals as goal

pub returns-in-BenchFault : goal.returns-in-BenchFault
returns-in-BenchFault g c = record { puts = rw c.in-BenchFault.is (c.put_line.ensures.puts _ c.bench_fault_text.ensures) }

pub returns-in-ReplyBad : goal.returns-in-ReplyBad
returns-in-ReplyBad g c = record { puts = rw c.in-ReplyBad.is (c.put_line-in-ReplyBad.ensures.puts _ c.reply_bad_text.ensures) }
