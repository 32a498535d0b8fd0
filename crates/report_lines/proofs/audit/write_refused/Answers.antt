use Rattle.report_lines.proofs.audit.write_refused.Goals as goal

pub returns : goal.returns
returns g c = record { puts = c.put_line.ensures.puts _ c.refused_text.ensures }
