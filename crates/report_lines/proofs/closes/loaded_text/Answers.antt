use Rattle.report_lines.proofs.closes.loaded_text.Goals as goal

pub returns : goal.returns
returns g c = record { puts = c.put_line.ensures.puts _ c.loaded_line.ensures }
