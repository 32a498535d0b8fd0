use Rattle.check_lines.proofs.writing.write_check_fault.Goals as goal

pub returns : goal.returns
returns g c = record { puts = c.put_line.ensures.puts _ c.fault_text.ensures }
