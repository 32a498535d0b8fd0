use Rattle.fault_json.proofs.whole.write_json.Goals as goal

pub returns : goal.returns
returns g c = record { puts = c.put_made.ensures.puts _ c.text_of.ensures }
