use Rattle.check_lines.proofs.refusals.write_refusal.Goals as goal

pub returns-in-NoDevice : goal.returns-in-NoDevice
returns-in-NoDevice g c = record { puts = rw c.in-NoDevice.is c.put_text-in-NoDevice.ensures.puts }

pub returns-in-AmbiguousDevice : goal.returns-in-AmbiguousDevice
returns-in-AmbiguousDevice g c = record { puts = rw c.in-AmbiguousDevice.is c.put_text-in-AmbiguousDevice.ensures.puts }

pub returns-in-NoVariant : goal.returns-in-NoVariant
returns-in-NoVariant g c = record { puts = rw c.in-NoVariant.is c.put_text-in-NoVariant.ensures.puts }

pub returns-in-Job : goal.returns-in-Job
returns-in-Job g c = record { puts = rw c.in-Job.is (c.put_line.ensures.puts _ c.job_fault_text.ensures) }

pub returns-in-Image : goal.returns-in-Image
returns-in-Image g c = record { puts = rw c.in-Image.is (c.put_line-in-Image.ensures.puts _ c.image_fault_text.ensures) }

pub returns-in-Dbgconf : goal.returns-in-Dbgconf
returns-in-Dbgconf g c = record { puts = rw c.in-Dbgconf.is (c.put_line-in-Dbgconf.ensures.puts _ c.dbgconf_fault_text.ensures) }
