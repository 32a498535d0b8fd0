use Rattle.std.proofs.Common.{arith, rules}
use Rattle.report_lines.specs.Lines.{variable_line}
use Rattle.report_lines.proofs.head.write_variable.Goals as goal

pub returns : goal.returns
returns g c = record { puts = c.put_line.ensures.puts (variable_line c.args.variable.now.name c.args.variable.now.value) (first_of (search rules, grind arith)) }
