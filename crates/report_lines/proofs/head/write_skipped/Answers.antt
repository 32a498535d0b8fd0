use Rattle.std.proofs.Common.{arith, rules}
use Rattle.report_lines.specs.Endings.{skipped_line}
use Rattle.report_lines.proofs.head.write_skipped.Goals as goal

pub returns : goal.returns
returns g c =
    let puts = c.put_line.ensures.puts (skipped_line c.args.skipped) c.skipped_text.ensures in
    record { puts = record { text = first_of (search (rules, puts.text), grind (arith, puts.text)); ends = puts.ends } }
