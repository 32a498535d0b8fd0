use Rattle.trace_compare.specs.Texts.{count_line}
use Rattle.trace_compare.proofs.summary.put_count.Goals as goal

pub returns : goal.returns
returns g c = c.put_line.ensures (count_line c.args.place c.args.first c.args.second) c.count_line.ensures
