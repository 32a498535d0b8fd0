use Rattle.std.proofs.Common.{sym}
use Rattle.set_lines.proofs.LineLemmas.{line_at}
use Rattle.set_lines.proofs.lines.Lines.line_of.Goals as goal

pub returns-clause-line : goal.returns-clause-line
returns-clause-line c =
    line_at c.args.self.now.set.now c.args.spot.now c.in_ok-start.start.rest.now c.first_line.result.now (sym c.in_ok-start.ensures.rest) c.first_line.ensures
