use Rattle.std.proofs.Common.{◌∙◌, take, ap}
use Rattle.log_lines.specs.LogLines.{LogLines}
use Rattle.log_lines.proofs.Cutting.{cut_lines, lines_at}
use Rattle.log_lines.proofs.log.EventLog.cut.Goals as goal

pub returns : goal.returns
returns c =
    cut_lines c.args.mark.len c.args.mark.depth c.self.inside.entries.items c.truncate.new.self.items c.truncate.ensures.items
    ∙ ap (λ (l : LogLines). lines_at c.args.mark.depth (take c.args.mark.len l.lines)) c.self.view_is
