use Rattle.log_lines.proofs.Cutting.{written_all}
use Rattle.log_lines.proofs.laws.lines_are_the_text.Goals as goal

pub returns : goal.returns
returns c = λ log events. written_all log events
