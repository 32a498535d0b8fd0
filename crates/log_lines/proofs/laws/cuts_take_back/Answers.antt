use Rattle.log_lines.proofs.Cutting.{cuts_back}
use Rattle.log_lines.proofs.laws.cuts_take_back.Goals as goal

pub returns : goal.returns
returns c = λ log events. cuts_back log events
