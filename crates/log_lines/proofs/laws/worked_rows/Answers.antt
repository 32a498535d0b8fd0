use Rattle.log_lines.proofs.Rows.{sample_is}
use Rattle.log_lines.proofs.laws.worked_rows.Goals as goal

pub returns : goal.returns
returns c = sample_is
