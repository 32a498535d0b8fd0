use Rattle.target_machine.proofs.StartRanges.{start_in_range}
use Rattle.target_machine.proofs.laws.ranges.start_is_in_range.Goals as goal

pub returns : goal.returns
returns c = start_in_range
