use Rattle.device_tree.proofs.FaultLaws.{pack_decided}
use Rattle.device_tree.proofs.laws.pack_or_fault.Goals as goal

pub returns : goal.returns
returns c = pack_decided
