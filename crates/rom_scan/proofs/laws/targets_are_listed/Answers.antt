use Rattle.rom_scan.proofs.TargetLemmas.{lists_target}
use Rattle.rom_scan.proofs.laws.targets_are_listed.Goals as goal

pub returns : goal.returns
returns c = λ w most ap port can. lists_target w most ap port can
