use Rattle.rom_scan.proofs.ListLemmas.{lists_components}
use Rattle.rom_scan.proofs.laws.components_are_listed.Goals as goal

pub returns : goal.returns
returns c = λ f most ap. lists_components f most ap
