use Rattle.function_table.proofs.SomePieces.{divided}
use Rattle.function_table.proofs.laws.division_or_none.Goals as goal

pub returns : goal.returns
returns c = divided
