use Rattle.flight_forms.proofs.Blocks.{does_block}
use Rattle.flight_forms.proofs.laws.a_block_does_a_part.Goals as goal

pub returns : goal.returns
returns c = does_block
