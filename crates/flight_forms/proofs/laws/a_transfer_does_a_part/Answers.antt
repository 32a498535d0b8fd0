use Rattle.flight_forms.proofs.Transfers.{does_transfer}
use Rattle.flight_forms.proofs.laws.a_transfer_does_a_part.Goals as goal

pub returns : goal.returns
returns c = does_transfer
