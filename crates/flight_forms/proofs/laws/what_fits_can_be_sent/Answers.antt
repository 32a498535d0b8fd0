use Rattle.flight_forms.proofs.Fits.{block_fits, guarded_fits, parts_fit_packets, transfer_fits}
use Rattle.flight_forms.proofs.laws.what_fits_can_be_sent.Goals as goal

pub returns : goal.returns
returns c = record { block = block_fits; transfer = transfer_fits; guarded = guarded_fits; chain = parts_fit_packets }
