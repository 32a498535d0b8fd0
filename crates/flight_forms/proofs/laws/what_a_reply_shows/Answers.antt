use Rattle.flight_forms.proofs.GuardedShortness.{guarded_shows, parts_joined}
use Rattle.flight_forms.proofs.Shortness.{block_shows, transfer_shows}
use Rattle.flight_forms.proofs.laws.what_a_reply_shows.Goals as goal

pub returns : goal.returns
returns c = record { block = block_shows; transfer = transfer_shows; guarded = guarded_shows; joined = parts_joined }
