use Rattle.flight_forms.proofs.Polls.{poll_fits, polls_at_once}
use Rattle.flight_forms.proofs.laws.a_poll_is_its_reads.Goals as goal

pub returns : goal.returns
returns c = record { reads = polls_at_once; fits = poll_fits }
