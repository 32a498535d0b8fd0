use Rattle.flight_forms.proofs.Capacity.{held_most, one_fits, refused_is_full, refused_writes}
use Rattle.flight_forms.proofs.laws.how_many_fit.Goals as goal

pub returns : goal.returns
returns c = record { single = one_fits; full = refused_is_full; writes = refused_writes; most = held_most }
