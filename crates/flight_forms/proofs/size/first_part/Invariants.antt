use Rattle.flight_forms.proofs.FirstParts.{IsFilling}
use Rattle.flight_forms.proofs.size.first_part.Given as goal

abbrev pub invariant-loop-index : goal.invariant-loop-index
invariant-loop-index l = IsFilling l.packet_size l.index l.accesses l.tally l.after_write
