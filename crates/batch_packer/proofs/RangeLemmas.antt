-- The numbers of a target fit their registers and words after the first of some accesses.
use Rattle.std.proofs.Common.{ℕ, List, take}
use Rattle.target_machine.specs.InRange.{IsInRange}
use Rattle.target_machine.specs.State.{TargetState}
use Rattle.target_machine.specs.declared.access.RegAccess.{RegAccess}
use Rattle.dap_transfer.specs.Laws.{one_at_a_time}
use Rattle.flight_forms.proofs.Ranges.{stays_in_range}
use Rattle.flight_forms.specs.Packing.{AreWords}
use Rattle.flight_forms.proofs.ChainAnswers.{taken_ranges}

pub taken_in_range : (t : TargetState) (n : ℕ) (accesses : List RegAccess) → IsInRange t → AreWords accesses → IsInRange (one_at_a_time t (take n accesses))
taken_in_range t n accesses h words = stays_in_range t (take n accesses) h (taken_ranges n accesses words)
