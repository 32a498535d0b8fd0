use Rattle.std.proofs.Common.{arith}
use Rattle.batch_packer.proofs.FlightLemmas.{few_held}
use Rattle.batch_packer.proofs.flight.Flight.count.Goals as goal

pub overflow_cast-result : goal.overflow_cast-result
overflow_cast-result c =
    let inv = c.self.invariant in
    let few = few_held c.self.inside.limits c.self.inside.accesses.items inv.in_range inv.held in
    let l = c.len.ensures in omega arith
