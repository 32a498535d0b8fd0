use Rattle.std.proofs.Common.{◌∙◌, sym}
use Rattle.bench_flights.proofs.RoomLemmas.{room_full}
use Rattle.bench_flights.proofs.wire.WireFlights.room.Goals as goal

pub returns-clause-full : goal.returns-clause-full
returns-clause-full g c = λ managed no. room_full c.args.self.now.flight.limits c.args.self.now.flight.accesses c.args.next c.args.self.now.limits (sym c.room.ensures ∙ no)
