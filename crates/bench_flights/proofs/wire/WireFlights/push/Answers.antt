use Rattle.std.proofs.Common.{ap}
use Rattle.batch_packer.specs.FlightStates.{FlightState}
use Rattle.bench_flights.proofs.FormLemmas.{few_after}
use Rattle.bench_flights.proofs.wire.WireFlights.push.Goals as goal

pub returns-clause-few : goal.returns-clause-few
returns-clause-few g c = λ managed. few_after c.args.self.now.flight.limits c.push.new.self.limits c.args.self.now.flight.accesses c.push.new.self.accesses c.args.next c.args.self.now.limits (ap (λ (f : FlightState). f.limits) c.push.ensures.pushed) (ap (λ (f : FlightState). f.accesses) c.push.ensures.pushed)
