use Rattle.std.proofs.Common.{◌≡◌, [], None}
use Rattle.probe_core.specs.Bench.{StepsTo}
use Rattle.batch_packer.specs.Flying.{CanFly}
use Rattle.bench_flights.specs.Flown.{BenchGoesOn}
use Rattle.bench_flights.specs.Flown.{SendsFew}
use Rattle.bench_flights.specs.Wires.{HasLooked}
use Rattle.bench_flights.proofs.wire.WireFlights.poll_by_reads.Given as goal

abbrev pub invariant-loop-turn : goal.invariant-loop-turn
invariant-loop-turn g l = record {
  usable : l.self.flight.end ≡ None;
  empty : l.self.flight.accesses ≡ [];
  on : StepsTo (λ m o. CanFly m → HasLooked l.mask l.requested l.turn 0 m o) (g.B.Bench.state l.fn.self.bench) (g.B.Bench.state l.self.bench);
  packets : StepsTo (λ m o. CanFly m → SendsFew l.turn m o) (g.B.Bench.state l.fn.self.bench) (g.B.Bench.state l.self.bench);
  limits : l.self.flight.limits ≡ l.fn.self.flight.limits;
  goes : BenchGoesOn (g.B.Bench.reported l.fn.self.bench) (g.B.Bench.reported l.self.bench) (g.B.Bench.state l.fn.self.bench) (g.B.Bench.state l.self.bench);
  faults : (g.B.Bench.reported l.self.bench).faults ≡ (g.B.Bench.reported l.fn.self.bench).faults;
  identity : g.B.Bench.identity l.self.bench ≡ g.B.Bench.identity l.fn.self.bench;
}
