use Rattle.std.proofs.Common.{◌≡◌, ℕ, ◌+◌, ◌*◌, ◌/◌, ◌<◌, [], None}
use Rattle.probe_core.specs.Bench.{StepsTo}
use Rattle.batch_packer.specs.Flying.{CanFly}
use Rattle.bench_flights.specs.Flown.{BenchGoesOn}
use Rattle.bench_flights.specs.Flown.{CanMatch, SendsFew}
use Rattle.bench_flights.specs.Wires.{HasLooked}
use Rattle.bench_flights.proofs.wire.WireFlights.poll.Given as goal

abbrev pub invariant-loop-left : goal.invariant-loop-left
invariant-loop-left g l = record {
  made : ℕ;
  is : made + l.left ≡ l.turns;
  usable : l.self.flight.end ≡ None;
  empty : l.self.flight.accesses ≡ [];
  on : StepsTo (λ m o. CanFly m → CanMatch l.config.idle l.config.retry m → HasLooked l.mask l.requested made 0 m o) (g.B.Bench.state l.fn.self.bench) (g.B.Bench.state l.self.bench);
  count : ℕ;
  count_is : count ≡ (made + 65535) / 65536;
  full : 0 < l.left → made ≡ 65536 * count;
  packets : StepsTo (λ m o. CanFly m → CanMatch l.config.idle l.config.retry m → SendsFew count m o) (g.B.Bench.state l.fn.self.bench) (g.B.Bench.state l.self.bench);
  limits : l.self.flight.limits ≡ l.fn.self.flight.limits;
  goes : BenchGoesOn (g.B.Bench.reported l.fn.self.bench) (g.B.Bench.reported l.self.bench) (g.B.Bench.state l.fn.self.bench) (g.B.Bench.state l.self.bench);
  faults : (g.B.Bench.reported l.self.bench).faults ≡ (g.B.Bench.reported l.fn.self.bench).faults;
  identity : g.B.Bench.identity l.self.bench ≡ g.B.Bench.identity l.fn.self.bench;
}

abbrev pub decreases-loop-left : goal.decreases-loop-left
decreases-loop-left g l = l.left
