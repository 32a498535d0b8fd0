use Rattle.std.proofs.Common.{◌≡◌, ℕ, ◌+◌, ◌*◌, ◌<◌, [], None}
use Rattle.target_machine.specs.InRange.{IsInRange}
use Rattle.probe_core.specs.Bench.{StepsTo}
use Rattle.probe_core.specs.Probe.{target_of}
use Rattle.bench_flights.specs.Flown.{BenchGoesOn}
use Rattle.bench_flights.specs.Flown.{SendsFew}
use Rattle.bench_flights.specs.Wires.{HasDelayed}
use Rattle.bench_flights.proofs.wire.Wire.delay.Given as goal

abbrev pub invariant-loop-left : goal.invariant-loop-left
invariant-loop-left g l = record {
  count : ℕ;
  is : 65535 * count + l.left ≡ l.micros;
  some : 0 < count → 0 < l.left;
  usable : l.self.flight.end ≡ None;
  empty : l.self.flight.accesses ≡ [];
  on : StepsTo (λ m o. IsInRange (target_of m.probe) → HasDelayed count m o) (g.B.Bench.state l.fn.self.bench) (g.B.Bench.state l.self.bench);
  packets : StepsTo (λ m o. IsInRange (target_of m.probe) → SendsFew count m o) (g.B.Bench.state l.fn.self.bench) (g.B.Bench.state l.self.bench);
  limits : l.self.flight.limits ≡ l.fn.self.flight.limits;
  goes : BenchGoesOn (g.B.Bench.reported l.fn.self.bench) (g.B.Bench.reported l.self.bench) (g.B.Bench.state l.fn.self.bench) (g.B.Bench.state l.self.bench);
  faults : (g.B.Bench.reported l.self.bench).faults ≡ (g.B.Bench.reported l.fn.self.bench).faults;
  identity : g.B.Bench.identity l.self.bench ≡ g.B.Bench.identity l.fn.self.bench;
}

abbrev pub decreases-loop-left : goal.decreases-loop-left
decreases-loop-left g l = l.left
