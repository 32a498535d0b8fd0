use Rattle.std.proofs.Common.{◌≡◌, ◌-◌}
use Rattle.packed_access.specs.Logs.{IsSoundState, flight_results}
use Rattle.packed_access.proofs.issuing.take_values.Given as goal

abbrev pub invariant-loop-index : goal.invariant-loop-index
invariant-loop-index g l = record {
  log : l.log ≡ record l.fn.log { results = flight_results (g.F.Flights.values l.flights) l.fn.log l.fn.log.came (l.index - l.fn.log.came) l.fn.log.results };
  sound : IsSoundState l.log;
}
