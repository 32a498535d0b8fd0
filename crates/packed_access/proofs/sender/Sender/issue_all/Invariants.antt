use Rattle.std.proofs.Common.{◌≡◌, ℕ, ◌+◌, ◌<◌, ◌++◌, List, length, drop}
use Rattle.probe_core.specs.Bench.{BenchState}
use Rattle.target_calls.specs.Journal.{Entry}
use Rattle.access_calls.specs.GoesOn.{AccessGoesOn}
use Rattle.packed_access.specs.Begun.{HasIssued, strict_entries}
use Rattle.packed_access.specs.Logs.{IsFurther, reported_by}
use Rattle.packed_access.specs.Sparing.{HasSpared}
use Rattle.packed_access.proofs.sender.Sender.issue_all.Given as goal

abbrev pub invariant-loop-access : goal.invariant-loop-access
invariant-loop-access g l = record {
  on : (m0 : BenchState) (rest : List Entry) → HasIssued g.F.Flights.planner (g.F.Flights.state l.fn.self.flights) l.fn.self.log (g.F.Flights.accesses l.fn.self.flights) (strict_entries l.unit l.part l.accesses ++ rest) m0
      → HasIssued g.F.Flights.planner (g.F.Flights.state l.self.flights) l.self.log (g.F.Flights.accesses l.self.flights) (strict_entries l.unit l.part (drop l.access-index l.accesses) ++ rest) m0;
  spare : (m0 : BenchState) (rest : List Entry) (points : ℕ) → HasIssued g.F.Flights.planner (g.F.Flights.state l.fn.self.flights) l.fn.self.log (g.F.Flights.accesses l.fn.self.flights) (strict_entries l.unit l.part l.accesses ++ rest) m0
      → HasSpared g.F.Flights.planner (g.F.Flights.limits l.fn.self.flights) (g.F.Flights.reported l.fn.self.flights).limits (g.F.Flights.state l.fn.self.flights) l.fn.self.log points m0
      → HasSpared g.F.Flights.planner (g.F.Flights.limits l.self.flights) (g.F.Flights.reported l.self.flights).limits (g.F.Flights.state l.self.flights) l.self.log points m0;
  goes : AccessGoesOn (reported_by (g.F.Flights.reported l.fn.self.flights) (g.F.Flights.state l.fn.self.flights) l.fn.self.log (g.F.Flights.packet l.fn.self.flights) (g.F.Flights.reply l.fn.self.flights))
      (reported_by (g.F.Flights.reported l.self.flights) (g.F.Flights.state l.self.flights) l.self.log (g.F.Flights.packet l.self.flights) (g.F.Flights.reply l.self.flights));
  entries : length l.self.log.entries ≡ length l.fn.self.log.entries + l.access-index;
  further : IsFurther l.fn.self.log l.self.log;
  pending : 0 < l.access-index → l.self.log.confirmed < length l.self.log.entries;
  managed : l.self.managed ≡ l.fn.self.managed;
  limits : g.F.Flights.limits l.self.flights ≡ g.F.Flights.limits l.fn.self.flights;
  identity : g.F.Flights.identity l.self.flights ≡ g.F.Flights.identity l.fn.self.flights;
}
