use Rattle.std.proofs.Common.{◌≡◌, ◌<◌, ◌++◌, true, length, take}
use Rattle.target_machine.specs.declared.access.RegAccess.{RegAccess}
use Rattle.flight_forms.specs.Packing.{IsTaken}
use Rattle.packed_access.specs.Forgiving.{with_accesses}
use Rattle.packed_access.proofs.sender.Sender.push_all.Given as goal

abbrev pub invariant-loop-access : goal.invariant-loop-access
invariant-loop-access g l = record {
  accesses : g.F.Flights.accesses l.self.flights ≡ g.F.Flights.accesses l.fn.self.flights ++ take l.access-index l.accesses;
  log : l.self.log ≡ with_accesses l.fn.self.log l.unit l.part (take l.access-index l.accesses);
  space : (next : RegAccess) → IsTaken next → length (g.F.Flights.accesses l.self.flights) < 4 → g.F.Flights.has_room l.self.flights next ≡ true;
  reported : g.F.Flights.reported l.self.flights ≡ g.F.Flights.reported l.fn.self.flights;
  state : g.F.Flights.state l.self.flights ≡ g.F.Flights.state l.fn.self.flights;
  limits : g.F.Flights.limits l.self.flights ≡ g.F.Flights.limits l.fn.self.flights;
  managed : l.self.managed ≡ l.fn.self.managed;
  identity : g.F.Flights.identity l.self.flights ≡ g.F.Flights.identity l.fn.self.flights;
}
