use Rattle.std.proofs.Common.{◌≡◌, ◌+◌, ◌≤◌, ◌++◌, ◌∷◌, [], true, Bool, List, length, take, drop}
use Rattle.target_machine.specs.Plain.{Action}
use Rattle.target_machine.specs.State.{TargetState}
use Rattle.target_machine.specs.declared.access.RegAccess.{RegAccess}
use Rattle.target_machine.specs.declared.unit.Unit.{Unit as AccessUnit}
use Rattle.flight_forms.specs.Packing.{IsTaken}
use Rattle.probe_core.specs.Bench.{BenchState}
use Rattle.access_calls.specs.GoesOn.{AccessGoesOn}
use Rattle.access_regs.specs.Journal.{making}
use Rattle.access_regs.specs.Kept.{Kept}
use Rattle.packed_access.specs.Forgiving.{AreNextAccesses, LogHasTried}
use Rattle.packed_access.specs.Logs.{IsFurther, asks_of, reported_by}
use Rattle.packed_access.proofs.sender.Sender.try_leads.Given as goal

abbrev pub invariant-loop-lead : goal.invariant-loop-lead
invariant-loop-lead g l = record {
  on : (m0 : BenchState) (asked : AccessUnit) (k : Kept) (t : TargetState) (made : List RegAccess) (last : RegAccess) (ends : Bool) (rest more : List Action)
      → LogHasTried g.F.Flights.planner l.forgive (g.F.Flights.state l.fn.self.flights) l.fn.self.log asked k t made rest m0 → AreNextAccesses asked t made l.leads last ends rest more
      → LogHasTried g.F.Flights.planner l.forgive (g.F.Flights.state l.self.flights) l.self.log asked k t (made ++ take l.lead-index l.leads) (making (drop l.lead-index l.leads ++ last ∷ []) ++ more) m0;
  goes : AccessGoesOn (reported_by (g.F.Flights.reported l.fn.self.flights) (g.F.Flights.state l.fn.self.flights) l.fn.self.log (g.F.Flights.packet l.fn.self.flights) (g.F.Flights.reply l.fn.self.flights))
      (reported_by (g.F.Flights.reported l.self.flights) (g.F.Flights.state l.self.flights) l.self.log (g.F.Flights.packet l.self.flights) (g.F.Flights.reply l.self.flights));
  later : l.fn.self.log.confirmed ≤ l.self.log.confirmed;
  limits : g.F.Flights.limits l.self.flights ≡ g.F.Flights.limits l.fn.self.flights;
  further : IsFurther l.fn.self.log l.self.log;
  came : l.self.log.came ≡ l.self.log.whole;
  empty : g.F.Flights.accesses l.self.flights ≡ [];
  space : (next : RegAccess) → IsTaken next → g.F.Flights.has_room l.self.flights next ≡ true;
  asks : asks_of l.self.log ≡ asks_of l.fn.self.log;
  entries : length l.self.log.entries ≤ length l.fn.self.log.entries + l.lead-index;
  managed : l.self.managed ≡ l.fn.self.managed;
  identity : g.F.Flights.identity l.self.flights ≡ g.F.Flights.identity l.fn.self.flights;
}
