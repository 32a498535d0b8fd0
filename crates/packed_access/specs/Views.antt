-- A sender as contracts see it, as one value; what an access over it reports, and how far it has come.
use Rattle.std.specs.Prelude.{◌≡◌, ℕ, Bool, true, List, [], Option}
use Rattle.target_machine.specs.Plain.{Action}
use Rattle.target_machine.specs.State.{TargetState}
use Rattle.target_machine.specs.declared.unit.Unit.{Unit as AccessUnit}
use Rattle.target_machine.specs.declared.access.RegAccess.{RegAccess}
use Rattle.flight_forms.specs.Packing.{IsTaken}
use Rattle.probe_core.specs.Bench.{BenchState}
use Rattle.probe_core.specs.Bench.{Reported as BenchReported}
use Rattle.probe_core.specs.Probe.{target_of}
use Rattle.probe_core.specs.declared.job.Limits.{Limits}
use Rattle.target_calls.specs.Journal.{Entry}
use Rattle.target_calls.specs.NeedPoints.{asks_with_call}
use Rattle.target_calls.specs.declared.calls.Ask.{Ask}
use Rattle.access_regs.specs.Costs.{cost_by}
use Rattle.access_regs.specs.Kept.{Kept}
use Rattle.access_regs.specs.declared.planner.Planner.{Planner}
use Rattle.access_calls.specs.Reported.{AccessView}
use Rattle.access_calls.specs.declared.stop.Stop.{Stop}
use Rattle.packed_access.specs.Begun.{HasBegun, HasIssued, LogHasAsked, LogHasEnded}
use Rattle.packed_access.specs.Forgiving.{LogHasTried, LogIsBroken}
use Rattle.packed_access.specs.Logs.{LogState, asks_of, reported_by}
use Rattle.packed_access.specs.Sparing.{HasPaid, HasSpared}

-- What contracts see of a sender: what its flights say of themselves and of their bench, and what it keeps.
pub record SenderView : Type 0 where
  -- in which way the accesses of units are planned
  pub planner : Planner
  -- what the bench reports
  pub bench : BenchReported
  -- the state of the bench, where that is observable
  pub state : Option BenchState
  -- which loan the bench is
  pub identity : ℕ
  -- the limits that packets are held to
  pub limits : Limits
  -- the accesses that were pushed and not sent
  pub accesses : List RegAccess
  -- whether there is room for an access more
  pub admits : RegAccess → Bool
  -- the packet that ended the flights
  pub sent : List ℕ
  -- the reply to it
  pub got : List ℕ
  -- what is known of the registers
  pub managed : Kept
  -- what is kept of the calls
  pub log : LogState

-- what an access over the sender reports
abbrev pub access_view : SenderView → AccessView
access_view s = reported_by s.bench s.state s.log s.sent s.got

-- of the entries of the calls these are still to be issued
abbrev pub IsToIssue : SenderView → List Entry → BenchState → Type 0
IsToIssue s rest m0 = HasIssued s.planner s.state s.log s.accesses rest m0

-- these are still to be issued, and those before them were sent
abbrev pub IsToIssueNext : SenderView → List Entry → BenchState → Type 0
IsToIssueNext s rest m0 = HasIssued s.planner s.state s.log [] rest m0

-- at most so many starting packets were sent, besides those of full flights
abbrev pub SenderIsSparing : SenderView → ℕ → BenchState → Type 0
SenderIsSparing s points m0 = HasSpared s.planner s.limits s.bench.limits s.state s.log points m0

-- the starting packets were paid for by need points, and so many of these are left
abbrev pub IsPaid : SenderView → ℕ → BenchState → Type 0
IsPaid s left m0 = HasPaid s.planner s.limits s.bench.limits s.state s.log left m0

-- the last call was asked after these, and nothing of it is issued
abbrev pub SenderHasAsked : SenderView → List Ask → Ask → BenchState → Type 0
SenderHasAsked s calls ask m0 = LogHasAsked s.planner s.state s.log s.accesses s.managed calls ask m0

-- the access began when its bench had this state
abbrev pub SenderHasBegun : SenderView → BenchState → Type 0
SenderHasBegun s m0 = HasBegun s.planner s.bench s.state s.log s.sent s.got s.managed s.accesses m0

-- the access has ended so
abbrev pub IsAtEnd : SenderView → BenchState → Stop → Type 0
IsAtEnd s m0 stop = LogHasEnded s.planner stop (access_view s) s.log m0

-- there is room for any access
abbrev pub HasSpace : SenderView → Type 0
HasSpace s = (next : RegAccess) → IsTaken next → s.admits next ≡ true

-- the need points of the last call, asked after these, were counted
abbrev pub SenderHasNeeds : SenderView → SenderView → List Ask → Ask → BenchState → Type 0
SenderHasNeeds old new calls ask m0 =
    asks_of new.log ≡ asks_with_call (cost_by old.planner (target_of m0.probe) calls ask) ask (record { calls = calls; needs = old.log.needs; fence = old.log.fence })

-- a unit that is made alone has made these accesses, and these actions follow where no later one does
abbrev pub IsTried : SenderView → Bool → AccessUnit → Kept → TargetState → List RegAccess → List Action → BenchState → Type 0
IsTried s forgive asks_with_call k t made rest m0 = LogHasTried s.planner forgive s.state s.log asks_with_call k t made rest m0

-- the access has ended so, and there the calls stop
abbrev pub SenderIsBroken : SenderView → List Ask → BenchState → Stop → Type 0
SenderIsBroken s calls m0 stop = LogIsBroken s.planner stop (access_view s) s.log calls m0
