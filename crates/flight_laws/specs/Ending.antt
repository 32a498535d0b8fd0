-- How an access ends whose calls lie in a flight, and what is true of it from its beginning to its end.
use Rattle.std.specs.Prelude.{◌≡◌, ◌⊎◌, ℕ, ◌+◌, ◌*◌, ◌<◌, ◌≤◌, true, false, List, [], ◌∷◌, length, take, Option, Some, None, ⊤}
use Rattle.target_machine.specs.State.{Agree}
use Rattle.target_machine.specs.declared.access.RegAccess.{RegAccess}
use Rattle.dap_messages.specs.declared.request.Response.{Response}
use Rattle.dap_messages.specs.declared.request.Response.TheVariants.{Wait, Fault, Mismatch}
use Rattle.flight_forms.specs.Flights.{DoesPart, Part}
use Rattle.probe_core.specs.Bench.{BenchState}
use Rattle.probe_core.specs.Probe.{ended_retries_of, target_of, work_of}
use Rattle.target_calls.specs.Asks.{is_settled}
use Rattle.target_calls.specs.Journal.{Entry}
use Rattle.target_calls.specs.Weights.{weight}
use Rattle.target_calls.specs.World.{World, results, stop}
use Rattle.target_calls.specs.declared.calls.Ask.{Ask}
use Rattle.access_regs.specs.Journal.{issued_entries}
use Rattle.access_regs.specs.Kept.{Kept}
use Rattle.access_regs.specs.declared.planner.Planner.{Planner}
use Rattle.access_calls.specs.Left.{IsLeft}
use Rattle.access_calls.specs.Numbers.{HasNumbers}
use Rattle.access_calls.specs.Reported.{AccessView, began, world_from}
use Rattle.access_calls.specs.Standing.{AccessStands, IsPartOfAction, StandsAt, WhereObservable}
use Rattle.access_calls.specs.Standing.{flight_accesses, idle_cycles_of, pending_of, transfer_number_of, transfer_setting_of}
use Rattle.access_calls.specs.declared.stop.Report.{Report}
use Rattle.access_calls.specs.declared.stop.Stop.{Stop}
use Rattle.access_calls.specs.declared.stop.Stop.TheVariants.{BenchFault, Cut}
use Rattle.access_calls.specs.declared.stop.StopCause.{StopCause}
use Rattle.access_calls.specs.declared.stop.StopCause.TheVariants.{Faulted, NoAnswer}
use Rattle.batch_packer.specs.Flying.{Flies, transfers_of}
use Rattle.flight_laws.specs.Flights.{AreStrict}
use Rattle.flight_laws.specs.Flying.{IsFlying}
use Rattle.flight_laws.specs.Sending.{IsSending}
use Rattle.dap_transfer.specs.WireTransfer.{RetryIsOver}

-- It has ended so: what the contract of accesses says of the end is so, and the results that came stay, in each world that is left.
pub record IsEnded (p : Planner) (s : Stop) (a : AccessView) (came : List ℕ) (m0 m : BenchState) : Type 0 where
  pub stands : (n : Option ℕ) → IsLeft a n → StandsAt (Some s) (issued_entries p (target_of m0.probe) a.asks.calls) a (began m0 n) m
  pub results_are : (n : Option ℕ) → IsLeft a n → take (length came) (results (world_from m0 n) a.asks.calls) ≡ came

-- by its end: its calls lie in the flight, or it has ended
abbrev pub BegunAt : Planner → Option Stop → AccessView → Kept → List RegAccess → List ℕ → BenchState → BenchState → Type 0
BegunAt p None a kept accesses came m0 m = IsFlying p a kept accesses came m0 m
BegunAt p (Some s) a kept accesses came m0 m = IsEnded p s a came m0 m

-- The access began when its bench had this state.
pub record IsBegun (p : Planner) (a : AccessView) (kept : Kept) (accesses : List RegAccess) (came : List ℕ) (m0 : BenchState) : Type 0 where
  pub so : WhereObservable a.state (λ m. BegunAt p a.end a kept accesses came m0 m)

-- So it has come as far as the contract of accesses says.
abbrev pub BegunStands : Type 0
BegunStands = (p : Planner) (a : AccessView) (kept : Kept) (accesses : List RegAccess) (came : List ℕ) (m0 : BenchState) (n : Option ℕ) →
    IsBegun p a kept accesses came m0 → IsLeft a n → AccessStands (issued_entries p) a (began m0 n)

-- The results that came are those of the first calls in each world that is left, also after an end.
abbrev pub BegunCame : Type 0
BegunCame = (p : Planner) (a : AccessView) (kept : Kept) (accesses : List RegAccess) (came : List ℕ) (m0 : BenchState) (n : Option ℕ) →
    IsBegun p a kept accesses came m0 → IsLeft a n → take (length came) (results (world_from m0 n) a.asks.calls) ≡ came

-- ---- a cut

-- the transfer response of a cut
abbrev pub response_of_cause : StopCause → Response
response_of_cause Faulted = Fault
response_of_cause NoAnswer = Wait

-- at a fault the flight has only entries whose faults are not forgiven
abbrev pub IsStrictAt : StopCause → List Entry → Type 0
IsStrictAt Faulted flying = AreStrict flying
IsStrictAt NoAnswer flying = ⊤

-- The access is cut: it reports the end, with the numbers of a stop, and counts as come the calls that have their lines before it.
pub record IsCutOff (p : Planner) (r : Report) (b : AccessView) (m0 : BenchState) : Type 0 where
  pub end : b.end ≡ Some (Cut r)
  pub numbers : HasNumbers (issued_entries p (target_of m0.probe) b.asks.calls) b.asks.calls b.skipped b.lines r
  pub came : b.came ≡ b.lines

-- At a fault the calls stop right after those that have their lines before it. Where a retry ended they do, or all have and a `finish` was made
-- after the last.
abbrev pub StopsBy : StopCause → World → List Ask → ℕ → Type 0
StopsBy Faulted w asks lines = stop w asks ≡ Some (lines + 1)
StopsBy NoAnswer w asks lines = (stop w asks ≡ Some (lines + 1)) ⊎ ((stop w asks ≡ None) × ((lines ≡ length asks) × (is_settled asks ≡ true)))

-- what is true after a cut: it has ended so, no call that came is lost, and there the calls stop
pub record EndsCut (p : Planner) (r : Report) (b : AccessView) (count : ℕ) (came : List ℕ) (m0 o : BenchState) : Type 0 where
  pub ended : IsEnded p (Cut r) b came m0 o
  pub kept : count ≤ b.lines
  pub stops : (n : Option ℕ) → IsLeft b n → StopsBy r.cause (world_from m0 n) b.asks.calls b.lines

-- A flight was cut.
abbrev pub FlightEnds : Type 0
FlightEnds = (p : Planner) (confirmed count : ℕ) (flying rest : List Entry) (accesses : List RegAccess) (came : List ℕ) (m0 m o : BenchState) (part : Part)
    (r : Report) (b : AccessView) →
    IsSending p b.asks.calls confirmed count flying rest accesses came m0 m → Flies accesses part m o → part.response ≡ response_of_cause r.cause →
    IsStrictAt r.cause flying → r.accesses ≡ confirmed + part.performed → r.confirmed ≡ confirmed + part.confirmed → IsCutOff p r b m0 →
    EndsCut p r b count came m0 o

-- A retry ended in a poll that is made read by read, whose reads changed nothing.
abbrev pub PollEnds : Type 0
PollEnds = (p : Planner) (confirmed count : ℕ) (e : Entry) (rest : List Entry) (came : List ℕ) (m0 m o : BenchState) (work : ℕ) (r : Report) (b : AccessView) →
    IsSending p b.asks.calls confirmed count [] (e ∷ rest) [] came m0 m →
    work_of o.probe ≡ work_of m.probe + work → work < weight (target_of m.probe) e.action → Agree (target_of o.probe) (target_of m.probe) →
    idle_cycles_of o ≡ idle_cycles_of m → ended_retries_of o.probe ≡ ended_retries_of m.probe + 1 → RetryIsOver (transfer_setting_of m) (transfer_number_of o) →
    transfer_number_of o ≤ transfer_number_of m + 2 * work + 1 → pending_of o ≡ false →
    r.cause ≡ NoAnswer → r.accesses ≡ confirmed → r.confirmed ≡ confirmed → IsCutOff p r b m0 → EndsCut p r b count came m0 o

-- ---- a bench that failed

-- The access reports that its bench failed, and counts as come the calls that came before.
pub record IsBenchEnd (issued confirmed count : ℕ) (b : AccessView) : Type 0 where
  pub end : b.end ≡ Some (BenchFault issued confirmed)
  pub came : b.came ≡ count

-- The bench failed in a flight, which its limits hold.
abbrev pub FlightFails : Type 0
FlightFails = (p : Planner) (confirmed count : ℕ) (flying rest : List Entry) (accesses : List RegAccess) (came : List ℕ) (m0 m o : BenchState) (part : Part)
    (b : AccessView) →
    IsSending p b.asks.calls confirmed count flying rest accesses came m0 m →
    (transfers_of o ≡ transfers_of m) ⊎ DoesPart (transfers_of m) (transfers_of o) accesses part → idle_cycles_of o ≡ idle_cycles_of m →
    (part.response ≡ Mismatch → ⊥) → length accesses ≤ flight_accesses b.bench.limits → IsBenchEnd (confirmed + length flying) confirmed count b →
    IsEnded p (BenchFault (confirmed + length flying) confirmed) b came m0 o

-- The bench failed in a poll or a command of the probe, of which a part was done, or nothing.
abbrev pub ActionFails : Type 0
ActionFails = (p : Planner) (confirmed count : ℕ) (e : Entry) (rest : List Entry) (came : List ℕ) (m0 m o : BenchState) (work : ℕ) (b : AccessView) →
    IsSending p b.asks.calls confirmed count [] (e ∷ rest) [] came m0 m →
    work_of o.probe ≡ work_of m.probe + work → work < weight (target_of m.probe) e.action →
    ((work ≡ 0) × Agree (target_of o.probe) (target_of m.probe)) ⊎ IsPartOfAction e.action (target_of m.probe) (target_of o.probe) →
    idle_cycles_of o ≡ idle_cycles_of m →
    IsBenchEnd (confirmed + 1) confirmed count b → IsEnded p (BenchFault (confirmed + 1) confirmed) b came m0 o
