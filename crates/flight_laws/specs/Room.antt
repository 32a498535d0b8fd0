-- The probe's work does not reach 2^64 while the calls are not too many for that.
use Rattle.std.specs.Prelude.{◌≡◌, ℕ, ◌+◌, ◌-◌, ◌*◌, ◌^◌, ◌<◌, false, List, [], ◌∷◌, ◌++◌, length}
use Rattle.target_machine.specs.Plain.{Commands, forgives}
use Rattle.target_machine.specs.declared.access.RegAccess.{RegAccess}
use Rattle.flight_forms.specs.Flights.{Part}
use Rattle.probe_core.specs.Bench.{BenchState}
use Rattle.probe_core.specs.Probe.{target_of, work_of}
use Rattle.target_calls.specs.Asks.{IsAskable}
use Rattle.target_calls.specs.Journal.{Entry}
use Rattle.target_calls.specs.declared.calls.Ask.{Ask}
use Rattle.access_regs.specs.Entries.{target_by}
use Rattle.access_regs.specs.Journal.{actions_of, issue_of, making}
use Rattle.access_regs.specs.Kept.{Kept}
use Rattle.access_regs.specs.declared.planner.Planner.{Planner}
use Rattle.access_calls.specs.Reported.{AccessView}
use Rattle.batch_packer.specs.Actions.{DoesAction}
use Rattle.batch_packer.specs.Flying.{Flies}
use Rattle.flight_laws.specs.Flying.{IsFlying}
use Rattle.flight_laws.specs.Sending.{IsSending}

-- Since the beginning there is room for so many calls.
abbrev pub HasRoom : List Ask → BenchState → Type 0
HasRoom calls m0 = work_of m0.probe + 60000012 * length calls < 2 ^ 64

-- There is room for one more entry in the flight.
abbrev pub PushRoom : Type 0
PushRoom = (p : Planner) (calls : List Ask) (confirmed count : ℕ) (flying : List Entry) (e : Entry) (rest : List Entry) (accesses : List RegAccess)
    (came : List ℕ) (m0 m : BenchState) →
    IsSending p calls confirmed count flying (e ∷ rest) accesses came m0 m → HasRoom calls m0 → work_of m.probe + length flying + 1 < 2 ^ 64

-- There is room for a poll or a command of the probe.
abbrev pub ActionRoom : Type 0
ActionRoom = (p : Planner) (calls : List Ask) (confirmed count : ℕ) (e : Entry) (rest : List Entry) (came : List ℕ) (m0 m o : BenchState) →
    IsSending p calls confirmed count [] (e ∷ rest) [] came m0 m → DoesAction e.action m o → HasRoom calls m0 → work_of o.probe < 2 ^ 64

-- There is room for the write of ABORT after a flight.
abbrev pub ForgivenRoom : Type 0
ForgivenRoom = (p : Planner) (calls : List Ask) (confirmed count : ℕ) (flying : List Entry) (abort : Entry) (rest : List Entry) (accesses : List RegAccess)
    (came : List ℕ) (m0 m o q : BenchState) (part : Part) →
    IsSending p calls confirmed count flying (abort ∷ rest) accesses came m0 m → Flies accesses part m o → DoesAction (Commands forgives) o q →
    HasRoom calls m0 → work_of q.probe < 2 ^ 64

-- There is room for the accesses of a call.
abbrev pub CallRoom : Type 0
CallRoom = (p : Planner) (a : AccessView) (kept : Kept) (accesses : List RegAccess) (came : List ℕ) (ask : Ask) (more : List RegAccess) (m0 m : BenchState) →
    IsFlying p a kept accesses came m0 m →
    IsAskable ask → ask.settled ≡ false → actions_of (issue_of p (target_by p (target_of m0.probe) a.asks.calls) kept ask).steps ≡ making more →
    HasRoom (a.asks.calls ++ ask ∷ []) m0 → work_of m.probe + (a.issued - a.confirmed) + length more < 2 ^ 64
