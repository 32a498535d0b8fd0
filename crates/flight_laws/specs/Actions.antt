-- Entries that are no register access: polls and commands of the probe. And faults that are forgiven.
use Rattle.std.specs.Prelude.{◌≡◌, ◌⊎◌, ℕ, ◌+◌, ◌*◌, ◌^◌, ◌<◌, ◌≤◌, true, false, List, [], ◌∷◌, ◌++◌, length, Option}
use Rattle.std.specs.List.{AllByRecursion}
use Rattle.target_machine.specs.Plain.{Action, Commands, action_attempt, forgives}
use Rattle.target_machine.specs.State.{Agree}
use Rattle.target_machine.specs.declared.access.RegAccess.{RegAccess}
use Rattle.dap_messages.specs.declared.request.Response.TheVariants.{Fault}
use Rattle.flight_forms.specs.Flights.{Part}
use Rattle.probe_core.specs.Bench.{BenchState}
use Rattle.probe_core.specs.Probe.{ended_retries_of, target_of, work_of}
use Rattle.probe_core.specs.declared.job.Limits.{Limits}
use Rattle.target_calls.specs.Journal.{Entry, is_unforgiven}
use Rattle.target_calls.specs.Weights.{weight}
use Rattle.access_regs.specs.Entries.{NoneFault}
use Rattle.access_calls.specs.Numbers.{HasNumbers}
use Rattle.access_calls.specs.Reported.{AccessView, began}
use Rattle.access_calls.specs.Standing.{HasBroken, IsPartOfAction, IsUnanswered, idle_cycles_of, pending_of, transfer_number_of, transfer_setting_of}
use Rattle.access_calls.specs.declared.stop.Report.{Report}
use Rattle.batch_packer.specs.Actions.{DoesAction}
use Rattle.batch_packer.specs.Flying.{Flies}
use Rattle.flight_laws.specs.UnderWay.{IsUnderWay}
use Rattle.dap_transfer.specs.WireTransfer.{RetryIsOver}

-- Where nothing lies in the flight and the next entry is such an action, it is made by that.
abbrev pub ActionDone : Type 0
ActionDone = (entries made : List Entry) (e : Entry) (rest : List Entry) (m0 m o : BenchState) → IsUnderWay entries made [] (e ∷ rest) [] m0 m →
    DoesAction e.action m o → is_unforgiven (target_of m.probe) e ≡ false → work_of o.probe < 2 ^ 64 →
    IsUnderWay entries (made ++ e ∷ []) [] rest [] m0 o

-- Where the bench failed and less than the whole action was done, the entry counts as issued and not as performed.
abbrev pub ActionBench : Type 0
ActionBench = (limits : Limits) (entries made : List Entry) (e : Entry) (rest : List Entry) (n : Option ℕ) (m0 m o : BenchState) (work : ℕ) →
    IsUnderWay entries made [] (e ∷ rest) [] m0 m →
    work_of o.probe ≡ work_of m.probe + work → work < weight (target_of m.probe) e.action →
    ((work ≡ 0) × Agree (target_of o.probe) (target_of m.probe)) ⊎ IsPartOfAction e.action (target_of m.probe) (target_of o.probe) →
    idle_cycles_of o ≡ idle_cycles_of m →
    HasBroken limits entries (length made + 1) (length made) (began m0 n) o

-- Where a retry ended in a poll that is made read by read, and the reads changed nothing, the entry is the one that stops.
abbrev pub ActionWait : Type 0
ActionWait = (entries made : List Entry) (e : Entry) (rest : List Entry) (n : Option ℕ) (m0 m o : BenchState) (work : ℕ) (r : Report) (b : AccessView) →
    IsUnderWay entries made [] (e ∷ rest) [] m0 m →
    work_of o.probe ≡ work_of m.probe + work → work < weight (target_of m.probe) e.action → Agree (target_of o.probe) (target_of m.probe) →
    idle_cycles_of o ≡ idle_cycles_of m → ended_retries_of o.probe ≡ ended_retries_of m.probe + 1 → RetryIsOver (transfer_setting_of m) (transfer_number_of o) →
    transfer_number_of o ≤ transfer_number_of m + 2 * work + 1 → pending_of o ≡ false →
    r.accesses ≡ length made → r.confirmed ≡ length made → HasNumbers entries b.asks.calls b.skipped b.lines r →
    IsUnanswered entries r b (began m0 n) o

-- the entries are of units that forgive a fault
abbrev pub AreForgiving : List Entry → Type 0
AreForgiving entries = AllByRecursion (λ e. e.forgiving ≡ true) entries

-- A flight of a forgiving unit met a fault at its last access, and then ABORT was written: all of these entries are made.
abbrev pub FaultForgiven : Type 0
FaultForgiven = (entries made flying : List Entry) (abort : Entry) (rest : List Entry) (lead : List RegAccess) (a : RegAccess) (m0 m o p : BenchState) (part : Part) →
    IsUnderWay entries made flying (abort ∷ rest) (lead ++ a ∷ []) m0 m → Flies (lead ++ a ∷ []) part m o → part.response ≡ Fault →
    NoneFault (target_of m.probe) lead → AreForgiving flying → abort.action ≡ Commands forgives → abort.forgiving ≡ true →
    DoesAction (Commands forgives) o p → work_of p.probe < 2 ^ 64 →
    IsUnderWay entries (made ++ (flying ++ abort ∷ [])) [] rest [] m0 p
