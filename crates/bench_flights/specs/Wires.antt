-- What each function of a wire keeps, and what the parts of a poll or of a delay come to, each in a packet or a flight of its own.
use Rattle.std.specs.Prelude.{◌≡◌, ◌⊎◌, ℕ, ◌+◌, ◌*◌, ◌^◌, ◌<◌, ◌≤◌, false, true, is_some, slice_get, List, [], length, Option, None, Some, Result, IfErr, OnOk, ⊤}
use Rattle.target_machine.specs.Attempt.{attempt, bank}
use Rattle.target_machine.specs.InRange.{IsInRange}
use Rattle.target_machine.specs.Lines.{delayed_target}
use Rattle.target_machine.specs.Plain.{Action, action_attempt, dp_read_of, given_number, is_fault, poll_result}
use Rattle.target_machine.specs.Sound.{IsSoundProbe}
use Rattle.target_machine.specs.declared.unit.ProbeCall.{ProbeCall}
use Rattle.target_machine.specs.declared.access.Outcome.TheVariants.{Value}
use Rattle.target_machine.specs.declared.access.RegAccess.{RegAccess}
use Rattle.dap_transfer.specs.State.{grown_work}
use Rattle.probe_core.specs.Bench.{BenchState, Reported}
use Rattle.probe_core.specs.Probe.{ended_retries_of, target_of, work_of}
use Rattle.probe_core.specs.declared.job.Limits.{Limits}
use Rattle.access_calls.specs.Standing.{idle_cycles_of, pending_of, transfer_number_of, transfer_setting_of}
use Rattle.flight_forms.specs.Forms.{form_of}
use Rattle.batch_packer.specs.Actions.{Acts, is_one}
use Rattle.batch_packer.specs.FlightStates.{FlightState, item_at}
use Rattle.batch_packer.specs.Flying.{CanFly, transfers_of}
use Rattle.batch_packer.specs.Polling.{AreTurns}
use Rattle.batch_packer.specs.declared.ends.FlightEnd.{FlightEnd}
use Rattle.batch_packer.specs.declared.ends.FlightEnd.TheVariants as ends
use Rattle.bench_flights.specs.Flown.{BenchGoesOn, FlightHasCause}
use Rattle.dap_transfer.specs.WireTransfer.{RetryIsOver}

-- A flight that can be used, and of which nothing was pushed.
pub record IsFree (flight : FlightState) : Type 0 where
  pub usable : flight.end ≡ None
  pub empty : flight.accesses ≡ []

-- The command needs only one packet, and its numbers are in their ranges.
pub record IsOneCommand (call : ProbeCall) : Type 0 where
  pub sound : IsSoundProbe call
  pub one : is_one call ≡ true

-- The command may be made by a flight that nothing was pushed to, in one packet.
pub record MaySendCommand (flight : FlightState) (call : ProbeCall) : Type 0 where
  pub free : IsFree flight
  pub command : IsOneCommand call

-- So many turns of a poll may be made by a flight that nothing was pushed to, in one packet.
pub record MaySendPoll (flight : FlightState) (count : ℕ) : Type 0 where
  pub free : IsFree flight
  pub turns : AreTurns count

-- What each function of a wire keeps, and how it ends. Nothing is left that was pushed, the bench goes on as each call of it does, and it is the
-- same loan. Where it answers there is no end, and the bench counts no fault more. An end that it answers has its cause.
pub record KeepsWire {B T : Type 0} (reported : B → Reported) (state : B → Option BenchState) (identity : B → ℕ) (result : Result T FlightEnd)
    (old new : B) (flight : FlightState) : Type 0 where
  pub empty : flight.accesses ≡ []
  pub ended : OnOk result (flight.end ≡ None)
  pub faults : OnOk result ((reported new).faults ≡ (reported old).faults)
  pub cause : IfErr result (λ end. FlightHasCause end (reported old) (reported new) (item_at flight.packets flight.at)
      (item_at flight.replies flight.at))
  pub goes : BenchGoesOn (reported old) (reported new) (state old) (state new)
  pub same_bench : identity new ≡ identity old

-- The same of a function that leaves the limits of the flight.
pub record KeepsWireWhole {B T : Type 0} (reported : B → Reported) (state : B → Option BenchState) (identity : B → ℕ) (result : Result T FlightEnd)
    (old new : B) (before flight : FlightState) : Type 0 where
  pub on : KeepsWire reported state identity result old new flight
  pub limits : flight.limits ≡ before.limits

-- the accesses that were pushed are held by some form
abbrev pub AreHeld : Limits → List RegAccess → Type 0
AreHeld limits accesses = 0 < length accesses → is_some (form_of limits.packet_size limits.packet_count accesses) ≡ true

-- what each of them writes is of 32 bits
abbrev pub HaveWordValues : List RegAccess → Type 0
HaveWordValues accesses = (k : ℕ) (a : RegAccess) → slice_get accesses k ≡ Some a → a.value < 2 ^ 32

-- The action was made whole, and left the settings and the idle cycles.
pub record WasMade (x : Action) (m o : BenchState) : Type 0 where
  pub acts : Acts x (transfers_of m) (transfers_of o)
  pub setting : transfer_setting_of o ≡ transfer_setting_of m
  pub idle_cycles : idle_cycles_of o ≡ idle_cycles_of m

-- The action was made whole, and gave this.
pub record HasMadeAction (x : Action) (word : ℕ) (m o : BenchState) : Type 0 where
  pub acts : Acts x (transfers_of m) (transfers_of o)
  pub setting : transfer_setting_of o ≡ transfer_setting_of m
  pub idle_cycles : idle_cycles_of o ≡ idle_cycles_of m
  pub word_is : word ≡ given_number (action_attempt (target_of m.probe) x).outcome

-- Of an action in one packet that ended so: where the bench failed it was made whole, or nothing was done. No reply is bad, and nothing
-- is cut.
abbrev pub MadeOrNot : Action → FlightEnd → BenchState → BenchState → Type 0
MadeOrNot x ends.BenchFault m o = WasMade x m o ⊎ (o.probe.executor ≡ m.probe.executor)
MadeOrNot x ends.ReplyBad m o = ⊥
MadeOrNot x (ends.Cut cut) m o = ⊥

-- it is no cut
abbrev pub IsNoCut : FlightEnd → Type 0
IsNoCut ends.BenchFault = ⊤
IsNoCut ends.ReplyBad = ⊤
IsNoCut (ends.Cut cut) = ⊥

-- What a function of a wire keeps that makes a command and leaves the limits of the flight. No cut ends it.
pub record KeepsUncut {B T : Type 0} (reported : B → Reported) (state : B → Option BenchState) (identity : B → ℕ) (result : Result T FlightEnd)
    (old new : B) (before flight : FlightState) : Type 0 where
  pub uncut : IfErr result IsNoCut
  pub on : KeepsWire reported state identity result old new flight
  pub limits : flight.limits ≡ before.limits

-- so many delays of 65,535 microseconds were made
pub record HasDelayed (count : ℕ) (m o : BenchState) : Type 0 where
  pub target : target_of o.probe ≡ delayed_target (target_of m.probe) (65535 * count)
  pub work : work_of o.probe ≡ grown_work (work_of m.probe) count
  pub number : transfer_number_of o ≡ transfer_number_of m
  pub retries : ended_retries_of o.probe ≡ ended_retries_of m.probe
  pub pending : pending_of o ≡ pending_of m
  pub mask : (transfers_of o).mask ≡ (transfers_of m).mask
  pub setting : transfer_setting_of o ≡ transfer_setting_of m
  pub idle_cycles : idle_cycles_of o ≡ idle_cycles_of m
  pub in_range : IsInRange (target_of o.probe)

-- CTRL/STAT was read up to so many times, as by a poll of so many turns, which gave this.
pub record HasLooked (mask requested turns word : ℕ) (m o : BenchState) : Type 0 where
  pub good : is_fault (poll_result turns mask requested (target_of m.probe)).outcome ≡ false
  pub word_is : word ≡ given_number (poll_result turns mask requested (target_of m.probe)).outcome
  pub target : target_of o.probe ≡ (poll_result turns mask requested (target_of m.probe)).next
  pub work : work_of o.probe ≡ grown_work (work_of m.probe) (poll_result turns mask requested (target_of m.probe)).reads
  pub retries : ended_retries_of o.probe ≡ ended_retries_of m.probe
  pub number : transfer_number_of o ≤ transfer_number_of m + 2 * (poll_result turns mask requested (target_of m.probe)).reads
  pub setting : transfer_setting_of o ≡ transfer_setting_of m
  pub idle_cycles : idle_cycles_of o ≡ idle_cycles_of m
  pub flies : CanFly o

-- CTRL/STAT was read once, and gave this.
pub record HasRead (value : ℕ) (m o : BenchState) : Type 0 where
  pub gives : (attempt (target_of m.probe) (dp_read_of 0x4)).outcome ≡ Value value
  pub target : target_of o.probe ≡ (attempt (target_of m.probe) (dp_read_of 0x4)).next
  pub work : work_of o.probe ≡ grown_work (work_of m.probe) 1
  pub retries : ended_retries_of o.probe ≡ ended_retries_of m.probe
  pub number : transfer_number_of o ≤ transfer_number_of m + 2
  pub setting : transfer_setting_of o ≡ transfer_setting_of m
  pub idle_cycles : idle_cycles_of o ≡ idle_cycles_of m
  pub flies : CanFly o

-- a read that was not made left the target, the work and the idle cycles
pub record IsUnread (m o : BenchState) : Type 0 where
  pub target : target_of o.probe ≡ target_of m.probe
  pub work : work_of o.probe ≡ grown_work (work_of m.probe) 0
  pub idle_cycles : idle_cycles_of o ≡ idle_cycles_of m

-- A read that a WAIT ended: DPBANKSEL is not 0, as CTRL/STAT itself never waits.
pub record HasWaited (m o : BenchState) : Type 0 where
  pub unread : IsUnread m o
  pub other : bank (target_of m.probe) ≡ 0 → ⊥
  pub retries : ended_retries_of m.probe + 1 < 2 ^ 32 → ended_retries_of o.probe ≡ ended_retries_of m.probe + 1
  pub over : RetryIsOver (transfer_setting_of m) (transfer_number_of o)
  pub number : transfer_number_of o ≤ transfer_number_of m + 1
  pub pending : pending_of o ≡ false

-- Of one read that ended so.
abbrev pub ReadOrNot : FlightEnd → BenchState → BenchState → Type 0
ReadOrNot (ends.Cut cut) m o = (cut.response ≡ 0x02) × HasWaited m o
ReadOrNot ends.BenchFault m o = ((value : ℕ) × HasRead value m o) ⊎ IsUnread m o
ReadOrNot ends.ReplyBad m o = ⊥

-- the same end, naming no access
abbrev pub unnamed_end : FlightEnd → FlightEnd
unnamed_end (ends.Cut cut) = ends.Cut (record { performed = 0; confirmed = 0; response = cut.response })
unnamed_end ends.BenchFault = ends.BenchFault
unnamed_end ends.ReplyBad = ends.ReplyBad
