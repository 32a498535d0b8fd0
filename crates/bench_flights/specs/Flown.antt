-- What a flight, a poll or a command of the probe leaves.
use Rattle.std.specs.Prelude.{◌≡◌, ◌⊎◌, ⊤, ℕ, ◌+◌, ◌*◌, ◌^◌, ◌<◌, ◌≤◌, ◌==◌, bit_and, Bool, true, false, if◌then◌else◌}
use Rattle.std.specs.Prelude.{List, [], slice_get, Option, Some, None, Result, OnOk, IfErr}
use Rattle.dap_base.specs.Bits.{has_bit}
use Rattle.dap_base.specs.Causes.{Rose}
use Rattle.target_machine.specs.Attempt.{bank}
use Rattle.target_machine.specs.Plain.{Action, action_attempt, given_number, is_fault}
use Rattle.target_machine.specs.Registers.{stkerrclr}
use Rattle.target_machine.specs.State.{Agree}
use Rattle.target_machine.specs.InRange.{IsInRange}
use Rattle.target_machine.specs.declared.access.RegAccess.{RegAccess}
use Rattle.target_machine.specs.declared.unit.ProbeCall.{ProbeCall}
use Rattle.target_machine.specs.declared.unit.ProbeCall.TheVariants as probe
use Rattle.dap_messages.specs.declared.request.Response.TheVariants.{Good, Wait, Fault, Mismatch}
use Rattle.flight_forms.specs.Flights.{DoesPart, Part}
use Rattle.probe_core.specs.Bench.{BenchState, Exchange, StepsTo}
use Rattle.probe_core.specs.Bench.{Reported as BenchReported}
use Rattle.probe_core.specs.Probe.{ended_retries_of, target_of, work_of}
use Rattle.probe_core.specs.Runs.{KeepsRuns}
use Rattle.probe_core.specs.declared.job.Limits.{Limits}
use Rattle.target_calls.specs.Weights.{weight}
use Rattle.access_calls.specs.Causes.{HasResponse, IsBadReply}
use Rattle.access_calls.specs.Standing.{IsPartOfAction, idle_cycles_of, pending_of, transfer_number_of, transfer_setting_of}
use Rattle.batch_packer.specs.Flying.{CanFly}
use Rattle.batch_packer.specs.declared.ends.Cut.{Cut}
use Rattle.batch_packer.specs.declared.ends.FlightEnd.{FlightEnd}
use Rattle.batch_packer.specs.declared.ends.FlightEnd.TheVariants as ends
use Rattle.batch_packer.specs.Actions.{DoesAction}
use Rattle.batch_packer.specs.Flying.{Flies, transfers_of}
use Rattle.dap_transfer.specs.WireTransfer.{RetryIsOver}

-- the numbers of the target fit their registers and words
abbrev pub IsTargetInRange : BenchState → Type 0
IsTargetInRange m = IsInRange (target_of m.probe)

-- at most so many starting packets came, and their count stops before 2^64
pub record SendsFew (packets : ℕ) (m o : BenchState) : Type 0 where
  pub few : o.starting ≤ m.starting + packets
  pub counts : m.starting < 2 ^ 64 → o.starting < 2 ^ 64

-- ---- flights

-- The flight came to its end: all its accesses were made, each was good, and another flight may follow.
pub record HasCome (accesses : List RegAccess) (values : List (Option ℕ)) (m o : BenchState) : Type 0 where
  pub part : Part
  pub flies : Flies accesses part m o
  pub good : part.response ≡ Good
  pub values_are : values ≡ part.values
  pub next : CanFly o
  pub starting : SendsFew 1 m o

-- The flight was cut.
pub record WasCut (cut : Cut) (accesses : List RegAccess) (m o : BenchState) : Type 0 where
  pub part : Part
  pub flies : Flies accesses part m o
  pub performed : cut.performed ≡ part.performed
  pub confirmed : cut.confirmed ≡ part.confirmed
  pub wait : cut.response ≡ 0x02 → part.response ≡ Wait
  pub fault : (cut.response ≡ 0x02 → ⊥) → part.response ≡ Fault

-- The bench failed: nothing was done, or a part of the accesses, and the idle cycles stay.
pub record MayHaveDonePart (accesses : List RegAccess) (m o : BenchState) : Type 0 where
  pub part : Part
  pub either : (transfers_of o ≡ transfers_of m) ⊎ DoesPart (transfers_of m) (transfers_of o) accesses part
  pub idle_cycles : idle_cycles_of o ≡ idle_cycles_of m
  pub never : part.response ≡ Mismatch → ⊥

-- A flight that did not come to its end; a reply of an observable bench is never bad.
abbrev pub BrokeOff : FlightEnd → List RegAccess → BenchState → BenchState → Type 0
BrokeOff (ends.Cut cut) accesses m o = WasCut cut accesses m o
BrokeOff ends.BenchFault accesses m o = MayHaveDonePart accesses m o
BrokeOff ends.ReplyBad accesses m o = ⊥

-- ---- polls and commands

-- the probe has these idle cycles after each transfer, and this retry number
pub record IsSetTo (idle retry : ℕ) (m : BenchState) : Type 0 where
  pub idle_is : idle_cycles_of m ≡ idle
  pub retry_is : (transfer_setting_of m).retry ≡ retry

-- A bench over which a poll by value matches does what is said of it. SELECT has DPBANKSEL 0, and the probe has the idle cycles and the retry
-- number that the poll sets again.
pub record CanMatch (idle retry : ℕ) (m : BenchState) : Type 0 where
  pub bank_zero : bank (target_of m.probe) ≡ 0
  pub set : IsSetTo idle retry m

-- From a state over which a flight and a poll by value matches do what is said of them, this step is made.
abbrev pub StepsMatching : ℕ → ℕ → (BenchState → BenchState → Type 0) → Option BenchState → Option BenchState → Type 0
StepsMatching idle retry step old new = StepsTo (λ m o. CanFly m → CanMatch idle retry m → step m o) old new

-- the command clears STICKYERR
abbrev pub clears : ProbeCall → Bool
clears (probe.Abort value) = has_bit value stkerrclr
clears call = false

-- A bench over which a flight could do what is said of it after this command, which clears STICKYERR.
pub record MayClear (call : ProbeCall) (m : BenchState) : Type 0 where
  pub clears_it : clears call ≡ true
  pub mask : (transfers_of m).mask ≡ 0
  pub matches : (transfers_of m).setting.matches ≡ 0
  pub dpidr : (bit_and (target_of m.probe).dpidr 1 == 0) ≡ false
  pub in_range : IsInRange (target_of m.probe)

-- a bench over which a command does what is said of it: as for a flight, but STICKYERR may be set where the command clears it
abbrev pub CanCommand : ProbeCall → BenchState → Type 0
CanCommand call m = CanFly m ⊎ MayClear call m

-- the work of the probe can count an action more
abbrev pub CanCount : Action → BenchState → Type 0
CanCount x m = work_of m.probe + weight (target_of m.probe) x < 2 ^ 64

-- The poll or the command was made whole, and gave this.
pub record HasDoneWhole (x : Action) (word : ℕ) (m o : BenchState) : Type 0 where
  pub does : CanCount x m → DoesAction x m o
  pub good : is_fault (action_attempt (target_of m.probe) x).outcome ≡ false
  pub word_is : word ≡ given_number (action_attempt (target_of m.probe) x).outcome
  pub next : CanFly o

-- nothing of the action was done, or a part of it, and the idle cycles stay
pub record DidLess (x : Action) (m o : BenchState) : Type 0 where
  pub work : ℕ
  pub work_is : CanCount x m → work_of o.probe ≡ work_of m.probe + work
  pub less : work < weight (target_of m.probe) x
  pub idle_cycles : idle_cycles_of o ≡ idle_cycles_of m
  pub target : ((work ≡ 0) × Agree (target_of o.probe) (target_of m.probe)) ⊎ IsPartOfAction x (target_of m.probe) (target_of o.probe)

-- A retry ended in a poll that is made read by read, whose reads changed nothing. It ended at a transfer that met more WAITs than the retry
-- number allows. The idle cycles stay.
pub record WasUnanswered (x : Action) (m o : BenchState) : Type 0 where
  pub work : ℕ
  pub work_is : CanCount x m → work_of o.probe ≡ work_of m.probe + work
  pub less : work < weight (target_of m.probe) x
  pub target : Agree (target_of o.probe) (target_of m.probe)
  pub retries : ended_retries_of m.probe + 1 < 2 ^ 32 → ended_retries_of o.probe ≡ ended_retries_of m.probe + 1
  pub over : RetryIsOver (transfer_setting_of m) (transfer_number_of o)
  pub idle_cycles : idle_cycles_of o ≡ idle_cycles_of m
  pub number : transfer_number_of o ≤ transfer_number_of m + 2 * work + 1
  pub pending : pending_of o ≡ false

-- A poll or a command that did not come to its end: where the bench failed it was done whole or in part, or not at all.
abbrev pub LeftActionOff : Action → FlightEnd → BenchState → BenchState → Type 0
LeftActionOff x (ends.Cut cut) m o = (cut.response ≡ 0x02) × WasUnanswered x m o
LeftActionOff x ends.BenchFault m o = HasDoneWhole x (given_number (action_attempt (target_of m.probe) x).outcome) m o ⊎ DidLess x m o
LeftActionOff x ends.ReplyBad m o = ⊥

-- it names no access as performed or confirmed
abbrev pub NamesNoAccess : FlightEnd → Type 0
NamesNoAccess (ends.Cut cut) = (cut.performed ≡ 0) × (cut.confirmed ≡ 0)
NamesNoAccess ends.BenchFault = ⊤
NamesNoAccess ends.ReplyBad = ⊤

-- a poll answers whether the register matched
abbrev pub matched_word : Bool → ℕ
matched_word matched = if matched then 1 else 0

-- ---- what is kept, and causes

-- What each of them keeps: the limits of the bench, counts that do not fall, and the runs that its log is.
pub record BenchGoesOn (old new : BenchReported) (before after : Option BenchState) : Type 0 where
  pub limits : new.limits ≡ old.limits
  pub faults : old.faults ≤ new.faults
  pub exchanges : old.exchanges ≤ new.exchanges
  pub runs : KeepsRuns before after

-- The last exchange began since, and at one of its places stand this packet and this reply, of which this is so.
pub record WasRepliedSince (P : Exchange → ℕ → Type 0) (old new : BenchReported) (packet reply : List ℕ) : Type 0 where
  pub begun : Rose old.exchanges new.exchanges
  pub place : ℕ
  pub sent : slice_get new.last.packets place ≡ Some packet
  pub got : slice_get new.last.replies place ≡ Some reply
  pub so : P new.last place

-- the cause of an end
abbrev pub FlightHasCause : FlightEnd → BenchReported → BenchReported → List ℕ → List ℕ → Type 0
FlightHasCause (ends.Cut cut) old new packet reply = (new.faults ≡ old.faults) × WasRepliedSince (HasResponse cut.response) old new packet reply
FlightHasCause ends.BenchFault old new packet reply = Rose old.faults new.faults
FlightHasCause ends.ReplyBad old new packet reply = (new.faults ≡ old.faults) × WasRepliedSince IsBadReply old new packet reply

-- A cut has the response 02 or 04.
abbrev pub IsCutResponse : FlightEnd → Type 0
IsCutResponse (ends.Cut cut) = (cut.response ≡ 0x02) ⊎ (cut.response ≡ 0x04)
IsCutResponse ends.BenchFault = ⊤
IsCutResponse ends.ReplyBad = ⊤

-- it names no access, and a cut has the response 02 or 04
pub record IsUnnamed (end : FlightEnd) : Type 0 where
  pub none : NamesNoAccess end
  pub response : IsCutResponse end

-- What each call keeps that sends flights, polls or commands. Nothing is left that was pushed, the limits stay, the bench goes on as each of
-- its calls does, and it is the same loan. Where the call answers there is no end, and the bench counts no fault more. An end that it answers
-- has its cause, and a cut the response 02 or 04.
pub record KeepsFlights {F T : Type 0} (reported : F → BenchReported) (state : F → Option BenchState) (identity : F → ℕ)
    (accesses : F → List RegAccess) (ended : F → Option FlightEnd) (limits : F → Limits) (packet reply : F → List ℕ) (result : Result T FlightEnd)
    (old new : F) : Type 0 where
  pub empty : accesses new ≡ []
  pub usable : OnOk result (ended new ≡ None)
  pub faults : OnOk result ((reported new).faults ≡ (reported old).faults)
  pub response : IfErr result IsCutResponse
  pub cause : IfErr result (λ end. FlightHasCause end (reported old) (reported new) (packet new) (reply new))
  pub goes : BenchGoesOn (reported old) (reported new) (state old) (state new)
  pub same_limits : limits new ≡ limits old
  pub same_bench : identity new ≡ identity old

-- What each call keeps that sends nothing: the bench as it is, which is the same loan, and the limits.
pub record LeavesBench {F : Type 0} (reported : F → BenchReported) (state : F → Option BenchState) (identity : F → ℕ) (limits : F → Limits)
    (old new : F) : Type 0 where
  pub same_reported : reported new ≡ reported old
  pub same_state : state new ≡ state old
  pub same_limits : limits new ≡ limits old
  pub same_bench : identity new ≡ identity old
