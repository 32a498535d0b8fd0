-- How far the target has come with the journal, and what a report says of it.
use Rattle.std.specs.Prelude.{◌≡◌, ◌⊎◌, ⊤, ℕ, ◌+◌, ◌-◌, ◌*◌, ◌/◌, ◌<◌, ◌≤◌, min, Bool, true, List, length, take, drop, slice_get, slice_index, Option, Some, None, IfSome}
use Rattle.std.specs.List.{AllByRecursion}
use Rattle.target_machine.specs.Plain.{Action, Makes, Polls, Commands, command_attempt, poll_result}
use Rattle.target_machine.specs.State.{TargetState, Agree}
use Rattle.target_machine.specs.declared.unit.ProbeCall.TheVariants as probe
use Rattle.dap_transfer.specs.State.{Setting}
use Rattle.dap_transfer.specs.WireTransfer.{next_number, RetryIsOver}
use Rattle.probe_core.specs.Bench.{BenchState}
use Rattle.probe_core.specs.Probe.{ended_retries_of, target_of, work_of}
use Rattle.probe_core.specs.declared.job.Limits.{Limits}
use Rattle.target_calls.specs.Asks.{is_settled}
use Rattle.target_machine.specs.Counts.{one_if}
use Rattle.target_calls.specs.Journal.{Entry, Passes, first_fault, target_after}
use Rattle.target_calls.specs.Weights.{commands_in, entries_performed, weight_in}
use Rattle.target_calls.specs.World.{skips, start_world, stop, world_after}
use Rattle.target_calls.specs.declared.calls.Ask.{Ask}
use Rattle.access_calls.specs.Growing.{IsAfter, IsForFirstCalls}
use Rattle.access_calls.specs.Made.{HasMemory, units_made}
use Rattle.access_calls.specs.Numbers.{HasNumbers}
use Rattle.access_calls.specs.Reported.{AccessView, Beginning, start_of, world_of}
use Rattle.access_calls.specs.declared.stop.Report.{Report}
use Rattle.access_calls.specs.declared.stop.Stop.{Stop}
use Rattle.access_calls.specs.declared.stop.Stop.TheVariants.{Cut, BenchFault, ReplyBad, OutOfMemory}
use Rattle.access_calls.specs.declared.stop.StopCause.{StopCause}
use Rattle.access_calls.specs.declared.stop.StopCause.TheVariants.{Faulted, NoAnswer}

-- how many transfers that may wait were made, of all runs of the probe
abbrev pub transfer_number_of : BenchState → ℕ
transfer_number_of m = m.probe.executor.transfers.line.number

-- the last ended retry left a read outstanding or a write unchecked
abbrev pub pending_of : BenchState → Bool
pending_of m = m.probe.executor.transfers.pending

-- what the transfers of the probe are set to: the retry number, match retry, and how many WAITs each transfer meets
abbrev pub transfer_setting_of : BenchState → Setting
transfer_setting_of m = m.probe.executor.transfers.setting

-- the idle cycles after each transfer, as the last DAP_TransferConfigure set them
abbrev pub idle_cycles_of : BenchState → ℕ
idle_cycles_of m = m.probe.executor.idle

-- by how much the probe's work has grown since the beginning
abbrev pub grown_since : Beginning → BenchState → ℕ
grown_since b m = work_of m.probe - work_of b.state.probe

-- Exactly the first so many entries were performed, by the probe's work, which is at most that of all of them. The target agrees with the one
-- after them.
pub record HasPerformed (entries : List Entry) (count : ℕ) (b : Beginning) (m : BenchState) : Type 0 where
  pub count_is : count ≡ entries_performed (start_of b) entries (grown_since b m)
  pub no_more : grown_since b m ≤ weight_in (start_of b) entries
  pub within : count ≤ length entries
  pub target : Agree (target_of m.probe) (target_after (start_of b) (take count entries))

-- From t only a part of the action was done, which leaves u: some reads of a poll, or some commands of a delay.
abbrev pub IsPartOfAction : Action → TargetState → TargetState → Type 0
IsPartOfAction (Makes a) t u = ⊥
IsPartOfAction (Polls mask requested turns) t u = (made : ℕ) × (made < (poll_result turns mask requested t).reads) × Agree u (poll_result made mask requested t).next
IsPartOfAction (Commands (probe.Delay micros)) t u = (done : ℕ) × (65535 * done < micros) × Agree u (command_attempt t (probe.Delay (65535 * done))).next
IsPartOfAction (Commands other) t u = ⊥

-- the same of an entry, where there is one
abbrev pub IsPartOfEntry : Option Entry → TargetState → TargetState → Type 0
IsPartOfEntry None t u = ⊥
IsPartOfEntry (Some e) t u = IsPartOfAction e.action t u

-- Where the calls, all answered, stop at one, these entries are issued for the calls up to that one.
pub record StayWithin (t : TargetState) (asks : List Ask) (entries : List Entry) : Type 0 where
  pub so : (calls : ℕ) → stop (start_world t None) asks ≡ Some calls → AllByRecursion (IsForFirstCalls calls) entries

-- Without an end: all entries were issued. Those that are confirmed were performed, and no others, and the probe's work is exactly what they
-- weigh. None of them gives a fault that its unit does not forgive, or is of a call after the first that ends at a fault. No retry ended, and
-- the idle cycles are those of the beginning. The skipped calls are counted. Once a `finish` was made after the last call, the target agrees
-- with the one after the calls.
pub record StandsOpen (entries : List Entry) (a : AccessView) (b : Beginning) (m : BenchState) : Type 0 where
  pub issued : a.issued ≡ length entries
  pub performed : HasPerformed entries a.confirmed b m
  pub work : grown_since b m ≡ weight_in (start_of b) (take a.confirmed entries)
  pub good : first_fault (start_of b) (take a.confirmed entries) ≡ None
  pub own : StayWithin (start_of b) a.asks.calls (take a.confirmed entries)
  pub retries : ended_retries_of m.probe ≡ ended_retries_of b.state.probe
  pub idle_cycles : idle_cycles_of m ≡ idle_cycles_of b.state
  pub skipped : a.skipped ≡ skips (world_of b) a.asks.calls
  pub settled : is_settled a.asks.calls ≡ true → Agree (target_of m.probe) (world_after (world_of b) a.asks.calls).target

-- At a fault the entries were performed up to the first that gives a fault which its unit does not forgive. Those before it are confirmed, and
-- no more work was done. No retry ended, and the idle cycles are those of the beginning.
pub record IsFaulted (entries : List Entry) (r : Report) (a : AccessView) (b : Beginning) (m : BenchState) : Type 0 where
  pub performed : HasPerformed entries r.accesses b m
  pub first : first_fault (start_of b) entries ≡ Some r.accesses
  pub confirmed : r.accesses ≡ r.confirmed + 1
  pub up_to : grown_since b m ≤ weight_in (start_of b) (take (r.confirmed + 1) entries)
  pub numbers : HasNumbers entries a.asks.calls a.skipped a.lines r
  pub retries : ended_retries_of m.probe ≡ ended_retries_of b.state.probe
  pub idle_cycles : idle_cycles_of m ≡ idle_cycles_of b.state

-- Where a retry ended. The performed entries are confirmed, except the last where a read was outstanding or a write unchecked. No more work was
-- done than up to the named entry, and just one retry ended. The transfer that it ended met more WAITs than the retry number of the beginning
-- allows. The number of this transfer is at most two for each register access and each read of a poll that was made; commands are no such
-- transfers. The idle cycles are those of the beginning.
pub record IsUnanswered (entries : List Entry) (r : Report) (a : AccessView) (b : Beginning) (m : BenchState) : Type 0 where
  pub performed : HasPerformed entries r.accesses b m
  pub confirmed : r.accesses ≡ r.confirmed + one_if (pending_of m)
  pub up_to : grown_since b m ≤ weight_in (start_of b) (take (r.confirmed + 1) entries)
  pub numbers : HasNumbers entries a.asks.calls a.skipped a.lines r
  pub retries : ended_retries_of m.probe ≡ ended_retries_of b.state.probe + 1
  pub idle_cycles : idle_cycles_of m ≡ idle_cycles_of b.state
  pub over : RetryIsOver (transfer_setting_of b.state) (transfer_number_of m)
  pub number : transfer_number_of m + 2 * commands_in (take r.accesses entries) ≤ transfer_number_of b.state + 2 * grown_since b m + 1

-- The target agrees with the one after the first `count` entries, and no more were begun. Or the next one was begun too, and a part of it was
-- done.
abbrev pub IsAfterPart : List Entry → ℕ → ℕ → Beginning → BenchState → Type 0
IsAfterPart entries count begun b m =
    let t = target_after (start_of b) (take count entries) in
    ((begun ≡ count) × Agree (target_of m.probe) t) ⊎ ((begun ≡ count + 1) × IsPartOfEntry (slice_get entries count) t (target_of m.probe))

-- the action is a register access
abbrev pub IsMade : Action → Type 0
IsMade (Makes a) = ⊤
IsMade (Polls mask requested turns) = ⊥
IsMade (Commands c) = ⊥

-- How many register accesses one packet holds at most. One Transfer has at most 255. Each takes 5 bytes of the packet and its reply together: a
-- read 1 and 4, a write 5 and none. Either has 3 bytes besides. A block of writes, and a part of a chain, hold no more.
abbrev pub packet_capacity : Limits → ℕ
packet_capacity limits = min 255 ((2 * (limits.packet_size - 3)) / 5)

-- how many a flight holds at most: it has as many packets as the probe takes before a reply is read
abbrev pub flight_accesses : Limits → ℕ
flight_accesses limits = limits.packet_count * packet_capacity limits

-- the entries are handed over together: register accesses, at most as many as one flight holds, or one poll or command of the probe
abbrev pub AreTogether : Limits → List Entry → Type 0
AreTogether limits entries = (AllByRecursion (λ e. IsMade e.action) entries × (length entries ≤ flight_accesses limits)) ⊎ (length entries ≡ 1)

-- Where the bench failed, which has these limits: at least the confirmed entries were performed, and at most those that were issued were
-- begun. Those between were handed over together. The probe's work is at most what those weigh that were begun. None of these gives a fault
-- that its unit does not forgive, except perhaps the last. The idle cycles are those of the beginning.
pub record HasBroken (limits : Limits) (entries : List Entry) (issued confirmed : ℕ) (b : Beginning) (m : BenchState) : Type 0 where
  pub count : ℕ
  pub begun : ℕ
  pub count_is : count ≡ entries_performed (start_of b) entries (grown_since b m)
  pub no_more : grown_since b m ≤ weight_in (start_of b) entries
  pub up_to : grown_since b m ≤ weight_in (start_of b) (take begun entries)
  pub low : confirmed ≤ count
  pub high : begun ≤ issued
  pub within : issued ≤ length entries
  pub together : AreTogether limits (drop confirmed (take issued entries))
  pub good : Passes (start_of b) (take (begun - 1) entries)
  pub idle_cycles : idle_cycles_of m ≡ idle_cycles_of b.state
  pub target : IsAfterPart entries count begun b m

-- So it is with the entries of these calls, the first of which have come. All entries of those that came are confirmed. The first one that is
-- not was issued once so many calls were asked, and no more have come than were asked. None that was begun is of a call after the first that
-- ends at a fault.
pub record IsBenchFault (limits : Limits) (asks : List Ask) (came : ℕ) (entries : List Entry) (issued confirmed : ℕ) (b : Beginning) (m : BenchState) : Type 0 where
  pub broken : HasBroken limits entries issued confirmed b m
  pub asked : came ≤ length asks
  pub later : IfSome (slice_get entries confirmed) (IsAfter came)
  pub own : StayWithin (start_of b) asks (take broken.begun entries)

-- at a cut, by its cause
abbrev pub IsCutBy : StopCause → List Entry → Report → AccessView → Beginning → BenchState → Type 0
IsCutBy Faulted entries r a b m = IsFaulted entries r a b m
IsCutBy NoAnswer entries r a b m = IsUnanswered entries r a b m

-- At a cut: so it is by its cause. At a fault the named entry is an own one of its unit, the one after those that have their lines. The
-- memory is the one that the units leave which were made.
pub record StandsAtCut (entries : List Entry) (r : Report) (a : AccessView) (b : Beginning) (m : BenchState) : Type 0 where
  pub stands : IsCutBy r.cause entries r a b m
  pub own : r.cause ≡ Faulted → r.unit ≡ a.lines + 1
  pub memory : HasMemory (start_of b) a.asks.calls (units_made r.cause entries r a.lines) a.lines m

-- By the end. An observable bench gives no bad reply, and refused memory is no end.
abbrev pub StandsAt : Option Stop → List Entry → AccessView → Beginning → BenchState → Type 0
StandsAt None entries a b m = StandsOpen entries a b m
StandsAt (Some (Cut r)) entries a b m = StandsAtCut entries r a b m
StandsAt (Some (BenchFault issued confirmed)) entries a b m = IsBenchFault a.bench.limits a.asks.calls a.came entries issued confirmed b m
StandsAt (Some ReplyBad) entries a b m = ⊥
StandsAt (Some OutOfMemory) entries a b m = ⊥

-- the bench is observable, and its state is so
abbrev pub WhereObservable : Option BenchState → (BenchState → Type 0) → Type 0
WhereObservable None P = ⊥
WhereObservable (Some m) P = P m

-- How far the target of an access has come that began so, by the journal of the calls that were asked.
abbrev pub AccessStands : (TargetState → List Ask → List Entry) → AccessView → Beginning → Type 0
AccessStands journal a b = WhereObservable a.state (λ m. StandsAt a.end (journal (start_of b) a.asks.calls) a b m)
