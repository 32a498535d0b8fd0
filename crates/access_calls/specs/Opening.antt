-- How an access over a bench begins, and what it keeps of the bench.
use Rattle.std.specs.Prelude.{◌≡◌, ◌⊎◌, ℕ, ◌+◌, ◌-◌, ◌^◌, ◌<◌, ◌≤◌, ◌==◌, bit_and, min, false, List, slice_get, Option, Some, None}
use Rattle.dap_base.specs.Causes.{Rose}
use Rattle.target_machine.specs.Fresh.{IsFresh}
use Rattle.target_machine.specs.InRange.{IsInRange}
use Rattle.dap_transfer.specs.Lines.{configured_state}
use Rattle.probe_core.specs.Bench.{BenchState, Seen, StepsTo}
use Rattle.probe_core.specs.Bench.{Reported as BenchReported}
use Rattle.probe_core.specs.Probe.{ExecutorState, ended_retries_of, target_of, work_of}
use Rattle.probe_core.specs.Runs.{KeepsRuns}
use Rattle.probe_core.specs.declared.job.Config.{Config}
use Rattle.target_calls.specs.NeedPoints.{nothing_asked}
use Rattle.access_calls.specs.Causes.{IsBadReply}
use Rattle.access_calls.specs.Reported.{AccessView}
use Rattle.access_calls.specs.declared.stop.Stop.{Stop}
use Rattle.access_calls.specs.declared.stop.Stop.TheVariants.{Cut, BenchFault, ReplyBad, OutOfMemory}

-- no packet is held, and no reply waits
pub record BenchIsIdle (reported : BenchReported) : Type 0 where
  pub none_held : reported.held ≡ 0
  pub none_waits : reported.waiting ≡ 0

-- an access that has just begun: nothing was asked, and it has no end
pub record IsNew (a : AccessView) : Type 0 where
  pub asks : a.asks ≡ nothing_asked
  pub unended : a.end ≡ None

-- A bench over which an access may begin, as a load leaves it. The match mask is 0, bit 0 of DPIDR is set and STICKYERR is clear. The numbers of
-- the target are in their ranges, and the counts of work and of ended retries have room.
pub record MayBegin (m : BenchState) : Type 0 where
  pub mask : m.probe.executor.transfers.mask ≡ 0
  pub dpidr : (bit_and (target_of m.probe).dpidr 1 == 0) ≡ false
  pub fresh : IsFresh (target_of m.probe)
  pub in_range : IsInRange (target_of m.probe)
  pub work : work_of m.probe ≤ 2 ^ 63
  pub retries : ended_retries_of m.probe + 1 < 2 ^ 32

-- what executes packets after the settings of the transfers: idle cycles, retries after WAIT, and match retry 0
abbrev pub opened_state : Config → ExecutorState → ExecutorState
opened_state config e = record e { idle = config.idle; transfers = configured_state e.transfers config.retry 0 }

-- The state from which an access counts over a bench: the one before the opening exchanges, with the settings that they make. So the
-- starting packets of the opening are counted.
abbrev pub opened_bench : Config → BenchState → BenchState
opened_bench config m = record m { probe = record m.probe { executor = opened_state config m.probe.executor } }

-- After the opening only the settings have changed, and three starting packets were received.
pub record HasOpened (config : Config) (m o : BenchState) : Type 0 where
  pub executor : o.probe.executor ≡ opened_state config m.probe.executor
  pub starting : o.starting ≡ min (m.starting + 3) (2 ^ 64 - 1)

-- Where the opening did not come to its end, the settings were made or not. Nothing else of the probe has changed.
abbrev pub HasTried : Config → BenchState → BenchState → Type 0
HasTried config m o = (o.probe.executor ≡ m.probe.executor) ⊎ (o.probe.executor ≡ opened_state config m.probe.executor)

-- What becomes of a bench in calls over it. The limits stay, and exchanges are counted. Whether it is observable stays so, and so do the runs
-- that its log is.
pub record GoesOnTo (old : Seen) (reported : BenchReported) (state : Option BenchState) : Type 0 where
  pub limits : reported.limits ≡ old.reported.limits
  pub exchanges : old.reported.exchanges ≤ reported.exchanges
  pub runs : KeepsRuns old.state state

-- The last exchange began since, and at one of its places stand a packet and a reply that the packet may not get.
pub record HasBadReply (old new : BenchReported) (sent got : List ℕ) : Type 0 where
  pub begun : Rose old.exchanges new.exchanges
  pub place : ℕ
  pub packet : slice_get new.last.packets place ≡ Some sent
  pub reply : slice_get new.last.replies place ≡ Some got
  pub bad : IsBadReply new.last place

-- Why an access did not begin. The bench failed, before anything of the calls was issued. Or a reply to an opening packet is bad, which an
-- observable bench over which an access may begin never gives. Or memory was refused.
abbrev pub RefusedBy : Stop → Seen → Seen → List ℕ → List ℕ → Type 0
RefusedBy (Cut report) old new sent got = ⊥
RefusedBy (BenchFault issued confirmed) old new sent got = (issued ≡ 0) × (confirmed ≡ 0) × Rose old.reported.faults new.reported.faults
RefusedBy ReplyBad old new sent got = (new.reported.faults ≡ old.reported.faults) × HasBadReply old.reported new.reported sent got
    × StepsTo (λ m n. MayBegin m → ⊥) old.state new.state
RefusedBy OutOfMemory old new sent got = new.reported.faults ≡ old.reported.faults

-- An access did not begin, for this reason. Over an observable bench the settings were made or not, and no more.
pub record IsNotBegun (config : Config) (old new : Seen) (stop : Stop) (sent got : List ℕ) : Type 0 where
  pub cause : RefusedBy stop old new sent got
  pub goes : GoesOnTo old new.reported new.state
  pub tried : StepsTo (λ m n. MayBegin m → HasTried config m n) old.state new.state
