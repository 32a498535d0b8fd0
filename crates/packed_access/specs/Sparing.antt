-- How few starting packets an access has sent.
use Rattle.std.specs.Prelude.{◌≡◌, ℕ, ◌+◌, ◌*◌, ◌^◌, ◌<◌, ◌≤◌, nat_lt, Bool, true, false, if◌then◌else◌, List, [], ◌∷◌, take, Option, Some, None}
use Rattle.target_machine.specs.State.{TargetState}
use Rattle.target_machine.specs.declared.access.RegAccess.{RegAccess}
use Rattle.probe_core.specs.Bench.{BenchState}
use Rattle.probe_core.specs.Bench.{Reported as BenchReported}
use Rattle.probe_core.specs.Probe.{target_of}
use Rattle.probe_core.specs.Ranges.{AreLimits}
use Rattle.probe_core.specs.declared.job.Limits.{Limits}
use Rattle.target_machine.specs.Counts.{one_if}
use Rattle.target_calls.specs.NeedPoints.{Asks}
use Rattle.target_calls.specs.Weights.{registers_in}
use Rattle.target_calls.specs.declared.calls.Ask.{Ask}
use Rattle.access_regs.specs.Costs.{cost_by}
use Rattle.access_regs.specs.Journal.{is_alone, issued_entries}
use Rattle.access_regs.specs.Kept.{Kept}
use Rattle.access_calls.specs.Bounds.{flight_capacity}
use Rattle.access_calls.specs.Standing.{WhereObservable}
use Rattle.bench_flights.specs.Flown.{IsSetTo}
use Rattle.batch_packer.specs.Flying.{CanFly}
use Rattle.bench_flights.specs.Flown.{SendsFew}
use Rattle.packed_access.specs.Begun.{HasBegun}
use Rattle.flight_laws.specs.Changes.{marks_in}
use Rattle.packed_access.specs.Blocks.{AreBlocks}
use Rattle.packed_access.specs.Logs.{LogState, asks_of}
use Rattle.access_regs.specs.declared.planner.Planner.{Planner}
use Rattle.access_regs.specs.declared.planner.Planner.TheVariants.{Managed, Plain}
use Rattle.target_machine.specs.Lines.{grown_counter}

-- Since the beginning there were at most so many starting packets, besides the three of the opening and one for each full flight. A full flight
-- is one that was sent because there was no room. It had at least the capacity of accesses, which are confirmed, and a block where all were
-- writes of DRW. Flights are held to the limits that the bench has.
pub record IsSpared (p : Planner) (limits given : Limits) (log : LogState) (points : ℕ) (m0 m : BenchState) : Type 0 where
  pub full : ℕ
  pub few : m.starting ≤ m0.starting + 3 + points + full
  pub filled : full * flight_capacity limits ≤ registers_in (take log.confirmed (issued_entries p (target_of m0.probe) log.calls))
  pub counts : m.starting < 2 ^ 64
  pub limits_are : limits ≡ given
  pub fits : AreLimits limits
  pub blocks : AreBlocks full limits (issued_entries p (target_of m0.probe) log.calls) log.confirmed

-- So it is by the managed planner, where the bench is observable.
pub record HasSpared (p : Planner) (limits given : Limits) (state : Option BenchState) (log : LogState) (points : ℕ) (m0 : BenchState) : Type 0 where
  pub so : p ≡ Managed → WhereObservable state (λ m. IsSpared p limits given log points m0 m)

-- By the managed planner the starting packets were paid for by so many need points, and so many are left of those that came. Their count
-- stops at 2^64 - 1.
pub record HasPaid (p : Planner) (limits given : Limits) (state : Option BenchState) (log : LogState) (left : ℕ) (m0 : BenchState) : Type 0 where
  pub paid : ℕ
  pub spared : HasSpared p limits given state log paid m0
  pub covers : p ≡ Managed → grown_counter paid left ≤ log.needs

-- one need point is left where the last came after calls of which not all have come
abbrev pub points_left : LogState → ℕ
points_left log = one_if (nat_lt log.known log.fence)

-- the bounds on packets are kept by the managed planner
abbrev pub keeps_bounds : Planner → Bool
keeps_bounds Managed = true
keeps_bounds Plain = false

-- so many need points are counted by the managed planner alone
abbrev pub managed_points : Planner → ℕ → ℕ
managed_points p points = if is_alone p false then 0 else points

-- how many need points the first of these calls makes before it counts as asked
abbrev pub first_cost : Planner → TargetState → List Ask → ℕ
first_cost p t [] = 0
first_cost p t (c ∷ calls) = (cost_by p t [] c).before

-- The first call made its need points, and each `finish` one more. Their count stops at 2^64 - 1.
pub record AreNeeded (p : Planner) (t : TargetState) (asks : Asks) : Type 0 where
  pub so : grown_counter (first_cost p t asks.calls) (marks_in asks.calls) ≤ asks.needs

-- The access began when its bench had this state, and while it has no end its starting packets are paid for.
pub record HasBegunSparing (p : Planner) (limits : Limits) (bench : BenchReported) (state : Option BenchState) (log : LogState) (sent got : List ℕ) (kept : Kept)
    (accesses : List RegAccess) (m0 : BenchState) : Type 0 where
  pub begun : HasBegun p bench state log sent got kept accesses m0
  pub paid : log.end ≡ None → HasPaid p limits bench.limits state log (points_left log) m0
  pub needed : log.end ≡ None → AreNeeded p (target_of m0.probe) (asks_of log)

-- So it is, and the access began with these idle cycles and this retry number, which polls set again.
pub record HasBegunSet (idle retry : ℕ) (p : Planner) (limits : Limits) (bench : BenchReported) (state : Option BenchState) (log : LogState) (sent got : List ℕ)
    (kept : Kept) (accesses : List RegAccess) (m0 : BenchState) : Type 0 where
  pub sparing : HasBegunSparing p limits bench state log sent got kept accesses m0
  pub set : IsSetTo idle retry m0

-- a flight of a unit that is made alone: it came, and another may follow; or it faulted, and ABORT was written
abbrev pub WentFew : Option ℕ → BenchState → BenchState → Type 0
WentFew (Some v) m o = SendsFew 1 m o × CanFly o
WentFew None m o = SendsFew 2 m o
