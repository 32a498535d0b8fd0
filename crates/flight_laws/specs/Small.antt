-- Which accesses end because their AP has no large addresses, and which do not.
use Rattle.std.specs.Prelude.{◌≡◌, ℕ, ◌<◌, Bool, true, false, not, List, Option, None}
use Rattle.dap_base.specs.Bits.{has_bit}
use Rattle.target_machine.specs.Fresh.{IsFresh}
use Rattle.target_machine.specs.Lists.{after}
use Rattle.target_machine.specs.Plain.{cfg_actions, has_large, in_order, is_fault}
use Rattle.target_machine.specs.Registers.{cfg_la}
use Rattle.target_machine.specs.State.{TargetState}
use Rattle.target_machine.specs.declared.access.RegAccess.{RegAccess}
use Rattle.target_machine.specs.declared.unit.Unit.{Unit as AccessUnit}
use Rattle.target_machine.specs.declared.unit.Unit.TheVariants as unit
use Rattle.probe_core.specs.Bench.{BenchState}
use Rattle.target_calls.specs.Asks.{AreAskable, IsUnitInRange, unit_ask}
use Rattle.target_calls.specs.World.{AtLeast, small_now, start_world, stop}
use Rattle.target_calls.specs.declared.calls.Ask.{Ask}
use Rattle.access_regs.specs.Entries.{kept_by, target_by}
use Rattle.access_regs.specs.Journal.{gives, making}
use Rattle.access_regs.specs.Kept.{Kept}
use Rattle.access_regs.specs.Plan.{cfg_plan, needs_cfg, settle, kept_after_settling}
use Rattle.access_regs.specs.declared.planner.Planner.{Planner}
use Rattle.access_calls.specs.Reported.{AccessView, world_from}
use Rattle.flight_laws.specs.Flying.{IsFlying}

-- A unit for which CFG is not read does not end so, in each world that is left.
abbrev pub NotSmall : Type 0
NotSmall = (p : Planner) (a : AccessView) (kept : Kept) (accesses : List RegAccess) (came : List ℕ) (n : Option ℕ) (m0 m : BenchState) (asked : AccessUnit)
    (forgive : Bool) →
    IsFlying p a kept accesses came m0 m → AtLeast a.came n → IsUnitInRange asked → needs_cfg kept asked ≡ false →
    small_now (world_from m0 n) a.asks.calls (unit_ask asked forgive) ≡ false

-- Let CFG be read for a memory unit after calls that do not stop, once the unsettled port is settled, and let the read not fault. Then the unit
-- ends so exactly where bit 1 of CFG is clear.
abbrev pub SmallByCfg : Type 0
SmallByCfg = (p : Planner) (t : TargetState) (asks : List Ask) (n : Option ℕ) (size : ℕ) (read : Bool) (ap address value : ℕ) (forgive : Bool) → IsFresh t →
    AreAskable asks →
    stop (start_world t n) asks ≡ None → ap < 256 →
    let k : Kept = kept_after_settling (kept_by p t asks) in
    let u : TargetState = after (target_by p t asks) (making (settle (kept_by p t asks))) in
    needs_cfg k (unit.Memory size read ap address value) ≡ true → is_fault (in_order u (making (cfg_plan k ap))).outcome ≡ false →
    small_now (start_world t n) asks (unit_ask (unit.Memory size read ap address value) forgive) ≡ not (has_bit (gives u (cfg_plan k ap)) cfg_la)

-- So it is of one that is made alone, where SELECT is written before the read whatever it was.
abbrev pub SmallAlone : Type 0
SmallAlone = (p : Planner) (t : TargetState) (asks : List Ask) (n : Option ℕ) (size : ℕ) (read : Bool) (ap address value : ℕ) (forgive : Bool) → IsFresh t →
    AreAskable asks →
    stop (start_world t n) asks ≡ None → ap < 256 →
    let k : Kept = kept_after_settling (kept_by p t asks) in
    let u : TargetState = after (target_by p t asks) (making (settle (kept_by p t asks))) in
    needs_cfg k (unit.Memory size read ap address value) ≡ true → is_fault (in_order u (cfg_actions ap)).outcome ≡ false →
    small_now (start_world t n) asks (unit_ask (unit.Memory size read ap address value) forgive) ≡ not (has_large u ap)
