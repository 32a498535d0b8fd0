-- A unit that forgives nothing: what comes before its plan, and what CFG shows of it.
use Rattle.std.specs.Prelude.{◌≡◌, ℕ, ◌+◌, Bool, true, false, not, ◌&&◌, if◌then◌else◌, List, [], None}
use Rattle.dap_base.specs.Bits.{has_bit}
use Rattle.target_machine.specs.Lists.{after}
use Rattle.target_machine.specs.Plain.{in_order, is_fault}
use Rattle.target_machine.specs.Registers.{cfg_la}
use Rattle.target_machine.specs.State.{TargetState}
use Rattle.target_machine.specs.declared.access.RegAccess.{RegAccess}
use Rattle.target_machine.specs.declared.unit.Unit.{Unit as AccessUnit}
use Rattle.target_machine.specs.Counts.{one_if}
use Rattle.target_calls.specs.World.{start_world, stop}
use Rattle.target_calls.specs.declared.calls.Ask.{Ask}
use Rattle.access_regs.specs.Journal.{gives, making, port_of}
use Rattle.access_regs.specs.Kept.{Kept}
use Rattle.access_regs.specs.Plan.{cfg_plan, learned_cfg, needs_cfg, needs_csw, needs_settle, settle, kept_after_settling}

-- the settling before the unit, where there is one
abbrev pub settle_before : Kept → AccessUnit → List RegAccess
settle_before k asked = if needs_settle k asked then settle k else []

-- what is known of the registers after that settling
abbrev pub settled_before : Kept → AccessUnit → Kept
settled_before k asked = if needs_settle k asked then kept_after_settling k else k

-- the target after that settling
abbrev pub target_before : TargetState → Kept → AccessUnit → TargetState
target_before t k asked = after t (making (settle_before k asked))

-- how many reads of CFG and CSW come before the plan of a unit, where nothing has to be settled
abbrev pub reads_before : TargetState → Kept → AccessUnit → ℕ
reads_before t k asked =
    if needs_cfg k asked
    then 1 + (if has_bit (gives t (cfg_plan k (port_of asked))) cfg_la then one_if
    (needs_csw (learned_cfg k (port_of asked) (gives t (cfg_plan k (port_of asked)))) asked) else 0)
    else one_if (needs_csw k asked)

-- What is answered of a unit that is asked after these calls: whether CFG was read and shows that its AP has no large addresses. Where CFG is
-- read, the read does not fault, and none of the calls stops.
pub record HasShown (t0 : TargetState) (calls : List Ask) (t : TargetState) (k : Kept) (asked : AccessUnit) (small : Bool) : Type 0 where
  pub shown : small ≡ (needs_cfg k asked && not (has_bit (gives t (cfg_plan k (port_of asked))) cfg_la))
  pub good : needs_cfg k asked ≡ true → is_fault (in_order t (making (cfg_plan k (port_of asked)))).outcome ≡ false
  pub whole : needs_cfg k asked ≡ true → stop (start_world t0 None) calls ≡ None
