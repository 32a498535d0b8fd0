-- How many need points a call makes by itself, by what it issues after others.
use Rattle.std.specs.Prelude.{◌≡◌, ℕ, ◌+◌, ◌/◌, ◌<◌, Bool, false, if◌then◌else◌, List, [], sum_by}
use Rattle.dap_base.specs.Bits.{has_bit}
use Rattle.target_machine.specs.Lists.{after}
use Rattle.target_machine.specs.Plain.{Action, Makes, Polls, Commands, has_large}
use Rattle.target_machine.specs.Registers.{cfg_la}
use Rattle.target_machine.specs.State.{TargetState}
use Rattle.target_machine.specs.declared.unit.Call.{Call}
use Rattle.target_machine.specs.declared.unit.Call.TheVariants.{Access, Probe}
use Rattle.target_machine.specs.declared.unit.ProbeCall.{ProbeCall}
use Rattle.target_machine.specs.declared.unit.ProbeCall.TheVariants as probe
use Rattle.target_machine.specs.declared.unit.Unit.{Unit as AccessUnit}
use Rattle.target_machine.specs.declared.unit.Unit.TheVariants as unit
use Rattle.target_calls.specs.Asks.{is_forgiving}
use Rattle.target_machine.specs.Counts.{one_if}
use Rattle.target_calls.specs.NeedPoints.{Cost}
use Rattle.target_calls.specs.Weights.{weight}
use Rattle.target_calls.specs.declared.calls.Ask.{Ask}
use Rattle.target_calls.specs.declared.journal.Part.{Part}
use Rattle.target_calls.specs.declared.journal.Part.TheVariants.{Leads}
use Rattle.access_regs.specs.Entries.{kept_by, target_by}
use Rattle.access_regs.specs.Journal.{Step, alone_at, gives, issue_of, making, issue_of_plan, port_of}
use Rattle.access_regs.specs.Kept.{Kept}
use Rattle.access_regs.specs.Plan.{bank_zero, cfg_plan, learned_cfg, needs_cfg, needs_csw, needs_settle, settle, kept_after_settling}
use Rattle.access_regs.specs.declared.planner.Planner.{Planner}
use Rattle.access_regs.specs.declared.planner.Planner.TheVariants.{Managed, Plain}

-- the action reads a register
abbrev pub reads : Action → Bool
reads (Makes a) = a.read
reads (Polls mask value turns) = false
reads (Commands c) = false

-- the step leads to the access that the unit is for, and reads a register: CSW or CFG
abbrev pub is_leading_read : Part → Action → Bool
is_leading_read Leads action = reads action
is_leading_read other action = false

-- how many of these steps are such reads
abbrev pub leading_reads : List Step → ℕ
leading_reads steps = sum_by (λ (s : Step). one_if (is_leading_read s.part s.action)) steps

-- how many portions of at most 65,536 turns a poll by value match takes
abbrev pub portions : ℕ → ℕ
portions turns = (turns + 65535) / 65536

-- the need points of a poll: one, and one for each portion, or for each of its reads where it is made read by read
abbrev pub poll_cost : Kept → TargetState → ℕ → ℕ → ℕ → ℕ
poll_cost k t mask value turns = 1 + (if bank_zero k then portions turns else weight t (Polls mask value turns))

-- the need points of a command of the probe: two, and one more for each full 65,535 microseconds of a delay
abbrev pub command_cost : ProbeCall → ℕ
command_cost (probe.Delay micros) = 2 + micros / 65535
command_cost other = 2

-- the need points of a call that forgives nothing, besides those of reads of CSW and CFG
abbrev pub call_cost : Kept → TargetState → Call → ℕ
call_cost k t (Access (unit.Poll mask value turns)) = poll_cost k t mask value turns
call_cost k t (Probe command) = command_cost command
call_cost k t other = 0

-- A call that is asked after others: its reads of CSW and CFG come before it counts as asked. A forgiving one makes five more.
abbrev pub planned_cost : TargetState → List Ask → Ask → Cost
planned_cost t asks ask = record {
  before = leading_reads (issue_of Managed (target_by Managed t asks) (kept_by Managed t asks) ask).steps;
  after = if is_forgiving ask then 5 else call_cost (kept_by Managed t asks) (target_by Managed t asks) ask.call;
}

-- The need points of a call by itself. An access that sends each register access by itself counts none.
abbrev pub cost_by : Planner → TargetState → List Ask → Ask → Cost
cost_by Managed t asks ask = planned_cost t asks ask
cost_by Plain t asks ask = record { before = 0; after = 0 }

-- Reads of CSW and CFG of a unit that is not made alone. CFG is read where it is needed. CSW is read where it is not known, except after a CFG
-- that shows no large addresses.
abbrev pub PlannedReads : Type 0
PlannedReads = (t : TargetState) (k : Kept) (asked : AccessUnit) →
    let l : Kept = if needs_settle k asked then kept_after_settling k else k in
    let u : TargetState = after t (making (if needs_settle k asked then settle k else [])) in
    let cfg : ℕ = gives u (cfg_plan l (port_of asked)) in
    leading_reads (issue_of_plan t k asked).steps
    ≡ (if needs_cfg l asked then 1 + (if has_bit cfg cfg_la then one_if (needs_csw (learned_cfg l (port_of asked) cfg) asked) else 0) else one_if (needs_csw l asked))

-- Reads of CSW and CFG of a unit that is made alone: CFG where it is needed, and CSW, except after a CFG that shows no large addresses.
-- A read that faults counts too.
abbrev pub AloneReads : Type 0
AloneReads = (t : TargetState) (k : Kept) (forgive : Bool) (size : ℕ) (read : Bool) (ap address value : ℕ) → t.sticky ≡ false → ap < 256 →
    leading_reads (alone_at forgive (unit.Memory size read ap address value) t k).steps
    ≡ (if needs_cfg k (unit.Memory size read ap address value) then 1 + one_if (has_large t ap) else 1)

-- An AP unit that is made alone has none.
abbrev pub PortReads : Type 0
PortReads = (t : TargetState) (k : Kept) (forgive read : Bool) (ap addr value : ℕ) → leading_reads (alone_at forgive (unit.Ap read ap addr value) t k).steps ≡ 0
