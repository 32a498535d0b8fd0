-- The journal: what a list of calls issues, in order.
use Rattle.std.specs.Prelude.{ℕ, ◌+◌, Bool, true, false, not, ◌&&◌, if◌then◌else◌, List, [], ◌∷◌, ◌++◌, map, fold, take, ◌==◌, Option, Some}
use Rattle.std.specs.List.{list_any}
use Rattle.dap_base.specs.Bits.{has_bit}
use Rattle.target_machine.specs.Lists.{after}
use Rattle.target_machine.specs.Plain.{Action, Makes, Polls, Commands, given_number, in_order, CallDone, call_done, contains, may_forgive}
use Rattle.target_machine.specs.Registers.{select_address, drw_register, cfg_la}
use Rattle.target_machine.specs.State.{TargetState}
use Rattle.target_machine.specs.declared.access.RegAccess.{RegAccess}
use Rattle.target_machine.specs.declared.unit.Call.{Call}
use Rattle.target_machine.specs.declared.unit.Call.TheVariants.{Access, Probe}
use Rattle.target_machine.specs.declared.unit.Unit.{Unit as AccessUnit}
use Rattle.target_machine.specs.declared.unit.Unit.TheVariants as unit
use Rattle.target_calls.specs.Asks.{is_forgiving}
use Rattle.target_calls.specs.Journal.{Entry, settles, target_after}
use Rattle.target_calls.specs.declared.calls.Ask.{Ask}
use Rattle.target_calls.specs.declared.journal.Part.{Part}
use Rattle.target_calls.specs.declared.journal.Part.TheVariants.{Settles, Leads, Ends, Skips}
use Rattle.access_regs.specs.Kept.{Kept, known_at, with_known, forgotten, nothing_kept}
use Rattle.access_regs.specs.declared.planner.Planner.{Planner}
use Rattle.access_regs.specs.declared.planner.Planner.TheVariants.{Managed, Plain}
use Rattle.access_regs.specs.Plan.{leads, last_access, kept_after_plan, select_value, needs_csw, first_plan, kept_after_csw, needs_cfg, cfg_plan}
use Rattle.access_regs.specs.Plan.{learned_cfg, settle, kept_after_settling, needs_settle}

-- accesses as actions
abbrev pub making : List RegAccess → List Action
making accesses = map (λ a. Makes a) accesses

-- what the last of these accesses gives; a fault counts as 0
abbrev pub gives : TargetState → List RegAccess → ℕ
gives t accesses = given_number (in_order t (making accesses)).outcome

-- An action, and what it is to its unit.
pub record Step : Type 0 where
  pub part : Part
  pub action : Action

-- accesses that are all the same to their unit
abbrev pub steps_of : Part → List RegAccess → List Step
steps_of part accesses = map (λ a. record { part = part; action = Makes a }) accesses

-- the actions of steps
abbrev pub actions_of : List Step → List Action
actions_of steps = map (λ s. s.action) steps

-- What a call issues, and what is known after it.
pub record Issue : Type 0 where
  pub steps : List Step
  pub kept : Kept

-- these steps, and then the rest
abbrev pub before : List Step → Issue → Issue
before steps i = record i { steps = steps ++ i.steps }

-- the action that the unit is for
abbrev pub last_action : AccessUnit → Action
last_action (unit.Poll mask value turns) = Polls mask value turns
last_action asked = Makes (last_access asked)

-- the plan, or a poll
abbrev pub by_plan : Kept → AccessUnit → Issue
by_plan k asked = record { steps = steps_of Leads (leads k asked) ++ record { part = Ends; action = last_action asked } ∷ []; kept = kept_after_plan k asked }

-- the AP of a memory or AP unit
abbrev pub port_of : AccessUnit → ℕ
port_of (unit.Memory size read ap address value) = ap
port_of (unit.Ap read ap addr value) = ap
port_of _ = 0

-- before it the first plan, where CSW of the AP is not known
abbrev pub by_csw : TargetState → Kept → AccessUnit → Issue
by_csw t k asked =
    if needs_csw k asked
    then before (steps_of Leads (first_plan k (port_of asked))) (by_plan (kept_after_csw k (port_of asked) (gives t (first_plan k (port_of asked)))) asked)
    else by_plan k asked

-- after the read of CFG: nothing more where the AP has no large addresses
abbrev pub by_cfg_read : TargetState → Kept → AccessUnit → ℕ → Issue
by_cfg_read t k asked cfg =
    if has_bit cfg cfg_la then by_csw t (learned_cfg k (port_of asked) cfg) asked
    else record { steps = []; kept = learned_cfg k (port_of asked) cfg }

-- before it the read of CFG, where that is needed
abbrev pub by_cfg : TargetState → Kept → AccessUnit → Issue
by_cfg t k asked =
    if needs_cfg k asked
    then before (steps_of Leads (cfg_plan k (port_of asked)))
    (by_cfg_read (after t (making (cfg_plan k (port_of asked)))) k asked (gives t (cfg_plan k (port_of asked))))
    else by_csw t k asked

-- settling, and then what follows it
abbrev pub after_settling : TargetState → Kept → (TargetState → Kept → Issue) → Issue
after_settling t k next = before (steps_of Settles (settle k)) (next (after t (making (settle k))) (kept_after_settling k))

-- A unit that is not forgiving.
abbrev pub issue_of_plan : TargetState → Kept → AccessUnit → Issue
issue_of_plan t k asked = if needs_settle k asked then after_settling t k (λ u l. by_cfg u l asked) else by_cfg t k asked

-- ---- units made alone: settling, and then the accesses of the unit as it is made alone

-- the access is the one that the unit is for
abbrev pub is_last : AccessUnit → RegAccess → Bool
is_last (unit.Memory size read ap address value) a = a.ap && (a.addr == drw_register)
is_last _ a = a.ap

-- the action is the one that the unit is for
abbrev pub is_end : AccessUnit → Action → Bool
is_end asked (Makes a) = is_last asked a
is_end asked (Polls mask value turns) = false
is_end asked (Commands c) = false

-- a skip comes before the access that the unit is for, where that is not among its actions
abbrev pub is_early : AccessUnit → List Action → Bool
is_early asked actions = not (list_any (is_end asked) actions)

-- what an action is to a unit made alone, whose skip comes early or not
abbrev pub part_of : Bool → AccessUnit → Action → Part
part_of early asked (Makes a) = if is_last asked a then Ends else Leads
part_of early asked (Polls mask value turns) = Ends
part_of early asked (Commands c) = Skips early

-- the actions of a unit made alone, as steps
abbrev pub parts_of : Bool → AccessUnit → List Action → List Step
parts_of early asked actions = map (λ a. record { part = part_of early asked a; action = a }) actions

-- the list of APs with large addresses, as far as the unit asks it
abbrev pub large_of : Kept → AccessUnit → List ℕ
large_of k asked = if (known_at k (port_of asked)).large then port_of asked ∷ [] else []

-- SELECT as an action leaves it
abbrev pub select_written : Option ℕ → Action → Option ℕ
select_written old (Makes a) = if not a.ap && (not a.read && (a.addr == select_address)) then Some a.value else old
select_written old _ = old

-- SELECT as these actions leave it
abbrev pub select_after : Option ℕ → List Action → Option ℕ
select_after old actions = fold select_written old actions

-- what is known after a unit made alone: of its AP only whether it has large addresses, and SELECT
abbrev pub kept_after : Kept → AccessUnit → CallDone → Kept
kept_after k asked d =
    record (with_known k (port_of asked) (record (forgotten (known_at k (port_of asked))) { large = contains d.large (port_of asked) }))
    { select = select_after k.select d.actions }

-- a unit made alone, which forgives a fault or not, where nothing is unsettled
abbrev pub done_alone : TargetState → Kept → Bool → AccessUnit → CallDone
done_alone t k forgive asked = call_done t (large_of k asked) forgive (Access asked)

-- its actions, and what is known after them
abbrev pub issue_done : Kept → AccessUnit → CallDone → Issue
issue_done k asked d = record { steps = parts_of (is_early asked d.actions) asked d.actions; kept = kept_after k asked d }

-- A unit made alone, where nothing is unsettled.
abbrev pub alone_at : Bool → AccessUnit → TargetState → Kept → Issue
alone_at forgive asked t k = issue_done k asked (done_alone t k forgive asked)

-- what is known after a unit made alone that wrote SELECT with this bank last, by whether its AP has large addresses
abbrev pub kept_alone : Kept → ℕ → ℕ → Bool → Kept
kept_alone k ap bank large = record (with_known k ap (record (forgotten (known_at k ap)) { large = large })) { select = Some (select_value ap bank) }

-- ---- calls

-- A memory or AP unit is made alone: by the plain planner each one, by the managed planner those that forgive a fault.
abbrev pub is_alone : Planner → Bool → Bool
is_alone Managed forgive = forgive
is_alone Plain forgive = true

-- What a call issues.
abbrev pub issue : Planner → TargetState → Kept → Bool → Call → Issue
issue p t k forgive (Access asked) = if is_alone p forgive && may_forgive (Access asked) then after_settling t k (alone_at forgive asked) else issue_of_plan t k asked
issue p t k forgive (Probe asked) = record { steps = record { part = Ends; action = Commands asked } ∷ []; kept = k }

-- A `finish` after a call settles.
abbrev pub finish : Bool → Kept → Issue
finish true k = record { steps = steps_of Settles (settle k); kept = kept_after_settling k }
finish false k = record { steps = []; kept = k }

-- ---- lists of calls

-- entries after so many units, which an entry that settles does not begin
abbrev pub numbered_entries : ℕ → Bool → List Step → List Entry
numbered_entries units forgiving steps =
    map (λ s. record { unit = if settles s.part then units else units + 1; part = s.part; forgiving = forgiving && not (settles s.part); action = s.action }) steps

-- what a call issues with its mark of forgiving
abbrev pub issue_of : Planner → TargetState → Kept → Ask → Issue
issue_of p t k c = issue p t k c.forgive c.call

-- what the `finish` after it issues, where there is one
abbrev pub finish_of : Planner → TargetState → Kept → Ask → Issue
finish_of p t k c = finish c.settled (issue_of p t k c).kept

-- the steps of both
abbrev pub steps_at : Planner → TargetState → Kept → Ask → List Step
steps_at p t k c = (issue_of p t k c).steps ++ (finish_of p t k c).steps

-- the entries of both, after so many units
abbrev pub entries_at : Planner → ℕ → TargetState → Kept → Ask → List Entry
entries_at p units t k c = numbered_entries units (is_forgiving c) (issue_of p t k c).steps ++ numbered_entries (units + 1) false (finish_of p t k c).steps

-- what is known after both
abbrev pub kept_at : Planner → TargetState → Kept → Ask → Kept
kept_at p t k c = (finish_of p t k c).kept

-- the target after both
abbrev pub target_at : Planner → TargetState → Kept → Ask → TargetState
target_at p t k c = after t (actions_of (steps_at p t k c))

-- the journal of calls, from what is known and so many units that were asked before
abbrev pub issued_from : Planner → ℕ → Kept → TargetState → List Ask → List Entry
issued_from p units k t [] = []
issued_from p units k t (c ∷ cs) = entries_at p units t k c ++ issued_from p (units + 1) (kept_at p t k c) (target_at p t k c) cs

-- what is known after calls
abbrev pub kept_from : Planner → Kept → TargetState → List Ask → Kept
kept_from p k t [] = k
kept_from p k t (c ∷ cs) = kept_from p (kept_at p t k c) (target_at p t k c) cs

-- The journal of calls, from a target of which nothing is known.
abbrev pub issued_entries : Planner → TargetState → List Ask → List Entry
issued_entries p t calls = issued_from p 0 nothing_kept t calls

-- The target after the first k entries, one at a time.
abbrev pub after_entries : TargetState → List Entry → ℕ → TargetState
after_entries t entries k = target_after t (take k entries)
