-- In what a call issues, nothing but settling and a skip comes after the access that the call is for.
use Rattle.std.proofs.Common.{◌≡◌, ◌≢◌, Bool, true, false, cond, List, [], ◌∷◌, ◌++◌, ℕ, refl}
use Rattle.target_machine.specs.Lists.{after}
use Rattle.target_machine.specs.State.{TargetState}
use Rattle.target_machine.specs.declared.access.RegAccess.{RegAccess}
use Rattle.target_machine.specs.declared.unit.Unit.{Unit as AccessUnit}
use Rattle.dap_base.specs.Bits.{has_bit}
use Rattle.target_machine.specs.Registers.{cfg_la}
use Rattle.target_calls.specs.declared.journal.Part.{Part}
use Rattle.target_calls.specs.declared.journal.Part.TheVariants.{Settles, Leads, Ends}
use Rattle.access_regs.specs.Closed.{closes}
use Rattle.access_regs.specs.Kept.{Kept}
use Rattle.access_regs.specs.Plan.{first_plan, kept_after_csw, learned_cfg, cfg_plan, settle, kept_after_settling, needs_csw, needs_cfg, needs_settle, leads}
use Rattle.access_regs.specs.Journal.{Step, steps_of, making, gives, port_of, last_action, by_plan, by_csw, by_cfg_read, by_cfg, after_settling, issue_of_plan, before, finish}

-- each of these steps is such a part
abbrev pub AllParts : (Part → Type 0) → List Step → Type 0
AllParts P [] = Unit {0}
AllParts P (s ∷ steps) = P s.part × AllParts P steps

-- after a step that closes the unit come only such parts
abbrev pub OneEnd : (Part → Type 0) → List Step → Type 0
OneEnd P [] = Unit {0}
OneEnd P (s ∷ steps) = (closes s.part ≡ true → AllParts P steps) × OneEnd P steps

-- settling or a skip, and no access that a unit is for
abbrev pub IsNoEnd : Part → Type 0
IsNoEnd part = part ≢ Ends

-- settling
abbrev pub IsSettling : Part → Type 0
IsSettling part = part ≡ Settles

pub never : {A : Type 0} → (b : Bool) → b ≡ false → b ≡ true → A
never true e f = absurd (cc)
never false e f = absurd (cc)

pub leads_one : (P : Part → Type 0) (part : Part) → closes part ≡ false → (xs : List RegAccess) (more : List Step) → OneEnd P more → OneEnd P (steps_of part xs ++ more)
leads_one P part open_ [] more h = h
leads_one P part open_ (x ∷ xs) more h = ((λ e. never (closes part) open_ e), leads_one P part open_ xs more h)

plan_one : (P : Part → Type 0) (k : Kept) (asked : AccessUnit) → OneEnd P (by_plan k asked).steps
plan_one P k asked = leads_one P Leads refl (leads k asked) (record { part = Ends; action = last_action asked } ∷ []) ((λ e. tt), tt)

csw_one : (P : Part → Type 0) (t : TargetState) (k : Kept) (asked : AccessUnit) → OneEnd P (by_csw t k asked).steps
csw_one P t k asked = by_needs (needs_csw k asked)
  where
    by_needs : (b : Bool) → OneEnd P (cond b (before (steps_of Leads (first_plan k (port_of asked))) (by_plan (kept_after_csw k (port_of asked) (gives t (first_plan k (port_of asked)))) asked)) (by_plan k asked)).steps
    by_needs true = leads_one P Leads refl (first_plan k (port_of asked)) _ (plan_one P (kept_after_csw k (port_of asked) (gives t (first_plan k (port_of asked)))) asked)
    by_needs false = plan_one P k asked

read_one : (P : Part → Type 0) (t : TargetState) (k : Kept) (asked : AccessUnit) (cfg : ℕ) → OneEnd P (by_cfg_read t k asked cfg).steps
read_one P t k asked cfg = by_large (has_bit cfg cfg_la)
  where
    by_large : (b : Bool) → OneEnd P (cond b (by_csw t (learned_cfg k (port_of asked) cfg) asked) (record { steps = []; kept = learned_cfg k (port_of asked) cfg })).steps
    by_large true = csw_one P t (learned_cfg k (port_of asked) cfg) asked
    by_large false = tt

cfg_one : (P : Part → Type 0) (t : TargetState) (k : Kept) (asked : AccessUnit) → OneEnd P (by_cfg t k asked).steps
cfg_one P t k asked = by_needs (needs_cfg k asked)
  where
    w : TargetState
    w = after t (making (cfg_plan k (port_of asked)))

    by_needs : (b : Bool) → OneEnd P (cond b (before (steps_of Leads (cfg_plan k (port_of asked))) (by_cfg_read w k asked (gives t (cfg_plan k (port_of asked))))) (by_csw t k asked)).steps
    by_needs true = leads_one P Leads refl (cfg_plan k (port_of asked)) _ (read_one P w k asked (gives t (cfg_plan k (port_of asked))))
    by_needs false = csw_one P t k asked

pub planned_one : (P : Part → Type 0) (t : TargetState) (k : Kept) (asked : AccessUnit) → OneEnd P (issue_of_plan t k asked).steps
planned_one P t k asked = by_settle (needs_settle k asked)
  where
    by_settle : (b : Bool) → OneEnd P (cond b (after_settling t k (λ u l. by_cfg u l asked)) (by_cfg t k asked)).steps
    by_settle true = leads_one P Settles refl (settle k) _ (cfg_one P (after t (making (settle k))) (kept_after_settling k) asked)
    by_settle false = cfg_one P t k asked

all_settling : (P : Part → Type 0) → P Settles → (xs : List RegAccess) → AllParts P (steps_of Settles xs)
all_settling P h [] = tt
all_settling P h (x ∷ xs) = (h, all_settling P h xs)

-- a `finish` settles alone
pub finish_settles : (P : Part → Type 0) → P Settles → (b : Bool) (k : Kept) → AllParts P (finish b k).steps
finish_settles P h true k = all_settling P h (settle k)
finish_settles P h false k = tt
