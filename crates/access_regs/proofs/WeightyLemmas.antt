-- No entry is a poll of no turns.
use Rattle.std.proofs.Common.{◌≡◌, ℕ, ◌+◌, ◌/◌, ◌%◌, ◌^◌, Bool, true, false, cond, ◌&&◌, List, [], ◌∷◌, ◌++◌, refl, ap}
use Rattle.access_regs.specs.Entries.{JournalWeighs}
use Rattle.access_regs.specs.Journal.{Issue, Step, actions_of, after_settling, before, by_cfg, by_cfg_read, by_csw, by_plan, entries_at, finish, finish_of, alone_at, done_alone, gives, is_alone, is_early, issue, issue_of, issued_from, large_of, last_action, making, numbered_entries, parts_of, issue_of_plan, port_of, steps_at, steps_of}
use Rattle.access_regs.specs.Kept.{Kept, nothing_kept}
use Rattle.access_regs.specs.Plan.{cfg_plan, first_plan, leads, kept_after_csw, learned_cfg, needs_cfg, needs_csw, needs_settle, settle, kept_after_settling}
use Rattle.target_calls.specs.Asks.{AreAskable}
use Rattle.target_calls.specs.Weights.{AreWeighty, IsWeighty}
use Rattle.target_calls.specs.declared.calls.Ask.{Ask}
use Rattle.target_calls.specs.declared.journal.Part.{Part}
use Rattle.target_calls.specs.declared.journal.Part.TheVariants.{Ends, Leads, Settles}
use Rattle.dap_base.specs.Bits.{has_bit}
use Rattle.dap_base.proofs.Basics.{second_true}
use Rattle.target_machine.specs.Lists.{after}
use Rattle.target_machine.specs.State.{TargetState}
use Rattle.target_machine.specs.Plain.{Action, Makes, Commands, action_attempt, is_fault, issued_actions as made_of, call_done, ended_call, forgives, cfg_actions, memory_actions, after_cfg, unit_actions, has_large, needs_cfg as wants_cfg, contains, may_forgive, in_order, drw_of, ap_access_of}
use Rattle.target_machine.specs.Sound.{IsSound, IsSoundCall}
use Rattle.target_machine.specs.declared.access.RegAccess.{RegAccess}
use Rattle.target_machine.specs.declared.unit.Call.{Call}
use Rattle.target_machine.specs.declared.unit.Call.TheVariants.{Access, Probe}
use Rattle.target_machine.specs.declared.unit.Unit.{Unit as AccessUnit}
use Rattle.target_machine.specs.declared.unit.Unit.TheVariants as unit
use Rattle.access_regs.proofs.EntryLemmas.{weighty_both}
use Rattle.access_regs.specs.declared.planner.Planner.{Planner}

Weighs : List Step → Type 0
Weighs [] = Unit {0}
Weighs (s ∷ steps) = IsWeighty s.action × Weighs steps

ActionsWeigh : List Action → Type 0
ActionsWeigh [] = Unit {0}
ActionsWeigh (a ∷ rest) = IsWeighty a × ActionsWeigh rest

weighs_both : (xs ys : List Step) → Weighs xs → Weighs ys → Weighs (xs ++ ys)
unfolding Weighs
weighs_both [] ys h k = k
weighs_both (x ∷ xs) ys h k = (h.0, weighs_both xs ys h.1 k)

actions_both : (xs ys : List Action) → ActionsWeigh xs → ActionsWeigh ys → ActionsWeigh (xs ++ ys)
unfolding ActionsWeigh
actions_both [] ys h k = k
actions_both (x ∷ xs) ys h k = (h.0, actions_both xs ys h.1 k)

makes_weigh : (part : Part) (xs : List RegAccess) → Weighs (steps_of part xs)
unfolding Weighs
makes_weigh part [] = tt
makes_weigh part (x ∷ xs) = (tt, makes_weigh part xs)

either : (b : Bool) (x y : Issue) → Weighs x.steps → Weighs y.steps → Weighs (cond b x y).steps
either true x y h k = h
either false x y h k = k

last_weighs : (asked : AccessUnit) → IsSound asked → IsWeighty (last_action asked)
last_weighs (unit.Memory size read ap address value) h = tt
last_weighs (unit.Ap read ap addr value) h = tt
last_weighs (unit.Dp read addr value) h = tt
last_weighs (unit.Poll mask value turns) h = h.0

plan_weighs : (k : Kept) (asked : AccessUnit) → IsSound asked → Weighs (by_plan k asked).steps
unfolding Weighs
plan_weighs k asked h = weighs_both (steps_of Leads (leads k asked)) (record { part = Ends; action = last_action asked } ∷ []) (makes_weigh Leads (leads k asked)) (last_weighs asked h, tt)

csw_weighs : (t : TargetState) (k : Kept) (asked : AccessUnit) → IsSound asked → Weighs (by_csw t k asked).steps
csw_weighs t k asked h = either (needs_csw k asked) (before (steps_of Leads (first_plan k (port_of asked))) (by_plan (kept_after_csw k (port_of asked) (gives t (first_plan k (port_of asked)))) asked)) (by_plan k asked)
    (weighs_both (steps_of Leads (first_plan k (port_of asked))) (by_plan (kept_after_csw k (port_of asked) (gives t (first_plan k (port_of asked)))) asked).steps (makes_weigh Leads (first_plan k (port_of asked))) (plan_weighs (kept_after_csw k (port_of asked) (gives t (first_plan k (port_of asked)))) asked h)) (plan_weighs k asked h)

read_weighs : (t : TargetState) (k : Kept) (asked : AccessUnit) (cfg : ℕ) → IsSound asked → Weighs (by_cfg_read t k asked cfg).steps
unfolding Weighs
read_weighs t k asked cfg h = either (has_bit cfg 2) (by_csw t (learned_cfg k (port_of asked) cfg) asked) (record { steps = []; kept = learned_cfg k (port_of asked) cfg }) (csw_weighs t (learned_cfg k (port_of asked) cfg) asked h) tt

cfg_weighs : (t : TargetState) (k : Kept) (asked : AccessUnit) → IsSound asked → Weighs (by_cfg t k asked).steps
cfg_weighs t k asked h =
    let r : Issue = by_cfg_read (after t (making (cfg_plan k (port_of asked)))) k asked (gives t (cfg_plan k (port_of asked))) in
    either (needs_cfg k asked) (before (steps_of Leads (cfg_plan k (port_of asked))) r) (by_csw t k asked)
    (weighs_both (steps_of Leads (cfg_plan k (port_of asked))) r.steps (makes_weigh Leads (cfg_plan k (port_of asked))) (read_weighs (after t (making (cfg_plan k (port_of asked)))) k asked (gives t (cfg_plan k (port_of asked))) h))
    (csw_weighs t k asked h)

settling_weighs : (t : TargetState) (k : Kept) (f : TargetState → Kept → Issue) → ((u : TargetState) (l : Kept) → Weighs (f u l).steps) → Weighs (after_settling t k f).steps
settling_weighs t k f h = weighs_both (steps_of Settles (settle k)) (f (after t (making (settle k))) (kept_after_settling k)).steps (makes_weigh Settles (settle k)) (h (after t (making (settle k))) (kept_after_settling k))

planned_weighs : (t : TargetState) (k : Kept) (asked : AccessUnit) → IsSound asked → Weighs (issue_of_plan t k asked).steps
planned_weighs t k asked h = either (needs_settle k asked) (after_settling t k (λ u l. by_cfg u l asked)) (by_cfg t k asked) (settling_weighs t k (λ u l. by_cfg u l asked) (λ u l. cfg_weighs u l asked h)) (cfg_weighs t k asked h)

-- ---- forgiving units

issued_weighs : (t : TargetState) (xs : List Action) → ActionsWeigh xs → ActionsWeigh (made_of t xs)
unfolding ActionsWeigh
issued_weighs t [] h = tt
issued_weighs t (x ∷ xs) h = (h.0, by_fault (is_fault (action_attempt t x).outcome) (issued_weighs (action_attempt t x).next xs h.1))
  where
    by_fault : (b : Bool) → ActionsWeigh (made_of (action_attempt t x).next xs) → ActionsWeigh (cond b [] (made_of (action_attempt t x).next xs))
    by_fault true k = tt
    by_fault false k = k

high_weighs : (b : Bool) (a : RegAccess) → ActionsWeigh (cond b (Makes a ∷ []) [])
unfolding ActionsWeigh
high_weighs true a = (tt, tt)
high_weighs false a = tt

memory_weighs : (t : TargetState) (large : Bool) (size : ℕ) (read : Bool) (n address value : ℕ) → ActionsWeigh (memory_actions t large size read n address value)
unfolding ActionsWeigh
memory_weighs t large size read n address value =
    (tt, (tt, (tt, actions_both (cond large (Makes (ap_access_of false 8 (address / 2 ^ 32)) ∷ []) []) (Makes (ap_access_of false 4 (address % 2 ^ 32)) ∷ Makes (drw_of read address value) ∷ []) (high_weighs large (ap_access_of false 8 (address / 2 ^ 32))) (tt, (tt, tt)))))

either_actions : (b : Bool) (x y : List Action) → ActionsWeigh x → ActionsWeigh y → ActionsWeigh (cond b x y)
either_actions true x y h k = h
either_actions false x y h k = k

unit_weighs : (t : TargetState) (large : List ℕ) (asked : AccessUnit) → may_forgive (Access asked) ≡ true → ActionsWeigh (unit_actions t large asked)
unfolding ActionsWeigh
unit_weighs t large (unit.Memory size read n address value) e =
    either_actions (wants_cfg large n address) (cfg_actions n ++ after_cfg t size read n address value) (memory_actions t (contains large n) size read n address value)
    (tt, (tt, either_actions (has_large t n) (memory_actions (in_order t (cfg_actions n)).next true size read n address value) [] (memory_weighs (in_order t (cfg_actions n)).next true size read n address value) tt))
    (memory_weighs t (contains large n) size read n address value)
unit_weighs t large (unit.Ap read n addr value) e = (tt, (tt, tt))
unit_weighs t large (unit.Dp read addr value) e = absurd (cc)
unit_weighs t large (unit.Poll mask value turns) e = absurd (cc)

ended_weighs : (b f s : Bool) (v : ℕ) (t : TargetState) (l : List ℕ) (xs : List Action) → ActionsWeigh xs → ActionsWeigh (ended_call b f s v t l xs).actions
unfolding ActionsWeigh
ended_weighs true true s v t l xs h = actions_both xs (Commands forgives ∷ []) h (tt, tt)
ended_weighs true false s v t l xs h = h
ended_weighs false f true v t l xs h = h
ended_weighs false f false v t l xs h = h

done_weighs : (t : TargetState) (large : List ℕ) (forgive : Bool) (asked : AccessUnit) → may_forgive (Access asked) ≡ true → ActionsWeigh (call_done t large forgive (Access asked)).actions
unfolding call_done
done_weighs t large forgive asked e = ended_weighs _ _ _ _ _ _ _ (issued_weighs t (unit_actions t large asked) (unit_weighs t large asked e))

map_weighs : (early : Bool) (asked : AccessUnit) (xs : List Action) → ActionsWeigh xs → Weighs (parts_of early asked xs)
unfolding Weighs ActionsWeigh
map_weighs early asked [] h = tt
map_weighs early asked (x ∷ xs) h = (h.0, map_weighs early asked xs h.1)

-- ---- calls

issue_weighs : (p : Planner) (t : TargetState) (k : Kept) (forgive : Bool) (call : Call) → IsSoundCall call → Weighs (issue p t k forgive call).steps
unfolding Weighs
issue_weighs p t k forgive (Access asked) h = by_mark (is_alone p forgive && may_forgive (Access asked)) refl
  where
    by_mark : (b : Bool) → (is_alone p forgive && may_forgive (Access asked)) ≡ b → Weighs (cond b (after_settling t k (alone_at forgive asked)) (issue_of_plan t k asked)).steps
    by_mark true e = settling_weighs t k (alone_at forgive asked) (λ u l. map_weighs (is_early asked (done_alone u l forgive asked).actions) asked (done_alone u l forgive asked).actions (done_weighs u (large_of l asked) forgive asked (second_true (is_alone p forgive) (may_forgive (Access asked)) e)))
    by_mark false e = planned_weighs t k asked h
issue_weighs p t k forgive (Probe asked) h = (tt, tt)

finish_weighs : (b : Bool) (k : Kept) → Weighs (finish b k).steps
unfolding Weighs
finish_weighs true k = makes_weigh Settles (settle k)
finish_weighs false k = tt

numbered_weighs : (n : ℕ) (b : Bool) (steps : List Step) → Weighs steps → AreWeighty (numbered_entries n b steps)
unfolding Weighs
numbered_weighs n b [] h = tt
numbered_weighs n b (s ∷ steps) h = (h.0, numbered_weighs n b steps h.1)

list_weighs : (p : Planner) (n : ℕ) (k : Kept) (t : TargetState) (asks : List Ask) → AreAskable asks → AreWeighty (issued_from p n k t asks)
list_weighs p n k t [] h = tt
list_weighs p n k t (ask ∷ asks) h =
    let c : Ask = ask in
    weighty_both (entries_at p n t k c) (issued_from p (n + 1) (finish_of p t k c).kept (after t (actions_of (steps_at p t k c))) asks)
    (weighty_both (numbered_entries n (c.forgive && may_forgive c.call) (issue_of p t k c).steps) (numbered_entries (n + 1) false (finish_of p t k c).steps)
    (numbered_weighs n (c.forgive && may_forgive c.call) (issue_of p t k c).steps (issue_weighs p t k c.forgive c.call h.0.sound)) (numbered_weighs (n + 1) false (finish_of p t k c).steps (finish_weighs c.settled (issue_of p t k c).kept)))
    (list_weighs p (n + 1) (finish_of p t k c).kept (after t (actions_of (steps_at p t k c))) asks h.1)

pub journal_weighs : JournalWeighs
journal_weighs p t asks h = list_weighs p 0 nothing_kept t asks h
