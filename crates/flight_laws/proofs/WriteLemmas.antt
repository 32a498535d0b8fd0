-- No call issues more than one write of DRW.
use Rattle.std.proofs.Common.{◌≡◌, ◌∙◌, ℕ, ◌+◌, ◌/◌, ◌%◌, ◌^◌, ◌≤◌, Bool, true, false, cond, not, ◌&&◌, ◌||◌, List, [], ◌∷◌, ◌++◌, length, Option, Some, None, refl, ap, arith}
use Rattle.std.proofs.lemmas.List.Sums.{sum_by-append, sum_by-cons}
use Rattle.dap_base.specs.Bits.{has_bit}
use Rattle.dap_base.proofs.Basics.{second_true}
use Rattle.target_machine.specs.Lists.{after}
use Rattle.target_machine.specs.Plain.{Action, Commands, Makes, action_attempt, after_cfg, ap_access_of, call_done, cfg_actions, contains, drw_of, ended_call, forgives, has_large, in_order, is_fault, issued_actions as made_of, may_forgive, memory_actions, needs_cfg as wants_cfg, select_of, unit_actions}
use Rattle.target_machine.specs.State.{TargetState}
use Rattle.target_machine.specs.declared.access.RegAccess.{RegAccess}
use Rattle.target_machine.specs.declared.unit.Call.{Call}
use Rattle.target_machine.specs.declared.unit.Call.TheVariants.{Access, Probe}
use Rattle.target_machine.specs.declared.unit.Unit.{Unit as AccessUnit}
use Rattle.target_machine.specs.declared.unit.Unit.TheVariants as unit
use Rattle.target_machine.specs.Counts.{one_if}
use Rattle.target_machine.proofs.CountLemmas.{one_most}
use Rattle.target_calls.specs.Journal.{Entry, settles}
use Rattle.target_calls.specs.declared.calls.Ask.{Ask}
use Rattle.target_calls.specs.declared.journal.Part.{Part}
use Rattle.target_calls.specs.declared.journal.Part.TheVariants.{Ends, Leads, Settles}
use Rattle.access_regs.specs.Journal.{Issue, Step, actions_of, after_settling, alone_at, before, by_cfg, by_cfg_read, by_csw, by_plan, done_alone, finish, finish_of, gives, is_alone, is_early, issue, issue_of, issued_from, large_of, last_action, making, numbered_entries, parts_of, issue_of_plan, port_of, steps_at, steps_of}
use Rattle.access_regs.specs.Kept.{Kept, csw_of, is_known, known_at, nothing_kept}
use Rattle.access_regs.specs.Plan.{cfg_plan, csw_needed, first_plan, high_needed, leads, kept_after_csw, learned_cfg, needs_cfg, needs_csw, needs_settle, planned_csw, port_writes, select_needed, select_value, settle, kept_after_settling, settling, tar_needed, unless}
use Rattle.access_regs.specs.declared.known.Known.{Known}
use Rattle.access_regs.specs.declared.known.Unsettled.{Unsettled}
use Rattle.access_regs.specs.declared.planner.Planner.{Planner}
use Rattle.flight_laws.specs.Packets.{WritesAreFew, drw_writes_in, is_drw_write}

-- among steps, and among actions
abbrev writes_of : List Step → ℕ
writes_of [] = 0
writes_of (s ∷ steps) = one_if (is_drw_write s.action) + writes_of steps

abbrev writes_among : List Action → ℕ
writes_among [] = 0
writes_among (a ∷ actions) = one_if (is_drw_write a) + writes_among actions

steps_both : (xs ys : List Step) → writes_of (xs ++ ys) ≡ writes_of xs + writes_of ys
steps_both [] ys = omega arith
steps_both (x ∷ xs) ys = let e = steps_both xs ys in omega (arith, e)

actions_both : (xs ys : List Action) → writes_among (xs ++ ys) ≡ writes_among xs + writes_among ys
actions_both [] ys = omega arith
actions_both (x ∷ xs) ys = let e = actions_both xs ys in omega (arith, e)

entries_are : (n : ℕ) (b : Bool) (steps : List Step) → drw_writes_in (numbered_entries n b steps) ≡ writes_of steps
entries_are n b [] = refl
entries_are n b (s ∷ steps) =
    sum_by-cons (λ (e : Entry). one_if (is_drw_write e.action)) (record { unit = cond (settles s.part) n (n + 1); part = s.part; forgiving = b && not (settles s.part); action = s.action }) (numbered_entries n b steps)
    ∙ ap (λ (m : ℕ). one_if (is_drw_write s.action) + m) (entries_are n b steps)

parts_are : (early : Bool) (asked : AccessUnit) (xs : List Action) → writes_of (parts_of early asked xs) ≡ writes_among xs
parts_are early asked [] = refl
parts_are early asked (x ∷ xs) = ap (λ (m : ℕ). one_if (is_drw_write x) + m) (parts_are early asked xs)

-- ---- what leads to a unit's access, and settling

leads_both : (part : Part) (xs ys : List RegAccess) → writes_of (steps_of part (xs ++ ys)) ≡ writes_of (steps_of part xs) + writes_of (steps_of part ys)
leads_both part [] ys = omega arith
leads_both part (x ∷ xs) ys = let e = leads_both part xs ys in omega (arith, e)

unless_none : (part : Part) (b : Bool) (a : RegAccess) → is_drw_write (Makes a) ≡ false → writes_of (steps_of part (unless b a)) ≡ 0
unless_none part true a e = refl
unless_none part false a e = ap (λ (x : Bool). one_if x + 0) e

select_none : (part : Part) (k : Kept) (n bank : ℕ) → writes_of (steps_of part (select_needed k n bank)) ≡ 0
select_none part k n bank = unless_none part (is_known k.select (select_value n bank)) (select_of n bank) refl

writes_none : (n : Known) (size address : ℕ) → writes_of (steps_of Leads (port_writes n size address)) ≡ 0
writes_none n size address =
    let a = unless_none Leads (is_known n.csw (planned_csw (csw_of n) size)) (ap_access_of false 0 (planned_csw (csw_of n) size)) refl in
    let b = unless_none Leads (not n.large || is_known n.high (address / 2 ^ 32)) (ap_access_of false 8 (address / 2 ^ 32)) refl in
    let c = unless_none Leads (is_known n.tar (address % 2 ^ 32)) (ap_access_of false 4 (address % 2 ^ 32)) refl in
    let d = leads_both Leads (csw_needed n size) (high_needed n address ++ tar_needed n address) in
    let e = leads_both Leads (high_needed n address) (tar_needed n address) in
    omega (arith, a, b, c, d, e)

leads_none : (k : Kept) (asked : AccessUnit) → writes_of (steps_of Leads (leads k asked)) ≡ 0
leads_none k (unit.Memory size read n address value) =
    let a = select_none Leads k n 0 in
    let b = writes_none (known_at k n) size address in
    let c = leads_both Leads (select_needed k n 0) (port_writes (known_at k n) size address) in
    omega (arith, a, b, c)
leads_none k (unit.Ap read n addr value) = select_none Leads k n (addr / 16)
leads_none k (unit.Dp read addr value) = refl
leads_none k (unit.Poll mask value turns) = refl

read_none : (k : Kept) (n bank addr : ℕ) → writes_of (steps_of Leads (select_needed k n bank ++ ap_access_of true addr 0 ∷ [])) ≡ 0
read_none k n bank addr =
    let a = select_none Leads k n bank in
    let b = leads_both Leads (select_needed k n bank) (ap_access_of true addr 0 ∷ []) in
    omega (arith, a, b)

settle_none : (k : Kept) → writes_of (steps_of Settles (settle k)) ≡ 0
settle_none k = by_unsettled k.unsettled
  where
    by_unsettled : (o : Option Unsettled) → writes_of (steps_of Settles (settling k o)) ≡ 0
    by_unsettled None = refl
    by_unsettled (Some s) = refl

-- ---- a unit that is planned

plan_one : (k : Kept) (asked : AccessUnit) → writes_of (by_plan k asked).steps ≤ 1
plan_one k asked =
    let e = steps_both (steps_of Leads (leads k asked)) (record { part = Ends; action = last_action asked } ∷ []) in
    let m = leads_none k asked in
    let s = one_most (is_drw_write (last_action asked)) in
    omega (arith, e, m, s)

before_one : (xs : List Step) (i : Issue) → writes_of xs ≡ 0 → writes_of i.steps ≤ 1 → writes_of (before xs i).steps ≤ 1
before_one xs i none one = let e = steps_both xs i.steps in omega (arith, e, none, one)

either_one : (b : Bool) (x y : Issue) → writes_of x.steps ≤ 1 → writes_of y.steps ≤ 1 → writes_of (cond b x y).steps ≤ 1
either_one true x y h k = h
either_one false x y h k = k

csw_one : (t : TargetState) (k : Kept) (asked : AccessUnit) → writes_of (by_csw t k asked).steps ≤ 1
csw_one t k asked =
    let l : Kept = kept_after_csw k (port_of asked) (gives t (first_plan k (port_of asked))) in
    either_one (needs_csw k asked) (before (steps_of Leads (first_plan k (port_of asked))) (by_plan l asked)) (by_plan k asked)
    (before_one (steps_of Leads (first_plan k (port_of asked))) (by_plan l asked) (read_none k (port_of asked) 0 0) (plan_one l asked)) (plan_one k asked)

read_one : (t : TargetState) (k : Kept) (asked : AccessUnit) (cfg : ℕ) → writes_of (by_cfg_read t k asked cfg).steps ≤ 1
read_one t k asked cfg =
    either_one (has_bit cfg 2) (by_csw t (learned_cfg k (port_of asked) cfg) asked) (record { steps = []; kept = learned_cfg k (port_of asked) cfg }) (csw_one t (learned_cfg k (port_of asked) cfg) asked) (omega arith)

cfg_one : (t : TargetState) (k : Kept) (asked : AccessUnit) → writes_of (by_cfg t k asked).steps ≤ 1
cfg_one t k asked =
    let r : Issue = by_cfg_read (after t (making (cfg_plan k (port_of asked)))) k asked (gives t (cfg_plan k (port_of asked))) in
    either_one (needs_cfg k asked) (before (steps_of Leads (cfg_plan k (port_of asked))) r) (by_csw t k asked)
    (before_one (steps_of Leads (cfg_plan k (port_of asked))) r (read_none k (port_of asked) 15 4) (read_one (after t (making (cfg_plan k (port_of asked)))) k asked (gives t (cfg_plan k (port_of asked)))))
    (csw_one t k asked)

settling_one : (t : TargetState) (k : Kept) (f : TargetState → Kept → Issue) → ((u : TargetState) (l : Kept) → writes_of (f u l).steps ≤ 1) → writes_of (after_settling t k f).steps ≤ 1
settling_one t k f h = before_one (steps_of Settles (settle k)) (f (after t (making (settle k))) (kept_after_settling k)) (settle_none k) (h (after t (making (settle k))) (kept_after_settling k))

planned_one : (t : TargetState) (k : Kept) (asked : AccessUnit) → writes_of (issue_of_plan t k asked).steps ≤ 1
planned_one t k asked = either_one (needs_settle k asked) (after_settling t k (λ u l. by_cfg u l asked)) (by_cfg t k asked) (settling_one t k (λ u l. by_cfg u l asked) (λ u l. cfg_one u l asked)) (cfg_one t k asked)

-- ---- a unit that is made alone

made_few : (t : TargetState) (xs : List Action) → writes_among (made_of t xs) ≤ writes_among xs
made_few t [] = omega arith
made_few t (x ∷ xs) = by_fault (is_fault (action_attempt t x).outcome) (made_few (action_attempt t x).next xs)
  where
    by_fault : (b : Bool) → writes_among (made_of (action_attempt t x).next xs) ≤ writes_among xs → one_if (is_drw_write x) + writes_among (cond b [] (made_of (action_attempt t x).next xs)) ≤ one_if (is_drw_write x) + writes_among xs
    by_fault true h = omega arith
    by_fault false h = omega (arith, h)

ended_same : (b f s : Bool) (v : ℕ) (t : TargetState) (l : List ℕ) (xs : List Action) → writes_among (ended_call b f s v t l xs).actions ≡ writes_among xs
ended_same true true s v t l xs = let e = actions_both xs (Commands forgives ∷ []) in omega (arith, e)
ended_same true false s v t l xs = refl
ended_same false f true v t l xs = refl
ended_same false f false v t l xs = refl

either_actions : (b : Bool) (x y : List Action) → writes_among x ≤ 1 → writes_among y ≤ 1 → writes_among (cond b x y) ≤ 1
either_actions true x y h k = h
either_actions false x y h k = k

memory_one : (t : TargetState) (large : Bool) (size : ℕ) (read : Bool) (n address value : ℕ) → writes_among (memory_actions t large size read n address value) ≤ 1
memory_one t true size read n address value = let a = one_most (is_drw_write (Makes (drw_of read address value))) in omega (arith, a)
memory_one t false size read n address value = let a = one_most (is_drw_write (Makes (drw_of read address value))) in omega (arith, a)

unit_one : (t : TargetState) (large : List ℕ) (asked : AccessUnit) → may_forgive (Access asked) ≡ true → writes_among (unit_actions t large asked) ≤ 1
unit_one t large (unit.Memory size read n address value) e =
    let big = memory_one (in_order t (cfg_actions n)).next true size read n address value in
    let none : writes_among [] ≤ 1 = omega arith in
    let x : writes_among (after_cfg t size read n address value) ≤ 1 = either_actions (has_large t n) (memory_actions (in_order t (cfg_actions n)).next true size read n address value) [] big none in
    let y = memory_one t (contains large n) size read n address value in
    either_actions (wants_cfg large n address) (cfg_actions n ++ after_cfg t size read n address value) (memory_actions t (contains large n) size read n address value) (omega (arith, x)) y
unit_one t large (unit.Ap read n addr value) e = let a = one_most (is_drw_write (Makes (ap_access_of read (addr % 16) value))) in omega (arith, a)
unit_one t large (unit.Dp read addr value) e = absurd (cc)
unit_one t large (unit.Poll mask value turns) e = absurd (cc)

done_one : (t : TargetState) (large : List ℕ) (forgive : Bool) (asked : AccessUnit) → may_forgive (Access asked) ≡ true → writes_among (call_done t large forgive (Access asked)).actions ≤ 1
unfolding call_done
done_one t large forgive asked e =
    let x : writes_among (call_done t large forgive (Access asked)).actions ≡ writes_among (made_of t (unit_actions t large asked)) = ended_same _ _ _ _ _ _ _ in
    let y = made_few t (unit_actions t large asked) in
    let z = unit_one t large asked e in
    omega (arith, x, y, z)

alone_one : (t : TargetState) (k : Kept) (forgive : Bool) (asked : AccessUnit) → may_forgive (Access asked) ≡ true → writes_of (alone_at forgive asked t k).steps ≤ 1
alone_one t k forgive asked e =
    let d = done_one t (large_of k asked) forgive asked e in
    let m = parts_are (is_early asked (done_alone t k forgive asked).actions) asked (done_alone t k forgive asked).actions in
    omega (arith, d, m)

-- ---- calls

issue_one : (p : Planner) (t : TargetState) (k : Kept) (forgive : Bool) (call : Call) → writes_of (issue p t k forgive call).steps ≤ 1
issue_one p t k forgive (Access asked) = by_mark (is_alone p forgive && may_forgive (Access asked)) refl
  where
    by_mark : (b : Bool) → (is_alone p forgive && may_forgive (Access asked)) ≡ b → writes_of (cond b (after_settling t k (alone_at forgive asked)) (issue_of_plan t k asked)).steps ≤ 1
    by_mark true e = settling_one t k (alone_at forgive asked) (λ u l. alone_one u l forgive asked (second_true (is_alone p forgive) (may_forgive (Access asked)) e))
    by_mark false e = planned_one t k asked
issue_one p t k forgive (Probe c) = omega arith

finish_none : (b : Bool) (k : Kept) → writes_of (finish b k).steps ≡ 0
finish_none true k = settle_none k
finish_none false k = refl

list_few : (p : Planner) (n : ℕ) (k : Kept) (t : TargetState) (asks : List Ask) → drw_writes_in (issued_from p n k t asks) ≤ length asks
list_few p n k t [] = omega arith
list_few p n k t (ask ∷ asks) =
    let own : List Entry = numbered_entries n (ask.forgive && may_forgive ask.call) (issue_of p t k ask).steps in
    let fin : List Entry = numbered_entries (n + 1) false (finish_of p t k ask).steps in
    let rest : List Entry = issued_from p (n + 1) (finish_of p t k ask).kept (after t (actions_of (steps_at p t k ask))) asks in
    let f : Entry → ℕ = λ e. one_if (is_drw_write e.action) in
    let split : drw_writes_in ((own ++ fin) ++ rest) ≡ drw_writes_in (own ++ fin) + drw_writes_in rest = sum_by-append f (own ++ fin) rest in
    let half : drw_writes_in (own ++ fin) ≡ drw_writes_in own + drw_writes_in fin = sum_by-append f own fin in
    let a = entries_are n (ask.forgive && may_forgive ask.call) (issue_of p t k ask).steps in
    let b = entries_are (n + 1) false (finish_of p t k ask).steps in
    let one = issue_one p t k ask.forgive ask.call in
    let none = finish_none ask.settled (issue_of p t k ask).kept in
    let more = list_few p (n + 1) (finish_of p t k ask).kept (after t (actions_of (steps_at p t k ask))) asks in
    omega (arith, split, half, a, b, one, none, more)

pub writes_are_few : WritesAreFew
writes_are_few p t asks = list_few p 0 nothing_kept t asks
