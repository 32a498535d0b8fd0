-- How much calls weigh at most.
use Rattle.std.proofs.Common.{◌≡◌, ℕ, zero, suc, ◌+◌, ◌*◌, ◌/◌, ◌%◌, ◌^◌, ◌≤◌, Bool, true, false, cond, eqb, not, ◌&&◌, ◌||◌, bit_and, List, [], ◌∷◌, ◌++◌, length, Option, Some, None, refl, sym, ap, subst, arith, length-append}
use Rattle.access_regs.specs.Journal.{Issue, Step, actions_of, after_settling, alone_at, before, by_cfg, by_cfg_read, by_csw, by_plan, done_alone, entries_at, finish, finish_of, gives, is_alone, is_early, issue, issue_of, issued_from, large_of, last_action, making, numbered_entries, parts_of, issue_of_plan, port_of, steps_at, steps_of}
use Rattle.access_regs.specs.Kept.{Kept, csw_of, is_known, known_at, nothing_kept}
use Rattle.access_regs.specs.Light.{JournalIsLight}
use Rattle.access_regs.specs.Plan.{cfg_plan, csw_needed, first_plan, high_needed, planned_csw, tar_needed, leads, kept_after_csw, learned_cfg, needs_cfg, needs_csw, needs_settle, port_writes, select_needed, settle, kept_after_settling, settling}
use Rattle.access_regs.specs.declared.known.Unsettled.{Unsettled}
use Rattle.access_regs.specs.declared.planner.Planner.{Planner}
use Rattle.target_calls.specs.Asks.{AreAskable}
use Rattle.target_calls.specs.Journal.{Entry, target_after}
use Rattle.target_machine.specs.Packets.{commands_for}
use Rattle.target_calls.specs.Weights.{weight, weight_in}
use Rattle.target_calls.specs.declared.calls.Ask.{Ask}
use Rattle.target_calls.specs.declared.journal.Part.{Part}
use Rattle.target_calls.specs.declared.journal.Part.TheVariants.{Ends, Leads, Settles}
use Rattle.access_regs.proofs.Lists.{actions_entries}
use Rattle.access_regs.proofs.Few.{few_unless}
use Rattle.target_calls.proofs.EntryLemmas.{delay_few, weight_append}
use Rattle.dap_base.specs.Bits.{has_bit}
use Rattle.dap_base.proofs.Basics.{second_true}
use Rattle.target_machine.specs.Attempt.{attempt}
use Rattle.target_machine.specs.Lists.{after}
use Rattle.target_machine.specs.Plain.{Action, Makes, Polls, Commands, Polled, action_attempt, is_fault, poll_read, poll_result, dp_read_of, issued_actions as made_of, call_done, ended_call, forgives, cfg_actions, memory_actions, after_cfg, unit_actions, has_large, needs_cfg as wants_cfg, contains, may_forgive, in_order, ap_access_of}
use Rattle.target_machine.specs.Sound.{IsSoundCall}
use Rattle.target_machine.specs.State.{TargetState}
use Rattle.target_machine.specs.declared.access.Outcome.{Outcome}
use Rattle.target_machine.specs.declared.access.Outcome.TheVariants.{Value, Done, Fault}
use Rattle.target_machine.specs.declared.access.RegAccess.{RegAccess}
use Rattle.target_machine.specs.declared.unit.Call.{Call}
use Rattle.target_machine.specs.declared.unit.Call.TheVariants.{Access, Probe}
use Rattle.target_machine.specs.declared.unit.ProbeCall.{ProbeCall}
use Rattle.target_machine.specs.declared.unit.ProbeCall.TheVariants as probe
use Rattle.target_machine.specs.declared.unit.Unit.{Unit as AccessUnit}
use Rattle.target_machine.specs.declared.unit.Unit.TheVariants as unit

-- how much an action weighs at most: of a poll all its turns
abbrev most : Action → ℕ
most (Makes a) = 1
most (Polls mask requested turns) = turns
most (Commands c) = commands_for c

pub looked_few : (o : Outcome) (t : TargetState) (mask requested n : ℕ) (rest : Polled) → rest.reads ≤ n → (poll_read o t mask requested rest).reads ≤ suc n
looked_few (Value v) t mask requested n rest le = one (eqb (bit_and v mask) requested)
  where
    one : (b : Bool) → (cond b (record { outcome = Value 1; reads = 1; next = t }) (record rest { reads = rest.reads + 1 })).reads ≤ suc n
    one true = omega arith
    one false = omega (arith, le)
looked_few Done t mask requested n rest le = omega (arith, le)
looked_few Fault t mask requested n rest le = omega arith

pub polled_few : (turns mask requested : ℕ) (t : TargetState) → (poll_result turns mask requested t).reads ≤ turns
unfolding poll_result
polled_few zero mask requested t = omega arith
polled_few (suc turns) mask requested t =
    let first = attempt t (dp_read_of 4) in
    looked_few first.outcome first.next mask requested turns (poll_result turns mask requested first.next) (polled_few turns mask requested first.next)

weight_most : (t : TargetState) (a : Action) → weight t a ≤ most a
weight_most t (Makes a) = omega arith
weight_most t (Polls mask requested turns) = polled_few turns mask requested t
weight_most t (Commands c) = omega arith

-- of steps, of actions and of entries
abbrev most_of : List Step → ℕ
most_of [] = 0
most_of (s ∷ steps) = most s.action + most_of steps

abbrev most_in : List Action → ℕ
most_in [] = 0
most_in (a ∷ actions) = most a + most_in actions

steps_both : (xs ys : List Step) → most_of (xs ++ ys) ≡ most_of xs + most_of ys
steps_both [] ys = omega arith
steps_both (x ∷ xs) ys = let e = steps_both xs ys in omega (arith, e)

actions_both : (xs ys : List Action) → most_in (xs ++ ys) ≡ most_in xs + most_in ys
actions_both [] ys = omega arith
actions_both (x ∷ xs) ys = let e = actions_both xs ys in omega (arith, e)

entries_light : (n : ℕ) (b : Bool) (t : TargetState) (steps : List Step) → weight_in t (numbered_entries n b steps) ≤ most_of steps
entries_light n b t [] = omega arith
entries_light n b t (s ∷ steps) = let w = weight_most t s.action in let r = entries_light n b (action_attempt t s.action).next steps in omega (arith, w, r)

makes_most : (part : Part) (xs : List RegAccess) → most_of (steps_of part xs) ≡ length xs
makes_most part [] = refl
makes_most part (x ∷ xs) = let e = makes_most part xs in omega (arith, e)

parts_most : (early : Bool) (asked : AccessUnit) (xs : List Action) → most_of (parts_of early asked xs) ≡ most_in xs
parts_most early asked [] = refl
parts_most early asked (x ∷ xs) = let e = parts_most early asked xs in omega (arith, e)

-- ---- what a unit issues

pub settle_short : (k : Kept) → length (settle k) ≤ 2
settle_short k = by_unsettled k.unsettled
  where
    by_unsettled : (o : Option Unsettled) → length (settling k o) ≤ 2
    by_unsettled None = omega arith
    by_unsettled (Some s) = omega arith

then_one : (xs : List RegAccess) (a : RegAccess) (n : ℕ) → length xs ≤ n → length (xs ++ a ∷ []) ≤ n + 1
then_one xs a n le = let e = length-append xs (a ∷ []) in omega (arith, e, le)

pub leads_short : (k : Kept) (asked : AccessUnit) → length (leads k asked) ≤ 4
leads_short k (unit.Memory size read n address value) =
    let s : List RegAccess = select_needed k n 0 in
    let c = length-append s (port_writes (known_at k n) size address) in
    let a = short_select k n 0 in
    let b = short_writes k n size address in
    omega (arith, a, b, c)
  where
    short_select : (k : Kept) (n bank : ℕ) → length (select_needed k n bank) ≤ 1
    short_select k n bank = few_unless _ _

    three : (x y z : List RegAccess) → length x ≤ 1 → length y ≤ 1 → length z ≤ 1 → length (x ++ (y ++ z)) ≤ 3
    three x y z a b c = let e = length-append x (y ++ z) in let f = length-append y z in omega (arith, a, b, c, e, f)

    short_writes : (k : Kept) (n size address : ℕ) → length (port_writes (known_at k n) size address) ≤ 3
    short_writes k n size address =
        let n' = known_at k n in
        three (csw_needed n' size) (high_needed n' address) (tar_needed n' address)
        (few_unless (is_known n'.csw (planned_csw (csw_of n') size)) (ap_access_of false 0 (planned_csw (csw_of n') size)))
        (few_unless (not n'.large || is_known n'.high (address / 2 ^ 32)) (ap_access_of false 8 (address / 2 ^ 32)))
        (few_unless (is_known n'.tar (address % 2 ^ 32)) (ap_access_of false 4 (address % 2 ^ 32)))
leads_short k (unit.Ap read n addr value) = let s : length (select_needed k n (addr / 16)) ≤ 1 = few_unless _ _ in omega (arith, s)
leads_short k (unit.Dp read addr value) = omega arith
leads_short k (unit.Poll mask value turns) = omega arith

plan_light : (k : Kept) (asked : AccessUnit) → most_of (by_plan k asked).steps ≤ 4 + most (last_action asked)
plan_light k asked =
    let e = steps_both (steps_of Leads (leads k asked)) (record { part = Ends; action = last_action asked } ∷ []) in
    let m = makes_most Leads (leads k asked) in
    let s = leads_short k asked in
    omega (arith, e, m, s)

before_light : (xs : List RegAccess) (i : Issue) (part : Part) (n m : ℕ) → length xs ≤ n → most_of i.steps ≤ m → most_of (before (steps_of part xs) i).steps ≤ n + m
before_light xs i part n m short light = let e = steps_both (steps_of part xs) i.steps in let f = makes_most part xs in omega (arith, e, f, short, light)

either_light : (b : Bool) (x y : Issue) (m : ℕ) → most_of x.steps ≤ m → most_of y.steps ≤ m → most_of (cond b x y).steps ≤ m
either_light true x y m h k = h
either_light false x y m h k = k

csw_light : (t : TargetState) (k : Kept) (asked : AccessUnit) → most_of (by_csw t k asked).steps ≤ 6 + most (last_action asked)
csw_light t k asked =
    let l : Kept = kept_after_csw k (port_of asked) (gives t (first_plan k (port_of asked))) in
    let x : most_of (before (steps_of Leads (first_plan k (port_of asked))) (by_plan l asked)).steps ≤ 2 + (4 + most (last_action asked)) =
    before_light (first_plan k (port_of asked)) (by_plan l asked) Leads 2 (4 + most (last_action asked)) (then_one (select_needed k (port_of asked) 0) _ 1 (few_unless _ _)) (plan_light l asked) in
    let y = plan_light k asked in
    either_light (needs_csw k asked) _ (by_plan k asked) (6 + most (last_action asked)) (omega (arith, x)) (omega (arith, y))

read_light : (t : TargetState) (k : Kept) (asked : AccessUnit) (cfg : ℕ) → most_of (by_cfg_read t k asked cfg).steps ≤ 6 + most (last_action asked)
read_light t k asked cfg =
    either_light (has_bit cfg 2) (by_csw t (learned_cfg k (port_of asked) cfg) asked) (record { steps = []; kept = learned_cfg k (port_of asked) cfg }) (6 + most (last_action asked))
    (csw_light t (learned_cfg k (port_of asked) cfg) asked) (omega arith)

cfg_light : (t : TargetState) (k : Kept) (asked : AccessUnit) → most_of (by_cfg t k asked).steps ≤ 8 + most (last_action asked)
cfg_light t k asked =
    let r : Issue = by_cfg_read (after t (making (cfg_plan k (port_of asked)))) k asked (gives t (cfg_plan k (port_of asked))) in
    let x : most_of (before (steps_of Leads (cfg_plan k (port_of asked))) r).steps ≤ 2 + (6 + most (last_action asked)) =
    before_light (cfg_plan k (port_of asked)) r Leads 2 (6 + most (last_action asked)) (then_one (select_needed k (port_of asked) 15) _ 1 (few_unless _ _))
    (read_light (after t (making (cfg_plan k (port_of asked)))) k asked (gives t (cfg_plan k (port_of asked)))) in
    let y = csw_light t k asked in
    either_light (needs_cfg k asked) _ (by_csw t k asked) (8 + most (last_action asked)) (omega (arith, x)) (omega (arith, y))

settling_light : (t : TargetState) (k : Kept) (f : TargetState → Kept → Issue) (m : ℕ) → ((u : TargetState) (l : Kept) → most_of (f u l).steps ≤ m) → most_of (after_settling t k f).steps ≤ 2 + m
settling_light t k f m h = before_light (settle k) (f (after t (making (settle k))) (kept_after_settling k)) Settles 2 m (settle_short k) (h (after t (making (settle k))) (kept_after_settling k))

planned_light : (t : TargetState) (k : Kept) (asked : AccessUnit) → most_of (issue_of_plan t k asked).steps ≤ 10 + most (last_action asked)
planned_light t k asked =
    let x = settling_light t k (λ u l. by_cfg u l asked) (8 + most (last_action asked)) (λ u l. cfg_light u l asked) in
    let y = cfg_light t k asked in
    either_light (needs_settle k asked) _ (by_cfg t k asked) (10 + most (last_action asked)) (omega (arith, x)) (omega (arith, y))

-- ---- units made alone

made_light : (t : TargetState) (xs : List Action) → most_in (made_of t xs) ≤ most_in xs
made_light t [] = omega arith
made_light t (x ∷ xs) = by_fault (is_fault (action_attempt t x).outcome) (made_light (action_attempt t x).next xs)
  where
    by_fault : (b : Bool) → most_in (made_of (action_attempt t x).next xs) ≤ most_in xs → most x + most_in (cond b [] (made_of (action_attempt t x).next xs)) ≤ most x + most_in xs
    by_fault true h = omega arith
    by_fault false h = omega (arith, h)

ended_light : (b f s : Bool) (v : ℕ) (t : TargetState) (l : List ℕ) (xs : List Action) → most_in (ended_call b f s v t l xs).actions ≤ most_in xs + 1
ended_light true true s v t l xs = let e = actions_both xs (Commands forgives ∷ []) in omega (arith, e)
ended_light true false s v t l xs = omega arith
ended_light false f true v t l xs = omega arith
ended_light false f false v t l xs = omega arith

either_actions : (b : Bool) (x y : List Action) (m : ℕ) → most_in x ≤ m → most_in y ≤ m → most_in (cond b x y) ≤ m
either_actions true x y m h k = h
either_actions false x y m h k = k

memory_light : (t : TargetState) (large : Bool) (size : ℕ) (read : Bool) (n address value : ℕ) → most_in (memory_actions t large size read n address value) ≤ 6
memory_light t true size read n address value = omega arith
memory_light t false size read n address value = omega arith

unit_light : (t : TargetState) (large : List ℕ) (asked : AccessUnit) → may_forgive (Access asked) ≡ true → most_in (unit_actions t large asked) ≤ 8
unit_light t large (unit.Memory size read n address value) e =
    let big = memory_light (in_order t (cfg_actions n)).next true size read n address value in
    let none : most_in [] ≤ 6 = omega arith in
    let x : most_in (after_cfg t size read n address value) ≤ 6 = either_actions (has_large t n) (memory_actions (in_order t (cfg_actions n)).next true size read n address value) [] 6 big none in
    let y = memory_light t (contains large n) size read n address value in
    either_actions (wants_cfg large n address) (cfg_actions n ++ after_cfg t size read n address value) (memory_actions t (contains large n) size read n address value) 8 (omega (arith, x)) (omega (arith, y))
unit_light t large (unit.Ap read n addr value) e = omega arith
unit_light t large (unit.Dp read addr value) e = absurd (cc)
unit_light t large (unit.Poll mask value turns) e = absurd (cc)

done_light : (t : TargetState) (large : List ℕ) (forgive : Bool) (asked : AccessUnit) → may_forgive (Access asked) ≡ true → most_in (call_done t large forgive (Access asked)).actions ≤ 9
unfolding call_done
done_light t large forgive asked e =
    let x : most_in (call_done t large forgive (Access asked)).actions ≤ most_in (made_of t (unit_actions t large asked)) + 1 = ended_light _ _ _ _ _ _ _ in
    let y = made_light t (unit_actions t large asked) in
    let z = unit_light t large asked e in
    omega (arith, x, y, z)

alone_light : (t : TargetState) (k : Kept) (forgive : Bool) (asked : AccessUnit) → may_forgive (Access asked) ≡ true → most_of (alone_at forgive asked t k).steps ≤ 9
alone_light t k forgive asked e =
    let d = done_light t (large_of k asked) forgive asked e in
    let m = parts_most (is_early asked (done_alone t k forgive asked).actions) asked (done_alone t k forgive asked).actions in
    omega (arith, d, m)

-- ---- calls

last_light : (asked : AccessUnit) → IsSoundCall (Access asked) → most (last_action asked) ≤ 60000000
last_light (unit.Memory size read n address value) h = omega arith
last_light (unit.Ap read n addr value) h = omega arith
last_light (unit.Dp read addr value) h = omega arith
last_light (unit.Poll mask value turns) h = h.1

command_light : (c : ProbeCall) → IsSoundCall (Probe c) → commands_for c ≤ 60000000
command_light (probe.Delay micros) h = let few = delay_few micros 60000000 (omega arith) (omega (arith, h)) in few
command_light other h = omega arith

issue_light : (p : Planner) (t : TargetState) (k : Kept) (forgive : Bool) (call : Call) → IsSoundCall call → most_of (issue p t k forgive call).steps ≤ 60000010
issue_light p t k forgive (Access asked) h = by_mark (is_alone p forgive && may_forgive (Access asked)) refl
  where
    by_mark : (b : Bool) → (is_alone p forgive && may_forgive (Access asked)) ≡ b → most_of (cond b (after_settling t k (alone_at forgive asked)) (issue_of_plan t k asked)).steps ≤ 60000010
    by_mark true e = (let x = settling_light t k (alone_at forgive asked) 9 (λ u l. alone_light u l forgive asked (second_true (is_alone p forgive) (may_forgive (Access asked)) e)) in omega (arith, x))
    by_mark false e = (let x = planned_light t k asked in let y = last_light asked h in omega (arith, x, y))
issue_light p t k forgive (Probe c) h = let x = command_light c h in omega (arith, x)

finish_light : (b : Bool) (k : Kept) → most_of (finish b k).steps ≤ 2
finish_light true k = let e = makes_most Settles (settle k) in let s = settle_short k in omega (arith, e, s)
finish_light false k = omega arith

list_light : (p : Planner) (n : ℕ) (k : Kept) (t : TargetState) (asks : List Ask) → AreAskable asks → weight_in t (issued_from p n k t asks) ≤ 60000012 * length asks
list_light p n k t [] h = omega arith
list_light p n k t (ask ∷ asks) h =
    let own : List Entry = numbered_entries n (ask.forgive && may_forgive ask.call) (issue_of p t k ask).steps in
    let fin : List Entry = numbered_entries (n + 1) false (finish_of p t k ask).steps in
    let rest : List Entry = issued_from p (n + 1) (finish_of p t k ask).kept (after t (actions_of (steps_at p t k ask))) asks in
    let split = weight_append t (entries_at p n t k ask) rest in
    let half = weight_append t own fin in
    let first = entries_light n (ask.forgive && may_forgive ask.call) t (issue_of p t k ask).steps in
    let last = entries_light (n + 1) false (target_after t own) (finish_of p t k ask).steps in
    let a = issue_light p t k ask.forgive ask.call h.0.sound in
    let b = finish_light ask.settled (issue_of p t k ask).kept in
    let more : weight_in (target_after t (entries_at p n t k ask)) rest ≤ 60000012 * length asks = subst (λ (s : TargetState). weight_in s rest ≤ 60000012 * length asks) (sym (ap (after t) (actions_entries p n t k ask))) (list_light p (n + 1) (finish_of p t k ask).kept (after t (actions_of (steps_at p t k ask))) asks h.1) in
    omega (arith, split, half, first, last, a, b, more)

pub journal_light : JournalIsLight
journal_light p t asks h = list_light p 0 nothing_kept t asks h
