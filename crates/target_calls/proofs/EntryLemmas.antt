-- Entries of a journal: what they leave, and what they weigh.
use Rattle.std.proofs.Common.{◌≡◌, ◌∙◌, ℕ, zero, suc, ◌+◌, ◌-◌, ◌*◌, ◌<◌, ◌≤◌, Bool, true, false, cond, List, [], ◌∷◌, ◌++◌, length, take, nat_le, None, Some, refl, ap, arith}
use Rattle.std.specs.Prelude.{◌==◌, bit_and}
use Rattle.std.proofs.lemmas.List.Sums.{sum_by-append}
use Rattle.target_machine.specs.Attempt.{attempt}
use Rattle.target_machine.specs.Plain.{Action, Makes, Polls, Commands, Polled, action_attempt, dp_read_of, poll_read, poll_result}
use Rattle.target_machine.specs.Packets.{delay_commands}
use Rattle.target_machine.specs.State.{TargetState}
use Rattle.target_machine.specs.declared.access.Outcome.{Outcome}
use Rattle.target_machine.specs.declared.access.Outcome.TheVariants.{Value, Done, Fault}
use Rattle.target_machine.specs.declared.unit.ProbeCall.TheVariants as probe
use Rattle.target_calls.proofs.CallLists.{head_of, later_head, later_twice, later_zero}
use Rattle.target_machine.specs.Counts.{one_if}
use Rattle.target_calls.specs.Journal.{Entry, Passes, attempted_in, completes, first_fault, is_unforgiven, is_skip, skipped_in, target_after}
use Rattle.target_calls.specs.Weights.{AreWeighty, IsWeighty, commands_in, commands_of, entries_performed, registers_in, registers_of, weight, weight_in}
use Rattle.target_calls.specs.World.{later_by}

pub target_append : (t : TargetState) (xs ys : List Entry) → target_after t (xs ++ ys) ≡ target_after (target_after t xs) ys
target_append t [] ys = refl
target_append t (x ∷ xs) ys = target_append (action_attempt t x.action).next xs ys

pub weight_append : (t : TargetState) (xs ys : List Entry) → weight_in t (xs ++ ys) ≡ weight_in t xs + weight_in (target_after t xs) ys
weight_append t [] ys = omega arith
weight_append t (x ∷ xs) ys = (let rest = weight_append (action_attempt t x.action).next xs ys in omega (arith, rest))

pub pass_append : (t : TargetState) (xs ys : List Entry) → Passes t xs → Passes (target_after t xs) ys → Passes t (xs ++ ys)
pass_append t [] ys h k = k
pass_append t (x ∷ xs) ys h k = (h.0, pass_append (action_attempt t x.action).next xs ys h.1 k)

pub pass_front : (t : TargetState) (xs ys : List Entry) → Passes t (xs ++ ys) → Passes t xs
pass_front t [] ys h = tt
pass_front t (x ∷ xs) ys h = (h.0, pass_front (action_attempt t x.action).next xs ys h.1)

pub pass_rest : (t : TargetState) (xs ys : List Entry) → Passes t (xs ++ ys) → Passes (target_after t xs) ys
pass_rest t [] ys h = h
pass_rest t (x ∷ xs) ys h = pass_rest (action_attempt t x.action).next xs ys h.1

-- ---- the first fault

pub pass_none : (t : TargetState) (entries : List Entry) → Passes t entries → first_fault t entries ≡ None
pass_none t [] h = refl
pass_none t (e ∷ entries) h = rw h.0 (ap (later_by 1) (pass_none (action_attempt t e.action).next entries h.1))

pub none_pass : (t : TargetState) (entries : List Entry) → first_fault t entries ≡ None → Passes t entries
none_pass t [] h = tt
none_pass t (e ∷ entries) h =
    let q = head_of (is_unforgiven t e) (first_fault (action_attempt t e.action).next entries) h in
    (q.0, none_pass (action_attempt t e.action).next entries q.1)

pub fault_append : (t : TargetState) (xs ys : List Entry) → Passes t xs → first_fault t (xs ++ ys) ≡ later_by (length xs) (first_fault (target_after t xs) ys)
fault_append t [] ys h = later_zero (first_fault t ys)
fault_append t (x ∷ xs) ys h =
    rw h.0 (ap (later_by 1) (fault_append (action_attempt t x.action).next xs ys h.1) ∙ later_twice (length xs) (first_fault (target_after (action_attempt t x.action).next xs) ys))

pub fault_first : (t : TargetState) (xs : List Entry) (e : Entry) (ys : List Entry) → Passes t xs → is_unforgiven (target_after t xs) e ≡ true → first_fault t (xs ++ e ∷ ys) ≡ Some (suc (length xs))
fault_first t xs e ys h bad = fault_append t xs (e ∷ ys) h ∙ rw bad (ap Some (omega arith))

pub pass_before : (t : TargetState) (entries : List Entry) (n : ℕ) → first_fault t entries ≡ Some (suc n) → Passes t (take n entries)
pass_before t [] n h = absurd cc
pass_before t (e ∷ entries) zero h = tt
pass_before t (e ∷ entries) (suc n) h =
    let q = later_head (is_unforgiven t e) (first_fault (action_attempt t e.action).next entries) n h in
    (q.0, pass_before (action_attempt t e.action).next entries n q.1)

-- ---- counts of entries

pub attempted_append : (xs ys : List Entry) → attempted_in (xs ++ ys) ≡ attempted_in xs + attempted_in ys
attempted_append xs ys = sum_by-append (λ (e : Entry). one_if (completes e.part)) xs ys

pub skipped_append : (xs ys : List Entry) → skipped_in (xs ++ ys) ≡ skipped_in xs + skipped_in ys
skipped_append xs ys = sum_by-append (λ (e : Entry). one_if (is_skip e.part)) xs ys

pub commands_append : (xs ys : List Entry) → commands_in (xs ++ ys) ≡ commands_in xs + commands_in ys
commands_append xs ys = sum_by-append (λ (e : Entry). commands_of e.action) xs ys

pub registers_append : (xs ys : List Entry) → registers_in (xs ++ ys) ≡ registers_in xs + registers_in ys
registers_append xs ys = sum_by-append (λ (e : Entry). registers_of e.action) xs ys

-- ---- what entries weigh

looked_some : (o : Outcome) (t : TargetState) (mask requested : ℕ) (rest : Polled) → 0 < (poll_read o t mask requested rest).reads
looked_some Done t mask requested rest = omega arith
looked_some Fault t mask requested rest = omega arith
looked_some (Value n) t mask requested rest = one (bit_and n mask == requested)
  where
    one : (b : Bool) → 0 < (cond b (record { outcome = Value 1; reads = 1; next = t }) (record rest { reads = rest.reads + 1 })).reads
    one true = omega arith
    one false = omega arith

polled_some : (turns mask requested : ℕ) (t : TargetState) → 0 < turns → 0 < (poll_result turns mask requested t).reads
unfolding poll_result
polled_some zero mask requested t some = absurd (omega (arith, some))
polled_some (suc turns) mask requested t some =
    let first = attempt t (dp_read_of 4) in looked_some first.outcome first.next mask requested (poll_result turns mask requested first.next)

pub delay_some : (micros : ℕ) → 0 < delay_commands micros
delay_some micros = omega arith

pub delay_enough : (micros : ℕ) → micros ≤ 65535 * delay_commands micros
delay_enough micros = omega arith

pub delay_few : (micros n : ℕ) → 0 < n → micros ≤ 65535 * n → delay_commands micros ≤ n
delay_few micros n some enough = omega (arith, some, enough)

pub weight_some : (t : TargetState) (action : Action) → IsWeighty action → 0 < weight t action
weight_some t (Makes a) h = omega arith
weight_some t (Polls mask requested turns) h = polled_some turns mask requested t h
weight_some t (Commands (probe.Delay micros)) h = delay_some micros
weight_some t (Commands other) h = omega arith

pub performed_within : (t : TargetState) (entries : List Entry) (work : ℕ) → entries_performed t entries work ≤ length entries
performed_within t [] work = omega arith
performed_within t (e ∷ entries) work = one (nat_le (weight t e.action) work) (performed_within (action_attempt t e.action).next entries (work - weight t e.action))
  where
    one : (b : Bool) → entries_performed (action_attempt t e.action).next entries (work - weight t e.action) ≤ length entries
        → cond b (suc (entries_performed (action_attempt t e.action).next entries (work - weight t e.action))) 0 ≤ suc (length entries)
    one true rest = omega (arith, rest)
    one false rest = omega arith

pub performed_fits : (t : TargetState) (entries : List Entry) (work : ℕ) → weight_in t (take (entries_performed t entries work) entries) ≤ work
performed_fits t [] work = omega arith
performed_fits t (e ∷ entries) work = one (nat_le (weight t e.action) work) refl (performed_fits (action_attempt t e.action).next entries (work - weight t e.action))
  where
    one : (b : Bool) → nat_le (weight t e.action) work ≡ b
        → weight_in (action_attempt t e.action).next (take (entries_performed (action_attempt t e.action).next entries (work - weight t e.action)) entries) ≤ work - weight t e.action
        → weight_in t (take (cond b (suc (entries_performed (action_attempt t e.action).next entries (work - weight t e.action))) 0) (e ∷ entries)) ≤ work
    one true fits rest = (let low : weight t e.action ≤ work = grind (arith, fits) in omega (arith, low, rest))
    one false fits rest = omega arith

pub performed_most : (t : TargetState) (entries : List Entry) (work n : ℕ) → n ≤ length entries → weight_in t (take n entries) ≤ work → n ≤ entries_performed t entries work
performed_most t entries work zero long few = omega arith
performed_most t [] work (suc n) long few = omega (arith, long)
performed_most t (e ∷ entries) work (suc n) long few =
    let fits : nat_le (weight t e.action) work ≡ true = grind (arith, few) in
    let rest = performed_most (action_attempt t e.action).next entries (work - weight t e.action) n (omega (arith, long)) (omega (arith, few)) in
    rw fits (omega (arith, rest))

-- the first entries alone fit what they weigh
pub performed_front : (t : TargetState) (xs ys : List Entry) → AreWeighty ys → entries_performed t (xs ++ ys) (weight_in t xs) ≡ length xs
performed_front t [] [] h = refl
performed_front t [] (y ∷ ys) h =
    let some : 0 < weight t y.action = weight_some t y.action h.0 in
    let short : nat_le (weight t y.action) 0 ≡ false = grind (arith, some) in
    rw short refl
performed_front t (x ∷ xs) ys h =
    let fits : nat_le (weight t x.action) (weight t x.action + weight_in (action_attempt t x.action).next xs) ≡ true = grind arith in
    let rest : weight t x.action + weight_in (action_attempt t x.action).next xs - weight t x.action ≡ weight_in (action_attempt t x.action).next xs = omega arith in
    rw (fits, rest) (ap suc (performed_front (action_attempt t x.action).next xs ys h))

-- a part of the next entry counts as nothing
pub performed_part : (t : TargetState) (xs : List Entry) (e : Entry) (ys : List Entry) (more : ℕ) → more < weight (target_after t xs) e.action → entries_performed t (xs ++ e ∷ ys) (weight_in t xs + more) ≡ length xs
performed_part t [] e ys more h =
    let short : nat_le (weight t e.action) (0 + more) ≡ false = grind (arith, h) in
    rw short refl
performed_part t (x ∷ xs) e ys more h =
    let fits : nat_le (weight t x.action) (weight t x.action + weight_in (action_attempt t x.action).next xs + more) ≡ true = grind arith in
    let rest : weight t x.action + weight_in (action_attempt t x.action).next xs + more - weight t x.action ≡ weight_in (action_attempt t x.action).next xs + more = omega arith in
    rw (fits, rest) (ap suc (performed_part (action_attempt t x.action).next xs e ys more h))
