-- Which reads of CSW and CFG lead to the access of a unit.
use Rattle.std.proofs.Common.{◌≡◌, ◌∙◌, ℕ, ◌+◌, ◌/◌, ◌%◌, ◌^◌, ◌<◌, ◌⊎◌, inl, inr, Bool, true, false, cond, not, ◌&&◌, ◌||◌, nat_lt, None, List, [], ◌∷◌, ◌++◌, refl, sym, ap, arith}
use Rattle.std.proofs.lemmas.List.Sums.{sum_by-append, sum_by-cons}
use Rattle.access_regs.proofs.Course.{steps_append}
use Rattle.access_regs.proofs.Forgiving.{contains_one}
use Rattle.access_regs.proofs.MemoryShape.{csw_at, memory_shape, shape}
use Rattle.access_regs.proofs.ForgivingMemory.{parts_ended, skip}
use Rattle.access_regs.proofs.Runs.{select_left}
use Rattle.access_regs.proofs.Select.{select_write}
use Rattle.access_regs.specs.Costs.{AloneReads, PlannedReads, PortReads, is_leading_read, leading_reads}
use Rattle.access_regs.specs.Journal.{Step, after_settling, before, is_early, is_last, large_of, part_of, parts_of, by_cfg, by_cfg_read, by_csw, by_plan, gives, last_action, making, port_of, steps_of}
use Rattle.access_regs.specs.Kept.{Kept, csw_of, is_known, known_at}
use Rattle.access_regs.specs.Plan.{cfg_plan, csw_needed, first_plan, high_needed, leads, kept_after_csw, learned_cfg, needs_cfg, needs_csw, needs_settle, planned_csw, port_writes, select_needed, select_value, settle, kept_after_settling, tar_needed, unless}
use Rattle.access_regs.specs.declared.known.Known.{Known}
use Rattle.target_machine.specs.Counts.{one_if}
use Rattle.target_calls.specs.declared.journal.Part.TheVariants.{Ends, Leads, Settles}
use Rattle.dap_base.specs.Bits.{has_bit}
use Rattle.target_machine.specs.Lists.{after}
use Rattle.target_machine.proofs.OneAp.{one_ap_changed}
use Rattle.target_machine.specs.Attempt.{Attempt, attempt}
use Rattle.target_machine.specs.Plain.{Action, Makes, Polls, Commands, action_attempt, ap_access_of, call_done, cfg_actions, contains, csw_actions, ended_call, given_number, has_large, in_order, is_fault, is_small, issued_actions, large_after, needs_cfg as wants_cfg, result_of, select_of, transfer_actions, unit_actions}
use Rattle.target_machine.specs.declared.access.Outcome.{Outcome}
use Rattle.target_machine.specs.declared.access.Outcome.TheVariants.{Value, Done, Fault}
use Rattle.target_machine.specs.declared.unit.Call.TheVariants.{Access}
use Rattle.target_machine.specs.State.{TargetState}
use Rattle.target_machine.specs.declared.access.RegAccess.{RegAccess}
use Rattle.target_machine.specs.declared.unit.Unit.{Unit as AccessUnit}
use Rattle.target_machine.specs.declared.unit.Unit.TheVariants as unit

asks_both : (xs ys : List Step) → leading_reads (xs ++ ys) ≡ leading_reads xs + leading_reads ys
asks_both xs ys = sum_by-append (λ (s : Step). one_if (is_leading_read s.part s.action)) xs ys

settles_ask : (xs : List RegAccess) → leading_reads (steps_of Settles xs) ≡ 0
settles_ask [] = refl
settles_ask (x ∷ xs) =
    let e = settles_ask xs in
    let c = sum_by-cons (λ (s : Step). one_if (is_leading_read s.part s.action)) (record { part = Settles; action = Makes x }) (steps_of Settles xs) in
    omega (arith, c, e)

-- accesses that lead, one list after the other
leads_both : (xs ys : List RegAccess) → leading_reads (steps_of Leads (xs ++ ys)) ≡ leading_reads (steps_of Leads xs) + leading_reads (steps_of Leads ys)
leads_both xs ys = ap leading_reads (steps_append Leads xs ys) ∙ asks_both (steps_of Leads xs) (steps_of Leads ys)

write_asks : (b : Bool) (a : RegAccess) → a.read ≡ false → leading_reads (steps_of Leads (unless b a)) ≡ 0
write_asks true a e = refl
write_asks false a e = ap (λ (r : Bool). 0 + one_if r) e

select_asks : (k : Kept) (n bank : ℕ) → leading_reads (steps_of Leads (select_needed k n bank)) ≡ 0
select_asks k n bank = write_asks (is_known k.select (select_value n bank)) (select_of n bank) refl

writes_ask : (n : Known) (size address : ℕ) → leading_reads (steps_of Leads (port_writes n size address)) ≡ 0
writes_ask n size address =
    let a = write_asks (is_known n.csw (planned_csw (csw_of n) size)) (ap_access_of false 0 (planned_csw (csw_of n) size)) refl in
    let b = write_asks (not n.large || is_known n.high (address / 2 ^ 32)) (ap_access_of false 8 (address / 2 ^ 32)) refl in
    let c = write_asks (is_known n.tar (address % 2 ^ 32)) (ap_access_of false 4 (address % 2 ^ 32)) refl in
    let d = leads_both (csw_needed n size) (high_needed n address ++ tar_needed n address) in
    let e = leads_both (high_needed n address) (tar_needed n address) in
    omega (arith, a, b, c, d, e)

leads_ask : (k : Kept) (asked : AccessUnit) → leading_reads (steps_of Leads (leads k asked)) ≡ 0
leads_ask k (unit.Memory size read n address value) =
    let a = select_asks k n 0 in
    let b = writes_ask (known_at k n) size address in
    let c = leads_both (select_needed k n 0) (port_writes (known_at k n) size address) in
    omega (arith, a, b, c)
leads_ask k (unit.Ap read n addr value) = select_asks k n (addr / 16)
leads_ask k (unit.Dp read addr value) = refl
leads_ask k (unit.Poll mask value turns) = refl

plan_asks : (k : Kept) (asked : AccessUnit) → leading_reads (by_plan k asked).steps ≡ 0
plan_asks k asked =
    let a = asks_both (steps_of Leads (leads k asked)) (record { part = Ends; action = last_action asked } ∷ []) in
    let b = leads_ask k asked in
    omega (arith, a, b)

-- SELECT, and a read
read_asks : (k : Kept) (n bank : ℕ) (a : RegAccess) → a.read ≡ true → leading_reads (steps_of Leads (select_needed k n bank ++ a ∷ [])) ≡ 1
read_asks k n bank a e =
    let x = select_asks k n bank in
    let y = leads_both (select_needed k n bank) (a ∷ []) in
    let z : leading_reads (steps_of Leads (a ∷ [])) ≡ 1 = ap (λ (r : Bool). 0 + one_if r) e in
    omega (arith, x, y, z)

csw_asks : (t : TargetState) (k : Kept) (asked : AccessUnit) → leading_reads (by_csw t k asked).steps ≡ one_if (needs_csw k asked)
csw_asks t k asked = by_needs (needs_csw k asked)
  where
    l : Kept
    l = kept_after_csw k (port_of asked) (gives t (first_plan k (port_of asked)))

    by_needs : (b : Bool) → leading_reads (cond b (before (steps_of Leads (first_plan k (port_of asked))) (by_plan (kept_after_csw k (port_of asked) (gives t (first_plan k (port_of asked)))) asked)) (by_plan k asked)).steps ≡ one_if b
    by_needs true =
        let a = asks_both (steps_of Leads (first_plan k (port_of asked))) (by_plan l asked).steps in
        let b = read_asks k (port_of asked) 0 (ap_access_of true 0 0) refl in
        let c = plan_asks l asked in
        omega (arith, a, b, c)
    by_needs false = plan_asks k asked

read_is : (t : TargetState) (k : Kept) (asked : AccessUnit) (cfg : ℕ) → leading_reads (by_cfg_read t k asked cfg).steps ≡ cond (has_bit cfg 2) (one_if (needs_csw (learned_cfg k (port_of asked) cfg) asked)) 0
read_is t k asked cfg = by_large (has_bit cfg 2)
  where
    by_large : (b : Bool) → leading_reads (cond b (by_csw t (learned_cfg k (port_of asked) cfg) asked) (record { steps = []; kept = learned_cfg k (port_of asked) cfg })).steps
        ≡ cond b (one_if (needs_csw (learned_cfg k (port_of asked) cfg) asked)) 0
    by_large true = csw_asks t (learned_cfg k (port_of asked) cfg) asked
    by_large false = refl

cfg_asks : (t : TargetState) (k : Kept) (asked : AccessUnit) → leading_reads (by_cfg t k asked).steps
    ≡ cond (needs_cfg k asked) (1 + cond (has_bit (gives t (cfg_plan k (port_of asked))) 2) (one_if (needs_csw (learned_cfg k (port_of asked) (gives t (cfg_plan k (port_of asked)))) asked)) 0) (one_if (needs_csw k asked))
cfg_asks t k asked = by_needs (needs_cfg k asked)
  where
    cfg : ℕ
    cfg = gives t (cfg_plan k (port_of asked))

    w : TargetState
    w = after t (making (cfg_plan k (port_of asked)))

    by_needs : (b : Bool) → leading_reads (cond b (before (steps_of Leads (cfg_plan k (port_of asked))) (by_cfg_read w k asked cfg)) (by_csw t k asked)).steps
        ≡ cond b (1 + cond (has_bit cfg 2) (one_if (needs_csw (learned_cfg k (port_of asked) cfg) asked)) 0) (one_if (needs_csw k asked))
    by_needs true =
        let a = asks_both (steps_of Leads (cfg_plan k (port_of asked))) (by_cfg_read w k asked cfg).steps in
        let b = read_asks k (port_of asked) 15 (ap_access_of true 4 0) refl in
        let c = read_is w k asked cfg in
        omega (arith, a, b, c)
    by_needs false = csw_asks t k asked

abbrev cost_shape : AccessUnit → TargetState → Kept → ℕ
cost_shape asked u l =
    cond (needs_cfg l asked) (1 + cond (has_bit (gives u (cfg_plan l (port_of asked))) 2) (one_if (needs_csw (learned_cfg l (port_of asked) (gives u (cfg_plan l (port_of asked)))) asked)) 0) (one_if (needs_csw l asked))

pub planned_reads : PlannedReads
planned_reads t k asked = by_settle (needs_settle k asked)
  where
    by_settle : (b : Bool) → leading_reads (cond b (after_settling t k (λ u l. by_cfg u l asked)) (by_cfg t k asked)).steps ≡ cost_shape asked (after t (making (cond b (settle k) []))) (cond b (kept_after_settling k) k)
    by_settle true =
        let u : TargetState = after t (making (settle k)) in
        let a = asks_both (steps_of Settles (settle k)) (by_cfg u (kept_after_settling k) asked).steps in
        let b = settles_ask (settle k) in
        let c = cfg_asks u (kept_after_settling k) asked in
        omega (arith, a, b, c)
    by_settle false = cfg_asks t k asked

-- ---- units made alone

-- writes, and the access that the unit is for
abbrev IsQuiet : AccessUnit → Action → Type 0
IsQuiet asked (Makes a) = (a.read ≡ false) ⊎ (is_last asked a ≡ true)
IsQuiet asked (Polls mask value turns) = ⊥
IsQuiet asked (Commands c) = ⊥

abbrev AreQuiet : AccessUnit → List Action → Type 0
AreQuiet asked [] = Unit {0}
AreQuiet asked (x ∷ xs) = IsQuiet asked x × AreQuiet asked xs

step_asks : (early : Bool) (asked : AccessUnit) (x : Action) (xs : List Action) → leading_reads (parts_of early asked (x ∷ xs)) ≡ one_if (is_leading_read (part_of early asked x) x) + leading_reads (parts_of early asked xs)
step_asks early asked x xs = sum_by-cons (λ (s : Step). one_if (is_leading_read s.part s.action)) (record { part = part_of early asked x; action = x }) (parts_of early asked xs)

quiet_step : (early : Bool) (asked : AccessUnit) (x : Action) → IsQuiet asked x → is_leading_read (part_of early asked x) x ≡ false
quiet_step early asked (Makes a) (inl write) = by_last (is_last asked a)
  where
    by_last : (b : Bool) → is_leading_read (cond b Ends Leads) (Makes a) ≡ false
    by_last true = refl
    by_last false = write
quiet_step early asked (Makes a) (inr last) = ap (λ (b : Bool). is_leading_read (cond b Ends Leads) (Makes a)) last
quiet_step early asked (Polls mask value turns) h = absurd h
quiet_step early asked (Commands c) h = absurd h

quiet_asks : (early : Bool) (asked : AccessUnit) (v : TargetState) (xs : List Action) → AreQuiet asked xs → leading_reads (parts_of early asked (issued_actions v xs)) ≡ 0
quiet_asks early asked v [] h = refl
quiet_asks early asked v (x ∷ xs) h =
    step_asks early asked x (cond (is_fault (action_attempt v x).outcome) [] (issued_actions (action_attempt v x).next xs))
    ∙ ap (λ (b : Bool). one_if b + leading_reads (parts_of early asked (cond (is_fault (action_attempt v x).outcome) [] (issued_actions (action_attempt v x).next xs)))) (quiet_step early asked x h.0)
    ∙ by_fault (is_fault (action_attempt v x).outcome) (quiet_asks early asked (action_attempt v x).next xs h.1)
  where
    by_fault : (b : Bool) → leading_reads (parts_of early asked (issued_actions (action_attempt v x).next xs)) ≡ 0 → 0 + leading_reads (parts_of early asked (cond b [] (issued_actions (action_attempt v x).next xs))) ≡ 0
    by_fault true e = refl
    by_fault false e = omega (arith, e)

-- SELECT, and the read of CFG after it
pub select_passes : (v : TargetState) (n bank : ℕ) → n < 256 → bank < 16 → v.sticky ≡ false → is_fault (attempt v (select_of n bank)).outcome ≡ false
select_passes v n bank lt banked clear = ap (λ (y : Attempt). is_fault y.outcome) (select_write n bank lt banked v clear)

pub select_clears : (v : TargetState) (n bank : ℕ) → n < 256 → bank < 16 → v.sticky ≡ false → (attempt v (select_of n bank)).next.sticky ≡ false
select_clears v n bank lt banked clear = (select_left n lt v bank banked v None clear (λ q ne. refl) (λ h. h) refl).clear (select_passes v n bank lt banked clear)

module _ (v : TargetState) (clear : v.sticky ≡ false) (n : ℕ) (lt : n < 256) where
  abbrev pub at_cfg : TargetState
  at_cfg = (attempt v (select_of n 15)).next

  abbrev pub cfg_read : RegAccess
  cfg_read = ap_access_of true 4 0

  cfg_given : in_order v (cfg_actions n) ≡ attempt at_cfg cfg_read
  cfg_given = ap (λ (b : Bool). cond b (attempt v (select_of n 15)) (attempt at_cfg cfg_read)) (select_passes v n 15 lt (omega arith) clear)

  -- a CFG that shows large addresses was read without a fault
  pub cfg_good : has_large v n ≡ true → is_fault (attempt at_cfg cfg_read).outcome ≡ false
  cfg_good large = by_outcome (attempt at_cfg cfg_read).outcome (ap (λ (x : Attempt). has_bit (given_number x.outcome) 2) (sym cfg_given) ∙ large)
    where
      by_outcome : (o : Outcome) → has_bit (given_number o) 2 ≡ true → is_fault o ≡ false
      by_outcome (Value x) e = refl
      by_outcome Done e = refl
      by_outcome Fault e = absurd (cc)

  pub cfg_clears : has_large v n ≡ true → (attempt at_cfg cfg_read).next.sticky ≡ false
  cfg_clears large = (one_ap_changed at_cfg cfg_read refl).sticky (cfg_good large) ∙ select_clears v n 15 lt (omega arith) clear

-- SELECT, and a read that is asked for
module _ (early : Bool) (asked : AccessUnit) (v : TargetState) (n bank : ℕ) (lt : n < 256) (banked : bank < 16) (clear : v.sticky ≡ false) (a : RegAccess) (is_read : a.read ≡ true) (not_last : is_last asked a ≡ false)
    (select_leads : is_last asked (select_of n bank) ≡ false) (rest : List Action) where
  abbrev w : TargetState
  w = (attempt v (select_of n bank)).next

  reads_one : leading_reads (parts_of early asked (issued_actions v (Makes (select_of n bank) ∷ Makes a ∷ rest))) ≡ 1 + leading_reads (parts_of early asked (cond (is_fault (attempt w a).outcome) [] (issued_actions (attempt w a).next rest)))
  reads_one =
      let last : List Action = cond (is_fault (attempt w a).outcome) [] (issued_actions (attempt w a).next rest) in
      let first : one_if (is_leading_read (part_of early asked (Makes (select_of n bank))) (Makes (select_of n bank))) ≡ 0 = ap one_if (quiet_step early asked (Makes (select_of n bank)) (inl refl)) in
      let second : one_if (is_leading_read (part_of early asked (Makes a)) (Makes a)) ≡ 1 = (λ j. one_if (is_leading_read (cond (not_last j) Ends Leads) (Makes a))) ∙ ap one_if is_read in
      let x = step_asks early asked (Makes (select_of n bank)) (Makes a ∷ last) in
      let y = step_asks early asked (Makes a) last in
      ap (λ (b : Bool). leading_reads (parts_of early asked (Makes (select_of n bank) ∷ cond b [] (Makes a ∷ last)))) (select_passes v n bank lt banked clear)
      ∙ omega (arith, first, second, x, y)

module _ (early : Bool) (size : ℕ) (read : Bool) (n address value : ℕ) (lt : n < 256) where
  abbrev here : AccessUnit
  here = unit.Memory size read n address value

  tail_quiet : (l : Bool) (csw : ℕ) → AreQuiet here (transfer_actions l size read address value csw)
  tail_quiet true csw = (inl refl, (inl refl, (inl refl, (inr refl, tt))))
  tail_quiet false csw = (inl refl, (inl refl, (inr refl, tt)))

  csw_part : (v : TargetState) → v.sticky ≡ false → (l : Bool) (csw : ℕ) → leading_reads (parts_of early here (issued_actions v (csw_actions n ++ transfer_actions l size read address value csw))) ≡ 1
  csw_part v clear l csw =
      let w : TargetState = (attempt v (select_of n 0)).next in
      let a : RegAccess = ap_access_of true 0 0 in
      let rest : List Action = transfer_actions l size read address value csw in
      let one = reads_one early here v n 0 lt (omega arith) clear a refl refl refl rest in
      one ∙ by_fault (is_fault (attempt w a).outcome) (quiet_asks early here (attempt w a).next rest (tail_quiet l csw))
    where
      by_fault : (b : Bool) → leading_reads (parts_of early here (issued_actions (attempt (attempt v (select_of n 0)).next (ap_access_of true 0 0)).next (transfer_actions l size read address value csw))) ≡ 0 →
          1 + leading_reads (parts_of early here (cond b [] (issued_actions (attempt (attempt v (select_of n 0)).next (ap_access_of true 0 0)).next (transfer_actions l size read address value csw)))) ≡ 1
      by_fault true e = refl
      by_fault false e = omega (arith, e)

  module _ (v : TargetState) (clear : v.sticky ≡ false) where
    cfg_part : (b l : Bool) (csw : ℕ) → has_large v n ≡ b → leading_reads (parts_of early here (issued_actions v (shape size read n address value true b l csw))) ≡ 1 + one_if b
    cfg_part true l csw e =
        let s : TargetState = at_cfg v clear n lt in
        let cfg : RegAccess = cfg_read v clear n lt in
        let good = cfg_good v clear n lt e in
        let one = reads_one early here v n 15 lt (omega arith) clear cfg refl refl refl (csw_actions n ++ transfer_actions true size read address value csw) in
        let two = csw_part (attempt s cfg).next (cfg_clears v clear n lt e) true csw in
        one ∙ ap (λ (b : Bool). 1 + leading_reads (parts_of early here (cond b [] (issued_actions (attempt s cfg).next (csw_actions n ++ transfer_actions true size read address value csw))))) good ∙ ap (λ (m : ℕ). 1 + m) two
    cfg_part false l csw e =
        reads_one early here v n 15 lt (omega arith) clear (cfg_read v clear n lt) refl refl refl [] ∙ by_fault (is_fault (attempt (at_cfg v clear n lt) (cfg_read v clear n lt)).outcome)
      where
        by_fault : (b : Bool) → 1 + leading_reads (parts_of early here (cond b [] [])) ≡ 1
        by_fault true = refl
        by_fault false = refl

    shape_part : (w l : Bool) (csw : ℕ) → leading_reads (parts_of early here (issued_actions v (shape size read n address value w (has_large v n) l csw))) ≡ cond w (1 + one_if (has_large v n)) 1
    shape_part true l csw = cfg_part (has_large v n) l csw refl
    shape_part false l csw = csw_part v clear l csw

-- the write of ABORT is none
ended_ask : (early : Bool) (asked : AccessUnit) (b forgive small : Bool) (x : ℕ) (next : TargetState) (large : List ℕ) (actions : List Action) (m : ℕ) → leading_reads (parts_of early asked actions) ≡ m →
    leading_reads (parts_of early asked (ended_call b forgive small x next large actions).actions) ≡ m
unfolding skip
ended_ask early asked b forgive small x next large actions m e =
    parts_ended early asked b forgive small x next large actions (λ (l : List Step). leading_reads l ≡ m)
    (λ f. asks_both (parts_of early asked actions) (skip early ∷ []) ∙ omega (arith, e)) (asks_both (parts_of early asked actions) [] ∙ omega (arith, e))

pub alone_reads : AloneReads
unfolding call_done
alone_reads t k forgive size read n address value clear lt =
    let asked : AccessUnit = unit.Memory size read n address value in
    let l2 : List ℕ = large_of k asked in
    let early : Bool = is_early asked (call_done t l2 forgive (Access asked)).actions in
    let ran : Attempt = in_order t (unit_actions t l2 asked) in
    let wide : wants_cfg l2 n address ≡ needs_cfg k asked = ap (λ (c : Bool). nat_lt 0xFFFF_FFFF address && not c) (contains_one (known_at k n).large n) in
    let own : leading_reads (parts_of early asked (issued_actions t (unit_actions t l2 asked))) ≡ cond (wants_cfg l2 n address) (1 + one_if (has_large t n)) 1 =
    ap (λ (l : List Action). leading_reads (parts_of early asked (issued_actions t l))) (memory_shape size read n address value t l2)
    ∙ shape_part early size read n address value lt t clear (wants_cfg l2 n address) (contains l2 n) (csw_at size read n address value t (wants_cfg l2 n address)) in
    ended_ask early asked (is_fault ran.outcome) (forgive && true) (is_small t l2 (Access asked)) (result_of (Access asked) (given_number ran.outcome)) ran.next (large_after t l2 (Access asked)) (issued_actions t (unit_actions t l2 asked))
    (cond (wants_cfg l2 n address) (1 + one_if (has_large t n)) 1) own
    ∙ ap (λ (b : Bool). cond b (1 + one_if (has_large t n)) 1) wide

pub port_reads : PortReads
unfolding call_done
port_reads t k forgive read n addr value =
    let asked : AccessUnit = unit.Ap read n addr value in
    let l2 : List ℕ = large_of k asked in
    let early : Bool = is_early asked (call_done t l2 forgive (Access asked)).actions in
    let ran : Attempt = in_order t (unit_actions t l2 asked) in
    ended_ask early asked (is_fault ran.outcome) (forgive && true) false (result_of (Access asked) (given_number ran.outcome)) ran.next (large_after t l2 (Access asked)) (issued_actions t (unit_actions t l2 asked)) 0
    (quiet_asks early asked t (unit_actions t l2 asked) (inl refl, (inr refl, tt)))
