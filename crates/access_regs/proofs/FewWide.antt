-- Neighbouring units at addresses over 0xFFFFFFFF on an AP of which it is not known whether it has large addresses.
use Rattle.std.proofs.Common.{◌≡◌, ◌∙◌, ℕ, ◌+◌, ◌*◌, ◌%◌, ◌^◌, ◌<◌, ◌≤◌, ◌⊎◌, inl, inr, Bool, true, false, cond, not, ◌&&◌, ◌||◌, nat_lt, List, [], ◌∷◌, Option, Some, None, refl, sym, ap, subst, arith, length, suc}
use Rattle.std.proofs.lemmas.List.{length-append}
use Rattle.std.proofs.Math.Nat.{mul-suc}
use Rattle.std.proofs.lemmas.Bool.{eq-eqb, lt-ltb, le-ltb, cases_lt}
use Rattle.dap_base.specs.Bits.{has_bit}
use Rattle.target_machine.specs.Plain.{select_of, ap_access_of}
use Rattle.target_machine.specs.Registers.{cfg_la}
use Rattle.target_machine.specs.State.{TargetState}
use Rattle.target_machine.specs.declared.unit.Unit.{Unit as AccessUnit}
use Rattle.target_machine.specs.declared.unit.Unit.TheVariants as unit
use Rattle.target_machine.specs.Lists.{after}
use Rattle.target_calls.specs.declared.journal.Part.TheVariants.{Settles, Leads}
use Rattle.target_calls.specs.declared.calls.Ask.{Ask}
use Rattle.access_regs.specs.Kept.{Kept, known_at, is_known}
use Rattle.access_regs.specs.Plan.{select_value, unless, select_needed, cfg_plan, learned_cfg, kept_after_plan, settle, kept_after_settling, settled_at, needs_settle}
use Rattle.access_regs.specs.Plan as plans
use Rattle.access_regs.specs.Journal.{Issue, steps_of, before, gives, by_csw, by_cfg, by_cfg_read, after_settling, issue_of_plan, issued_from, making, steps_at, actions_of}
use Rattle.access_regs.specs.Neighbours.{own_entries, AreNeighbours, NeighboursAreFew, more_than_one_each}
use Rattle.access_regs.specs.declared.known.Known.{Known}
use Rattle.access_regs.specs.declared.known.Unsettled.{Unsettled}
use Rattle.access_regs.proofs.Few.{own_steps, own_steps_append, own_leads, own_settling, few_unless, settled_large, csw_own, csw_made, made_ready, made_large, ready_few, own_first, here_asked, some_size, narrow_few, Ready}
use Rattle.access_regs.proofs.PortFacts.{known_same, table_kept}
use Rattle.access_regs.specs.declared.planner.Planner.TheVariants.{Managed}

-- whether SELECT has to be written before a read of CFG: 1 or 0
abbrev selects : ℕ → Kept → ℕ
selects m k = length (select_needed k m 15)

-- What the next unit does: it goes on to DRW, as the AP has large addresses, or reads CFG alone, as it has none.
data ReadsCfg (size m address : ℕ) (read : Bool) (value n : ℕ) (k : Kept) (i : Issue) : Type 0 where
  goes : (from : Kept) → i.kept ≡ kept_after_plan from (unit.Memory size read m address value) → length from.ports ≡ length k.ports → (known_at from m).large ≡ true →
      own_steps n false i.steps ≤ selects m k + 7 → ReadsCfg size m address read value n k i
  ends : selects m i.kept ≡ 0 → length i.kept.ports ≡ length k.ports → (known_at i.kept m).large ≡ false → own_steps n false i.steps ≤ selects m k + 1 → ReadsCfg size m address read value n k i

module _ (size m address : ℕ) (read : Bool) (value n : ℕ) (over : 2 ^ 32 ≤ address) where
  abbrev wide_unit : AccessUnit
  wide_unit = unit.Memory size read m address value

  needs_it : (k : Kept) → (known_at k m).large ≡ false → plans.needs_cfg k wide_unit ≡ true
  needs_it k small = ap (λ (b : Bool). nat_lt 0xFFFF_FFFF address && not b) small ∙ ap (λ (b : Bool). b && true) (lt-ltb 0xFFFF_FFFF address (omega arith))

  plan_own : (k : Kept) → own_steps n false (steps_of Leads (cfg_plan k m)) ≡ selects m k + 1
  plan_own k = own_leads n false (cfg_plan k m) ∙ length-append (select_needed k m 15) (ap_access_of true 4 0 ∷ [])

  module _ (k : Kept) (lt : m < length k.ports) (small : (known_at k m).large ≡ false) (u : TargetState) (cfg : ℕ) where
    abbrev k1 : Kept
    k1 = learned_cfg k m cfg

    large_is : (known_at k1 m).large ≡ has_bit cfg cfg_la
    large_is = ap (λ (a : Known). a.large) (known_same k m (record (known_at k m) { large = (known_at k m).large || has_bit cfg cfg_la }) lt) ∙ ap (λ (b : Bool). b || has_bit cfg cfg_la) small

    table_is : length k1.ports ≡ length k.ports
    table_is = table_kept k m (record (known_at k m) { large = (known_at k m).large || has_bit cfg cfg_la })

    below : m < length k1.ports
    below = subst (λ (x : ℕ). m < x) (sym table_is) lt

    after_read : (b : Bool) → has_bit cfg cfg_la ≡ b → ReadsCfg size m address read value n k (before (steps_of Leads (cfg_plan k m)) (cond b (by_csw u k1 wide_unit) (record { steps = []; kept = k1 })))
    after_read true e =
        let made_ = csw_made size m address read value u k1 below in
        let few = csw_own size m address read value n u k1 below in
        let a = own_steps_append n false (steps_of Leads (cfg_plan k m)) (by_csw u k1 wide_unit).steps in
        let b = plan_own k in
        let c : ◌≡◌ {A = ℕ} (cond (known_at k1 m).large 1 0) 1 = ap (λ (b : Bool). cond {A = ℕ} b 1 0) (large_is ∙ e) in
        goes made_.from made_.is (made_.table ∙ table_is) (made_.large ∙ large_is ∙ e) (omega (arith, few, a, b, c))
    after_read false e =
        let a = own_steps_append n false (steps_of Leads (cfg_plan k m)) [] in
        let b = plan_own k in
        ends (ap (λ (b : Bool). length (unless b (select_of m 15))) (eq-eqb (select_value m 15) (select_value m 15) refl)) table_is (large_is ∙ e) (omega (arith, a, b))

  reads_cfg : (t : TargetState) (k : Kept) → m < length k.ports → (known_at k m).large ≡ false → ReadsCfg size m address read value n k (by_cfg t k wide_unit)
  reads_cfg t k lt small =
      let u : TargetState = after t (making (cfg_plan k m)) in
      let cfg : ℕ = gives t (cfg_plan k m) in
      subst (λ (b : Bool). ReadsCfg size m address read value n k (cond b (before (steps_of Leads (cfg_plan k m)) (by_cfg_read u k wide_unit cfg)) (by_csw t k wide_unit))) (sym (needs_it k small))
      (after_read k lt small u cfg (has_bit cfg cfg_la) refl)

  settled_select : (k : Kept) → (kept_after_settling k).select ≡ k.select
  settled_select k = by_unsettled k.unsettled
    where
      by_unsettled : (o : Option Unsettled) → (settled_at k o).select ≡ k.select
      by_unsettled None = refl
      by_unsettled (Some s) = refl

  settles_first : (k : Kept) (i : Issue) → ReadsCfg size m address read value n (kept_after_settling k) i → ReadsCfg size m address read value n k (before (steps_of Settles (settle k)) i)
  settles_first k i (goes from is table large few) =
      let a = own_steps_append n false (steps_of Settles (settle k)) i.steps in
      let b = own_settling n false (settle k) in
      let c : selects m (kept_after_settling k) ≡ selects m k = ap (λ (o : Option ℕ). length (unless (is_known o (select_value m 15)) (select_of m 15))) (settled_select k) in
      goes from is (table ∙ (let e = settled_large k m in e.1)) large (omega (arith, a, b, c, few))
  settles_first k i (ends known_select table small few) =
      let a = own_steps_append n false (steps_of Settles (settle k)) i.steps in
      let b = own_settling n false (settle k) in
      let c : selects m (kept_after_settling k) ≡ selects m k = ap (λ (o : Option ℕ). length (unless (is_known o (select_value m 15)) (select_of m 15))) (settled_select k) in
      ends known_select (table ∙ (let e = settled_large k m in e.1)) small (omega (arith, a, b, c, few))

  wide_planned : (t : TargetState) (k : Kept) → m < length k.ports → (known_at k m).large ≡ false → ReadsCfg size m address read value n k (issue_of_plan t k wide_unit)
  wide_planned t k lt small = by_settle (needs_settle k wide_unit)
    where
      v : TargetState
      v = after t (making (settle k))

      by_settle : (b : Bool) → ReadsCfg size m address read value n k (cond b (after_settling t k (λ u l. by_cfg u l wide_unit)) (by_cfg t k wide_unit))
      by_settle true =
          let e = settled_large k m in
          settles_first k (by_cfg v (kept_after_settling k) wide_unit) (reads_cfg v (kept_after_settling k) (subst (λ (x : ℕ). m < x) (sym e.1) lt) (e.0 ∙ small))
      by_settle false = reads_cfg t k lt small

-- units from one on whose CFG is read
wide_few : (c : Ask) (cs : List Ask) (n : ℕ) (k : Kept) (t : TargetState) (size m address : ℕ) → 0 < size → m < length k.ports → address % 1024 + size * suc (length cs) ≤ 1024 →
    AreNeighbours size m address (c ∷ cs) → 2 ^ 32 ≤ address → (known_at k m).large ≡ false → own_entries (issued_from Managed n k t (c ∷ cs)) ≤ selects m k + suc (length cs) + 6
wide_few c [] n k t size m address some lt fits near over small =
    let u = near.0 in
    let a = own_first size m address u.read u.value n k t [] in
    subst (λ (x : Ask). own_entries (issued_from Managed n k t (x ∷ [])) ≤ selects m k + 1 + 6) (sym u.is) (by_course (issue_of_plan t k (unit.Memory size u.read m address u.value)) (wide_planned size m address u.read u.value n over t k lt small) a)
  where
    by_course : {read : Bool} {value total : ℕ} (i : Issue) → ReadsCfg size m address read value n k i → total ≡ own_steps n false i.steps + 0 → total ≤ selects m k + 1 + 6
    by_course i (goes from is table large few) e = omega (arith, few, e)
    by_course i (ends known_select table none few) e = omega (arith, few, e)
wide_few c (d ∷ ds) n k t size m address some lt fits near over small =
    let u = near.0 in
    let a = own_first size m address u.read u.value n k t (d ∷ ds) in
    subst (λ (x : Ask). own_entries (issued_from Managed n k t (x ∷ d ∷ ds)) ≤ selects m k + suc (suc (length ds)) + 6) (sym u.is)
    (by_course u.read u.value near.1 (issue_of_plan t k (unit.Memory size u.read m address u.value)) (wide_planned size m address u.read u.value n over t k lt small)
    (after t (actions_of (steps_at Managed t k (here_asked size m address u.read u.value)))) a (λ l v e f g h. wide_few d ds (n + 1) l v size m (address + size) some e f near.1 g h))
  where
    inside : address % 1024 + size < 1024
    inside = (let x = mul-suc size (suc (length ds)) in let y = mul-suc size (length ds) in omega (arith, fits, some, x, y))

    more : (address + size) % 1024 + size * suc (length ds) ≤ 1024
    more = (let x = mul-suc size (suc (length ds)) in omega (arith, fits, some, x))

    by_course : (read : Bool) (value : ℕ) → AreNeighbours size m (address + size) (d ∷ ds) → (i : Issue) → ReadsCfg size m address read value n k i → (v : TargetState) → {total : ℕ} →
        total ≡ own_steps n false i.steps + own_entries (issued_from Managed (n + 1) i.kept v (d ∷ ds)) →
        ((l : Kept) (w : TargetState) → m < length l.ports → (address + size) % 1024 + size * suc (length ds) ≤ 1024 → 2 ^ 32 ≤ address + size → (known_at l m).large ≡ false → own_entries (issued_from Managed (n + 1) l w (d ∷ ds)) ≤ selects m l + suc (length ds) + 6) →
        total ≤ selects m k + suc (suc (length ds)) + 6
    by_course read value rest i (goes from is table large few) v e again =
        let here : m < length from.ports = subst (λ (x : ℕ). m < x) (sym table) lt in
        let still : (known_at (kept_after_plan from (unit.Memory size read m address value)) m).large ≡ true = made_large size m address read value from here ∙ large in
        let next : Ready size m (address + size) (kept_after_plan from (unit.Memory size read m address value)) = made_ready size m address read value from here some inside (inl large) in
        let g = ready_few d ds (n + 1) i.kept v size m (address + size) some more rest
        (inl (ap (λ (x : Kept). (known_at x m).large) is ∙ still)) (subst (Ready size m (address + size)) (sym is) next) in
        omega (arith, few, e, g)
    by_course read value rest i (ends known_select table none few) v e again =
        let g = again i.kept v (subst (λ (x : ℕ). m < x) (sym table) lt) more (omega (arith, over)) none in
        omega (arith, few, e, g, known_select)

pub neighbours_few : NeighboursAreFew
neighbours_few n k t size m address calls table lt is aligned fits near = by_large (known_at k m).large refl
  where
    few_selects : selects m k ≤ 1
    few_selects = few_unless (is_known k.select (select_value m 15)) (select_of m 15)

    narrow : (l : Bool) → (known_at k m).large ≡ l → (l ≡ true) ⊎ (address < 2 ^ 32) → own_entries (issued_from Managed n k t calls) ≤ length calls + cond l 5 4
    narrow l e where_ =
        subst (λ (b : Bool). own_entries (issued_from Managed n k t calls) ≤ length calls + cond b 5 4) e
        (narrow_few n k t size m address calls table lt is aligned fits near (subst (λ (b : Bool). (b ≡ true) ⊎ (address < 2 ^ 32)) (sym e) where_))

    wide : (xs : List Ask) → address % 1024 + size * length xs ≤ 1024 → AreNeighbours size m address xs → 2 ^ 32 ≤ address → (known_at k m).large ≡ false → own_entries (issued_from Managed n k t xs) ≤ length xs + 7
    wide [] inside all over small = omega arith
    wide (c ∷ cs) inside all over small =
        let g = wide_few c cs n k t size m address (some_size size is) (subst (λ (x : ℕ). m < x) (sym table) lt) inside all over small in
        omega (arith, g, few_selects)

    by_place : (known_at k m).large ≡ false → (address < 2 ^ 32) ⊎ (2 ^ 32 ≤ address) → own_entries (issued_from Managed n k t calls) ≤ length calls + cond (nat_lt address (2 ^ 32)) 4 7
    by_place small (inl less) =
        subst (λ (b : Bool). own_entries (issued_from Managed n k t calls) ≤ length calls + cond b 4 7) (sym (lt-ltb address (2 ^ 32) less)) (narrow false small (inr less))
    by_place small (inr over) =
        subst (λ (b : Bool). own_entries (issued_from Managed n k t calls) ≤ length calls + cond b 4 7) (sym (le-ltb address (2 ^ 32) over)) (wide calls fits near over small)

    by_large : (l : Bool) → (known_at k m).large ≡ l → own_entries (issued_from Managed n k t calls) ≤ length calls + more_than_one_each l address
    by_large true e = narrow true e (inl refl)
    by_large false e = by_place e (cases_lt address (2 ^ 32))
