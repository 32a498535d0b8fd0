-- A unit made alone: none of its actions but the access that it is for changes the memory.
use Rattle.std.proofs.Common.{◌≡◌, ◌∙◌, ℕ, ◌/◌, ◌%◌, ◌<◌, ◌⊎◌, inl, inr, Bool, true, false, cond, ◌&&◌, List, [], ◌∷◌, ◌++◌, Option, Some, None, refl, sym, ap, subst, append-nil}
use Rattle.target_machine.specs.Attempt.{Attempt, attempt}
use Rattle.target_machine.specs.Plain.{Action, Makes, Polls, Commands, in_order, is_fault, given_number, issued_actions, contains, select_of, ap_access_of, needs_cfg, has_large, transfer_actions, unit_actions, call_done, ended_call, result_of, large_after, is_small, command_attempt, forgives, may_forgive}
use Rattle.target_machine.specs.State.{TargetState}
use Rattle.target_machine.specs.declared.access.RegAccess.{RegAccess}
use Rattle.target_machine.specs.declared.unit.Call.TheVariants.{Access}
use Rattle.target_machine.specs.declared.unit.Unit.{Unit as AccessUnit}
use Rattle.target_machine.specs.declared.unit.Unit.TheVariants as unit
use Rattle.target_calls.specs.declared.journal.Part.{Part}
use Rattle.target_calls.specs.declared.journal.Part.TheVariants.{Settles, Leads, Ends, Skips}
use Rattle.target_calls.specs.Asks.{IsUnitInRange}
use Rattle.access_regs.specs.Alone.{KeepsMemory}
use Rattle.access_regs.specs.Closed.{closes}
use Rattle.access_regs.specs.Kept.{Kept}
use Rattle.access_regs.specs.Plan.{settle, kept_after_settling, settling}
use Rattle.access_regs.specs.Journal.{Step, steps_of, making, parts_of, is_last, is_early, large_of, alone_at, after_settling}
use Rattle.access_regs.specs.Follows.{Follows}
use Rattle.access_regs.specs.declared.known.Unsettled.{Unsettled}
use Rattle.access_regs.proofs.OneEnd.{AllParts, IsNoEnd, OneEnd, leads_one, never}
use Rattle.access_regs.proofs.Still.{IsPlainBank, IsLead, lead_plain, plain_select, select_words}
use Rattle.access_regs.proofs.Forgiving as forgiving
use Rattle.access_regs.proofs.MemoryShape as memory
use Rattle.access_regs.proofs.Keeps.{settle_keep}
use Rattle.access_regs.proofs.FollowsFacts.{planned_clear}
use Rattle.target_machine.specs.Lists.{after}
use Rattle.dap_base.proofs.Basics.{first_true}

-- Leads, and then at most the access that the unit is for.
abbrev Leading : AccessUnit → List Action → Type 0
Leading asked [] = Unit {0}
Leading asked (Makes a ∷ xs) = (IsLead a × ((is_last asked a ≡ false) × Leading asked xs)) ⊎ ((is_last asked a ≡ true) × (xs ≡ []))
Leading asked (Polls mask value turns ∷ xs) = ⊥
Leading asked (Commands c ∷ xs) = ⊥

-- what comes after the actions: at most a skip
abbrev pub AreSkips : (Part → Type 0) → List Step → Type 0
AreSkips P ys = AllParts P ys × OneEnd P ys × ((v : TargetState) → KeepsMemory v ys)

abort_words : (t : TargetState) → (command_attempt t forgives).next.words ≡ t.words
abort_words t = ap (λ (x : Attempt). x.next.words) (forgiving.aborts t)

unfoldable pub skip : Bool → Step
skip early = record { part = Skips early; action = Commands forgives }

pub skips : (early : Bool) → AreSkips IsNoEnd (skip early ∷ [])
unfolding skip
skips early = (((λ e. absurd (cc)), tt), ((λ e. tt), tt), (λ v. ((λ ne. abort_words v), tt)))

no_skips : (P : Part → Type 0) → AreSkips P []
no_skips P = (tt, tt, (λ v. tt))

module _ (P : Part → Type 0) (early : Bool) (asked : AccessUnit) where
  abbrev steps : TargetState → List Action → List Step
  steps v xs = parts_of early asked (issued_actions v xs)

  -- from a bank without memory
  leading_keep : (v t : TargetState) (xs : List Action) (ys : List Step) → Leading asked xs → AreSkips P ys → IsPlainBank t → KeepsMemory t (steps v xs ++ ys)
  leading_keep v t [] ys h s plain = s.2 t
  leading_keep v t (Makes a ∷ xs) ys (inl h) s plain =
      let l = lead_plain t a h.0 plain in
      ((λ ne. l.0), by_fault (is_fault (attempt v a).outcome) (leading_keep (attempt v a).next (attempt t a).next xs ys h.1.1 s l.1))
    where
      by_fault : (b : Bool) → KeepsMemory (attempt t a).next (steps (attempt v a).next xs ++ ys) → KeepsMemory (attempt t a).next (parts_of early asked (cond b [] (issued_actions (attempt v a).next xs)) ++ ys)
      by_fault true rest = s.2 (attempt t a).next
      by_fault false rest = rest
  leading_keep v t (Makes a ∷ xs) ys (inr h) s plain =
      ((λ ne. absurd (ne (ap (λ (b : Bool). cond b Ends Leads) h.0))), by_fault (is_fault (attempt v a).outcome))
    where
      by_fault : (b : Bool) → KeepsMemory (attempt t a).next (parts_of early asked (cond b [] (issued_actions (attempt v a).next xs)) ++ ys)
      by_fault true = s.2 (attempt t a).next
      by_fault false = subst (λ (l : List Action). KeepsMemory (attempt t a).next (parts_of early asked (issued_actions (attempt v a).next l) ++ ys)) (sym h.1) (s.2 (attempt t a).next)
  leading_keep v t (Polls mask value turns ∷ xs) ys h s plain = absurd h
  leading_keep v t (Commands c ∷ xs) ys h s plain = absurd h

  leading_one : (v : TargetState) (xs : List Action) (ys : List Step) → Leading asked xs → AreSkips P ys → OneEnd P (steps v xs ++ ys)
  leading_one v [] ys h s = s.1
  leading_one v (Makes a ∷ xs) ys (inl h) s = ((λ e. never (closes (cond (is_last asked a) Ends Leads)) (ap (λ (b : Bool). closes (cond b Ends Leads)) h.1.0) e), by_fault (is_fault (attempt v a).outcome) (leading_one (attempt v a).next xs ys h.1.1 s))
    where
      by_fault : (b : Bool) → OneEnd P (steps (attempt v a).next xs ++ ys) → OneEnd P (parts_of early asked (cond b [] (issued_actions (attempt v a).next xs)) ++ ys)
      by_fault true rest = s.1
      by_fault false rest = rest
  leading_one v (Makes a ∷ xs) ys (inr h) s = ((λ e. rest (is_fault (attempt v a).outcome)), one (is_fault (attempt v a).outcome))
    where
      rest : (b : Bool) → AllParts P (parts_of early asked (cond b [] (issued_actions (attempt v a).next xs)) ++ ys)
      rest true = s.0
      rest false = subst (λ (l : List Action). AllParts P (parts_of early asked (issued_actions (attempt v a).next l) ++ ys)) (sym h.1) s.0

      one : (b : Bool) → OneEnd P (parts_of early asked (cond b [] (issued_actions (attempt v a).next xs)) ++ ys)
      one true = s.1
      one false = subst (λ (l : List Action). OneEnd P (parts_of early asked (issued_actions (attempt v a).next l) ++ ys)) (sym h.1) s.1
  leading_one v (Polls mask value turns ∷ xs) ys h s = absurd h
  leading_one v (Commands c ∷ xs) ys h s = absurd h

  -- from any bank, where SELECT comes first
  selecting_keep : (v t : TargetState) (n bank : ℕ) (xs : List Action) (ys : List Step) → n < 256 → (bank ≡ 0) ⊎ (bank ≡ 0xF) → t.sticky ≡ false → Leading asked xs → AreSkips P ys →
      KeepsMemory t (steps v (Makes (select_of n bank) ∷ xs) ++ ys)
  selecting_keep v t n bank xs ys lt banked clear h s = ((λ ne. select_words t n bank), by_fault (is_fault (attempt v (select_of n bank)).outcome))
    where
      w : TargetState
      w = (attempt t (select_of n bank)).next

      by_fault : (b : Bool) → KeepsMemory w (parts_of early asked (cond b [] (issued_actions (attempt v (select_of n bank)).next xs)) ++ ys)
      by_fault true = s.2 w
      by_fault false = leading_keep (attempt v (select_of n bank)).next w xs ys h s (plain_select t n bank lt banked clear)

-- ---- the actions of a memory unit

module _ (size : ℕ) (read : Bool) (n address value : ℕ) (lt : n < 256) where
  abbrev asked : AccessUnit
  asked = unit.Memory size read n address value

  tail_leading : (l : Bool) (csw : ℕ) → Leading asked (transfer_actions l size read address value csw)
  tail_leading true csw = inl ((inr (refl, inl refl)), (refl, inl ((inr (refl, inr (inr refl))), (refl, inl ((inr (refl, inr (inl refl))), (refl, inr (refl, refl)))))))
  tail_leading false csw = inl ((inr (refl, inl refl)), (refl, inl ((inr (refl, inr (inl refl))), (refl, inr (refl, refl)))))

  csw_leading : (l : Bool) (csw : ℕ) → Leading asked (Makes (ap_access_of true 0 0) ∷ transfer_actions l size read address value csw)
  csw_leading l csw = inl ((inr (refl, inl refl)), (refl, tail_leading l csw))

  -- all of them begin with SELECT
  record Begins (xs : List Action) : Type 0 where
    bank : ℕ
    banked : (bank ≡ 0) ⊎ (bank ≡ 0xF)
    rest : List Action
    is : xs ≡ Makes (select_of n bank) ∷ rest
    leading : Leading asked rest

  select_lead : (bank : ℕ) → (bank ≡ 0) ⊎ (bank ≡ 0xF) → IsLead (select_of n bank)
  select_lead bank banked = inl (n, bank, lt, banked, refl)

  shape_begins : (w b l : Bool) (csw : ℕ) → Begins (memory.shape size read n address value w b l csw)
  shape_begins true true l csw = record {
    bank = 0xF;
    banked = inr refl;
    rest = Makes (ap_access_of true 4 0) ∷ Makes (select_of n 0) ∷ Makes (ap_access_of true 0 0) ∷ transfer_actions true size read address value csw;
    is = refl;
    leading = inl ((inr (refl, inr (inl refl))), (refl, inl (select_lead 0 (inl refl), (refl, csw_leading true csw))));
  }
  shape_begins true false l csw = record { bank = 0xF; banked = inr refl; rest = Makes (ap_access_of true 4 0) ∷ []; is = refl; leading = inl ((inr (refl, inr (inl refl))), (refl, tt)) }
  shape_begins false b l csw = record { bank = 0; banked = inl refl; rest = Makes (ap_access_of true 0 0) ∷ transfer_actions l size read address value csw; is = refl; leading = csw_leading l csw }

  actions_begin : (t : TargetState) (large : List ℕ) → Begins (unit_actions t large asked)
  actions_begin t large =
      subst Begins (sym (memory.memory_shape size read n address value t large))
      (shape_begins (needs_cfg large n address) (has_large t n) (contains large n) (memory.csw_at size read n address value t (needs_cfg large n address)))

-- ---- a unit made alone, where nothing is unsettled

-- what is said of its steps: the memory stays but at the access that it is for, which comes once
pub record Keeps (P : Part → Type 0) (t : TargetState) (steps_ : List Step) : Type 0 where
  pub memory : KeepsMemory t steps_
  pub one : OneEnd P steps_

-- its actions with the skip, where there is one
pub parts_ended : (early : Bool) (asked : AccessUnit) (b forgive small : Bool) (x : ℕ) (next : TargetState) (large : List ℕ) (actions : List Action) → (P : List Step → Type 0) →
    (forgive ≡ true → P (parts_of early asked actions ++ skip early ∷ [])) → P (parts_of early asked actions ++ []) → P (parts_of early asked (ended_call b forgive small x next large actions).actions)
unfolding skip
parts_ended early asked true true small x next large actions P with_ without = subst P (sym (forgiving.parts_append early asked actions (Commands forgives ∷ []))) (with_ refl)
parts_ended early asked true false small x next large actions P with_ without = subst P (append-nil (parts_of early asked actions)) without
parts_ended early asked false forgive true x next large actions P with_ without = subst P (append-nil (parts_of early asked actions)) without
parts_ended early asked false forgive false x next large actions P with_ without = subst P (append-nil (parts_of early asked actions)) without

-- from where it is made, and from any bank without memory
pub record AloneKeeps (P : Part → Type 0) (v : TargetState) (k : Kept) (forgive : Bool) (asked : AccessUnit) : Type 0 where
  pub one : OneEnd P (alone_at forgive asked v k).steps
  pub clear : v.sticky ≡ false → KeepsMemory v (alone_at forgive asked v k).steps
  pub plain : (t : TargetState) → IsPlainBank t → KeepsMemory t (alone_at forgive asked v k).steps

module _ (P : Part → Type 0) (forgive : Bool) (may_skip : forgive ≡ true → (early : Bool) → AreSkips P (skip early ∷ [])) where
  memory_keeps : (v : TargetState) (k : Kept) (size : ℕ) (read : Bool) (n address value : ℕ) → n < 256 → AloneKeeps P v k forgive (unit.Memory size read n address value)
  unfolding call_done
  memory_keeps v k size read n address value lt = record {
    one = by_end (OneEnd P) (λ ys s. subst (λ (l : List Action). OneEnd P (parts_of early here (issued_actions v l) ++ ys)) (sym b.is) (leading_one P early here v (Makes (select_of n b.bank) ∷ b.rest) ys all s));
    clear = λ c. by_end (KeepsMemory v) (λ ys s. subst (λ (l : List Action). KeepsMemory v (parts_of early here (issued_actions v l) ++ ys)) (sym b.is) (selecting_keep P early here v v n b.bank b.rest ys lt b.banked c b.leading s));
    plain = λ t p. by_end (KeepsMemory t) (λ ys s. subst (λ (l : List Action). KeepsMemory t (parts_of early here (issued_actions v l) ++ ys)) (sym b.is) (leading_keep P early here v t (Makes (select_of n b.bank) ∷ b.rest) ys all s p));
  }
    where
      here : AccessUnit
      here = unit.Memory size read n address value

      large : List ℕ
      large = large_of k here

      b : Begins size read n address value lt (unit_actions v large here)
      b = actions_begin size read n address value lt v large

      early : Bool
      early = is_early here (call_done v large forgive (Access here)).actions

      all : Leading here (Makes (select_of n b.bank) ∷ b.rest)
      all = inl (select_lead size read n address value lt b.bank b.banked, (refl, b.leading))

      ran : Attempt
      ran = in_order v (unit_actions v large here)

      by_end : (Q : List Step → Type 0) → ((ys : List Step) → AreSkips P ys → Q (parts_of early here (issued_actions v (unit_actions v large here)) ++ ys)) → Q (alone_at forgive here v k).steps
      by_end Q each = parts_ended early here (is_fault ran.outcome) (forgive && true) (is_small v large (Access here)) (result_of (Access here) (given_number ran.outcome)) ran.next (large_after v large (Access here)) (issued_actions v (unit_actions v large here)) Q
          (λ e. each (skip early ∷ []) (may_skip (first_true forgive true e) early)) (each [] (no_skips P))

  port_keeps : (v : TargetState) (k : Kept) (read : Bool) (n addr value : ℕ) → AloneKeeps P v k forgive (unit.Ap read n addr value)
  unfolding call_done
  port_keeps v k read n addr value = record {
    one = by_end (OneEnd P) (λ ys s. one ys s (is_fault (attempt v (select_of n (addr / 16))).outcome));
    clear = λ c. by_end (KeepsMemory v) (λ ys s. keep v ys s (is_fault (attempt v (select_of n (addr / 16))).outcome));
    plain = λ t p. by_end (KeepsMemory t) (λ ys s. keep t ys s (is_fault (attempt v (select_of n (addr / 16))).outcome));
  }
    where
      here : AccessUnit
      here = unit.Ap read n addr value

      large : List ℕ
      large = large_of k here

      early : Bool
      early = is_early here (call_done v large forgive (Access here)).actions

      first : RegAccess
      first = select_of n (addr / 16)

      own : RegAccess
      own = ap_access_of read (addr % 16) value

      after_own : (t : TargetState) (ys : List Step) → AreSkips P ys → (b : Bool) → KeepsMemory t (parts_of early here (cond b [] []) ++ ys)
      after_own t ys s true = s.2 t
      after_own t ys s false = s.2 t

      keep : (t : TargetState) (ys : List Step) → AreSkips P ys → (b : Bool) → KeepsMemory t (parts_of early here (Makes first ∷ cond b [] (issued_actions (attempt v first).next (Makes own ∷ []))) ++ ys)
      keep t ys s true = ((λ ne. select_words t n (addr / 16)), s.2 (attempt t first).next)
      keep t ys s false = (
        (λ ne. select_words t n (addr / 16)),
        ((λ ne. absurd (ne refl)), after_own (attempt (attempt t first).next own).next ys s (is_fault (attempt (attempt v first).next own).outcome)),
      )

      one : (ys : List Step) → AreSkips P ys → (b : Bool) → OneEnd P (parts_of early here (Makes first ∷ cond b [] (issued_actions (attempt v first).next (Makes own ∷ []))) ++ ys)
      one ys s true = ((λ e. absurd (cc)), s.1)
      one ys s false = ((λ e. absurd (cc)), ((λ e. none (is_fault (attempt (attempt v first).next own).outcome)), rest (is_fault (attempt (attempt v first).next own).outcome)))
        where
          none : (c : Bool) → AllParts P (parts_of early here (cond c [] []) ++ ys)
          none true = s.0
          none false = s.0

          rest : (c : Bool) → OneEnd P (parts_of early here (cond c [] []) ++ ys)
          rest true = s.1
          rest false = s.1

      ran : Attempt
      ran = in_order v (unit_actions v large here)

      by_end : (Q : List Step → Type 0) → ((ys : List Step) → AreSkips P ys → Q (parts_of early here (issued_actions v (unit_actions v large here)) ++ ys)) → Q (alone_at forgive here v k).steps
      by_end Q each = parts_ended early here (is_fault ran.outcome) (forgive && true) (is_small v large (Access here)) (result_of (Access here) (given_number ran.outcome)) ran.next (large_after v large (Access here)) (issued_actions v (unit_actions v large here)) Q
          (λ e. each (skip early ∷ []) (may_skip (first_true forgive true e) early)) (each [] (no_skips P))

  alone_keeps : (v : TargetState) (k : Kept) (asked : AccessUnit) → IsUnitInRange asked → may_forgive (Access asked) ≡ true → AloneKeeps P v k forgive asked
  alone_keeps v k (unit.Memory size read n address value) range may = memory_keeps v k size read n address value range.0
  alone_keeps v k (unit.Ap read n addr value) range may = port_keeps v k read n addr value
  alone_keeps v k (unit.Dp read addr value) range may = absurd (cc)
  alone_keeps v k (unit.Poll mask value turns) range may = absurd (cc)

  -- after the settling that comes first
  pub settled_keeps : (k : Kept) (large : List ℕ) (t u : TargetState) → Follows k large t u → (asked : AccessUnit) → IsUnitInRange asked → may_forgive (Access asked) ≡ true → Keeps P u (after_settling u k (alone_at forgive asked)).steps
  settled_keeps k large t u f asked range may = by_unsettled k.unsettled refl
    where
      v : TargetState
      v = after u (making (settle k))

      rest : List Step
      rest = (alone_at forgive asked v (kept_after_settling k)).steps

      h : AloneKeeps P v (kept_after_settling k) forgive asked
      h = alone_keeps v (kept_after_settling k) asked range may

      by_unsettled : (o : Option Unsettled) → k.unsettled ≡ o → Keeps P u (steps_of Settles (settle k) ++ rest)
      by_unsettled None none =
          let no_settling : settle k ≡ [] = ap (settling k) none in
          let same : v ≡ u = ap (λ (l : List RegAccess). after u (making l)) no_settling in
          let here : KeepsMemory u rest = subst (λ (s : TargetState). KeepsMemory s rest) same (h.clear (ap (λ (s : TargetState). s.sticky) same ∙ planned_clear k large t u f)) in
          record {
            memory = subst (λ (l : List RegAccess). KeepsMemory u (steps_of Settles l ++ rest)) (sym no_settling) here;
            one = leads_one P Settles refl (settle k) rest h.one;
          }
      by_unsettled (Some s) some = record { memory = settle_keep k large t u f s some rest h.plain; one = leads_one P Settles refl (settle k) rest h.one }
