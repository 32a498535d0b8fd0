-- Actions in order on two targets that agree, and what a run of accesses of one AP leaves.
use Rattle.std.proofs.Common.{◌≡◌, ◌≢◌, ◌∙◌, ℕ, ◌/◌, ◌^◌, ◌<◌, ◌⊎◌, inl, inr, Bool, true, false, cond, eqb, not, ◌&&◌, List, [], ◌∷◌, ◌++◌, Option, Some, refl, sym, ap, subst, bit_and}
use Rattle.std.specs.FinMap as map
use Rattle.target_machine.specs.Attempt.{Attempt, attempt, done_attempt}
use Rattle.target_machine.specs.Plain.{Action, Makes, Polls, Commands, action_attempt, in_order, is_fault, issued_actions, select_of}
use Rattle.target_machine.specs.State.{TargetState}
use Rattle.target_machine.specs.declared.access.RegAccess.{RegAccess}
use Rattle.access_regs.specs.Plan.{select_value}
use Rattle.access_regs.specs.Journal.{select_written, select_after}
use Rattle.access_regs.proofs.Select.{select_write, select_kept, selects_port}
use Rattle.target_machine.proofs.ActionLists.{order_from, order_fault, order_next}
use Rattle.target_machine.proofs.AccessLaws.{attempt_keeps}
use Rattle.target_machine.proofs.OneAp.{one_ap_changed, csw_stays_stored}
use Rattle.target_machine.specs.Fresh.{HaveStoredCsw}
use Rattle.target_machine.specs.Lists.{SpareRdbuff}

pub spare_append : (xs ys : List Action) → SpareRdbuff xs → SpareRdbuff ys → SpareRdbuff (xs ++ ys)
spare_append [] ys h k = k
spare_append (x ∷ xs) ys h k = (h.0, spare_append xs ys h.1 k)

-- ---- accesses of one AP

-- SELECT with this AP, or an access of an AP
abbrev pub IsOf : ℕ → Action → Type 0
IsOf n (Makes a) = ((bank : ℕ) × (bank < 16) × (a ≡ select_of n bank)) ⊎ (a.ap ≡ true)
IsOf n _ = ⊥

abbrev pub AreOf : ℕ → List Action → Type 0
AreOf n [] = Unit {0}
AreOf n (x ∷ xs) = IsOf n x × AreOf n xs

pub of_append : (n : ℕ) (xs ys : List Action) → AreOf n xs → AreOf n ys → AreOf n (xs ++ ys)
of_append n [] ys h k = k
of_append n (x ∷ xs) ys h k = (h.0, of_append n xs ys h.1 k)

-- what they left of the target, where SELECT was last written with this
pub record Left (n : ℕ) (u : TargetState) (written : Option ℕ) (v : TargetState) : Type 0 where
  pub others : (q : ℕ) → q ≢ n → map.get v.aps q ≡ map.get u.aps q
  pub stored : HaveStoredCsw u → HaveStoredCsw v
  pub few : v.power_reads ≡ u.power_reads
  pub select : (w : ℕ) → written ≡ Some w → v.select ≡ bit_and w 0xFF00_00FF
  pub here : v.select / 2 ^ 24 ≡ n

pub record Step' (n : ℕ) (u : TargetState) (written : Option ℕ) (x : Attempt) : Type 0 where
  pub left : Left n u written x.next
  pub clear : is_fault x.outcome ≡ false → x.next.sticky ≡ false

module _ (n : ℕ) (lt : n < 256) (u : TargetState) where
  -- SELECT, whatever it was before
  pub select_left : (bank : ℕ) → bank < 16 → (v : TargetState) (written : Option ℕ) → v.sticky ≡ false →
      ((q : ℕ) → q ≢ n → map.get v.aps q ≡ map.get u.aps q) → (HaveStoredCsw u → HaveStoredCsw v) → v.power_reads ≡ u.power_reads →
      Step' n u (Some (select_value n bank)) (attempt v (select_of n bank))
  select_left bank banked v written clear others stored few =
      subst (Step' n u (Some (select_value n bank))) (sym (select_write n bank lt banked v clear))
      (record {
        left = record {
          others = others;
          stored = stored;
          few = few;
          select = λ w e. (let same : select_value n bank ≡ w = cc in sym (select_kept n bank lt banked) ∙ ap (λ (y : ℕ). bit_and y 0xFF00_00FF) same);
          here = selects_port n bank lt banked;
        };
        clear = λ e. clear;
      })

  one : (x : Action) → IsOf n x → (v : TargetState) (written : Option ℕ) → v.sticky ≡ false → Left n u written v → Step' n u (select_written written x) (action_attempt v x)
  one (Makes a) (inl s) v written clear left =
      subst (λ (b : RegAccess). Step' n u (select_written written (Makes b)) (attempt v b)) (sym s.2) (select_left s.0 s.1 v written clear left.others left.stored left.few)
  one (Makes a) (inr is) v written clear left =
      let f = one_ap_changed v a is in
      let k = attempt_keeps v a in
      subst (λ (w : Option ℕ). Step' n u w (attempt v a)) (sym (ap (λ (b : Bool). cond (not b && (not a.read && eqb a.addr 8)) (Some a.value) written) is))
      (record {
        left = record {
          others = λ q ne. f.others q (λ e. ne (e ∙ left.here)) ∙ left.others q ne;
          stored = λ h. csw_stays_stored v a (left.stored h);
          few = k.power_reads ∙ left.few;
          select = λ w e. ap (λ (y : TargetState). y.select) f.rest ∙ left.select w e;
          here = ap (λ (y : TargetState). y.select / 2 ^ 24) f.rest ∙ left.here;
        };
        clear = λ e. f.sticky e ∙ clear;
      })
  one (Polls m w c) is v written clear left = absurd is
  one (Commands c) is v written clear left = absurd is

  all_by : (m : Attempt) (x : Action) (xs : List Action) (written : Option ℕ) → is_fault m.outcome ≡ false → Step' n u (select_written written x) (action_attempt m.next x) →
      (is_fault (action_attempt m.next x).outcome ≡ false → Step' n u (select_after (select_written written x) (issued_actions (action_attempt m.next x).next xs)) (order_from (action_attempt m.next x) xs)) →
      (b : Bool) → is_fault (action_attempt m.next x).outcome ≡ b → Step' n u (select_after written (issued_actions m.next (x ∷ xs))) (order_from m (x ∷ xs))
  all_by m x xs written good first more true e =
      subst (λ (y : Attempt). Step' n u (select_after written (issued_actions m.next (x ∷ xs))) y) (sym (order_next m x xs good ∙ order_fault (action_attempt m.next x) xs e))
      (subst (λ (b : Bool). Step' n u (select_after written (x ∷ cond b [] (issued_actions (action_attempt m.next x).next xs))) (action_attempt m.next x)) (sym e) first)
  all_by m x xs written good first more false e =
      subst (λ (y : Attempt). Step' n u (select_after written (issued_actions m.next (x ∷ xs))) y) (sym (order_next m x xs good))
      (subst (λ (b : Bool). Step' n u (select_after written (x ∷ cond b [] (issued_actions (action_attempt m.next x).next xs))) (order_from (action_attempt m.next x) xs)) (sym e) (more e))

  -- accesses of the AP, once it is selected
  all_left : (xs : List Action) (m : Attempt) (written : Option ℕ) → AreOf n xs → is_fault m.outcome ≡ false → Step' n u written m → Step' n u (select_after written (issued_actions m.next xs)) (order_from m xs)
  all_left [] m written of good left = left
  all_left (x ∷ xs) m written of good left =
      let l = left.left in
      let first = one x of.0 m.next written (left.clear good) l in
      all_by m x xs written good first (λ e. all_left xs (action_attempt m.next x) (select_written written x) of.1 e first) (is_fault (action_attempt m.next x).outcome) refl

  -- a run that begins with SELECT
  pub run_left : (bank : ℕ) → bank < 16 → (xs : List Action) (written : Option ℕ) → AreOf n xs → u.sticky ≡ false →
      Step' n u (select_after written (issued_actions u (Makes (select_of n bank) ∷ xs))) (in_order u (Makes (select_of n bank) ∷ xs))
  run_left bank banked xs written of clear =
      let w = select_write n bank lt banked u clear in
      let good : is_fault (attempt u (select_of n bank)).outcome ≡ false = ap (λ (y : Attempt). is_fault y.outcome) w in
      let first = select_left bank banked u written clear (λ q ne. refl) (λ h. h) refl in
      all_by (done_attempt u) (Makes (select_of n bank)) xs written refl first
      (λ e. all_left xs (attempt u (select_of n bank)) (Some (select_value n bank)) of e first) (is_fault (attempt u (select_of n bank)).outcome) refl
