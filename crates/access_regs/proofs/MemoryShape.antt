-- The actions of a memory unit that is made alone, by what decides them.
use Rattle.std.proofs.Common.{◌≡◌, ℕ, ◌/◌, ◌%◌, ◌^◌, ◌<◌, inl, inr, Bool, true, false, cond, not, ◌&&◌, List, [], ◌∷◌, ◌++◌, Option, refl, ap, arith}
use Rattle.target_machine.specs.Plain.{Action, Makes, in_order, given_number, issued_actions, contains, select_of, ap_access_of, csw_for, drw_of, needs_cfg, has_large, cfg_actions, csw_actions, memory_actions, transfer_actions, after_cfg, unit_actions}
use Rattle.target_machine.specs.State.{TargetState, Agree}
use Rattle.target_machine.specs.declared.access.Outcome.{Outcome}
use Rattle.target_machine.specs.declared.unit.Unit.TheVariants as unit
use Rattle.access_regs.specs.Journal.{select_after}
use Rattle.target_machine.proofs.ActionAgreement.{in_order_alike}
use Rattle.target_machine.specs.Lists.{SpareRdbuff}
use Rattle.dap_base.specs.Bits.{has_bit}
use Rattle.access_regs.proofs.Runs.{spare_append, AreOf, Step', run_left}

module _ (size : ℕ) (read : Bool) (n address value : ℕ) where
  abbrev pub tail : Bool → ℕ → List Action
  tail l csw = transfer_actions l size read address value csw

  abbrev pub shape : Bool → Bool → Bool → ℕ → List Action
  shape w b l csw = cond w (cfg_actions n ++ cond b (csw_actions n ++ tail true csw) []) (csw_actions n ++ tail l csw)

  abbrev pub csw_at : TargetState → Bool → ℕ
  csw_at t w = given_number (in_order (cond w (in_order t (cfg_actions n)).next t) (csw_actions n)).outcome

  pub memory_shape : (t : TargetState) (large : List ℕ) → unit_actions t large (unit.Memory size read n address value) ≡ shape (needs_cfg large n address) (has_large t n) (contains large n) (csw_at t (needs_cfg large n address))
  memory_shape t large = by_wide (needs_cfg large n address)
    where
      by_wide : (w : Bool) → cond w (cfg_actions n ++ after_cfg t size read n address value) (memory_actions t (contains large n) size read n address value) ≡ shape w (has_large t n) (contains large n) (csw_at t w)
      by_wide true = refl
      by_wide false = refl

  quiet_tail : (l : Bool) (csw : ℕ) → SpareRdbuff (tail l csw)
  quiet_tail true csw = (refl, (refl, (refl, (refl, tt))))
  quiet_tail false csw = (refl, (refl, (refl, tt)))

  quiet_csw : SpareRdbuff (csw_actions n)
  quiet_csw = (refl, (refl, tt))

  pub quiet_shape : (w b l : Bool) (csw : ℕ) → SpareRdbuff (shape w b l csw)
  quiet_shape true true l csw = (refl, (refl, spare_append (csw_actions n) (tail true csw) quiet_csw (quiet_tail true csw)))
  quiet_shape true false l csw = (refl, (refl, tt))
  quiet_shape false b l csw = spare_append (csw_actions n) (tail l csw) quiet_csw (quiet_tail l csw)

  of_tail : (l : Bool) (csw : ℕ) → AreOf n (tail l csw)
  of_tail true csw = (inr refl, (inr refl, (inr refl, (inr refl, tt))))
  of_tail false csw = (inr refl, (inr refl, (inr refl, tt)))

  -- it begins with SELECT
  pub left_shape : (lt : n < 256) (u : TargetState) → u.sticky ≡ false → (written : Option ℕ) (w b l : Bool) (csw : ℕ) → Step' n u (select_after written (issued_actions u (shape w b l csw))) (in_order u (shape w b l csw))
  left_shape lt u clear written true true l csw =
      run_left n lt u 0xF (omega arith) (Makes (ap_access_of true 4 0) ∷ Makes (select_of n 0) ∷ Makes (ap_access_of true 0 0) ∷ tail true csw) written
      (inr refl, (inl (0, omega arith, refl), (inr refl, of_tail true csw))) clear
  left_shape lt u clear written true false l csw = run_left n lt u 0xF (omega arith) (Makes (ap_access_of true 4 0) ∷ []) written (inr refl, tt) clear
  left_shape lt u clear written false b l csw =
      run_left n lt u 0 (omega arith) (Makes (ap_access_of true 0 0) ∷ tail l csw) written (inr refl, of_tail l csw) clear

  -- the last one is DRW
  front : Bool → ℕ → List Action
  front true csw = Makes (ap_access_of false 0 (csw_for csw size)) ∷ Makes (ap_access_of false 8 (address / 2 ^ 32)) ∷ Makes (ap_access_of false 4 (address % 2 ^ 32)) ∷ []
  front false csw = Makes (ap_access_of false 0 (csw_for csw size)) ∷ Makes (ap_access_of false 4 (address % 2 ^ 32)) ∷ []

  tail_is : (l : Bool) (csw : ℕ) → tail l csw ≡ front l csw ++ Makes (drw_of read address value) ∷ []
  unfolding front
  tail_is true csw = refl
  tail_is false csw = refl

  pub shape_front : Bool → Bool → ℕ → List Action
  shape_front true l csw = cfg_actions n ++ (csw_actions n ++ front true csw)
  shape_front false l csw = csw_actions n ++ front l csw

  pub shape_last : (w b l : Bool) (csw : ℕ) → (w && not b) ≡ false → shape w b l csw ≡ shape_front w l csw ++ Makes (drw_of read address value) ∷ []
  unfolding shape_front
  shape_last true true l csw e = ap (λ (x : List Action). cfg_actions n ++ (csw_actions n ++ x)) (tail_is true csw)
  shape_last true false l csw e = absurd (cc)
  shape_last false b l csw e = ap (λ (x : List Action). csw_actions n ++ x) (tail_is l csw)

  pub shape_same : (t u : TargetState) → Agree t u → (w : Bool) → (has_large t n ≡ has_large u n) × (csw_at t w ≡ csw_at u w)
  shape_same t u agree w =
      let c = in_order_alike (cfg_actions n) t u agree (refl, (refl, tt)) in
      (ap (λ (o : Outcome). has_bit (given_number o) 2) c.outcome, by_wide w c.next)
    where
      by_wide : (w : Bool) → Agree (in_order t (cfg_actions n)).next (in_order u (cfg_actions n)).next → csw_at t w ≡ csw_at u w
      by_wide true next = (let d = in_order_alike (csw_actions n) (in_order t (cfg_actions n)).next (in_order u (cfg_actions n)).next next (refl, (refl, tt)) in ap given_number d.outcome)
      by_wide false next = (let d = in_order_alike (csw_actions n) t u agree (refl, (refl, tt)) in ap given_number d.outcome)
