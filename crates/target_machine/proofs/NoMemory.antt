-- An access of a register that holds no memory leaves the memory.
use Rattle.std.proofs.Common.{◌≡◌, ℕ, ◌/◌, ◌&&◌, ◌||◌, not, Bool, true, false, cond, eqb, Option, Some, None, refl, sym, subst}
use Rattle.std.specs.FinMap as map
use Rattle.target_machine.proofs.OneAp.{no_ap_changed}
use Rattle.target_machine.specs.Attempt.{Attempt, attempt, done_attempt, posted_attempt, bus_error, is_free, acknowledges, selected_ap, register, ap_read, ap_write, at_ap, ap_access, dp_access}
use Rattle.target_machine.specs.Laws.{holds_memory}
use Rattle.target_machine.specs.Registers.{cdbgpwrupreq}
use Rattle.target_machine.specs.State.{TargetState}
use Rattle.target_machine.specs.declared.access.Outcome.TheVariants.{Fault}
use Rattle.target_machine.specs.declared.access.RegAccess.{RegAccess}
use Rattle.target_machine.specs.declared.ap.ApState.{ApState}

module _ (t : TargetState) where
  either : (b : Bool) (x y : Attempt) → x.next.words ≡ t.words → y.next.words ≡ t.words → (cond b x y).next.words ≡ t.words
  either true x y h k = h
  either false x y h k = k

  neither : (b c : Bool) (x y z : Attempt) → (b || c) ≡ false → z.next.words ≡ t.words → (cond b x (cond c y z)).next.words ≡ t.words
  neither true c x y z e h = absurd (cc)
  neither false true x y z e h = absurd (cc)
  neither false false x y z e h = h

  at_leaves : (a : RegAccess) (o : Option ApState) → holds_memory (register t a.addr) ≡ false → (at_ap t a o).next.words ≡ t.words
  at_leaves a None none = either a.read (posted_attempt 0 t) (done_attempt t) refl refl
  at_leaves a (Some port) none =
      let reg : ℕ = register t a.addr in
      either a.read (ap_read t port reg) (ap_write t port reg a.value) (neither (eqb reg 0x0C) (eqb (reg / 16) 1) _ _ _ none refl) (neither (eqb reg 0x0C) (eqb (reg / 16) 1) _ _ _ none refl)

  ap_leaves : (a : RegAccess) → a.ap ≡ true → holds_memory (register t a.addr) ≡ false → (attempt t a).next.words ≡ t.words
  unfolding attempt
  ap_leaves a is none =
      either (t.sticky && not (is_free t a)) (record { outcome = Fault; next = t }) (cond a.ap (ap_access t a) (dp_access t a)) refl
      (subst (λ (b : Bool). (cond b (ap_access t a) (dp_access t a)).next.words ≡ t.words) (sym is)
      (either (acknowledges t cdbgpwrupreq) (at_ap t a (map.get t.aps (selected_ap t))) (bus_error t) (at_leaves a (map.get t.aps (selected_ap t)) none) refl))

-- an access of the DP, or of a register of an AP that holds no memory
pub no_memory_changed : (t : TargetState) (a : RegAccess) → holds_memory (register t a.addr) ≡ false → (attempt t a).next.words ≡ t.words
no_memory_changed t a none = by_kind a.ap refl
  where
    by_kind : (b : Bool) → a.ap ≡ b → (attempt t a).next.words ≡ t.words
    by_kind true e = ap_leaves t a e none
    by_kind false e = let k = no_ap_changed t a e in k.words
