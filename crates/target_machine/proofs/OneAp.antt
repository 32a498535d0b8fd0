-- What an access leaves of the APs: one of an AP changes no other AP, one of the DP changes none, and CSW keeps stored bits alone.
use Rattle.std.proofs.Common.{◌≡◌, ◌∙◌, ℕ, ◌+◌, ◌-◌, ◌/◌, ◌^◌, min, Bool, true, false, cond, eqb, not, ◌&&◌, Option, Some, None, refl, sym, ap, subst, bit_and}
use Rattle.std.specs.FinMap as map
use Rattle.std.specs.Ordering.{nat_cmp}
use Rattle.std.proofs.lemmas.Bool.{ne_eqb, cond-false}
use Rattle.std.proofs.lemmas.Nat.{and_assoc}
use Rattle.dap_base.specs.Bits.{has_bit}
use Rattle.target_machine.proofs.Maps.{got_inserted}
use Rattle.target_machine.proofs.Values.{each_inserted}
use Rattle.target_machine.specs.Attempt.{Attempt, attempt, answers, done_attempt, bus_error, is_free, bank, acknowledges, ctrl_stat, ctrl_written, dp_read, dp_write, dp_access, selected_ap, register, with_ap, size_of, lanes, drw_address, bd_address, register_value, register_written, read_through, drw_read, drw_write, ap_read, ap_write, at_ap, ap_access}
use Rattle.target_machine.specs.Fresh.{HasStoredCsw, HaveStoredCsw}
use Rattle.target_machine.specs.Laws.{ChangesOneAp, ChangesNoAp}
use Rattle.target_machine.specs.Memory.{Memory, word_read, word_written}
use Rattle.target_machine.specs.Registers.{cdbgpwrupreq, csw_stored, select_stored, stkerrclr, whole_word}
use Rattle.target_machine.specs.State.{TargetState}
use Rattle.target_machine.specs.declared.ap.ApState.{ApState}
use Rattle.target_machine.specs.declared.access.Outcome.{Outcome}
use Rattle.target_machine.specs.declared.access.Outcome.TheVariants.{Value, Done, Fault}
use Rattle.target_machine.specs.declared.access.RegAccess.{RegAccess}

record OneAp (t : TargetState) (x : Attempt) : Type 0 where
  one : ChangesOneAp t x
  stored : HaveStoredCsw t → HaveStoredCsw x.next

module _ (t : TargetState) where
  bus : OneAp t (bus_error t)
  bus = record { one = record { others = λ q ne. refl; rest = refl; sticky = λ e. absurd (cc) }; stored = λ h. h }

  kept : (o : Outcome) (r : ℕ) (words : Memory) → OneAp t (record { outcome = o; next = record t { rdbuff = r; words = words } })
  kept o r words = record { one = record { others = λ q ne. refl; rest = refl; sticky = λ e. refl }; stored = λ h. h }

  either : (b : Bool) (x y : Attempt) → OneAp t x → OneAp t y → OneAp t (cond b x y)
  either true x y h k = h
  either false x y h k = k

  module _ (port : ApState) (there : map.get t.aps (selected_ap t) ≡ Some port) where
    placed : (o : Outcome) (p : ApState) (r : ℕ) (words : Memory) → (HasStoredCsw port → HasStoredCsw p) →
        OneAp t (record { outcome = o; next = record t { aps = map.insert t.aps (selected_ap t) p; rdbuff = r; words = words } })
    placed o p r words w = record {
      one = record {
        others = λ q ne. got_inserted t.aps (selected_ap t) p q ∙ cond-false _ _ _ (ne_eqb q (selected_ap t) ne);
        rest = refl;
        sticky = λ e. refl;
      };
      stored = λ h. each_inserted HasStoredCsw t.aps (selected_ap t) p h (w (h (selected_ap t) port there));
    }

    reads : (tar mask : ℕ) (w : Option ℕ) (words : Memory) → OneAp t (read_through t (with_ap t (record port { tar = tar })) mask w words)
    reads tar mask None words = bus
    reads tar mask (Some w) words = placed (Value (bit_and w mask)) (record port { tar = tar }) (bit_and w mask) words (λ h. h)

    drw_reads : (size : Option ℕ) → OneAp t (drw_read t port size)
    drw_reads None = bus
    drw_reads (Some size) = let word = word_read t.words (drw_address port) in reads _ (lanes size port.tar) word.value word.next

    drw_writes : (value : ℕ) (size : Option ℕ) → OneAp t (drw_write t port value size)
    drw_writes value None = bus
    drw_writes value (Some size) =
        let word = word_written t.words (drw_address port) (lanes size port.tar) value in
        either word.done _ (bus_error t) (placed Done (record port { tar = _ }) t.rdbuff word.next (λ h. h)) bus

    word_reads : (mask : ℕ) (w : Option ℕ) (words : Memory) → OneAp t (read_through t t mask w words)
    word_reads mask None words = bus
    word_reads mask (Some w) words = kept (Value (bit_and w mask)) (bit_and w mask) words

    ap_reads : (reg : ℕ) → OneAp t (ap_read t port reg)
    ap_reads reg =
        let word = word_read t.words (bd_address port reg) in
        either (eqb reg 0x0C) _ _ (drw_reads (size_of port.csw))
        (either (eqb (reg / 16) 1) _ _ (word_reads whole_word word.value word.next) (kept (Value (register_value port reg)) (register_value port reg) t.words))

    stored_either : (b : Bool) (x y : ApState) → HasStoredCsw x → HasStoredCsw y → HasStoredCsw (cond b x y)
    stored_either true x y h k = h
    stored_either false x y h k = k

    ap_writes : (reg value : ℕ) → OneAp t (ap_write t port reg value)
    ap_writes reg value =
        let word = word_written t.words (bd_address port reg) whole_word value in
        either (eqb reg 0x0C) _ _ (drw_writes value (size_of port.csw))
        (either (eqb (reg / 16) 1) _ _ (either word.done (done_attempt (record t { words = word.next })) (bus_error t) (kept Done t.rdbuff word.next) bus)
        (placed Done (register_written port reg value) t.rdbuff t.words
        (λ h. stored_either (eqb reg 0x00) _ _ (and_assoc csw_stored value csw_stored) (stored_either (eqb reg 0x04) _ _ h (stored_either (eqb reg 0x08) _ _ (stored_either port.large _ _ h h) h)))))

  one_at : (a : RegAccess) (o : Option ApState) → map.get t.aps (selected_ap t) ≡ o → OneAp t (at_ap t a o)
  one_at a None none = either a.read _ _ (kept (Value 0) 0 t.words) (kept Done t.rdbuff t.words)
  one_at a (Some port) some = either a.read _ _ (ap_reads port some (register t a.addr)) (ap_writes port some (register t a.addr) a.value)

  one_ap : (a : RegAccess) → a.ap ≡ true → OneAp t (attempt t a)
  unfolding attempt
  one_ap a is =
      either (t.sticky && not (is_free t a)) (record { outcome = Fault; next = t }) (cond a.ap (ap_access t a) (dp_access t a))
      (record { one = record { others = λ q ne. refl; rest = refl; sticky = λ e. refl }; stored = λ h. h })
      (subst (λ (b : Bool). OneAp t (cond b (ap_access t a) (dp_access t a))) (sym is)
      (either (acknowledges t cdbgpwrupreq) _ _ (one_at a (map.get t.aps (selected_ap t)) refl) bus))

  -- an access of an AP
  pub one_ap_changed : (a : RegAccess) → a.ap ≡ true → ChangesOneAp t (attempt t a)
  one_ap_changed a is = let o = one_ap a is in o.one

  -- ---- an access of the DP

  none_either : (b : Bool) (x y : Attempt) → ChangesNoAp t x.next → ChangesNoAp t y.next → ChangesNoAp t (cond b x y).next
  none_either true x y h k = h
  none_either false x y h k = k

  none_state : (b : Bool) (u v : TargetState) → ChangesNoAp t u → ChangesNoAp t v → ChangesNoAp t (cond b u v)
  none_state true u v h k = h
  none_state false u v h k = k

  same : ChangesNoAp t t
  same = record { aps = refl; words = refl }

  dp_reads : (addr : ℕ) → ChangesNoAp t (dp_read t addr).next
  dp_reads addr =
      none_either (eqb addr 0) (answers t.dpidr t) _ same
      (none_either (eqb addr 4) _ (answers t.rdbuff t)
      (none_either (eqb (bank t) 0) (answers (ctrl_stat t) (record t { reads = min (t.reads + 1) (2 ^ 32 - 1) })) (answers 0 t) (record { aps = refl; words = refl }) same) same)

  dp_writes : (addr value : ℕ) → ChangesNoAp t (dp_write t addr value).next
  dp_writes addr value =
      none_either (eqb addr 0) (done_attempt (cond (has_bit value stkerrclr) (record t { sticky = false }) t)) _
      (none_state (has_bit value stkerrclr) (record t { sticky = false }) t (record { aps = refl; words = refl }) same)
      (none_either (eqb addr 4) (done_attempt (cond (eqb (bank t) 0) (ctrl_written t value) t)) _
      (none_state (eqb (bank t) 0) (ctrl_written t value) t (record { aps = refl; words = refl }) same)
      (none_either (eqb addr 8) (done_attempt (record t { select = bit_and value select_stored })) (done_attempt t) (record { aps = refl; words = refl }) same))

  -- an access of the DP
  pub no_ap_changed : (a : RegAccess) → a.ap ≡ false → ChangesNoAp t (attempt t a).next
  unfolding attempt
  no_ap_changed a is =
      none_either (t.sticky && not (is_free t a)) (record { outcome = Fault; next = t }) (cond a.ap (ap_access t a) (dp_access t a)) same
      (subst (λ (b : Bool). ChangesNoAp t (cond b (ap_access t a) (dp_access t a)).next) (sym is)
      (none_either a.read (dp_read t a.addr) (dp_write t a.addr a.value) (dp_reads a.addr) (dp_writes a.addr a.value)))

  -- each access leaves CSWs of stored bits alone
  pub csw_stays_stored : (a : RegAccess) → HaveStoredCsw t → HaveStoredCsw (attempt t a).next
  csw_stays_stored a h = by_kind a.ap refl
    where
      by_kind : (b : Bool) → a.ap ≡ b → HaveStoredCsw (attempt t a).next
      by_kind true e = let o = one_ap a e in o.stored h
      by_kind false e = let k = no_ap_changed a e in λ q p is. h q p (sym (ap (λ (m : map.FinMap nat_cmp ApState). map.get m q) k.aps) ∙ is)
