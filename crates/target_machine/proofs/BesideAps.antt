-- Accesses of the debug port, polls and commands do the same whatever RDBUFF and the APs are, and leave the APs.
use Rattle.std.proofs.Common.{◌≡◌, ◌∙◌, ℕ, zero, suc, ◌+◌, ◌-◌, ◌^◌, min, Bool, true, false, cond, eqb, not, ◌&&◌, refl, ap, bit_and}
use Rattle.std.specs.FinMap as map
use Rattle.std.specs.Ordering.{nat_cmp}
use Rattle.dap_base.specs.Bits.{has_bit}
use Rattle.target_machine.specs.Attempt.{Attempt, attempt, answers, done_attempt, is_free, gives_rdbuff, bank, ctrl_stat, ctrl_written, dp_read, dp_write, dp_access, ap_access}
use Rattle.target_machine.specs.Lists.{SparesAps, with_ports}
use Rattle.target_machine.specs.Plain.{Action, Makes, Polls, Commands, Polled, poll_result, poll_read, dp_read_of, dp_write_of, action_attempt}
use Rattle.target_machine.specs.Registers.{abort_address, ctrl_stat_address, select_stored, stkerrclr}
use Rattle.target_machine.specs.State.{TargetState}
use Rattle.target_machine.specs.declared.access.Outcome.{Outcome}
use Rattle.target_machine.specs.declared.access.Outcome.TheVariants.{Value, Done, Fault}
use Rattle.target_machine.specs.declared.access.RegAccess.{RegAccess}
use Rattle.target_machine.specs.declared.ap.ApState.{ApState}
use Rattle.target_machine.specs.declared.unit.ProbeCall.TheVariants as probe

module _ (r : ℕ) (m : map.FinMap nat_cmp ApState) where
  abbrev other : TargetState → TargetState
  other t = with_ports t r m

  abbrev moved : Attempt → Attempt
  moved x = record { outcome = x.outcome; next = other x.next }

  moved_either : (b : Bool) (x y v w : Attempt) → x ≡ moved v → y ≡ moved w → cond b x y ≡ moved (cond b v w)
  moved_either true x y v w h k = h
  moved_either false x y v w h k = k

  moved_first : (b c : Bool) (x y z u v w : Attempt) → (not b && not c) ≡ false → x ≡ moved u → y ≡ moved v → cond b x (cond c y z) ≡ moved (cond b u (cond c v w))
  moved_first true c x y z u v w none h k = h
  moved_first false true x y z u v w none h k = k
  moved_first false false x y z u v w none h k = absurd (cc)

  moved_where : (b p : Bool) (x y v w : Attempt) → (b && p) ≡ false → (p ≡ false → x ≡ moved v) → y ≡ moved w → cond b x y ≡ moved (cond b v w)
  moved_where true p x y v w none h k = h none
  moved_where false p x y v w none h k = k

  moved_unless : (b p : Bool) (x y v w : Attempt) → b ≡ false → (not b && p) ≡ false → (p ≡ false → y ≡ moved w) → cond b x y ≡ moved (cond b v w)
  moved_unless true p x y v w e none k = absurd (cc e)
  moved_unless false p x y v w e none k = k none

  other_either : (b : Bool) (x y v w : TargetState) → x ≡ other v → y ≡ other w → cond b x y ≡ other (cond b v w)
  other_either true x y v w h k = h
  other_either false x y v w h k = k

  written : (x v : TargetState) → x ≡ other v → done_attempt x ≡ moved (done_attempt v)
  written x v e = ap (λ (s : TargetState). done_attempt s) e

  module _ (t : TargetState) where
    dp_reads : (addr : ℕ) → (not (eqb addr 0) && not (eqb addr 4)) ≡ false → dp_read (other t) addr ≡ moved (dp_read t addr)
    dp_reads addr none =
        let read : TargetState = record t { reads = min (t.reads + 1) (2 ^ 32 - 1) } in
        moved_first (eqb addr 0) (eqb addr 4) (answers t.dpidr (other t)) _ (answers r (other t)) (answers t.dpidr t) _ (answers t.rdbuff t) none refl
        (moved_either (eqb (bank t) 0) (answers (ctrl_stat t) (other read)) (answers 0 (other t)) (answers (ctrl_stat t) read) (answers 0 t) refl refl)

    dp_writes : (addr value : ℕ) → dp_write (other t) addr value ≡ moved (dp_write t addr value)
    dp_writes addr value =
        let cleared : TargetState = record t { sticky = false } in
        let selected : TargetState = record t { select = bit_and value select_stored } in
        moved_either (eqb addr 0) _ _ (done_attempt (cond (has_bit value stkerrclr) cleared t)) _
        (written (cond (has_bit value stkerrclr) (other cleared) (other t)) (cond (has_bit value stkerrclr) cleared t) (other_either (has_bit value stkerrclr) (other cleared) (other t) cleared t refl refl))
        (moved_either (eqb addr 4) _ _ (done_attempt (cond (eqb (bank t) 0) (ctrl_written t value) t)) _
        (written (cond (eqb (bank t) 0) (other (ctrl_written t value)) (other t)) (cond (eqb (bank t) 0) (ctrl_written t value) t) (other_either (eqb (bank t) 0) (other (ctrl_written t value)) (other t) (ctrl_written t value) t refl refl))
        (moved_either (eqb addr 8) (done_attempt (other selected)) (done_attempt (other t)) (done_attempt selected) (done_attempt t) refl refl))

    attempt_moved : (a : RegAccess) → a.ap ≡ false → gives_rdbuff a ≡ false → attempt (other t) a ≡ moved (attempt t a)
    unfolding attempt is_free
    attempt_moved a is none =
        moved_either (t.sticky && not (is_free t a)) _ _ (record { outcome = Fault; next = t }) (cond a.ap (ap_access t a) (dp_access t a)) refl
        (moved_unless a.ap (a.read && (not (eqb a.addr 0) && not (eqb a.addr 4))) (ap_access (other t) a) (dp_access (other t) a) (ap_access t a) (dp_access t a) is none
        (λ no_read. moved_where a.read (not (eqb a.addr 0) && not (eqb a.addr 4)) (dp_read (other t) a.addr) (dp_write (other t) a.addr a.value) (dp_read t a.addr) (dp_write t a.addr a.value) no_read
        (dp_reads a.addr) (dp_writes a.addr a.value)))

  abbrev moved_poll : Polled → Polled
  moved_poll p = record p { next = other p.next }

  poll_either : (b : Bool) (x y v w : Polled) → x ≡ moved_poll v → y ≡ moved_poll w → cond b x y ≡ moved_poll (cond b v w)
  poll_either true x y v w h k = h
  poll_either false x y v w h k = k

  looked_moved : (o : Outcome) (u : TargetState) (mask requested : ℕ) (p q : Polled) → p ≡ moved_poll q → poll_read o (other u) mask requested p ≡ moved_poll (poll_read o u mask requested q)
  looked_moved (Value n) u mask requested p q e =
      poll_either (eqb (bit_and n mask) requested) (record { outcome = Value 1; reads = 1; next = other u }) (record p { reads = p.reads + 1 })
      (record { outcome = Value 1; reads = 1; next = u }) (record q { reads = q.reads + 1 }) refl (ap (λ (x : Polled). record x { reads = x.reads + 1 }) e)
  looked_moved Done u mask requested p q e = ap (λ (x : Polled). record x { reads = x.reads + 1 }) e
  looked_moved Fault u mask requested p q e = refl

  polled_moved : (turns mask requested : ℕ) (t : TargetState) → poll_result turns mask requested (other t) ≡ moved_poll (poll_result turns mask requested t)
  unfolding poll_result
  polled_moved zero mask requested t = refl
  polled_moved (suc turns) mask requested t =
      let x : Attempt = attempt t (dp_read_of ctrl_stat_address) in
      ap (λ (y : Attempt). poll_read y.outcome y.next mask requested (poll_result turns mask requested y.next)) (attempt_moved t (dp_read_of ctrl_stat_address) refl refl)
      ∙ looked_moved x.outcome x.next mask requested (poll_result turns mask requested (other x.next)) (poll_result turns mask requested x.next) (polled_moved turns mask requested x.next)

  -- one action that is no access of an AP
  pub acted_moved : (t : TargetState) (x : Action) → SparesAps x → action_attempt (other t) x ≡ moved (action_attempt t x)
  acted_moved t (Makes a) spares = attempt_moved t a spares.0 spares.1
  acted_moved t (Polls mask requested turns) spares = ap (λ (p : Polled). record { outcome = p.outcome; next = p.next }) (polled_moved turns mask requested t)
  acted_moved t (Commands (probe.Delay micros)) spares = refl
  acted_moved t (Commands (probe.Abort value)) spares = attempt_moved t (dp_write_of abort_address value) refl refl
  acted_moved t (Commands (probe.Pins output select wait)) spares = refl
  acted_moved t (Commands (probe.Clock hertz)) spares = refl
  acted_moved t (Commands (probe.Line count bits)) spares = refl
