-- What commands need of the target: STICKYERR.
use Rattle.std.proofs.Common.{◌≡◌, eqb, ltb, ℕ, ◌+◌, ◌-◌, ◌^◌, ◌&&◌, ◌||◌, not, Bool, true, false, cond, refl}
use Rattle.std.specs.Prelude.{slice_index, min}
use Rattle.target_machine.specs.Attempt.{Attempt, attempt, is_free, bank, dp_access, dp_read, dp_write, ap_access, ctrl_written, answers, done_attempt, ctrl_stat}
use Rattle.dap_base.specs.Bits.{has_bit}
use Rattle.target_machine.specs.State.{TargetState}
use Rattle.target_machine.specs.declared.access.Outcome.TheVariants as outcome
use Rattle.target_machine.specs.declared.access.RegAccess.{RegAccess}
use Rattle.dap_messages.specs.declared.request.Response.TheVariants.{Good, Wait, Fault, Mismatch}
use Rattle.dap_transfer.specs.State.{Setting, WireState}
use Rattle.dap_transfer.specs.WireTransfer.{ends}
use Rattle.dap_transfer.specs.CommandEnds.{may_be_free}

-- STICKYERR is clear after it
record Clear (x : Attempt) : Type 0 where
  is : x.next.sticky ≡ false

clear_either : (b : Bool) (x y : Attempt) → Clear x → Clear y → Clear (cond b x y)
clear_either true x y h k = h
clear_either false x y h k = k

sticky_either : (b : Bool) (x y : TargetState) → x.sticky ≡ false → y.sticky ≡ false → (cond b x y).sticky ≡ false
sticky_either true x y h k = h
sticky_either false x y h k = k

clear_read : (t : TargetState) (addr : ℕ) → t.sticky ≡ false → Clear (dp_read t addr)
clear_read t addr h =
    clear_either (eqb addr 0) (answers t.dpidr t) _ (record { is = h })
    (clear_either (eqb addr 4) _ (answers t.rdbuff t)
    (clear_either (eqb (bank t) 0) (answers (ctrl_stat t) (record t { reads = min (t.reads + 1) (2 ^ 32 - 1) })) (answers 0 t) (record { is = h }) (record { is = h })) (record { is = h }))

clear_write : (t : TargetState) (addr value : ℕ) → t.sticky ≡ false → Clear (dp_write t addr value)
clear_write t addr value h =
    clear_either (eqb addr 0) (done_attempt (cond (has_bit value 4) (record t { sticky = false }) t)) _ (record { is = sticky_either (has_bit value 4) (record t { sticky = false }) t refl h })
    (clear_either (eqb addr 4) (done_attempt (cond (eqb (bank t) 0) (ctrl_written t value) t)) _ (record { is = sticky_either (eqb (bank t) 0) (ctrl_written t value) t h h })
    (clear_either (eqb addr 8) (done_attempt _) (done_attempt t) (record { is = h }) (record { is = h })))

clear_access : (t : TargetState) (a : RegAccess) → t.sticky ≡ false → Clear (dp_access t a)
clear_access t a h = clear_either a.read (dp_read t a.addr) (dp_write t a.addr a.value) (clear_read t a.addr h) (clear_write t a.addr a.value h)

not_stuck : (s b ap_is : Bool) (x y z : Attempt) → s ≡ false → ap_is ≡ false → Clear z → Clear (cond (s && b) x (cond ap_is y z))
not_stuck true b ap_is x y z e f h = absurd (cc)
not_stuck false b true x y z e f h = absurd (cc)
not_stuck false b false x y z e f h = h

-- an access of the debug port meets no bus error
pub stays_clear : (t : TargetState) (a : RegAccess) → a.ap ≡ false → t.sticky ≡ false → (attempt t a).next.sticky ≡ false
unfolding attempt
stays_clear t a at h =
    let c = not_stuck t.sticky (not (is_free t a)) a.ap (record { outcome = outcome.Fault; next = t }) (ap_access t a) (dp_access t a) h at (clear_access t a h) in
    c.is

free_bits : (ap_is read x y z : Bool) → (not ap_is && cond read (x || (y && z)) x) ≡ true → (not ap_is && cond read (x || y) x) ≡ true
free_bits true read x y z e = absurd (cc)
free_bits false true true y z e = refl
free_bits false true false true z e = refl
free_bits false true false false z e = absurd (cc)
free_bits false false x y z e = e

pub free_may : (t : TargetState) (a : RegAccess) → is_free t a ≡ true → may_be_free a ≡ true
unfolding is_free
free_may t a e = free_bits a.ap a.read (eqb a.addr 0) (eqb a.addr 4) (eqb (bank t) 0) e

-- how a wire transfer ends

fault_end : (free stall sticky : Bool) → cond free Good (cond stall Wait (cond sticky Fault Good)) ≡ Fault → sticky ≡ true
fault_end true stall sticky e = absurd (cc)
fault_end false true sticky e = absurd (cc)
fault_end false false true e = refl
fault_end false false false e = absurd (cc)

pub fault_sticky : (s : Setting) (l : WireState) (a : RegAccess) → ends s l a ≡ Fault → l.target.sticky ≡ true
unfolding ends
fault_sticky s l a e = fault_end (is_free l.target a) (ltb s.retry (slice_index s.stalls l.number)) l.target.sticky e

mismatch_end : (free stall sticky : Bool) → cond free Good (cond stall Wait (cond sticky Fault Good)) ≡ Mismatch → ⊥
mismatch_end true stall sticky e = cc
mismatch_end false true sticky e = cc
mismatch_end false false true e = cc
mismatch_end false false false e = cc

pub no_mismatch : (s : Setting) (l : WireState) (a : RegAccess) → ends s l a ≡ Mismatch → ⊥
unfolding ends
no_mismatch s l a e = mismatch_end (is_free l.target a) (ltb s.retry (slice_index s.stalls l.number)) l.target.sticky e
