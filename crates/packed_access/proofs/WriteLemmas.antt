-- What a write gives: nothing.
use Rattle.std.proofs.Common.{◌≡◌, ◌∙◌, ℕ, ◌/◌, Bool, true, false, cond, not, ◌&&◌, Option, Some, None, refl, ap}
use Rattle.std.specs.Prelude.{◌==◌, bit_and}
use Rattle.std.specs.FinMap as map
use Rattle.dap_base.specs.Bits.{has_bit}
use Rattle.target_machine.specs.Attempt.{Attempt, ap_access, ap_read, ap_write, at_ap, attempt, bus_error, dp_access, dp_read, dp_write, drw_write, memory_write, posted_attempt, register}
use Rattle.target_machine.specs.Attempt as at
use Rattle.target_machine.specs.Memory.{word_written}
use Rattle.target_machine.specs.Plain.{given_number}
use Rattle.target_machine.specs.Registers.{abort_address, bd_bank, cdbgpwrupreq, ctrl_stat_address, drw_register, select_address, select_stored, stkerrclr, whole_word}
use Rattle.target_machine.specs.State.{TargetState}
use Rattle.target_machine.specs.declared.access.Outcome.TheVariants.{Fault}
use Rattle.target_machine.specs.declared.access.RegAccess.{RegAccess}
use Rattle.target_machine.specs.declared.ap.ApState.{ApState}

-- it gives no number
record GivesNone (x : Attempt) : Type 0 where
  pub so : given_number x.outcome ≡ 0

by_cond : (b : Bool) (x y : Attempt) → GivesNone x → GivesNone y → GivesNone (cond b x y)
by_cond true x y h k = h
by_cond false x y h k = k

memory_none : (t after : TargetState) (address mask value : ℕ) → GivesNone (memory_write t after address mask value)
memory_none t after address mask value =
    by_cond (word_written t.words address mask value).done (at.done_attempt (record after { words = (word_written t.words address mask value).next })) (bus_error t) (record { so = refl }) (record { so = refl })

drw_none : (t : TargetState) (port : ApState) (value : ℕ) (size : Option ℕ) → GivesNone (drw_write t port value size)
drw_none t port value None = record { so = refl }
drw_none t port value (Some size) = memory_none t (at.advanced_target t port size) (at.drw_address port) (at.lanes size port.tar) value

port_none : (t : TargetState) (port : ApState) (reg value : ℕ) → GivesNone (ap_write t port reg value)
port_none t port reg value =
    by_cond (reg == drw_register) (drw_write t port value (at.size_of port.csw)) (cond (reg / 16 == bd_bank) (memory_write t t (at.bd_address port reg) whole_word value) (at.done_attempt (at.with_ap t (at.register_written port reg value))))
    (drw_none t port value (at.size_of port.csw))
    (by_cond (reg / 16 == bd_bank) (memory_write t t (at.bd_address port reg) whole_word value) (at.done_attempt (at.with_ap t (at.register_written port reg value))) (memory_none t t (at.bd_address port reg) whole_word value) (record { so = refl }))

at_none : (t : TargetState) (a : RegAccess) (x : Option ApState) → a.read ≡ false → GivesNone (at_ap t a x)
at_none t a None write = record { so = ap (λ (b : Bool). given_number (cond b (posted_attempt 0 t) (at.done_attempt t)).outcome) write }
at_none t a (Some port) write =
    record { so = ap (λ (b : Bool). given_number (cond b (ap_read t port (register t a.addr)) (ap_write t port (register t a.addr) a.value)).outcome) write ∙ (port_none t port (register t a.addr) a.value).so }

dp_none : (t : TargetState) (addr value : ℕ) → GivesNone (dp_write t addr value)
dp_none t addr value =
    let abort : Attempt = at.done_attempt (cond (has_bit value stkerrclr) (record t { sticky = false }) t) in
    let control : Attempt = at.done_attempt (cond (at.bank t == 0) (at.ctrl_written t value) t) in
    let selects : Attempt = at.done_attempt (record t { select = bit_and value select_stored }) in
    by_cond (addr == abort_address) abort (cond (addr == ctrl_stat_address) control (cond (addr == select_address) selects (at.done_attempt t))) (record { so = refl })
    (by_cond (addr == ctrl_stat_address) control (cond (addr == select_address) selects (at.done_attempt t)) (record { so = refl })
    (by_cond (addr == select_address) selects (at.done_attempt t) (record { so = refl }) (record { so = refl })))

access_none : (t : TargetState) (a : RegAccess) → a.read ≡ false → GivesNone (dp_access t a)
access_none t a write = record { so = ap (λ (b : Bool). given_number (cond b (dp_read t a.addr) (dp_write t a.addr a.value)).outcome) write ∙ (dp_none t a.addr a.value).so }

pub write_gives : (t : TargetState) (a : RegAccess) → a.read ≡ false → given_number (attempt t a).outcome ≡ 0
unfolding attempt
write_gives t a write =
    let access : GivesNone (cond a.ap (ap_access t a) (dp_access t a)) =
    by_cond a.ap (ap_access t a) (dp_access t a)
    (by_cond (at.acknowledges t cdbgpwrupreq) (at_ap t a (map.get t.aps (at.selected_ap t))) (bus_error t) (at_none t a (map.get t.aps (at.selected_ap t)) write) (record { so = refl }))
    (access_none t a write) in
    (by_cond (t.sticky && not (at.is_free t a)) (record { outcome = Fault; next = t }) (cond a.ap (ap_access t a) (dp_access t a)) (record { so = refl }) access).so
