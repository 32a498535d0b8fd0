-- An access of a value of 32 bits gives a value of 32 bits, and leaves a target in range.
use Rattle.std.proofs.Common.{◌≡◌, ℕ, ◌+◌, ◌-◌, ◌/◌, ◌^◌, inl, inr, min, Bool, true, false, cond, eqb, not, ◌&&◌, [], ◌∷◌, length, Option, Some, None, refl, sym, subst, arith, bit_and}
use Rattle.std.specs.FinMap as map
use Rattle.std.specs.Ordering.{nat_cmp}
use Rattle.std.specs.Int.{w32, bit_not}
use Rattle.std.proofs.lemmas.Bool.{cases_lt}
use Rattle.std.proofs.lemmas.List.Elements.{All-cons, All-nil}
use Rattle.std.proofs.Math.ListN.{get_or-eq_default}
use Rattle.std.proofs.lemmas.Nat.{and_le_l, and_le_r, or_lt}
use Rattle.dap_base.specs.Bits.{has_bit}
use Rattle.target_machine.proofs.Values.{each_inserted}
use Rattle.target_machine.specs.Attempt.{Attempt, attempt, answers, done_attempt, posted_attempt, bus_error, is_free, bank, acknowledges, with_bit, ctrl_stat, ctrl_written, dp_read, dp_write, dp_access, selected_ap, register, with_ap, size_of, advanced_target, lanes, next_tar, drw_address, bd_address, register_value, register_written, stored_csw, read_through, memory_write, drw_read, drw_write, ap_read, ap_write, at_ap, ap_access}
use Rattle.target_machine.specs.InRange.{EachValue, IsWord, IsPortInRange, IsCellInRange, IsInRange, IsAttemptInRange}
use Rattle.target_machine.specs.Memory.{Memory, Cell, shown_value, moved_on, with_values, merged_word, WordRead, word_read, read_cell, WordWritten, word_written, write_cell}
use Rattle.target_machine.specs.Registers.{cdbgpwrupreq, cdbgpwrupack, csyspwrupreq, csyspwrupack, power_requests, stickyerr, ctrl_stored, stkerrclr, select_stored, device_en, csw_stored, csw_addrinc, whole_word}
use Rattle.target_machine.specs.State.{TargetState}
use Rattle.target_machine.specs.declared.ap.ApState.{ApState}
use Rattle.target_machine.specs.declared.access.Outcome.TheVariants.{Fault}
use Rattle.target_machine.specs.declared.access.RegAccess.{RegAccess}

pub word_either : (b : Bool) (x y : ℕ) → IsWord x → IsWord y → IsWord (cond b x y)
word_either true x y h k = h
word_either false x y h k = k

port_either : (b : Bool) (x y : ApState) → IsPortInRange x → IsPortInRange y → IsPortInRange (cond b x y)
port_either true x y h k = h
port_either false x y h k = k

state_either : (b : Bool) (x y : TargetState) → IsInRange x → IsInRange y → IsInRange (cond b x y)
state_either true x y h k = h
state_either false x y h k = k

pub either : (b : Bool) (x y : Attempt) → IsAttemptInRange x → IsAttemptInRange y → IsAttemptInRange (cond b x y)
either true x y h k = h
either false x y h k = k

pub masked : (n mask : ℕ) → IsWord mask → IsWord (bit_and n mask)
masked n mask h = let le = and_le_r n mask in omega arith

masked_word : (n mask : ℕ) → IsWord n → IsWord (bit_and n mask)
masked_word n mask h = let le = and_le_l n mask in omega arith

-- ---- words of memory

pub shown_in_range : (c : Cell) → IsCellInRange c → IsWord (shown_value c)
shown_in_range c h = elim (cases_lt c.place (length c.values)) [ inl lt ↦ h c.place 0 lt | inr ge ↦ subst IsWord (sym (get_or-eq_default c.values 0 ge)) (omega arith) ]

merged_in_range : (old new mask : ℕ) → IsWord old → IsWord new → IsWord (merged_word old new mask)
merged_in_range old new mask h k = or_lt 32 (bit_and old (bit_not w32 mask)) (bit_and new mask) (masked_word old (bit_not w32 mask) h) (masked_word new mask k)

abbrev IsOptionInRange : Option ℕ → Type 0
IsOptionInRange None = Unit {0}
IsOptionInRange (Some n) = IsWord n

record IsReadInRange (r : WordRead) : Type 0 where
  value : IsOptionInRange r.value
  next : EachValue IsCellInRange r.next

read_in_range : (m : Memory) (address : ℕ) → EachValue IsCellInRange m → IsReadInRange (word_read m address)
read_in_range m address h = by_cell (map.get m address) refl
  where
    by_cell : (o : Option Cell) → map.get m address ≡ o → IsReadInRange (read_cell m address o)
    by_cell None e = record { value = tt; next = h }
    by_cell (Some c) e = record { value = shown_in_range c (h address c e); next = each_inserted IsCellInRange m address (moved_on c) h (h address c e) }

written_either : (b : Bool) (x y : WordWritten) → EachValue IsCellInRange x.next → EachValue IsCellInRange y.next → EachValue IsCellInRange (cond b x y).next
written_either true x y h k = h
written_either false x y h k = k

written_in_range : (m : Memory) (address mask value : ℕ) → EachValue IsCellInRange m → IsWord value → EachValue IsCellInRange (word_written m address mask value).next
written_in_range m address mask value h v = by_cell (map.get m address) refl
  where
    by_cell : (o : Option Cell) → map.get m address ≡ o → EachValue IsCellInRange (write_cell m address mask value o).next
    by_cell None e = h
    by_cell (Some c) e =
        let new : ℕ = merged_word (shown_value c) value mask in
        let fits : IsWord new = merged_in_range (shown_value c) value mask (shown_in_range c (h address c e)) v in
        written_either c.read_only (record { done = false; next = m }) (record { done = true; next = map.insert m address (with_values c (new ∷ [])) }) h
        (each_inserted IsCellInRange m address (with_values c (new ∷ [])) h (All-cons IsWord new [] fits (All-nil IsWord)))

-- ---- the registers of an AP

advanced_tar : (carry b : Bool) (tar size : ℕ) → IsWord tar → IsWord (cond b (next_tar carry tar size) tar)
advanced_tar true true tar size h = omega arith
advanced_tar false true tar size h = omega arith
advanced_tar carry false tar size h = h

with_tar : (port : ApState) (tar : ℕ) → IsPortInRange port → IsWord tar → IsPortInRange (record port { tar = tar })
with_tar port tar h lt = record { csw = h.csw; tar = lt; high = h.high; idr = h.idr; base = h.base }

register_in_range : (port : ApState) (reg : ℕ) → IsPortInRange port → IsWord (register_value port reg)
register_in_range port reg h =
    word_either (eqb reg 0x00) _ _ (or_lt 32 port.csw device_en h.csw (omega arith))
    (word_either (eqb reg 0x04) _ _ h.tar
    (word_either (eqb reg 0x08) _ _ (word_either port.large _ _ h.high (omega arith))
    (word_either (eqb reg 0xF4) _ _ (word_either port.large _ _ (omega arith) (omega arith))
    (word_either (eqb reg 0xF8) _ _ h.base
    (word_either (eqb reg 0xFC) _ _ h.idr (omega arith))))))

register_written_in_range : (port : ApState) (reg value : ℕ) → IsPortInRange port → IsWord value → IsPortInRange (register_written port reg value)
register_written_in_range port reg value h v =
    port_either (eqb reg 0x00) (record port { csw = stored_csw value }) _ (record { csw = masked value csw_stored (omega arith); tar = h.tar; high = h.high; idr = h.idr; base = h.base })
    (port_either (eqb reg 0x04) (record port { tar = value }) _ (with_tar port value h v)
    (port_either (eqb reg 0x08) _ port
    (port_either port.large (record port { high = value }) port (record { csw = h.csw; tar = h.tar; high = v; idr = h.idr; base = h.base }) h) h))

-- ---- CTRL/STAT

with_bit_in_range : (b : Bool) (bit n : ℕ) → IsWord bit → IsWord n → IsWord (with_bit b bit n)
with_bit_in_range true bit n h k = or_lt 32 n bit k h
with_bit_in_range false bit n h k = k

ctrl_stat_in_range : (t : TargetState) → IsWord t.ctrl → IsWord (ctrl_stat t)
ctrl_stat_in_range t h =
    let system : ℕ = with_bit (acknowledges t csyspwrupreq) csyspwrupack t.ctrl in
    let both : ℕ = with_bit (acknowledges t cdbgpwrupreq) cdbgpwrupack system in
    with_bit_in_range t.sticky stickyerr both (omega arith)
    (with_bit_in_range (acknowledges t cdbgpwrupreq) cdbgpwrupack system (omega arith)
    (with_bit_in_range (acknowledges t csyspwrupreq) csyspwrupack t.ctrl (omega arith) h))

-- ---- one access

module _ (t : TargetState) (h : IsInRange t) where
  changed : (sticky : Bool) (r : ℕ) (aps : map.FinMap nat_cmp ApState) (words : Memory) → IsWord r → EachValue IsPortInRange aps → EachValue IsCellInRange words →
      IsInRange (record t { sticky = sticky; rdbuff = r; aps = aps; words = words })
  changed sticky r aps words a b c = record {
    select = h.select;
    ctrl = h.ctrl;
    rdbuff = a;
    reads = h.reads;
    power_reads = h.power_reads;
    dpidr = h.dpidr;
    aps = b;
    words = c;
    reset = h.reset;
    lines = h.lines;
  }

  bus : IsAttemptInRange (bus_error t)
  bus = record { value = omega arith; next = changed true t.rdbuff t.aps t.words h.rdbuff h.aps h.words }

  gives : (n : ℕ) (aps : map.FinMap nat_cmp ApState) (words : Memory) → IsWord n → EachValue IsPortInRange aps → EachValue IsCellInRange words →
      IsAttemptInRange (posted_attempt n (record t { aps = aps; words = words }))
  gives n aps words lt b c = record { value = lt; next = changed t.sticky n aps words lt b c }

  writes : (aps : map.FinMap nat_cmp ApState) (words : Memory) → EachValue IsPortInRange aps → EachValue IsCellInRange words → IsAttemptInRange (done_attempt (record t { aps = aps; words = words }))
  writes aps words b c = record { value = omega arith; next = changed t.sticky t.rdbuff aps words h.rdbuff b c }

  reads : (aps : map.FinMap nat_cmp ApState) (mask : ℕ) (r : WordRead) → EachValue IsPortInRange aps → IsReadInRange r → IsAttemptInRange (read_through t (record t { aps = aps }) mask r.value r.next)
  reads aps mask r b k = by_value r.value k.value
    where
      by_value : (o : Option ℕ) → IsOptionInRange o → IsAttemptInRange (read_through t (record t { aps = aps }) mask o r.next)
      by_value None v = bus
      by_value (Some w) v = gives (bit_and w mask) aps r.next (masked_word w mask v) b k.next

  stores : (aps : map.FinMap nat_cmp ApState) (address mask value : ℕ) → EachValue IsPortInRange aps → IsWord value → IsAttemptInRange (memory_write t (record t { aps = aps }) address mask value)
  stores aps address mask value b v =
      let w = word_written t.words address mask value in
      either w.done (done_attempt (record t { aps = aps; words = w.next })) (bus_error t) (writes aps w.next b (written_in_range t.words address mask value h.words v)) bus

  module _ (port : ApState) (p : IsPortInRange port) where
    placed : (q : ApState) → IsPortInRange q → EachValue IsPortInRange (map.insert t.aps (selected_ap t) q)
    placed q k = each_inserted IsPortInRange t.aps (selected_ap t) q h.aps k

    moved : (size : ℕ) → EachValue IsPortInRange (advanced_target t port size).aps
    moved size =
        let b : Bool = eqb (bit_and port.csw csw_addrinc) 0x10 in
        let tar : ℕ = cond b (next_tar t.carry port.tar size) port.tar in
        placed (record port { tar = tar }) (with_tar port tar p (advanced_tar t.carry b port.tar size p.tar))

    drw_reads : (size : Option ℕ) → IsAttemptInRange (drw_read t port size)
    drw_reads None = bus
    drw_reads (Some size) = reads (advanced_target t port size).aps (lanes size port.tar) (word_read t.words (drw_address port)) (moved size) (read_in_range t.words (drw_address port) h.words)

    drw_writes : (value : ℕ) (size : Option ℕ) → IsWord value → IsAttemptInRange (drw_write t port value size)
    drw_writes value None v = bus
    drw_writes value (Some size) v = stores (advanced_target t port size).aps (drw_address port) (lanes size port.tar) value (moved size) v

    ap_reads : (reg : ℕ) → IsAttemptInRange (ap_read t port reg)
    ap_reads reg =
        either (eqb reg 0x0C) _ _ (drw_reads (size_of port.csw))
        (either (eqb (reg / 16) 1) _ _ (reads t.aps whole_word (word_read t.words (bd_address port reg)) h.aps (read_in_range t.words (bd_address port reg) h.words))
        (gives (register_value port reg) t.aps t.words (register_in_range port reg p) h.aps h.words))

    ap_writes : (reg value : ℕ) → IsWord value → IsAttemptInRange (ap_write t port reg value)
    ap_writes reg value v =
        either (eqb reg 0x0C) _ _ (drw_writes value (size_of port.csw) v)
        (either (eqb (reg / 16) 1) _ _ (stores t.aps (bd_address port reg) whole_word value h.aps v)
        (writes (with_ap t (register_written port reg value)).aps t.words (placed (register_written port reg value) (register_written_in_range port reg value p v)) h.words))

  at_in_range : (a : RegAccess) (o : Option ApState) → map.get t.aps (selected_ap t) ≡ o → IsWord a.value → IsAttemptInRange (at_ap t a o)
  at_in_range a None e v = either a.read _ _ (gives 0 t.aps t.words (omega arith) h.aps h.words) (writes t.aps t.words h.aps h.words)
  at_in_range a (Some port) e v =
      let p : IsPortInRange port = h.aps (selected_ap t) port e in
      either a.read _ _ (ap_reads port p (register t a.addr)) (ap_writes port p (register t a.addr) a.value v)

  dp_reads : (addr : ℕ) → IsAttemptInRange (dp_read t addr)
  dp_reads addr =
      let fits : IsWord (min (t.reads + 1) (2 ^ 32 - 1)) = omega arith in
      let counted : IsInRange (record t { reads = min (t.reads + 1) (2 ^ 32 - 1) }) =
      record { select = h.select; ctrl = h.ctrl; rdbuff = h.rdbuff; reads = fits; power_reads = h.power_reads; dpidr = h.dpidr; aps = h.aps; words = h.words; reset = h.reset; lines = h.lines } in
      either (eqb addr 0) (answers t.dpidr t) _ (record { value = h.dpidr; next = h })
      (either (eqb addr 4) _ (answers t.rdbuff t)
      (either (eqb (bank t) 0) (answers (ctrl_stat t) (record t { reads = min (t.reads + 1) (2 ^ 32 - 1) })) (answers 0 t) (record { value = ctrl_stat_in_range t h.ctrl; next = counted }) (record { value = omega arith; next = h }))
      (record { value = h.rdbuff; next = h }))

  ctrl_written_in_range : (value : ℕ) → IsInRange (ctrl_written t value)
  ctrl_written_in_range value = record {
    select = h.select;
    ctrl = masked value ctrl_stored (omega arith);
    rdbuff = h.rdbuff;
    reads = word_either (eqb (bit_and t.ctrl power_requests) (bit_and value power_requests)) t.reads 0 h.reads (omega arith);
    power_reads = h.power_reads;
    dpidr = h.dpidr;
    aps = h.aps;
    words = h.words;
    reset = h.reset;
    lines = h.lines;
  }

  dp_writes : (addr value : ℕ) → IsAttemptInRange (dp_write t addr value)
  dp_writes addr value =
      let selected : IsInRange (record t { select = bit_and value select_stored }) =
      record { select = masked value select_stored (omega arith); ctrl = h.ctrl; rdbuff = h.rdbuff; reads = h.reads; power_reads = h.power_reads; dpidr = h.dpidr; aps = h.aps; words = h.words; reset = h.reset; lines = h.lines } in
      either (eqb addr 0) _ _
      (record { value = omega arith; next = state_either (has_bit value stkerrclr) (record t { sticky = false }) t (changed false t.rdbuff t.aps t.words h.rdbuff h.aps h.words) h })
      (either (eqb addr 4) _ _ (record { value = omega arith; next = state_either (eqb (bank t) 0) (ctrl_written t value) t (ctrl_written_in_range value) h })
      (either (eqb addr 8) (done_attempt (record t { select = bit_and value select_stored })) (done_attempt t) (record { value = omega arith; next = selected }) (record { value = omega arith; next = h })))

  -- an access of a value of 32 bits
  pub attempt_in_range : (a : RegAccess) → IsWord a.value → IsAttemptInRange (attempt t a)
  unfolding attempt
  attempt_in_range a v =
      either (t.sticky && not (is_free t a)) (record { outcome = Fault; next = t }) (cond a.ap (ap_access t a) (dp_access t a)) (record { value = omega arith; next = h })
      (either a.ap (ap_access t a) (dp_access t a)
      (either (acknowledges t cdbgpwrupreq) (at_ap t a (map.get t.aps (selected_ap t))) (bus_error t) (at_in_range a (map.get t.aps (selected_ap t)) refl v) bus)
      (either a.read (dp_read t a.addr) (dp_write t a.addr a.value) (dp_reads a.addr) (dp_writes a.addr a.value)))
