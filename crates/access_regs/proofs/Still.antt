-- What leads to the access that a unit is for changes no memory.
use Rattle.std.proofs.Common.{◌≡◌, ◌∙◌, ℕ, ◌/◌, ◌<◌, ◌⊎◌, inl, inr, Bool, true, false, cond, eqb, not, ◌&&◌, List, [], ◌∷◌, ◌++◌, Option, Some, None, refl, sym, ap, subst, arith, bit_and}
use Rattle.std.specs.FinMap as map
use Rattle.target_machine.specs.Attempt.{Attempt, attempt, done_attempt, posted_attempt, bus_error, acknowledges, register, with_ap, register_value, register_written, ap_read, ap_write, at_ap, ap_access, dp_access, dp_write, is_free, selected_ap, drw_read, drw_write, memory_read, memory_write, size_of, bd_address}
use Rattle.target_machine.specs.Plain.{select_of}
use Rattle.target_machine.specs.State.{TargetState}
use Rattle.target_machine.specs.declared.access.Outcome.TheVariants.{Fault}
use Rattle.target_machine.specs.declared.access.RegAccess.{RegAccess}
use Rattle.target_machine.specs.declared.ap.ApState.{ApState}
use Rattle.access_regs.specs.Plan.{select_value, unless}
use Rattle.access_regs.specs.Journal.{Step, steps_of}
use Rattle.access_regs.specs.Alone.{KeepsMemory}
use Rattle.access_regs.proofs.Select.{select_write, bank_zero_bits}
use Rattle.target_calls.specs.declared.journal.Part.{Part}
use Rattle.access_regs.proofs.Wide.{cfg_bits}

-- what an access leaves of the memory and of SELECT
record Leaves (t : TargetState) (x : Attempt) : Type 0 where
  words : x.next.words ≡ t.words
  select : x.next.select ≡ t.select

module _ (t : TargetState) where
  either : (b : Bool) (x y : Attempt) → Leaves t x → Leaves t y → Leaves t (cond b x y)
  either true x y h k = h
  either false x y h k = k

  same : Leaves t (bus_error t)
  same = record { words = refl; select = refl }

  read_leaves : (port : ApState) (reg : ℕ) → eqb reg 0x0C ≡ false → eqb (reg / 16) 1 ≡ false → Leaves t (ap_read t port reg)
  read_leaves port reg no_drw no_bd =
      subst (λ (b : Bool). Leaves t (cond b (drw_read t port (size_of port.csw)) (cond (eqb (reg / 16) 1) (memory_read t t (bd_address port reg) 0xFFFF_FFFF) (posted_attempt (register_value port reg) t)))) (sym no_drw)
      (subst (λ (b : Bool). Leaves t (cond b (memory_read t t (bd_address port reg) 0xFFFF_FFFF) (posted_attempt (register_value port reg) t))) (sym no_bd) (record { words = refl; select = refl }))

  write_leaves : (port : ApState) (reg value : ℕ) → eqb reg 0x0C ≡ false → eqb (reg / 16) 1 ≡ false → Leaves t (ap_write t port reg value)
  write_leaves port reg value no_drw no_bd =
      subst (λ (b : Bool). Leaves t (cond b (drw_write t port value (size_of port.csw)) (cond (eqb (reg / 16) 1) (memory_write t t (bd_address port reg) 0xFFFF_FFFF value) (done_attempt (with_ap t (register_written port reg value)))))) (sym no_drw)
      (subst (λ (b : Bool). Leaves t (cond b (memory_write t t (bd_address port reg) 0xFFFF_FFFF value) (done_attempt (with_ap t (register_written port reg value))))) (sym no_bd) (record { words = refl; select = refl }))

  at_leaves : (a : RegAccess) (o : Option ApState) → eqb (register t a.addr) 0x0C ≡ false → eqb (register t a.addr / 16) 1 ≡ false → Leaves t (at_ap t a o)
  at_leaves a None no_drw no_bd = either a.read _ _ (record { words = refl; select = refl }) (record { words = refl; select = refl })
  at_leaves a (Some port) no_drw no_bd = either a.read _ _ (read_leaves port (register t a.addr) no_drw no_bd) (write_leaves port (register t a.addr) a.value no_drw no_bd)

  ap_leaves : (a : RegAccess) → a.ap ≡ true → eqb (register t a.addr) 0x0C ≡ false → eqb (register t a.addr / 16) 1 ≡ false → Leaves t (attempt t a)
  unfolding attempt
  ap_leaves a is no_drw no_bd =
      either (t.sticky && not (is_free t a)) (record { outcome = Fault; next = t }) (cond a.ap (ap_access t a) (dp_access t a)) (record { words = refl; select = refl })
      (subst (λ (b : Bool). Leaves t (cond b (ap_access t a) (dp_access t a))) (sym is)
      (either (acknowledges t 0x1000_0000) (at_ap t a (map.get t.aps (selected_ap t))) (bus_error t) (at_leaves a (map.get t.aps (selected_ap t)) no_drw no_bd) same))

-- bank 0 or bank F of an AP is selected
abbrev pub IsPlainBank : TargetState → Type 0
IsPlainBank t = (bit_and t.select 0xF0 ≡ 0) ⊎ (bit_and t.select 0xF0 ≡ 0xF0)

-- CSW and IDR's neighbours: addresses 0, 4 and 8 of these banks hold no memory
abbrev pub IsLow : ℕ → Type 0
IsLow addr = (addr ≡ 0) ⊎ ((addr ≡ 4) ⊎ (addr ≡ 8))

no_memory : (t : TargetState) (addr : ℕ) → IsPlainBank t → IsLow addr → (eqb (register t addr) 0x0C ≡ false) × (eqb (register t addr / 16) 1 ≡ false)
no_memory t addr (inl e) (inl a) = (rw (a, e) refl, rw (a, e) refl)
no_memory t addr (inl e) (inr (inl a)) = (rw (a, e) refl, rw (a, e) refl)
no_memory t addr (inl e) (inr (inr a)) = (rw (a, e) refl, rw (a, e) refl)
no_memory t addr (inr e) (inl a) = (rw (a, e) refl, rw (a, e) refl)
no_memory t addr (inr e) (inr (inl a)) = (rw (a, e) refl, rw (a, e) refl)
no_memory t addr (inr e) (inr (inr a)) = (rw (a, e) refl, rw (a, e) refl)

-- SELECT with one of the two banks, or an access of these registers
abbrev pub IsLead : RegAccess → Type 0
IsLead a = ((n : ℕ) × (bank : ℕ) × (n < 256) × ((bank ≡ 0) ⊎ (bank ≡ 0xF)) × (a ≡ select_of n bank)) ⊎ ((a.ap ≡ true) × IsLow a.addr)

abbrev pub AreLeads : List RegAccess → Type 0
AreLeads [] = Unit {0}
AreLeads (x ∷ xs) = IsLead x × AreLeads xs

-- ---- SELECT

select_stuck : (t : TargetState) (n bank : ℕ) → t.sticky ≡ true → attempt t (select_of n bank) ≡ record { outcome = Fault; next = t }
unfolding attempt is_free
select_stuck t n bank e = ap (λ (b : Bool). cond (b && true) (record { outcome = Fault; next = t }) (dp_write t 8 (select_value n bank))) e

select_moves : (t : TargetState) (n bank : ℕ) → t.sticky ≡ false → attempt t (select_of n bank) ≡ done_attempt (record t { select = bit_and (select_value n bank) 0xFF00_00FF })
unfolding attempt
select_moves t n bank clear = rw clear refl

-- SELECT never changes the memory
pub select_words : (t : TargetState) (n bank : ℕ) → (attempt t (select_of n bank)).next.words ≡ t.words
select_words t n bank = by_sticky t.sticky refl
  where
    by_sticky : (b : Bool) → t.sticky ≡ b → (attempt t (select_of n bank)).next.words ≡ t.words
    by_sticky true e = ap (λ (x : Attempt). x.next.words) (select_stuck t n bank e)
    by_sticky false e = ap (λ (x : Attempt). x.next.words) (select_moves t n bank e)

pub plain_select : (t : TargetState) (n bank : ℕ) → n < 256 → (bank ≡ 0) ⊎ (bank ≡ 0xF) → t.sticky ≡ false → IsPlainBank (attempt t (select_of n bank)).next
plain_select t n bank lt (inl e) clear =
    inl (ap (λ (x : Attempt). bit_and x.next.select 0xF0) (select_write n bank lt (omega arith) t clear) ∙ ap (λ (b : ℕ). bit_and (select_value n b) 0xF0) e ∙ bank_zero_bits n)
plain_select t n bank lt (inr e) clear =
    inr (ap (λ (x : Attempt). bit_and x.next.select 0xF0) (select_write n bank lt (omega arith) t clear) ∙ ap (λ (b : ℕ). bit_and (select_value n b) 0xF0) e ∙ cfg_bits n)

plain_stays : (t u : TargetState) → u.select ≡ t.select → IsPlainBank t → IsPlainBank u
plain_stays t u e (inl h) = inl (ap (λ (x : ℕ). bit_and x 0xF0) e ∙ h)
plain_stays t u e (inr h) = inr (ap (λ (x : ℕ). bit_and x 0xF0) e ∙ h)

pub lead_plain : (t : TargetState) (a : RegAccess) → IsLead a → IsPlainBank t → ((attempt t a).next.words ≡ t.words) × IsPlainBank (attempt t a).next
lead_plain t a (inl s) plain =
    subst (λ (x : RegAccess). ((attempt t x).next.words ≡ t.words) × IsPlainBank (attempt t x).next) (sym s.4) (select_words t s.0 s.1, by_sticky t.sticky refl)
  where
    by_sticky : (b : Bool) → t.sticky ≡ b → IsPlainBank (attempt t (select_of s.0 s.1)).next
    by_sticky true e = plain_stays t (attempt t (select_of s.0 s.1)).next (ap (λ (x : Attempt). x.next.select) (select_stuck t s.0 s.1 e)) plain
    by_sticky false e = plain_select t s.0 s.1 s.2 s.3 e
lead_plain t a (inr s) plain =
    let q = no_memory t a.addr plain s.1 in
    let l = ap_leaves t a s.0 q.0 q.1 in
    (l.words, plain_stays t (attempt t a).next l.select plain)

-- ---- lists of leads

pub leads_keep : (part : Part) (xs : List RegAccess) (more : List Step) (t : TargetState) → AreLeads xs → IsPlainBank t → ((v : TargetState) → IsPlainBank v → KeepsMemory v more) → KeepsMemory t (steps_of part xs ++ more)
leads_keep part [] more t leads plain k = k t plain
leads_keep part (x ∷ xs) more t leads plain k =
    let h = lead_plain t x leads.0 plain in
    ((λ ne. h.0), leads_keep part xs more (attempt t x).next leads.1 h.1 k)

-- a list that begins with SELECT, or with none where the bank is such a one
pub start_keep : (part : Part) (b : Bool) (n bank : ℕ) (xs : List RegAccess) (more : List Step) (t : TargetState) → n < 256 → (bank ≡ 0) ⊎ (bank ≡ 0xF) → t.sticky ≡ false → (b ≡ true → IsPlainBank t) → AreLeads xs →
    ((v : TargetState) → IsPlainBank v → KeepsMemory v more) → KeepsMemory t (steps_of part (unless b (select_of n bank) ++ xs) ++ more)
start_keep part true n bank xs more t lt banked clear known leads k = leads_keep part xs more t leads (known refl) k
start_keep part false n bank xs more t lt banked clear known leads k =
    ((λ ne. select_words t n bank), leads_keep part xs more (attempt t (select_of n bank)).next leads (plain_select t n bank lt banked clear) k)
