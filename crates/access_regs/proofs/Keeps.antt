-- No step of a planned unit but its last one changes the memory.
use Rattle.access_regs.specs.Laws.{UnitKeepsMemory}
use Rattle.std.proofs.Common.{◌≡◌, ◌∙◌, ℕ, ◌/◌, ◌%◌, ◌^◌, ◌<◌, ◌⊎◌, inl, inr, Bool, true, false, cond, not, ◌&&◌, ◌||◌, List, [], ◌∷◌, ◌++◌, Option, Some, None, refl, sym, ap, subst, arith, bit_and, is_some}
use Rattle.target_machine.specs.Plain.{Makes, select_of, ap_access_of}
use Rattle.target_machine.specs.State.{TargetState}
use Rattle.target_machine.specs.declared.access.RegAccess.{RegAccess}
use Rattle.target_machine.specs.declared.unit.Unit.{Unit as AccessUnit}
use Rattle.target_machine.specs.declared.unit.Unit.TheVariants as unit
use Rattle.access_regs.specs.Kept.{Kept, known_at, is_known, csw_of}
use Rattle.access_regs.specs.Plan.{select_value, unless, select_needed, port_writes, planned_csw, first_plan, kept_after_csw, learned_cfg, cfg_plan, settle, kept_after_settling, settling, needs_csw, needs_cfg, must_follow_settling}
use Rattle.access_regs.specs.Journal.{Issue, Step, steps_of, making, before, gives, by_plan, by_csw, by_cfg_read, by_cfg, after_settling, issue_of_plan}
use Rattle.access_regs.specs.Alone.{KeepsMemory}
use Rattle.access_regs.specs.Follows.{Follows}
use Rattle.access_regs.specs.declared.known.Known.{Known}
use Rattle.access_regs.specs.declared.known.Unsettled.{Unsettled}
use Rattle.access_regs.proofs.Transfer.{is_known_some}
use Rattle.access_regs.proofs.Select.{select_kept, bank_zero_bits}
use Rattle.access_regs.proofs.Wide.{cfg_bits}
use Rattle.access_regs.proofs.FollowsFacts.{planned_clear}
use Rattle.target_machine.specs.Lists.{after}
use Rattle.dap_base.specs.Bits.{has_bit}
use Rattle.target_calls.specs.Asks.{IsUnitInRange}
use Rattle.target_calls.specs.declared.journal.Part.TheVariants.{Settles, Leads, Ends}
use Rattle.access_regs.proofs.Still.{IsPlainBank, AreLeads, IsLead, leads_keep, start_keep, select_words}

leads_append : (xs ys : List RegAccess) → AreLeads xs → AreLeads ys → AreLeads (xs ++ ys)
leads_append [] ys h k = k
leads_append (x ∷ xs) ys h k = (h.0, leads_append xs ys h.1 k)

unless_lead : (b : Bool) (a : RegAccess) → IsLead a → AreLeads (unless b a)
unless_lead true a h = tt
unless_lead false a h = (h, tt)

port_leads : (a : Known) (size address : ℕ) → AreLeads (port_writes a size address)
port_leads a size address =
    leads_append _ _ (unless_lead (is_known a.csw (planned_csw (csw_of a) size)) (ap_access_of false 0 (planned_csw (csw_of a) size)) (inr (refl, inl refl)))
    (leads_append _ _ (unless_lead (not a.large || is_known a.high (address / 2 ^ 32)) (ap_access_of false 8 (address / 2 ^ 32)) (inr (refl, inr (inr refl))))
    (unless_lead (is_known a.tar (address % 2 ^ 32)) (ap_access_of false 4 (address % 2 ^ 32)) (inr (refl, inr (inl refl)))))

-- a list that begins with SELECT where that is needed leaves the memory, up to what follows
Begins : TargetState → Kept → ℕ → Type 0
Begins u k n = (bank : ℕ) → (bank ≡ 0) ⊎ (bank ≡ 0xF) → (xs : List RegAccess) (more : List Step) → AreLeads xs → ((v : TargetState) → IsPlainBank v → KeepsMemory v more) →
    KeepsMemory u (steps_of Leads (select_needed k n bank ++ xs) ++ more)

begins_plain : (u : TargetState) (k : Kept) (n : ℕ) → n < 256 → IsPlainBank u → Begins u k n
unfolding Begins
begins_plain u k n lt plain bank banked xs more leads then =
    leads_keep Leads (select_needed k n bank ++ xs) more u
    (leads_append (select_needed k n bank) xs (unless_lead (is_known k.select (select_value n bank)) (select_of n bank) (inl (n, bank, lt, banked, refl))) leads) plain then

begins_follows : (k : Kept) (large : List ℕ) (t u : TargetState) (n : ℕ) → n < 256 → Follows k large t u → Begins u k n
unfolding Begins
begins_follows k large t u n lt f bank banked xs more leads then =
    start_keep Leads (is_known k.select (select_value n bank)) n bank xs more u lt banked (planned_clear k large t u f) (λ e. known_bank bank banked e) leads then
  where
    at_bank : (bank : ℕ) → bank < 16 → is_known k.select (select_value n bank) ≡ true → u.select ≡ select_value n bank
    at_bank bank less e = ap (λ (s : TargetState). s.select) f.rest ∙ f.select (select_value n bank) (is_known_some k.select (select_value n bank) e) ∙ select_kept n bank lt less

    known_bank : (bank : ℕ) → (bank ≡ 0) ⊎ (bank ≡ 0xF) → is_known k.select (select_value n bank) ≡ true → IsPlainBank u
    known_bank bank (inl z) e = inl (ap (λ (x : ℕ). bit_and x 0xF0) (at_bank bank (omega arith) e) ∙ ap (λ (b : ℕ). bit_and (select_value n b) 0xF0) z ∙ bank_zero_bits n)
    known_bank bank (inr z) e = inr (ap (λ (x : ℕ). bit_and x 0xF0) (at_bank bank (omega arith) e) ∙ ap (λ (b : ℕ). bit_and (select_value n b) 0xF0) z ∙ cfg_bits n)

module _ (size : ℕ) (read : Bool) (n address value : ℕ) (lt : n < 256) where
  abbrev asked : AccessUnit
  asked = unit.Memory size read n address value

  plan_keep : (u : TargetState) (k : Kept) → Begins u k n → KeepsMemory u (by_plan k asked).steps
  unfolding Begins
  plan_keep u k begins = begins 0 (inl refl) (port_writes (known_at k n) size address) _ (port_leads (known_at k n) size address) (λ v p. ((λ ne. absurd (ne refl)), tt))

  csw_keep : (t u : TargetState) (k : Kept) → Begins u k n → KeepsMemory u (by_csw t k asked).steps
  unfolding Begins
  csw_keep t u k begins = by_needs (needs_csw k asked)
    where
      by_needs : (b : Bool) → KeepsMemory u (cond b (before (steps_of Leads (first_plan k n)) (by_plan (kept_after_csw k n (gives t (first_plan k n))) asked)) (by_plan k asked)).steps
      by_needs true =
          begins 0 (inl refl) (ap_access_of true 0 0 ∷ []) (by_plan (kept_after_csw k n (gives t (first_plan k n))) asked).steps (inr (refl, inl refl), tt)
          (λ v p. plan_keep v (kept_after_csw k n (gives t (first_plan k n))) (begins_plain v (kept_after_csw k n (gives t (first_plan k n))) n lt p))
      by_needs false = plan_keep u k begins

  cfg_keep : (t u : TargetState) (k : Kept) → Begins u k n → KeepsMemory u (by_cfg t k asked).steps
  unfolding Begins
  cfg_keep t u k begins = by_needs (needs_cfg k asked)
    where
      w : TargetState
      w = after t (making (cfg_plan k n))

      read_keep : (cfg : ℕ) (v : TargetState) → IsPlainBank v → (b : Bool) → KeepsMemory v (cond b (by_csw w (learned_cfg k n cfg) asked) (record { steps = []; kept = learned_cfg k n cfg })).steps
      read_keep cfg v p true = csw_keep w v (learned_cfg k n cfg) (begins_plain v (learned_cfg k n cfg) n lt p)
      read_keep cfg v p false = tt

      by_needs : (b : Bool) → KeepsMemory u (cond b (before (steps_of Leads (cfg_plan k n)) (by_cfg_read w k asked (gives t (cfg_plan k n)))) (by_csw t k asked)).steps
      by_needs true =
          begins 0xF (inr refl) (ap_access_of true 4 0 ∷ []) (by_cfg_read w k asked (gives t (cfg_plan k n))).steps (inr (refl, inr (inl refl)), tt)
          (λ v p. read_keep (gives t (cfg_plan k n)) v p (has_bit (gives t (cfg_plan k n)) 2))
      by_needs false = csw_keep t u k begins

-- ---- settling

pub settle_keep : (k : Kept) (large : List ℕ) (t u : TargetState) → Follows k large t u → (s : Unsettled) → k.unsettled ≡ Some s → (more : List Step) →
    ((v : TargetState) → IsPlainBank v → KeepsMemory v more) → KeepsMemory u (steps_of Settles (settle k) ++ more)
settle_keep k large t u f s some more then =
    let b = f.unsettled s some in
    let at : u.select ≡ select_value s.ap 0 = ap (λ (x : TargetState). x.select) f.rest ∙ f.select (select_value s.ap 0) b.0 ∙ select_kept s.ap 0 b.1 (omega arith) in
    subst (λ (o : Option Unsettled). KeepsMemory u (steps_of Settles (settling k o) ++ more)) (sym some)
    (leads_keep Settles (settling k (Some s)) more u (inr (refl, inl refl), (inr (refl, inr (inl refl)), tt)) (inl (ap (λ (x : ℕ). bit_and x 0xF0) at ∙ bank_zero_bits s.ap)) then)

module _ (k : Kept) (large : List ℕ) (t u : TargetState) (f : Follows k large t u) where
  by_settling : (b : Bool) (next : TargetState → Kept → Issue) (i : Issue) → ((w v : TargetState) → IsPlainBank v → KeepsMemory v (next w (kept_after_settling k)).steps) → KeepsMemory u i.steps →
      KeepsMemory u (cond (is_some k.unsettled && b) (after_settling u k next) i).steps
  by_settling b next i then here = by_unsettled k.unsettled refl b
    where
      by_unsettled : (o : Option Unsettled) → k.unsettled ≡ o → (c : Bool) → KeepsMemory u (cond (is_some k.unsettled && c) (after_settling u k next) i).steps
      by_unsettled None none c = subst (λ (o : Option Unsettled). KeepsMemory u (cond (is_some o && c) (after_settling u k next) i).steps) (sym none) here
      by_unsettled (Some s) some true =
          subst (λ (o : Option Unsettled). KeepsMemory u (cond (is_some o && true) (after_settling u k next) i).steps) (sym some)
          (settle_keep k large t u f s some (next (after u (making (settle k))) (kept_after_settling k)).steps (λ v p. then (after u (making (settle k))) v p))
      by_unsettled (Some s) some false = subst (λ (o : Option Unsettled). KeepsMemory u (cond (is_some o && false) (after_settling u k next) i).steps) (sym some) here

  -- SELECT alone leads to an access of an AP
  ap_keep : (v : TargetState) (l : Kept) (read : Bool) (n addr value : ℕ) → KeepsMemory v (by_plan l (unit.Ap read n addr value)).steps
  ap_keep v l read n addr value = by_known (is_known l.select (select_value n (addr / 16)))
    where
      by_known : (b : Bool) → KeepsMemory v (steps_of Leads (unless b (select_of n (addr / 16))) ++ record { part = Ends; action = Makes (ap_access_of read (addr % 16) value) } ∷ [])
      by_known true = ((λ ne. absurd (ne refl)), tt)
      by_known false = ((λ ne. select_words v n (addr / 16)), ((λ ne. absurd (ne refl)), tt))

  -- Each step of a unit that is not forgiving, but the access that it is for, leaves the memory.
  pub planned_keep : (asked : AccessUnit) → IsUnitInRange asked → KeepsMemory u (issue_of_plan u k asked).steps
  planned_keep (unit.Memory size read n address value) range =
      by_settling (must_follow_settling k (unit.Memory size read n address value)) (λ w l. by_cfg w l (unit.Memory size read n address value)) (by_cfg u k (unit.Memory size read n address value))
      (λ w v p. cfg_keep size read n address value range.0 w v (kept_after_settling k) (begins_plain v (kept_after_settling k) n range.0 p))
      (cfg_keep size read n address value range.0 u u k (begins_follows k large t u n range.0 f))
  planned_keep (unit.Ap read n addr value) range =
      by_settling true (λ w l. by_plan l (unit.Ap read n addr value)) (by_plan k (unit.Ap read n addr value))
      (λ w v p. ap_keep v (kept_after_settling k) read n addr value) (ap_keep u k read n addr value)
  planned_keep (unit.Dp read addr value) range =
      by_settling (must_follow_settling k (unit.Dp read addr value)) (λ w l. by_plan l (unit.Dp read addr value)) (by_plan k (unit.Dp read addr value))
      (λ w v p. ((λ ne. absurd (ne refl)), tt)) ((λ ne. absurd (ne refl)), tt)
  planned_keep (unit.Poll mask value turns) range =
      by_settling false (λ w l. by_plan l (unit.Poll mask value turns)) (by_plan k (unit.Poll mask value turns))
      (λ w v p. ((λ ne. absurd (ne refl)), tt)) ((λ ne. absurd (ne refl)), tt)

pub unit_keeps_memory : UnitKeepsMemory
unit_keeps_memory k large t u asked f range = planned_keep k large t u f asked range
