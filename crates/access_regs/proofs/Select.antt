-- Writes of SELECT, and the AP that they select.
use Rattle.std.proofs.Common.{◌≡◌, ◌∙◌, ℕ, ◌+◌, ◌*◌, ◌/◌, ◌^◌, ◌<◌, Bool, true, false, List, [], ◌∷◌, ◌++◌, Option, Some, None, refl, sym, ap, subst, arith, bit_and}
use Rattle.std.proofs.lemmas.Nat.{and_block, and_mask}
use Rattle.std.specs.Int.Bits.{and_zero_r}
use Rattle.std.specs.Option.{option_map}
use Rattle.std.specs.FinMap as map
use Rattle.target_machine.specs.Attempt.{Attempt, attempt, done_attempt, acknowledges}
use Rattle.target_machine.specs.Plain.{Action, Makes, select_of, is_fault}
use Rattle.target_machine.specs.State.{TargetState}
use Rattle.target_machine.specs.declared.access.RegAccess.{RegAccess}
use Rattle.target_machine.specs.declared.ap.ApState.{ApState}
use Rattle.access_regs.specs.Plan.{select_value, unless}
use Rattle.access_regs.specs.Journal.{making}
use Rattle.access_regs.proofs.Port.{Selects, Turns, Writes, same_turns}
use Rattle.target_machine.proofs.ActionLists.{pass_append}
use Rattle.target_machine.specs.Lists.{PassTo}

module _ (n bank : ℕ) (port : n < 256) (banked : bank < 16) where
  -- SELECT keeps such a value stored
  pub select_kept : bit_and (select_value n bank) 0xFF00_00FF ≡ select_value n bank
  select_kept =
      let top : bit_and n 0xFF ≡ n = and_mask n 8 ∙ omega arith in
      let low : bit_and (bank * 16) 0xFF ≡ bank * 16 = and_mask (bank * 16) 8 ∙ omega arith in
      and_block 24 n 0xFF (bank * 16) 0xFF (omega arith) (omega arith) ∙ omega (arith, top, low)

  pub selects_port : select_value n bank / 2 ^ 24 ≡ n
  selects_port = omega arith

  select_done : (t : TargetState) → t.sticky ≡ false → attempt t (select_of n bank) ≡ done_attempt (record t { select = bit_and (select_value n bank) 0xFF00_00FF })
  unfolding attempt
  select_done t clear = rw clear refl

  pub select_write : (t : TargetState) → t.sticky ≡ false → attempt t (select_of n bank) ≡ done_attempt (record t { select = select_value n bank })
  select_write t clear = select_done t clear ∙ ap (λ (v : ℕ). done_attempt (record t { select = v })) select_kept

pub bank_zero_bits : (n : ℕ) → bit_and (select_value n 0) 0xF0 ≡ 0
bank_zero_bits n =
    let none : bit_and n 0 ≡ 0 = and_zero_r n in
    let same : select_value n 0 ≡ n * 2 ^ 24 + 0 = omega arith in
    ap (λ (x : ℕ). bit_and x 0xF0) same ∙ and_block 24 n 0 0 0xF0 (omega arith) (omega arith) ∙ omega (arith, none)

pub selected_is : (t : TargetState) (n : ℕ) → n < 256 → t.sticky ≡ false → acknowledges t 0x1000_0000 ≡ true → t.select ≡ select_value n 0 → Selects t n
selected_is t n port clear power at = record {
  power = power;
  clear = clear;
  here = ap (λ (x : ℕ). x / 2 ^ 24) at ∙ selects_port n 0 port (omega arith);
  bank = ap (λ (x : ℕ). bit_and x 0xF0) at ∙ bank_zero_bits n;
}

-- ---- ports turn one way after another

module _ (t u : TargetState) (n : ℕ) (f : ApState → ApState) (h : Turns t n f u) where
  pub turns_select : Selects t n → Selects u n
  turns_select at = subst (λ (s : TargetState). Selects s n) (sym h.rest) (record { power = at.power; clear = at.clear; here = at.here; bank = at.bank })

  mapped : (g : ApState → ApState) (o : Option ApState) → option_map g (option_map f o) ≡ option_map (λ p. g (f p)) o
  mapped g None = refl
  mapped g (Some p) = refl

  pub turns_then : (v : TargetState) (g : ApState → ApState) → Turns u n g v → Turns t n (λ p. g (f p)) v
  turns_then v g k = record {
    rest = k.rest ∙ ap (λ (s : TargetState). record s { rdbuff = v.rdbuff; aps = v.aps }) h.rest;
    port = k.port ∙ ap (option_map g) h.port ∙ mapped g (map.get t.aps n);
    others = λ q ne. k.others q ne ∙ h.others q ne;
  }

-- one access that may not be needed
pub record Part (u : TargetState) (n : ℕ) (f : ApState → ApState) (accesses : List RegAccess) : Type 0 where
  pub next : TargetState
  pub pass : PassTo u (making accesses) next
  pub turns : Turns u n f next

pub part : (u : TargetState) (n : ℕ) (f : ApState → ApState) (b : Bool) (a : RegAccess) → (b ≡ true → Turns u n f u) → Writes (attempt u a) u n f → Part u n f (unless b a)
part u n f true a same writes = record { next = u; pass = refl; turns = same refl }
part u n f false a same writes =
    record { next = (attempt u a).next; pass = (ap (λ (x : Attempt). is_fault x.outcome) writes.is, refl); turns = writes.turns }

pub making_append : (xs ys : List RegAccess) → making (xs ++ ys) ≡ making xs ++ making ys
making_append [] ys = refl
making_append (x ∷ xs) ys = ap (λ (l : List Action). Makes x ∷ l) (making_append xs ys)

pub part_then : (u : TargetState) (n : ℕ) (f g : ApState → ApState) (xs ys : List RegAccess) (p : Part u n f xs) → Part p.next n g ys → Part u n (λ x. g (f x)) (xs ++ ys)
part_then u n f g xs ys p q = record {
  next = q.next;
  pass = subst (λ (l : List Action). PassTo u l q.next) (sym (making_append xs ys)) (pass_append u p.next q.next (making xs) (making ys) p.pass q.pass);
  turns = turns_then u p.next n f p.turns q.next g q.turns;
}

-- what changes nothing in the port that an AP came to have
pub same_after : (u v : TargetState) (n : ℕ) (f g : ApState → ApState) → Turns u n f v → ((r : ApState) → map.get u.aps n ≡ Some r → g (f r) ≡ f r) → Turns v n g v
same_after u v n f g h same = same_turns v n g (λ p is. by_port (map.get u.aps n) refl p is)
  where
    by_port : (o : Option ApState) → map.get u.aps n ≡ o → (p : ApState) → map.get v.aps n ≡ Some p → g p ≡ p
    by_port None none p is = let e : ◌≡◌ {A = Option ApState} None (Some p) = sym (h.port ∙ ap (option_map f) none) ∙ is in absurd (cc)
    by_port (Some r) some p is =
        let e : ◌≡◌ {A = Option ApState} (Some (f r)) (Some p) = sym (h.port ∙ ap (option_map f) some) ∙ is in
        let q : f r ≡ p = cc in
        subst (λ (x : ApState). g x ≡ x) q (same r some)
