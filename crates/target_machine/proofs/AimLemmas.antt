-- The four accesses that lead DRW of a port to an address, where all are done.
use Rattle.std.proofs.Common.{◌≡◌, ◌∙◌, ℕ, ◌+◌, ◌*◌, ◌/◌, ◌^◌, ◌<◌, Bool, true, false, cond, eqb, Option, Some, refl, sym, ap, arith, bit_and, bit_or}
use Rattle.std.specs.FinMap as map
use Rattle.std.specs.Ordering.{nat_cmp}
use Rattle.std.proofs.lemmas.Bool.{eq-eqb, cond-true}
use Rattle.std.proofs.lemmas.Nat.{and_block, and_mask}
use Rattle.std.specs.Int.Bits.{and_zero_r}
use Rattle.target_machine.proofs.Maps.{got_inserted, same_map}
use Rattle.target_machine.specs.Aim.{aim_actions, aimed_port, aimed_target}
use Rattle.target_machine.specs.Attempt.{Attempt, attempt, acknowledges, done_attempt, posted_attempt, stored_csw, with_ap}
use Rattle.target_machine.specs.Plain.{Makes, ap_access_of, csw_actions, csw_for, given_number, in_order, select_of, then_acted}
use Rattle.target_machine.specs.State.{TargetState}
use Rattle.target_machine.specs.declared.ap.ApState.{ApState}

-- of two values at one key the later one stays
twice : (b : Bool) (x y z : Option ApState) → cond b x (cond b y z) ≡ cond b x z
twice true x y z = refl
twice false x y z = refl

pub inserted_twice : (m : map.FinMap nat_cmp ApState) (k : ℕ) (p q : ApState) → map.insert (map.insert m k p) k q ≡ map.insert m k q
inserted_twice m k p q =
    same_map _ _ (λ i.
    got_inserted (map.insert m k p) k q i
    ∙ ap (λ (r : Option ApState). cond (eqb i k) (Some q) r) (got_inserted m k p i)
    ∙ twice (eqb i k) (Some q) (Some p) (map.get m i)
    ∙ sym (got_inserted m k q i))

-- SELECT with a port and bank 0
abbrev chosen : ℕ → ℕ
chosen n = n * 2 ^ 24

module _ (n : ℕ) (port : n < 256) where
  chosen_kept : bit_and (chosen n + 0) 0xFF00_00FF ≡ chosen n
  chosen_kept =
      let top : bit_and n 0xFF ≡ n = and_mask n 8 ∙ omega arith in
      and_block 24 n 0xFF 0 0xFF (omega arith) (omega arith) ∙ omega (arith, top)

  chosen_bank : bit_and (chosen n) 0xF0 ≡ 0
  chosen_bank =
      let none : bit_and n 0 ≡ 0 = and_zero_r n in
      let same : chosen n ≡ chosen n + 0 = omega arith in
      ap (λ (x : ℕ). bit_and x 0xF0) same ∙ and_block 24 n 0 0 0xF0 (omega arith) (omega arith) ∙ omega (arith, none)

  chosen_port : chosen n / 2 ^ 24 ≡ n
  chosen_port = omega arith

  select_done : (t : TargetState) → t.sticky ≡ false → attempt t (select_of n 0) ≡ done_attempt (record t { select = bit_and (chosen n + 0) 0xFF00_00FF })
  unfolding attempt
  select_done t clear = rw clear refl

  select_write : (t : TargetState) → t.sticky ≡ false → attempt t (select_of n 0) ≡ done_attempt (record t { select = chosen n })
  select_write t clear = select_done t clear ∙ ap (λ (v : ℕ). done_attempt (record t { select = v })) chosen_kept

  -- where a port is selected with bank 0
  module _ (t : TargetState) (p : ApState) (clear : t.sticky ≡ false) (power : acknowledges t 0x1000_0000 ≡ true) (at : t.select ≡ chosen n) (some : map.get t.aps n ≡ Some p) where
    here : t.select / 2 ^ 24 ≡ n
    here = ap (λ (x : ℕ). x / 2 ^ 24) at ∙ chosen_port

    bank : bit_and t.select 0xF0 ≡ 0
    bank = ap (λ (x : ℕ). bit_and x 0xF0) at ∙ chosen_bank

    there : map.get t.aps (t.select / 2 ^ 24) ≡ Some p
    there = ap (map.get t.aps) here ∙ some

    csw_read : attempt t (ap_access_of true 0 0) ≡ posted_attempt (bit_or p.csw 0x40) t
    unfolding attempt
    csw_read = rw (clear, power, there, bank) refl

    csw_write : (v : ℕ) → attempt t (ap_access_of false 0 v) ≡ done_attempt (with_ap t (record p { csw = stored_csw v }))
    unfolding attempt
    csw_write v = rw (clear, power, there, bank) refl

    tar_write : (v : ℕ) → attempt t (ap_access_of false 4 v) ≡ done_attempt (with_ap t (record p { tar = v }))
    unfolding attempt
    tar_write v = rw (clear, power, there, bank) refl

    placed : (q : ApState) → done_attempt (with_ap t q) ≡ done_attempt (record t { aps = map.insert t.aps n q })
    placed q = ap (λ (i : ℕ). done_attempt (record t { aps = map.insert t.aps i q })) here

  module _ (t : TargetState) (p : ApState) (size address : ℕ) (clear : t.sticky ≡ false) (power : acknowledges t 0x1000_0000 ≡ true) (some : map.get t.aps n ≡ Some p) where
    abbrev csw : ℕ
    csw = bit_or p.csw 0x40

    -- after SELECT, after the read of CSW, and after the write of CSW
    abbrev selected : TargetState
    selected = record t { select = chosen n }

    abbrev shown : TargetState
    shown = record selected { rdbuff = csw }

    abbrev sized_port : ApState
    sized_port = record p { csw = stored_csw (csw_for csw size) }

    abbrev sized : TargetState
    sized = record shown { aps = map.insert t.aps n sized_port }

    first_two : in_order t (csw_actions n) ≡ posted_attempt csw selected
    first_two = ap (λ (x : Attempt). then_acted x (Makes (ap_access_of true 0 0))) (select_write t clear) ∙ csw_read selected p clear power refl some

    third : attempt shown (ap_access_of false 0 (csw_for csw size)) ≡ done_attempt sized
    third = csw_write shown p clear power refl some (csw_for csw size) ∙ placed shown p clear power refl some sized_port

    sized_there : map.get sized.aps n ≡ Some sized_port
    sized_there = got_inserted t.aps n sized_port n ∙ cond-true _ _ _ (eq-eqb n n refl)

    fourth : attempt sized (ap_access_of false 4 address) ≡ done_attempt (record shown { aps = map.insert t.aps n (aimed_port p size address) })
    fourth =
        tar_write sized sized_port clear power refl sized_there address
        ∙ placed sized sized_port clear power refl sized_there (aimed_port p size address)
        ∙ ap (λ (m : map.FinMap nat_cmp ApState). done_attempt (record shown { aps = m })) (inserted_twice t.aps n sized_port (aimed_port p size address))

    pub aimed : in_order t (aim_actions t n size address) ≡ done_attempt (aimed_target t n p size address)
    aimed =
        ap (λ (x : Attempt). then_acted (then_acted x (Makes (ap_access_of false 0 (csw_for (given_number x.outcome) size)))) (Makes (ap_access_of false 4 address))) first_two
        ∙ ap (λ (x : Attempt). then_acted x (Makes (ap_access_of false 4 address))) third
        ∙ fourth
