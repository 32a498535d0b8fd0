-- A read of a word and of BASE by an access port, one access at a time.
use Rattle.std.proofs.Common.{◌≡◌, ◌∙◌, ℕ, ◌+◌, ◌-◌, ◌*◌, ◌/◌, ◌%◌, ◌^◌, ◌<◌, Bool, true, false, cond, eqb, ◌==◌, [], ◌∷◌, Some, refl, sym, ap, arith, bit_and, bit_or}
use Rattle.std.specs.FinMap as map
use Rattle.std.specs.Ordering.{nat_cmp}
use Rattle.std.proofs.lemmas.Bool.{eq-eqb, eqb-true, cond-true}
use Rattle.std.proofs.lemmas.Nat.{and_assoc, and_block, and_le_r, and_mask}
use Rattle.std.specs.Int.Bits.{and_zero_r}
use Rattle.target_machine.proofs.AimLemmas.{inserted_twice}
use Rattle.target_machine.proofs.Maps.{got_inserted, same_map}
use Rattle.target_machine.specs.Attempt.{Attempt, above, acknowledges, attempt, done_attempt, drw_address, drw_read, lanes, memory_read, next_tar, posted_attempt, read_through, size_of, stored_csw, with_ap}
use Rattle.target_machine.specs.Memory.{word_read}
use Rattle.target_machine.specs.Plain.{Makes, ap_access_of, csw_actions, csw_for, dp_write_of, drw_of, given_number, in_order, memory_actions, select_of, then_acted}
use Rattle.target_machine.specs.State.{TargetState}
use Rattle.target_machine.specs.declared.ap.ApState.{ApState}

-- ---- the numbers of CSW

module _ (c : ℕ) where
  abbrev sized : ℕ
  sized = csw_for c 4

  -- what is kept of CSW
  abbrev kept_bits : ℕ
  kept_bits = bit_and c 0xFFFF_FFC8

  kept_eight : kept_bits % 8 ≡ 0
  kept_eight = sym (and_mask kept_bits 3) ∙ and_assoc 7 c 0xFFFF_FFC8 ∙ and_zero_r c

  kept_some : kept_bits % 64 ≡ bit_and c 8
  kept_some = sym (and_mask kept_bits 6) ∙ and_assoc 63 c 0xFFFF_FFC8

  eight : bit_and c 8 < 9
  eight = let le = and_le_r c 8 in omega (arith, le)

  size_bits : bit_and (stored_csw sized) 7 ≡ 2
  size_bits = and_assoc 7 sized 0xFF00_003F ∙ and_mask sized 3 ∙ (let none = kept_eight in omega (arith, none))

  pub csw_size_is : size_of (stored_csw sized) ≡ Some 4
  csw_size_is = let two = size_bits in rw two refl

  pub csw_still : bit_and (stored_csw sized) 0x30 ≡ 0
  csw_still =
      and_assoc 0x30 sized 0xFF00_003F
      ∙ (let split : sized ≡ sized / 16 * 2 ^ 4 + sized % 16 = omega arith in ap (λ (x : ℕ). bit_and x 0x30) split)
      ∙ and_block 4 (sized / 16) 3 (sized % 16) 0 (omega arith) (omega arith)
      ∙ (let top = and_mask (sized / 16) 2 in let none = and_zero_r (sized % 16) in let some = kept_some in let few = eight in omega (arith, top, none, some, few))

-- a port whose upper word is written as 0 points into the first 4 GB
pub above_raised : (l : Bool) (q : ApState) (upper tar : ℕ) → upper ≡ 0 → q.large ≡ l → above (record (cond l (record q { high = upper }) q) { tar = tar }) ≡ 0
above_raised true q upper tar none e = rw e (omega (arith, none))
above_raised false q upper tar none e = rw e refl

-- and so does one whose upper word is 0
pub above_low : (l : Bool) (q : ApState) (tar : ℕ) → q.high ≡ 0 → q.large ≡ l → above (record q { tar = tar }) ≡ 0
above_low true q tar none e = rw e (omega (arith, none))
above_low false q tar none e = rw e refl

-- the same value at a key
pub same_inserted : {V : Type 0} (m : map.FinMap nat_cmp V) (k : ℕ) (v : V) → map.get m k ≡ Some v → map.insert m k v ≡ m
same_inserted {V = V} m k v is = same_map _ _ (λ q. got_inserted m k v q ∙ by_test q (eqb q k) refl)
  where
    by_test : (q : ℕ) (b : Bool) → eqb q k ≡ b → cond b (Some v) (map.get m q) ≡ map.get m q
    by_test q true e = sym is ∙ ap (map.get m) (sym (eqb-true q k e))
    by_test q false e = refl

module _ (n : ℕ) (port : n < 256) where
  -- ---- SELECT

  module _ (r : ℕ) (low : r < 256) where
    abbrev chosen : ℕ
    chosen = n * 2 ^ 24 + r

    chosen_kept : bit_and chosen 0xFF00_00FF ≡ chosen
    chosen_kept =
        let top : bit_and n 0xFF ≡ n = and_mask n 8 ∙ omega arith in
        let rest : bit_and r 0xFF ≡ r = and_mask r 8 ∙ omega arith in
        and_block 24 n 0xFF r 0xFF (omega arith) (omega arith) ∙ omega (arith, top, rest)

    select_done : (t : TargetState) → t.sticky ≡ false → attempt t (dp_write_of 8 chosen) ≡ done_attempt (record t { select = bit_and chosen 0xFF00_00FF })
    unfolding attempt
    select_done t clear = rw clear refl

    select_write : (t : TargetState) → t.sticky ≡ false → attempt t (dp_write_of 8 chosen) ≡ done_attempt (record t { select = chosen })
    select_write t clear = select_done t clear ∙ ap (λ (v : ℕ). done_attempt (record t { select = v })) chosen_kept

  -- the port is selected, with a bank
  record Chosen (t : TargetState) (p : ApState) (r : ℕ) : Type 0 where
    clear : t.sticky ≡ false
    power : acknowledges t 0x1000_0000 ≡ true
    at : t.select ≡ n * 2 ^ 24 + r
    some : map.get t.aps n ≡ Some p

  -- its registers are others
  abbrev put : TargetState → ApState → TargetState
  put t q = record t { aps = map.insert t.aps n q }

  put_twice : (t : TargetState) (p q : ApState) → put (put t p) q ≡ put t q
  put_twice t p q = ap (λ (m : map.FinMap nat_cmp ApState). record t { aps = m }) (inserted_twice t.aps n p q)

  pub got_put : (t : TargetState) (q : ApState) → map.get (put t q).aps n ≡ Some q
  got_put t q = got_inserted t.aps n q n ∙ cond-true _ _ _ (eq-eqb n n refl)

  module _ (t : TargetState) (p : ApState) (r : ℕ) (low : r < 256) (c : Chosen t p r) where
    here : t.select / 2 ^ 24 ≡ n
    here = ap (λ (x : ℕ). x / 2 ^ 24) c.at ∙ omega arith

    bank : bit_and t.select 0xF0 ≡ bit_and r 0xF0
    bank = ap (λ (x : ℕ). bit_and x 0xF0) c.at ∙ and_block 24 n 0 r 0xF0 (omega arith) (omega arith) ∙ (let none = and_zero_r n in omega (arith, none))

    there : map.get t.aps (t.select / 2 ^ 24) ≡ Some p
    there = ap (map.get t.aps) here ∙ c.some

    placed : (q : ApState) → done_attempt (with_ap t q) ≡ done_attempt (put t q)
    placed q = ap (λ (i : ℕ). done_attempt (record t { aps = map.insert t.aps i q })) here

  module _ (t : TargetState) (p : ApState) (c : Chosen t p 0) where
    none_bank : bit_and t.select 0xF0 ≡ 0
    none_bank = bank t p 0 (omega arith) c

    csw_read : attempt t (ap_access_of true 0 0) ≡ posted_attempt (bit_or p.csw 0x40) t
    unfolding attempt
    csw_read = let at = there t p 0 (omega arith) c in rw (c.clear, c.power, at, none_bank) refl

    csw_done : (v : ℕ) → attempt t (ap_access_of false 0 v) ≡ done_attempt (with_ap t (record p { csw = stored_csw v }))
    unfolding attempt
    csw_done v = let at = there t p 0 (omega arith) c in rw (c.clear, c.power, at, none_bank) refl

    csw_write : (v : ℕ) → attempt t (ap_access_of false 0 v) ≡ done_attempt (put t (record p { csw = stored_csw v }))
    csw_write v = csw_done v ∙ placed t p 0 (omega arith) c (record p { csw = stored_csw v })

    high_done : (v : ℕ) → attempt t (ap_access_of false 8 v) ≡ done_attempt (with_ap t (cond p.large (record p { high = v }) p))
    unfolding attempt
    high_done v = let at = there t p 0 (omega arith) c in rw (c.clear, c.power, at, none_bank) refl

    high_write : (v : ℕ) → attempt t (ap_access_of false 8 v) ≡ done_attempt (put t (cond p.large (record p { high = v }) p))
    high_write v = high_done v ∙ placed t p 0 (omega arith) c (cond p.large (record p { high = v }) p)

    tar_done : (v : ℕ) → attempt t (ap_access_of false 4 v) ≡ done_attempt (with_ap t (record p { tar = v }))
    unfolding attempt
    tar_done v = let at = there t p 0 (omega arith) c in rw (c.clear, c.power, at, none_bank) refl

    tar_write : (v : ℕ) → attempt t (ap_access_of false 4 v) ≡ done_attempt (put t (record p { tar = v }))
    tar_write v = tar_done v ∙ placed t p 0 (omega arith) c (record p { tar = v })

    drw_reads : attempt t (ap_access_of true 12 0) ≡ drw_read t p (size_of p.csw)
    unfolding attempt
    drw_reads = let at = there t p 0 (omega arith) c in rw (c.clear, c.power, at, none_bank) refl

    -- a word at an address that the port points to
    drw_gives : (address csw : ℕ) → p.csw ≡ stored_csw (csw_for csw 4) → above p ≡ 0 → p.tar ≡ address → address % 4 ≡ 0
        → attempt t (ap_access_of true 12 0) ≡ read_through t (put t p) 0xFFFF_FFFF (word_read t.words address).value (word_read t.words address).next
    drw_gives address csw is none tar aligned =
        drw_reads
        ∙ ap (drw_read t p) (ap size_of is ∙ csw_size_is csw)
        ∙ ap (λ (b : Bool). memory_read t (with_ap t (record p { tar = cond b (next_tar t.carry p.tar 4) p.tar })) (drw_address p) (lanes 4 p.tar)) still
        ∙ ap (λ (k : ℕ). memory_read t (with_ap t p) (drw_address p) ((2 ^ 32 - 1) * 2 ^ (8 * k))) whole
        ∙ ap (λ (a : ℕ). memory_read t (with_ap t p) a 0xFFFF_FFFF) word
        ∙ ap (λ (i : ℕ). memory_read t (record t { aps = map.insert t.aps i p }) address 0xFFFF_FFFF) (here t p 0 (omega arith) c)
      where
        still : (bit_and p.csw 0x30 == 0x10) ≡ false
        still = ap (λ (x : ℕ). bit_and x 0x30 == 0x10) is ∙ (let none = csw_still csw in rw none refl)

        whole : p.tar / 4 * 4 % 4 ≡ 0
        whole = omega arith

        word : drw_address p ≡ address
        word = omega (arith, none, tar, aligned)

  -- ---- BASE

  base_read : (t : TargetState) (p : ApState) (c : Chosen t p 0xF0) → attempt t (ap_access_of true 8 0) ≡ posted_attempt p.base t
  unfolding attempt
  base_read t p c = let at = there t p 0xF0 (omega arith) c in let high = bank t p 0xF0 (omega arith) c in rw (c.clear, c.power, at, high) refl

  pub base_gives : (t : TargetState) (p : ApState) → t.sticky ≡ false → acknowledges t 0x1000_0000 ≡ true → map.get t.aps n ≡ Some p
      → in_order t (Makes (select_of n 15) ∷ Makes (ap_access_of true 8 0) ∷ []) ≡ posted_attempt p.base (record t { select = n * 2 ^ 24 + 240 })
  base_gives t p clear power some =
      ap (λ (x : Attempt). then_acted x (Makes (ap_access_of true 8 0))) (select_write 240 (omega arith) t clear)
      ∙ base_read (record t { select = n * 2 ^ 24 + 240 }) p (record { clear = clear; power = power; at = refl; some = some })

  -- ---- a word

  module _ (t : TargetState) (p : ApState) (address : ℕ) (clear : t.sticky ≡ false) (power : acknowledges t 0x1000_0000 ≡ true) (some : map.get t.aps n ≡ Some p) where
    abbrev csw : ℕ
    csw = bit_or p.csw 0x40

    -- after SELECT and the read of CSW
    abbrev shown : TargetState
    shown = record t { select = n * 2 ^ 24 + 0; rdbuff = csw }

    abbrev pub sized_port : ApState
    sized_port = record p { csw = stored_csw (csw_for csw 4) }

    -- where the upper word is written, or not
    abbrev raised : Bool → ApState
    raised b = cond b (cond p.large (record sized_port { high = address / 2 ^ 32 }) sized_port) sized_port

    -- after the writes
    abbrev pub pointed : Bool → ApState
    pointed b = record (raised b) { tar = address % 2 ^ 32 }

    abbrev pub aimed_at : Bool → TargetState
    aimed_at b = put shown (pointed b)

    chosen_at : (q : ApState) → Chosen (put shown q) q 0
    chosen_at q = record { clear = clear; power = power; at = refl; some = got_put shown q }

    first_two : in_order t (csw_actions n) ≡ posted_attempt csw (record t { select = n * 2 ^ 24 + 0 })
    first_two =
        ap (λ (x : Attempt). then_acted x (Makes (ap_access_of true 0 0))) (select_write 0 (omega arith) t clear)
        ∙ csw_read (record t { select = n * 2 ^ 24 + 0 }) p (record { clear = clear; power = power; at = refl; some = some })

    third : attempt shown (ap_access_of false 0 (csw_for csw 4)) ≡ done_attempt (put shown sized_port)
    third = csw_write shown p (record { clear = clear; power = power; at = refl; some = some }) (csw_for csw 4)

    upper : attempt (put shown sized_port) (ap_access_of false 8 (address / 2 ^ 32)) ≡ done_attempt (put shown (raised true))
    upper = high_write (put shown sized_port) sized_port (chosen_at sized_port) (address / 2 ^ 32) ∙ ap done_attempt (put_twice shown sized_port (raised true))

    lower : (b : Bool) → attempt (put shown (raised b)) (ap_access_of false 4 (address % 2 ^ 32)) ≡ done_attempt (aimed_at b)
    lower b = tar_write (put shown (raised b)) (raised b) (chosen_at (raised b)) (address % 2 ^ 32) ∙ ap done_attempt (put_twice shown (raised b) (pointed b))

    word_made : (b : Bool) → in_order t (memory_actions t b 4 true n address 0) ≡ attempt (aimed_at b) (ap_access_of true 12 0)
    word_made true =
        ap (λ (x : Attempt). then_acted (then_acted (then_acted (then_acted x (Makes (ap_access_of false 0 (csw_for (given_number x.outcome) 4)))) (Makes (ap_access_of false 8 (address / 2 ^ 32)))) (Makes (ap_access_of false 4 (address % 2 ^ 32))))
        (Makes (drw_of true address 0))) first_two
        ∙ ap (λ (x : Attempt). then_acted (then_acted (then_acted x (Makes (ap_access_of false 8 (address / 2 ^ 32)))) (Makes (ap_access_of false 4 (address % 2 ^ 32)))) (Makes (drw_of true address 0))) third
        ∙ ap (λ (x : Attempt). then_acted (then_acted x (Makes (ap_access_of false 4 (address % 2 ^ 32)))) (Makes (drw_of true address 0))) upper
        ∙ ap (λ (x : Attempt). then_acted x (Makes (drw_of true address 0))) (lower true)
    word_made false =
        ap (λ (x : Attempt). then_acted (then_acted (then_acted x (Makes (ap_access_of false 0 (csw_for (given_number x.outcome) 4)))) (Makes (ap_access_of false 4 (address % 2 ^ 32)))) (Makes (drw_of true address 0))) first_two
        ∙ ap (λ (x : Attempt). then_acted (then_acted x (Makes (ap_access_of false 4 (address % 2 ^ 32)))) (Makes (drw_of true address 0))) third
        ∙ ap (λ (x : Attempt). then_acted x (Makes (drw_of true address 0))) (lower false)

    pub word_gives : (b : Bool) → above (pointed b) ≡ 0 → address % 4 ≡ 0 → address < 2 ^ 32
        → in_order t (memory_actions t b 4 true n address 0) ≡ read_through (aimed_at b) (aimed_at b) 0xFFFF_FFFF (word_read t.words address).value (word_read t.words address).next
    word_gives b none aligned low =
        word_made b
        ∙ drw_gives (aimed_at b) (pointed b) (chosen_at (pointed b)) address csw (sized_is b) none (tar_is b) aligned
        ∙ ap (λ (x : TargetState). read_through (aimed_at b) x 0xFFFF_FFFF (word_read t.words address).value (word_read t.words address).next) (put_twice shown (pointed b) (pointed b))
      where
        sized_is : (b : Bool) → (pointed b).csw ≡ stored_csw (csw_for csw 4)
        sized_is true = by_large p.large
          where
            by_large : (l : Bool) → (cond l (record sized_port { high = address / 2 ^ 32 }) sized_port).csw ≡ stored_csw (csw_for csw 4)
            by_large true = refl
            by_large false = refl
        sized_is false = refl

        tar_is : (b : Bool) → address % 2 ^ 32 ≡ address
        tar_is b = omega (arith, low)
