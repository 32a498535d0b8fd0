-- Polls of CTRL/STAT: reads that all show the same, and none of which matches, are counted.
use Rattle.std.proofs.Common.{◌≡◌, ◌∙◌, ◌⊎◌, inl, inr, ℕ, zero, suc, ◌+◌, ◌-◌, ◌^◌, ◌<◌, ◌≤◌, ◌&&◌, not, Bool, true, false, cond, eqb, leb, refl, sym, ap, arith, bit_and, eq-eqb, ne_eqb, ltb}
use Rattle.std.specs.Prelude.{min}
use Rattle.std.proofs.lemmas.Bool.{le-leb, lt-leb, leb-true, leb-false, ltb-true, lt-ltb, and_parts}
use Rattle.std.specs.Int.Bits.{and_zero_l}
use Rattle.dap_base.specs.Bits.{has_bit}
use Rattle.target_machine.specs.Attempt.{Attempt, answers, attempt, bank, ctrl_stat, dp_read, is_free, with_bit}
use Rattle.target_machine.specs.Plain.{Polled, dp_read_of, poll_read, poll_result}
use Rattle.target_machine.specs.PollCounts.{is_match, reads_counted}
use Rattle.target_machine.specs.State.{TargetState}
use Rattle.target_machine.specs.declared.access.Outcome.TheVariants.{Value, Fault}

-- ---- one read with DPBANKSEL 0

not_stuck : (b f : Bool) (x y z : Attempt) → f ≡ true → y ≡ z → cond (b && not f) x y ≡ z
not_stuck true true x y z e h = h
not_stuck true false x y z e h = absurd (cc)
not_stuck false f x y z e h = h

plain_free : (t : TargetState) → bank t ≡ 0 → is_free t (dp_read_of 4) ≡ true
unfolding is_free
plain_free t e = ap (λ n. eqb n 0) e

pub reads_plain : (t : TargetState) → bank t ≡ 0 → attempt t (dp_read_of 4) ≡ answers (ctrl_stat t) (reads_counted t 1)
unfolding attempt
reads_plain t e =
    not_stuck t.sticky (is_free t (dp_read_of 4)) (record { outcome = Fault; next = t }) (dp_read t 4) (answers (ctrl_stat t) (reads_counted t 1)) (plain_free t e)
    (ap (λ n. cond (eqb n 0) (answers (ctrl_stat t) (reads_counted t 1)) (answers 0 t)) e)

-- ---- what is shown while reads are counted

-- CTRL/STAT where power-up is acknowledged by so many reads or not
abbrev shown_if : TargetState → Bool → ℕ
shown_if t b =
    with_bit t.sticky 0x20 (with_bit (has_bit t.ctrl 0x1000_0000 && b) 0x2000_0000 (with_bit (has_bit t.ctrl 0x4000_0000 && b) 0x8000_0000 t.ctrl))

same_shown : (t : TargetState) (n : ℕ) → leb t.power_reads (min (t.reads + n) (2 ^ 32 - 1)) ≡ leb t.power_reads t.reads → ctrl_stat (reads_counted t n) ≡ ctrl_stat t
same_shown t n e = ap (shown_if t) e

-- So many reads all show the same: power-up is acknowledged at the first, or not before the last.
abbrev pub AreSteady : TargetState → ℕ → Type 0
AreSteady t n = (t.power_reads ≤ t.reads) ⊎ (t.reads + n ≤ t.power_reads)

next_shown : (t : TargetState) (k : ℕ) → t.power_reads < 2 ^ 32 → 0 < k → AreSteady t (suc k) → ctrl_stat (reads_counted t 1) ≡ ctrl_stat t
next_shown t k fits some (inl h) =
    same_shown t 1 (le-leb t.power_reads (min (t.reads + 1) (2 ^ 32 - 1)) (omega arith) ∙ sym (le-leb t.power_reads t.reads h))
next_shown t k fits some (inr h) =
    same_shown t 1 (lt-leb t.power_reads (min (t.reads + 1) (2 ^ 32 - 1)) (omega arith) ∙ sym (lt-leb t.power_reads t.reads (omega arith)))

next_steady : (t : TargetState) (k : ℕ) → t.power_reads < 2 ^ 32 → AreSteady t (suc k) → AreSteady (reads_counted t 1) k
next_steady t k fits (inl h) = inl (omega arith)
next_steady t k fits (inr h) = inr (omega arith)

-- ---- reads that do not match

-- so many reads more were made before
abbrev pub after_reads : ℕ → Polled → Polled
after_reads n x = record x { reads = n + x.reads }

-- where there is a read, CTRL/STAT does not show the value
abbrev pub Misses : TargetState → ℕ → ℕ → ℕ → Type 0
Misses t mask requested n = 0 < n → eqb (bit_and (ctrl_stat t) mask) requested ≡ false

missed_one : (b : Bool) (x : Polled) (u : TargetState) → b ≡ false →
    cond b (record { outcome = Value 1; reads = 1; next = u }) (record x { reads = x.reads + 1 }) ≡ record x { reads = x.reads + 1 }
missed_one true x u e = absurd (cc)
missed_one false x u e = refl

matched_one : (b : Bool) (x : Polled) (u : TargetState) → b ≡ true →
    cond b (record { outcome = Value 1; reads = 1; next = u }) (record x { reads = x.reads + 1 }) ≡ record { outcome = Value 1; reads = 1; next = u }
matched_one true x u e = refl
matched_one false x u e = absurd (cc)

module _ (mask requested : ℕ) where
  first_read : (n : ℕ) (t : TargetState) → bank t ≡ 0 →
      poll_result (suc n) mask requested t ≡ poll_read (Value (ctrl_stat t)) (reads_counted t 1) mask requested (poll_result n mask requested (reads_counted t 1))
  unfolding poll_result
  first_read n t e = ap (λ (x : Attempt). poll_read x.outcome x.next mask requested (poll_result n mask requested x.next)) (reads_plain t e)

  -- the first read matches
  pub polled_match : (n : ℕ) (t : TargetState) → bank t ≡ 0 → 0 < n → eqb (bit_and (ctrl_stat t) mask) requested ≡ true →
      poll_result n mask requested t ≡ record { outcome = Value 1; reads = 1; next = reads_counted t 1 }
  polled_match zero t e some hit = absurd (omega (arith, some))
  polled_match (suc n) t e some hit =
      first_read n t e ∙ matched_one (eqb (bit_and (ctrl_stat t) mask) requested) (poll_result n mask requested (reads_counted t 1)) (reads_counted t 1) hit

  -- reads that show the same, and do not match
  pub polled_misses : (n more : ℕ) (t : TargetState) → bank t ≡ 0 → t.power_reads < 2 ^ 32 → t.reads < 2 ^ 32 → AreSteady t n → Misses t mask requested n →
      poll_result (n + more) mask requested t ≡ after_reads n (poll_result more mask requested (reads_counted t n))
  polled_misses zero more t e fits few steady miss =
      let none : zero + more ≡ more = omega arith in
      let here : min (t.reads + 0) (2 ^ 32 - 1) ≡ t.reads = omega arith in
      let count : (poll_result more mask requested t).reads ≡ 0 + (poll_result more mask requested t).reads = omega arith in
      ap (λ (k : ℕ). poll_result k mask requested t) none
      ∙ ap (λ (r : ℕ). record (poll_result more mask requested t) { reads = r }) count
      ∙ ap (λ (r : ℕ). after_reads 0 (poll_result more mask requested (record t { reads = r }))) (sym here)
  polled_misses (suc n) more t e fits few steady miss =
      let one : suc n + more ≡ suc (n + more) = omega arith in
      let u : TargetState = reads_counted t 1 in
      let hit : eqb (bit_and (ctrl_stat t) mask) requested ≡ false = miss (omega arith) in
      let more_miss : Misses u mask requested n = λ some. ap (λ (v : ℕ). eqb (bit_and v mask) requested) (next_shown t n fits some steady) ∙ hit in
      let reads : min (min (t.reads + 1) (2 ^ 32 - 1) + n) (2 ^ 32 - 1) ≡ min (t.reads + suc n) (2 ^ 32 - 1) = omega arith in
      let sum : n + (poll_result more mask requested (reads_counted t (suc n))).reads + 1 ≡ suc n + (poll_result more mask requested (reads_counted t (suc n))).reads = omega arith in
      ap (λ (k : ℕ). poll_result k mask requested t) one
      ∙ first_read (n + more) t e
      ∙ missed_one (eqb (bit_and (ctrl_stat t) mask) requested) (poll_result (n + more) mask requested u) u hit
      ∙ ap (λ (x : Polled). record x { reads = x.reads + 1 }) (polled_misses n more u e fits (omega arith) (next_steady t n fits steady) more_miss)
      ∙ ap (λ (r : ℕ). record (after_reads n (poll_result more mask requested (record t { reads = r }))) { reads = n + (poll_result more mask requested (record t { reads = r })).reads + 1 }) reads
      ∙ ap (λ (r : ℕ). record (poll_result more mask requested (reads_counted t (suc n))) { reads = r }) sum

  pub polled_none : (t : TargetState) → poll_result 0 mask requested t ≡ record { outcome = Value 0; reads = 0; next = t }
  unfolding poll_result
  polled_none t = refl

  -- no read matches
  pub polled_all : (n : ℕ) (t : TargetState) → bank t ≡ 0 → t.power_reads < 2 ^ 32 → t.reads < 2 ^ 32 → AreSteady t n → Misses t mask requested n →
      poll_result n mask requested t ≡ record { outcome = Value 0; reads = n; next = reads_counted t n }
  polled_all n t e fits few steady miss =
      let whole : n ≡ n + 0 = omega arith in
      ap (λ (k : ℕ). poll_result k mask requested t) whole
      ∙ polled_misses n 0 t e fits few steady miss
      ∙ ap (after_reads n) (polled_none (reads_counted t n))
      ∙ ap (λ (k : ℕ). record { outcome = Value 0; reads = k; next = reads_counted t n }) (sym whole)

-- ---- the poll, by what is counted

second : (x y : Bool) → (x && y) ≡ false → x ≡ true → y ≡ false
second true y e h = e
second false y e h = absurd (cc)

module _ (t : TargetState) (mask requested : ℕ) where
  hits : (n : ℕ) → is_match t mask requested n ≡ true → (0 < n) × (eqb (bit_and (ctrl_stat t) mask) requested ≡ true)
  hits n e = let h = and_parts (ltb 0 n) (eqb (bit_and (ctrl_stat t) mask) requested) e in (ltb-true 0 n h.0, h.1)

  misses : (n : ℕ) → is_match t mask requested n ≡ false → Misses t mask requested n
  misses n e = λ some. second (ltb 0 n) (eqb (bit_and (ctrl_stat t) mask) requested) e (lt-ltb 0 n some)

steady_before : (t : TargetState) (m : ℕ) → m ≤ t.power_reads - t.reads → AreSteady t m
steady_before t m few = by_order (leb t.power_reads t.reads) refl
  where
    by_order : (b : Bool) → leb t.power_reads t.reads ≡ b → AreSteady t m
    by_order true e = inl (leb-true t.power_reads t.reads e)
    by_order false e = let more = leb-false t.power_reads t.reads e in inr (omega (arith, more, few))

-- after the reads before an acknowledgement, or after all
steady_after : (power reads n m after : ℕ) → power < 2 ^ 32 → m ≡ min n (power - reads) → after ≡ min (reads + m) (2 ^ 32 - 1) → (power ≤ after) ⊎ (after + (n - m) ≤ power)
steady_after power reads n m after fits is now = by_order (leb power after) refl
  where
    by_order : (b : Bool) → leb power after ≡ b → (power ≤ after) ⊎ (after + (n - m) ≤ power)
    by_order true e = inl (leb-true power after e)
    by_order false e = let more = leb-false power after e in inr (omega (arith, more, fits, is, now))

module _ (t : TargetState) (mask requested n m : ℕ) (here : bank t ≡ 0) (fits : t.power_reads < 2 ^ 32) (few : t.reads < 2 ^ 32) (is : m ≡ min n (t.power_reads - t.reads)) where
  -- the first read matches, before an acknowledgement
  pub first_matches : is_match t mask requested m ≡ true → poll_result n mask requested t ≡ record { outcome = Value 1; reads = 1; next = reads_counted t 1 }
  first_matches e = let h = hits t mask requested m e in polled_match mask requested n t here (omega (arith, h.0, is)) h.1

  module _ (u : TargetState) (then : u ≡ reads_counted t m) (missed : is_match t mask requested m ≡ false) where
    up_to : poll_result n mask requested t ≡ after_reads m (poll_result (n - m) mask requested u)
    up_to =
        let whole : n ≡ m + (n - m) = omega (arith, is) in
        ap (λ (k : ℕ). poll_result k mask requested t) whole
        ∙ polled_misses mask requested m (n - m) t here fits few (steady_before t m (omega (arith, is))) (misses t mask requested m missed)
        ∙ ap (λ (x : TargetState). after_reads m (poll_result (n - m) mask requested x)) (sym then)

    u_here : bank u ≡ 0
    u_here = ap (λ (x : TargetState). bank x) then ∙ here

    -- the first one of those that may be acknowledged matches
    pub later_matches : is_match u mask requested (n - m) ≡ true → poll_result n mask requested t ≡ record { outcome = Value 1; reads = m + 1; next = reads_counted u 1 }
    later_matches e = let h = hits u mask requested (n - m) e in up_to ∙ ap (after_reads m) (polled_match mask requested (n - m) u u_here h.0 h.1)

    -- none matches
    pub none_matches : is_match u mask requested (n - m) ≡ false → poll_result n mask requested t ≡ record { outcome = Value 0; reads = n; next = reads_counted u (n - m) }
    none_matches e =
        let same_power : u.power_reads ≡ t.power_reads = ap (λ (x : TargetState). x.power_reads) then in
        let counted : u.reads ≡ min (t.reads + m) (2 ^ 32 - 1) = ap (λ (x : TargetState). x.reads) then in
        let u_fits : u.power_reads < 2 ^ 32 = omega (arith, same_power, fits) in
        let u_few : u.reads < 2 ^ 32 = omega (arith, counted) in
        let steady : AreSteady u (n - m) = steady_after u.power_reads t.reads n m u.reads u_fits (omega (arith, is, same_power)) counted in
        let whole : m + (n - m) ≡ n = omega (arith, is) in
        up_to
        ∙ ap (after_reads m) (polled_all mask requested (n - m) u u_here u_fits u_few steady (misses u mask requested (n - m) e))
        ∙ ap (λ (k : ℕ). record { outcome = Value 0; reads = k; next = reads_counted u (n - m) }) whole

-- ---- with another DPBANKSEL address 0x4 is no CTRL/STAT, and reads 0

module _ (t : TargetState) (other : bank t ≡ 0 → ⊥) where
  stuck : t.sticky ≡ true → attempt t (dp_read_of 4) ≡ record { outcome = Fault; next = t }
  unfolding attempt is_free
  stuck e = rw e (rw (ne_eqb (bank t) 0 other) refl)

  reads_zero : t.sticky ≡ false → attempt t (dp_read_of 4) ≡ answers 0 t
  unfolding attempt is_free
  reads_zero e = rw e (rw (ne_eqb (bank t) 0 other) refl)

  module _ (mask requested : ℕ) where
    pub elsewhere_fault : (n : ℕ) → 0 < n → t.sticky ≡ true → poll_result n mask requested t ≡ record { outcome = Fault; reads = 1; next = t }
    unfolding poll_result
    elsewhere_fault zero some e = absurd (omega (arith, some))
    elsewhere_fault (suc n) some e = ap (λ (x : Attempt). poll_read x.outcome x.next mask requested (poll_result n mask requested x.next)) (stuck e)

    pub elsewhere_match : (n : ℕ) → 0 < n → t.sticky ≡ false → 0 ≡ requested → poll_result n mask requested t ≡ record { outcome = Value 1; reads = 1; next = t }
    unfolding poll_result
    elsewhere_match zero some e hit = absurd (omega (arith, some))
    elsewhere_match (suc n) some e hit =
        ap (λ (x : Attempt). poll_read x.outcome x.next mask requested (poll_result n mask requested x.next)) (reads_zero e)
        ∙ matched_one (eqb (bit_and 0 mask) requested) (poll_result n mask requested t) t (eq-eqb (bit_and 0 mask) requested (and_zero_l mask ∙ hit))

    pub elsewhere_all : (n : ℕ) → t.sticky ≡ false → (0 ≡ requested → ⊥) → poll_result n mask requested t ≡ record { outcome = Value 0; reads = n; next = t }
    unfolding poll_result
    elsewhere_all zero e miss = refl
    elsewhere_all (suc n) e miss =
        let more : n + 1 ≡ suc n = omega arith in
        ap (λ (x : Attempt). poll_read x.outcome x.next mask requested (poll_result n mask requested x.next)) (reads_zero e)
        ∙ missed_one (eqb (bit_and 0 mask) requested) (poll_result n mask requested t) t (ne_eqb (bit_and 0 mask) requested (λ h. miss (sym (and_zero_l mask) ∙ h)))
        ∙ ap (λ (x : Polled). record x { reads = x.reads + 1 }) (elsewhere_all n e miss)
        ∙ ap (λ (k : ℕ). record { outcome = Value 0; reads = k; next = t }) more
