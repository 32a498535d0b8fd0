-- Bytes of an image in the words of a memory.
use Rattle.std.proofs.Common.{◌≡◌, ◌∙◌, ℕ, ◌+◌, ◌-◌, ◌*◌, ◌/◌, ◌%◌, ◌^◌, ◌<◌, ◌&&◌, Bool, true, false, cond, eqb, [], ◌∷◌, Option, None, Some, refl, sym, ap, arith, fold}
use Rattle.std.specs.FinMap as map
use Rattle.std.specs.List.{AllByRecursion}
use Rattle.std.proofs.lemmas.Bool.{cond-true, eq-eqb, eqb-true}
use Rattle.hex_image.specs.Image.{Bytes}
use Rattle.target_machine.proofs.Maps.{got_inserted, same_map}
use Rattle.target_machine.specs.Attempt.{lanes}
use Rattle.target_machine.specs.Memory.{Cell, Memory, merged_word, shown_value, with_values}
use Rattle.target_machine.specs.Plain.{to_lanes}
use Rattle.image_load.specs.Laid.{laid_memory, with_byte, word_with}
use Rattle.image_load.specs.Pieces.{are_word_addresses, byte_piece, pieces, word_piece}
use Rattle.image_load.specs.declared.piece.WordOrByte.{WordOrByte}
use Rattle.image_load.proofs.LaneLemmas.{four_lanes, replaced, whole_word}

-- ---- maps

pub got_it : (m : Memory) (k : ℕ) (c : Cell) → map.get (map.insert m k c) k ≡ Some c
got_it m k c = got_inserted m k c k ∙ cond-true _ _ _ (eq-eqb k k refl)

later_stays : (b : Bool) (x y z : Option Cell) → cond b x (cond b y z) ≡ cond b x z
later_stays true x y z = refl
later_stays false x y z = refl

inserted_twice : (m : Memory) (k : ℕ) (c d : Cell) → map.insert (map.insert m k c) k d ≡ map.insert m k d
inserted_twice m k c d =
    same_map _ _ (λ i. got_inserted (map.insert m k c) k d i ∙ ap (λ (r : Option Cell). cond (eqb i k) (Some d) r) (got_inserted m k c i)
    ∙ later_stays (eqb i k) (Some d) (Some c) (map.get m i) ∙ sym (got_inserted m k d i))

pub inserted_same : (m : Memory) (k : ℕ) (c : Cell) → map.get m k ≡ Some c → map.insert m k c ≡ m
inserted_same m k c there = same_map _ _ (λ i. got_inserted m k c i ∙ by_key i (eqb i k) refl)
  where
    by_key : (i : ℕ) (b : Bool) → eqb i k ≡ b → cond b (Some c) (map.get m i) ≡ map.get m i
    by_key i true e = sym there ∙ ap (map.get m) (sym (eqb-true i k e))
    by_key i false e = refl

pub some_same : (m : Memory) (k : ℕ) (c d : Cell) → map.get m k ≡ Some c → map.get m k ≡ Some d → c ≡ d
some_same m k c d x y = (let e : ◌≡◌ {A = Option Cell} (Some c) (Some d) = sym x ∙ y in cc)

-- ---- a piece that is written

abbrev pub word_put : Memory → WordOrByte → Option Cell → Memory
word_put m p None = m
word_put m p (Some c) = map.insert m (p.address / 4 * 4) (with_values c (merged_word (shown_value c) (to_lanes p.address p.value) (lanes p.size p.address) ∷ []))

-- the memory after a piece was written
abbrev pub put : Memory → WordOrByte → Memory
put m p = word_put m p (map.get m (p.address / 4 * 4))

pub with_put : (m : Memory) (b : ℕ × ℕ) → put m (byte_piece b) ≡ with_byte m b
with_put m b = by_word (map.get m (b.0 / 4 * 4))
  where
    by_word : (o : Option Cell) → word_put m (byte_piece b) o ≡ word_with m b o
    by_word None = refl
    by_word (Some c) = refl

-- the lanes of a byte, by its place in the word
lane_is : (n a b r : ℕ) → a % 4 ≡ r → merged_word n (to_lanes a b) (lanes 1 a) ≡ replaced n b r
lane_is n a b r is =
    let same : a / 1 * 1 ≡ a = omega arith in
    ap (λ (x : ℕ). merged_word n (to_lanes a b) ((2 ^ (8 * 1) - 1) * 2 ^ (8 * (x % 4)))) same
    ∙ ap (λ (x : ℕ). merged_word n (b * 2 ^ (8 * x)) ((2 ^ (8 * 1) - 1) * 2 ^ (8 * x))) is

pub byte_at_word : (m : Memory) (k : ℕ) (b : ℕ × ℕ) (r : ℕ) (c : Cell) → b.0 / 4 * 4 ≡ k → b.0 % 4 ≡ r → map.get m k ≡ Some c
    → with_byte m b ≡ map.insert m k (with_values c (replaced (shown_value c) b.1 r ∷ []))
byte_at_word m k b r c at lane there =
    ap (word_with m b) (ap (map.get m) at ∙ there)
    ∙ ap (λ (x : ℕ). map.insert m x (with_values c (merged_word (shown_value c) (to_lanes b.0 b.1) (lanes 1 b.0) ∷ []))) at
    ∙ ap (λ (x : ℕ). map.insert m k (with_values c (x ∷ []))) (lane_is (shown_value c) b.0 b.1 r lane)

pub no_word : (m : Memory) (k : ℕ) (b : ℕ × ℕ) → b.0 / 4 * 4 ≡ k → map.get m k ≡ None → with_byte m b ≡ m
no_word m k b at none = ap (word_with m b) (ap (map.get m) at ∙ none)

-- one more byte of a word
next_byte : (m : Memory) (k : ℕ) (b : ℕ × ℕ) (r v : ℕ) (c : Cell) → b.0 / 4 * 4 ≡ k → b.0 % 4 ≡ r
    → with_byte (map.insert m k (with_values c (v ∷ []))) b ≡ map.insert m k (with_values c (replaced v b.1 r ∷ []))
next_byte m k b r v c at lane =
    byte_at_word (map.insert m k (with_values c (v ∷ []))) k b r (with_values c (v ∷ [])) at lane (got_it m k (with_values c (v ∷ [])))
    ∙ inserted_twice m k (with_values c (v ∷ [])) (with_values c (replaced v b.1 r ∷ []))

module _ (a b c d : ℕ × ℕ) (aligned : a.0 % 4 ≡ 0) (bs : b.0 ≡ a.0 + 1) (cs : c.0 ≡ a.0 + 2) (ds : d.0 ≡ a.0 + 3) where
  word_a : a.0 / 4 * 4 ≡ a.0
  word_a = omega (arith, aligned)

  word_b : b.0 / 4 * 4 ≡ a.0
  word_b = omega (arith, aligned, bs)

  word_c : c.0 / 4 * 4 ≡ a.0
  word_c = omega (arith, aligned, cs)

  word_d : d.0 / 4 * 4 ≡ a.0
  word_d = omega (arith, aligned, ds)

  lane_b : b.0 % 4 ≡ 1
  lane_b = omega (arith, aligned, bs)

  lane_c : c.0 % 4 ≡ 2
  lane_c = omega (arith, aligned, cs)

  lane_d : d.0 % 4 ≡ 3
  lane_d = omega (arith, aligned, ds)

  word : WordOrByte
  word = word_piece a.0 a.1 b.1 c.1 d.1

  word_lanes : lanes 4 a.0 ≡ (2 ^ (8 * 4) - 1) * 2 ^ (8 * 0)
  word_lanes = (let same : a.0 / 4 * 4 % 4 ≡ 0 = omega arith in ap (λ (x : ℕ). (2 ^ (8 * 4) - 1) * 2 ^ (8 * x)) same)

  module _ (al : a.1 < 2 ^ 8) (bl : b.1 < 2 ^ 8) (cl : c.1 < 2 ^ 8) (dl : d.1 < 2 ^ 8) where
    -- a word that is written at once, and its four bytes
    pub word_at_once : (m : Memory) → put m (word_piece a.0 a.1 b.1 c.1 d.1) ≡ with_byte (with_byte (with_byte (with_byte m a) b) c) d
    word_at_once m = by_word (map.get m a.0) refl
      where
        W : ℕ
        W = a.1 + b.1 * 2 ^ 8 + c.1 * 2 ^ 16 + d.1 * 2 ^ 24

        by_word : (o : Option Cell) → map.get m a.0 ≡ o → put m (word_piece a.0 a.1 b.1 c.1 d.1) ≡ with_byte (with_byte (with_byte (with_byte m a) b) c) d
        by_word None none =
            ap (word_put m (word_piece a.0 a.1 b.1 c.1 d.1)) (ap (map.get m) word_a ∙ none)
            ∙ sym (ap (λ (x : Memory). with_byte (with_byte (with_byte x b) c) d) (no_word m a.0 a word_a none)
            ∙ ap (λ (x : Memory). with_byte (with_byte x c) d) (no_word m a.0 b word_b none)
            ∙ ap (λ (x : Memory). with_byte x d) (no_word m a.0 c word_c none)
            ∙ no_word m a.0 d word_d none)
        by_word (Some e) there =
            let v0 : ℕ = replaced (shown_value e) a.1 0 in
            let v1 : ℕ = replaced v0 b.1 1 in
            let v2 : ℕ = replaced v1 c.1 2 in
            let fits : W < 2 ^ 32 = omega (arith, al, bl, cl, dl) in
            ap (word_put m (word_piece a.0 a.1 b.1 c.1 d.1)) (ap (map.get m) word_a ∙ there)
            ∙ ap (λ (x : ℕ). map.insert m x (with_values e (merged_word (shown_value e) (to_lanes a.0 W) (lanes 4 a.0) ∷ []))) word_a
            ∙ ap (λ (x : ℕ). map.insert m a.0 (with_values e (merged_word (shown_value e) (W * 2 ^ (8 * x)) (lanes 4 a.0) ∷ []))) aligned
            ∙ ap (λ (x : ℕ). map.insert m a.0 (with_values e (merged_word (shown_value e) (W * 2 ^ (8 * 0)) x ∷ []))) word_lanes
            ∙ ap (λ (x : ℕ). map.insert m a.0 (with_values e (x ∷ []))) (whole_word (shown_value e) W fits ∙ sym (four_lanes (shown_value e) a.1 b.1 c.1 d.1 al bl cl dl))
            ∙ sym (ap (λ (x : Memory). with_byte (with_byte (with_byte x b) c) d) (byte_at_word m a.0 a 0 e word_a aligned there)
            ∙ ap (λ (x : Memory). with_byte (with_byte x c) d) (next_byte m a.0 b 1 v0 e word_b lane_b)
            ∙ ap (λ (x : Memory). with_byte x d) (next_byte m a.0 c 2 v1 e word_c lane_c)
            ∙ next_byte m a.0 d 3 v2 e word_d lane_d)

-- ---- a word of four bytes

pub record WordParts (a b c d : ℕ) : Type 0 where
  pub aligned : a % 4 ≡ 0
  pub second : b ≡ a + 1
  pub third : c ≡ a + 2
  pub fourth : d ≡ a + 3

pub word_parts : (a b c d : ℕ) → are_word_addresses a b c d ≡ true → WordParts a b c d
word_parts a b c d e = by_first (eqb (a % 4) 0) refl e
  where
    by_fourth : (x : Bool) → a % 4 ≡ 0 → b ≡ a + 1 → c ≡ a + 2 → eqb d (a + 3) ≡ x → x ≡ true → WordParts a b c d
    by_fourth true p q r e h = record { aligned = p; second = q; third = r; fourth = eqb-true d (a + 3) e }
    by_fourth false p q r e h = absurd cc

    by_third : (x : Bool) → a % 4 ≡ 0 → b ≡ a + 1 → eqb c (a + 2) ≡ x → (x && eqb d (a + 3)) ≡ true → WordParts a b c d
    by_third true p q e h = by_fourth (eqb d (a + 3)) p q (eqb-true c (a + 2) e) refl h
    by_third false p q e h = absurd cc

    by_second : (x : Bool) → a % 4 ≡ 0 → eqb b (a + 1) ≡ x → (x && (eqb c (a + 2) && eqb d (a + 3))) ≡ true → WordParts a b c d
    by_second true p e h = by_third (eqb c (a + 2)) p (eqb-true b (a + 1) e) refl h
    by_second false p e h = absurd cc

    by_first : (x : Bool) → eqb (a % 4) 0 ≡ x → (x && (eqb b (a + 1) && (eqb c (a + 2) && eqb d (a + 3)))) ≡ true → WordParts a b c d
    by_first true e h = by_second (eqb b (a + 1)) (eqb-true (a % 4) 0 e) refl h
    by_first false e h = absurd cc

-- pieces that are written one after the other lay the image over the memory
pub laid_by_pieces : (image : Bytes) (m : Memory) → AllByRecursion (λ b. b.1 < 2 ^ 8) image → fold put m (pieces image) ≡ laid_memory m image
laid_by_pieces [] m h = refl
laid_by_pieces (a ∷ []) m h = with_put m a
laid_by_pieces (a ∷ b ∷ []) m h = ap (λ (x : Memory). put x (byte_piece b)) (with_put m a) ∙ with_put (with_byte m a) b
laid_by_pieces (a ∷ b ∷ c ∷ []) m h =
    ap (λ (x : Memory). put (put x (byte_piece b)) (byte_piece c)) (with_put m a)
    ∙ ap (λ (x : Memory). put x (byte_piece c)) (with_put (with_byte m a) b)
    ∙ with_put (with_byte (with_byte m a) b) c
laid_by_pieces (a ∷ b ∷ c ∷ d ∷ rest) m h = by_word (are_word_addresses a.0 b.0 c.0 d.0) refl (laid_by_pieces rest (with_byte (with_byte (with_byte (with_byte m a) b) c) d) h.1.1.1.1) (laid_by_pieces (b ∷ c ∷ d ∷ rest) (with_byte m a) h.1)
  where
    by_word : (t : Bool) → are_word_addresses a.0 b.0 c.0 d.0 ≡ t → fold put (with_byte (with_byte (with_byte (with_byte m a) b) c) d) (pieces rest) ≡ laid_memory (with_byte (with_byte (with_byte (with_byte m a) b) c) d) rest
        → fold put (with_byte m a) (pieces (b ∷ c ∷ d ∷ rest)) ≡ laid_memory (with_byte m a) (b ∷ c ∷ d ∷ rest)
        → fold put m (cond t (word_piece a.0 a.1 b.1 c.1 d.1 ∷ pieces rest) (byte_piece a ∷ pieces (b ∷ c ∷ d ∷ rest))) ≡ laid_memory m (a ∷ b ∷ c ∷ d ∷ rest)
    by_word true e after on =
        let w = word_parts a.0 b.0 c.0 d.0 e in
        ap (λ (x : Memory). fold put x (pieces rest)) (word_at_once a b c d w.aligned w.second w.third w.fourth h.0 h.1.0 h.1.1.0 h.1.1.1.0 m) ∙ after
    by_word false e after on = ap (λ (x : Memory). fold put x (pieces (b ∷ c ∷ d ∷ rest))) (with_put m a) ∙ on
