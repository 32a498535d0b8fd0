-- What the words of a memory show after an image was laid over it.
use Rattle.std.proofs.Common.{◌≡◌, ◌≢◌, ◌∙◌, inl, inr, ℕ, ◌-◌, ◌*◌, ◌/◌, ◌%◌, ◌^◌, ◌<◌, Bool, true, false, cond, eqb, [], ◌∷◌, Option, None, Some, refl, sym, ap, subst, arith, bit_and}
use Rattle.std.specs.FinMap as map
use Rattle.std.specs.List.{AllByRecursion}
use Rattle.std.proofs.lemmas.Bool.{eqb-true}
use Rattle.hex_image.specs.Image.{Bytes}
use Rattle.target_machine.proofs.Maps.{got_inserted}
use Rattle.target_machine.specs.Attempt.{lanes}
use Rattle.target_machine.specs.Memory.{Cell, Memory, merged_word, moved_on, shown_value, with_values}
use Rattle.target_machine.specs.Plain.{from_lanes, to_lanes}
use Rattle.image_load.specs.Laid.{HasRisingAddresses, MayLoad, laid_memory, with_byte}
use Rattle.image_load.specs.Pieces.{IsPiece, are_word_addresses, byte_from_bit, byte_piece, pieces, word_piece}
use Rattle.image_load.specs.declared.piece.WordOrByte.{WordOrByte}
use Rattle.image_load.proofs.CellLemmas.{WordParts, byte_at_word, got_it, no_word, put, some_same, with_put, word_parts, word_put}
use Rattle.image_load.proofs.LaneLemmas.{other_lane, replaced, same_lane, shown_byte, shown_word}

-- ---- words that may be written

-- the word at an address is there, and is not read-only
pub record HasWord (m : Memory) (k : ℕ) : Type 0 where
  pub word : Cell
  pub there : map.get m k ≡ Some word
  pub writable : word.read_only ≡ false

-- a word that is written keeps that it may be written, and so do all others
put_word : (m : Memory) (p : WordOrByte) (k : ℕ) (o : Option Cell) → map.get m (p.address / 4 * 4) ≡ o → HasWord m k → HasWord (word_put m p o) k
put_word m p k None e h = h
put_word m p k (Some c) e h = by_key (eqb k at) refl
  where
    at : ℕ
    at = p.address / 4 * 4

    new : Cell
    new = with_values c (merged_word (shown_value c) (to_lanes p.address p.value) (lanes p.size p.address) ∷ [])

    by_key : (b : Bool) → eqb k at ≡ b → HasWord (map.insert m at new) k
    by_key true same = record {
      word = new;
      there = got_inserted m at new k ∙ ap (λ (b : Bool). cond b (Some new) (map.get m k)) same;
      writable = (let key = eqb-true k at same in let one = some_same m at c h.word e (ap (map.get m) (sym key) ∙ h.there) in ap (λ (x : Cell). x.read_only) one ∙ h.writable);
    }
    by_key false other = record { word = h.word; there = got_inserted m at new k ∙ ap (λ (b : Bool). cond b (Some new) (map.get m k)) other ∙ h.there; writable = h.writable }

pub put_keeps : (m : Memory) (p : WordOrByte) (k : ℕ) → HasWord m k → HasWord (put m p) k
put_keeps m p k h = put_word m p k (map.get m (p.address / 4 * 4)) refl h

byte_keeps : (m : Memory) (b : ℕ × ℕ) (k : ℕ) → HasWord m k → HasWord (with_byte m b) k
byte_keeps m b k h = subst (λ (x : Memory). HasWord x k) (with_put m b) (put_keeps m (byte_piece b) k h)

may_keep : (m : Memory) (b d : ℕ × ℕ) → MayLoad m d → MayLoad (with_byte m b) d
may_keep m b d h =
    let w : HasWord (with_byte m b) (d.0 / 4 * 4) = byte_keeps m b (d.0 / 4 * 4) (record { word = h.word; there = h.there; writable = h.writable }) in
    record { byte = h.byte; low = h.low; word = w.word; there = w.there; writable = w.writable }

may_keep_all : (m : Memory) (b : ℕ × ℕ) (image : Bytes) → AllByRecursion (MayLoad m) image → AllByRecursion (MayLoad (with_byte m b)) image
may_keep_all m b [] h = tt
may_keep_all m b (d ∷ image) h = (may_keep m b d h.0, may_keep_all m b image h.1)

-- ---- bytes that are there

-- a word of one value
abbrev pub one_value : ℕ → Bool → Cell
one_value value read_only = record { values = value ∷ []; place = 0; read_only = read_only }

-- the word of a byte has one value, in which the byte stands in its lane
pub record IsThere (m : Memory) (b : ℕ × ℕ) : Type 0 where
  pub value : ℕ
  pub read_only : Bool
  pub there : map.get m (b.0 / 4 * 4) ≡ Some (one_value value read_only)
  pub is : byte_from_bit value (8 * (b.0 % 4)) ≡ b.1

lane_lt : (n : ℕ) → n % 4 < 4
lane_lt n = omega arith

-- a byte is there after it was laid
put_there : (m : Memory) (b : ℕ × ℕ) → MayLoad m b → IsThere (with_byte m b) b
put_there m b h =
    let value : ℕ = replaced (shown_value h.word) b.1 (b.0 % 4) in
    let word : Cell = one_value value h.word.read_only in
    record {
      value = value;
      read_only = h.word.read_only;
      there = ap (λ (x : Memory). map.get x (b.0 / 4 * 4)) (byte_at_word m (b.0 / 4 * 4) b (b.0 % 4) h.word refl refl h.there) ∙ got_it m (b.0 / 4 * 4) word;
      is = same_lane (shown_value h.word) b.1 (b.0 % 4) h.byte (lane_lt b.0);
    }

-- and stays there when another byte is laid
keep_there : (m : Memory) (b d : ℕ × ℕ) → IsThere m b → d.1 < 2 ^ 8 → b.0 < d.0 → IsThere (with_byte m d) b
keep_there m b d h fits above = by_word (map.get m (d.0 / 4 * 4)) refl
  where
    at : ℕ
    at = d.0 / 4 * 4

    old : Cell
    old = one_value h.value h.read_only

    by_word : (o : Option Cell) → map.get m (d.0 / 4 * 4) ≡ o → IsThere (with_byte m d) b
    by_word None none = subst (λ (x : Memory). IsThere x b) (sym (no_word m at d refl none)) h
    by_word (Some c) some = subst (λ (x : Memory). IsThere x b) (sym (byte_at_word m at d (d.0 % 4) c refl refl some)) (by_key (eqb (b.0 / 4 * 4) at) refl)
      where
        value : ℕ
        value = replaced (shown_value c) d.1 (d.0 % 4)

        new : Cell
        new = with_values c (value ∷ [])

        by_key : (x : Bool) → eqb (b.0 / 4 * 4) at ≡ x → IsThere (map.insert m at new) b
        by_key true same =
            let key : b.0 / 4 * 4 ≡ at = eqb-true (b.0 / 4 * 4) at same in
            let one : c ≡ old = some_same m at c old some (ap (map.get m) (sym key) ∙ h.there) in
            let shown : shown_value c ≡ h.value = ap shown_value one in
            let apart : d.0 % 4 ≢ b.0 % 4 = λ e. omega (arith, e, key, above) in
            record {
              value = value;
              read_only = c.read_only;
              there = got_inserted m at new (b.0 / 4 * 4) ∙ ap (λ (y : Bool). cond y (Some new) (map.get m (b.0 / 4 * 4))) same;
              is = other_lane (shown_value c) d.1 (d.0 % 4) (b.0 % 4) fits (lane_lt d.0) (lane_lt b.0) apart ∙ ap (λ (v : ℕ). byte_from_bit v (8 * (b.0 % 4))) shown ∙ h.is;
            }
        by_key false other = record {
          value = h.value;
          read_only = h.read_only;
          there = got_inserted m at new (b.0 / 4 * 4) ∙ ap (λ (y : Bool). cond y (Some new) (map.get m (b.0 / 4 * 4))) other ∙ h.there;
          is = h.is;
        }

keep_all : (image : Bytes) (m n : Memory) (b : ℕ × ℕ) → IsThere m b → AllByRecursion (λ d. b.0 < d.0) image → AllByRecursion (MayLoad n) image → IsThere (laid_memory m image) b
keep_all [] m n b h above may = h
keep_all (d ∷ image) m n b h above may = keep_all image (with_byte m d) n b (keep_there m b d h may.0.byte above.0) above.1 may.1

-- after an image was laid all its bytes are there
pub laid_there : (image : Bytes) (m : Memory) → HasRisingAddresses image → AllByRecursion (MayLoad m) image → AllByRecursion (IsThere (laid_memory m image)) image
laid_there [] m rising may = tt
laid_there (b ∷ image) m rising may =
    (keep_all image (with_byte m b) m b (put_there m b may.0) rising.0 may.1, laid_there image (with_byte m b) rising.1 (may_keep_all m b image may.1))

-- ---- pieces that a memory shows

-- a read of a piece gives its value, and moves no word on
pub record Shows (m : Memory) (p : WordOrByte) : Type 0 where
  pub word : Cell
  pub there : map.get m (p.address / 4 * 4) ≡ Some word
  pub still : moved_on word ≡ word
  pub value : from_lanes p.size p.address (bit_and (shown_value word) (lanes p.size p.address)) ≡ p.value

byte_shows : (m : Memory) (b : ℕ × ℕ) → IsThere m b → Shows m (byte_piece b)
byte_shows m b h =
    let same : b.0 / 1 * 1 ≡ b.0 = omega arith in
    record {
      word = one_value h.value h.read_only;
      there = h.there;
      still = refl;
      value = ap (λ (x : ℕ). bit_and h.value ((2 ^ (8 * 1) - 1) * 2 ^ (8 * (x % 4))) / 2 ^ (8 * (b.0 % 4)) % 2 ^ (8 * 1)) same ∙ shown_byte h.value (b.0 % 4) ∙ h.is;
    }

word_shows : (m : Memory) (a b c d : ℕ × ℕ) → WordParts a.0 b.0 c.0 d.0 → IsThere m a → IsThere m b → IsThere m c → IsThere m d → Shows m (word_piece a.0 a.1 b.1 c.1 d.1)
word_shows m a b c d w ha hb hc hd =
    let aligned = w.aligned in
    let second = w.second in
    let third = w.third in
    let fourth = w.fourth in
    let kb : b.0 / 4 * 4 ≡ a.0 / 4 * 4 = omega (arith, aligned, second) in
    let kc : c.0 / 4 * 4 ≡ a.0 / 4 * 4 = omega (arith, aligned, third) in
    let kd : d.0 / 4 * 4 ≡ a.0 / 4 * 4 = omega (arith, aligned, fourth) in
    let lb : b.0 % 4 ≡ 1 = omega (arith, aligned, second) in
    let lc : c.0 % 4 ≡ 2 = omega (arith, aligned, third) in
    let ld : d.0 % 4 ≡ 3 = omega (arith, aligned, fourth) in
    let none : a.0 / 4 * 4 % 4 ≡ 0 = omega arith in
    record {
      word = one_value ha.value ha.read_only;
      there = ha.there;
      still = refl;
      value =
          ap (λ (x : ℕ). bit_and ha.value ((2 ^ (8 * 4) - 1) * 2 ^ (8 * x)) / 2 ^ (8 * (a.0 % 4)) % 2 ^ (8 * 4)) none
          ∙ ap (λ (x : ℕ). bit_and ha.value ((2 ^ (8 * 4) - 1) * 2 ^ (8 * 0)) / 2 ^ (8 * x) % 2 ^ (8 * 4)) aligned
          ∙ shown_word ha.value a.1 b.1 c.1 d.1
          (ap (λ (x : ℕ). byte_from_bit ha.value (8 * x)) (sym aligned) ∙ ha.is)
          (other hb kb 1 lb) (other hc kc 2 lc) (other hd kd 3 ld);
    }
  where
    -- another byte of the same word
    other : {e : ℕ × ℕ} (h : IsThere m e) → e.0 / 4 * 4 ≡ a.0 / 4 * 4 → (r : ℕ) → e.0 % 4 ≡ r → byte_from_bit ha.value (8 * r) ≡ e.1
    other {e} h key r lane =
        let one : one_value ha.value ha.read_only ≡ one_value h.value h.read_only =
        some_same m (a.0 / 4 * 4) (one_value ha.value ha.read_only) (one_value h.value h.read_only) ha.there (ap (map.get m) (sym key) ∙ h.there) in
        ap (λ (x : ℕ). byte_from_bit x (8 * r)) (ap shown_value one) ∙ ap (λ (x : ℕ). byte_from_bit h.value (8 * x)) (sym lane) ∙ h.is

pub pieces_show : (image : Bytes) (m : Memory) → AllByRecursion (IsThere m) image → AllByRecursion (Shows m) (pieces image)
pieces_show [] m h = tt
pieces_show (a ∷ []) m h = (byte_shows m a h.0, tt)
pieces_show (a ∷ b ∷ []) m h = (byte_shows m a h.0, (byte_shows m b h.1.0, tt))
pieces_show (a ∷ b ∷ c ∷ []) m h = (byte_shows m a h.0, (byte_shows m b h.1.0, (byte_shows m c h.1.1.0, tt)))
pieces_show (a ∷ b ∷ c ∷ d ∷ rest) m h = by_word (are_word_addresses a.0 b.0 c.0 d.0) refl (pieces_show rest m h.1.1.1.1) (pieces_show (b ∷ c ∷ d ∷ rest) m h.1)
  where
    by_word : (t : Bool) → are_word_addresses a.0 b.0 c.0 d.0 ≡ t → AllByRecursion (Shows m) (pieces rest) → AllByRecursion (Shows m) (pieces (b ∷ c ∷ d ∷ rest))
        → AllByRecursion (Shows m) (cond t (word_piece a.0 a.1 b.1 c.1 d.1 ∷ pieces rest) (byte_piece a ∷ pieces (b ∷ c ∷ d ∷ rest)))
    by_word true e after on = (word_shows m a b c d (word_parts a.0 b.0 c.0 d.0 e) h.0 h.1.0 h.1.1.0 h.1.1.1.0, after)
    by_word false e after on = (byte_shows m a h.0, on)

-- ---- pieces that may be written

-- a piece is one, and its word may be written
pub record MayPut (m : Memory) (p : WordOrByte) : Type 0 where
  pub sound : IsPiece p
  pub has : HasWord m (p.address / 4 * 4)

byte_may : (m : Memory) (b : ℕ × ℕ) → MayLoad m b → MayPut m (byte_piece b)
byte_may m b h =
    let byte = h.byte in
    let low = h.low in
    record {
      sound = record { sized = inl refl; aligned = omega arith; fits = byte; low = omega (arith, low) };
      has = record { word = h.word; there = h.there; writable = h.writable };
    }

word_may : (m : Memory) (a b c d : ℕ × ℕ) → WordParts a.0 b.0 c.0 d.0 → MayLoad m a → b.1 < 2 ^ 8 → c.1 < 2 ^ 8 → d.1 < 2 ^ 8 → MayPut m (word_piece a.0 a.1 b.1 c.1 d.1)
word_may m a b c d w h bl cl dl =
    let aligned = w.aligned in
    let al = h.byte in
    let low = h.low in
    record {
      sound = record { sized = inr refl; aligned = aligned; fits = omega (arith, al, bl, cl, dl); low = omega (arith, aligned, low) };
      has = record { word = h.word; there = h.there; writable = h.writable };
    }

pub pieces_may : (image : Bytes) (m : Memory) → AllByRecursion (MayLoad m) image → AllByRecursion (MayPut m) (pieces image)
pieces_may [] m h = tt
pieces_may (a ∷ []) m h = (byte_may m a h.0, tt)
pieces_may (a ∷ b ∷ []) m h = (byte_may m a h.0, (byte_may m b h.1.0, tt))
pieces_may (a ∷ b ∷ c ∷ []) m h = (byte_may m a h.0, (byte_may m b h.1.0, (byte_may m c h.1.1.0, tt)))
pieces_may (a ∷ b ∷ c ∷ d ∷ rest) m h = by_word (are_word_addresses a.0 b.0 c.0 d.0) refl (pieces_may rest m h.1.1.1.1) (pieces_may (b ∷ c ∷ d ∷ rest) m h.1)
  where
    by_word : (t : Bool) → are_word_addresses a.0 b.0 c.0 d.0 ≡ t → AllByRecursion (MayPut m) (pieces rest) → AllByRecursion (MayPut m) (pieces (b ∷ c ∷ d ∷ rest))
        → AllByRecursion (MayPut m) (cond t (word_piece a.0 a.1 b.1 c.1 d.1 ∷ pieces rest) (byte_piece a ∷ pieces (b ∷ c ∷ d ∷ rest)))
    by_word true e after on = (word_may m a b c d (word_parts a.0 b.0 c.0 d.0 e) h.0 h.1.0.byte h.1.1.0.byte h.1.1.1.0.byte, after)
    by_word false e after on = (byte_may m a h.0, on)

pub bytes_fit : (image : Bytes) (m : Memory) → AllByRecursion (MayLoad m) image → AllByRecursion (λ b. b.1 < 2 ^ 8) image
bytes_fit [] m h = tt
bytes_fit (b ∷ image) m h = (h.0.byte, bytes_fit image m h.1)
