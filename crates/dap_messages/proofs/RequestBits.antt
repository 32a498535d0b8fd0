-- The bits of the requests by name.
use Rattle.std.proofs.Common.{◌≡◌, ℕ, ◌+◌, ◌*◌, ◌/◌, ◌%◌, ◌^◌, ◌<◌, ◌≤◌, Bool, true, false, cond, IsTrue, refl, sym, ◌∙◌, arith, suc, zero, subst, ◌⊎◌, inl, inr}
use Rattle.std.specs.Prelude.{bit_and}
use Rattle.std.specs.Int.Bits.{and_zero_r}
use Rattle.std.proofs.lemmas.Nat.{and_le_r, and_mod}
use Rattle.dap_base.specs.Bits.{has_bit}
use Rattle.dap_messages.specs.declared.request.RequestKind.{RequestKind}
use Rattle.dap_messages.specs.declared.request.RequestKind.TheVariants.{Posted, Read, Match, Write}
use Rattle.dap_messages.specs.Requests.{IsRequest, IsWordFor, Says, is_block_byte, is_request_byte, kind_of, mask_request, match_request, read_request, takes_word, write_request}

-- two bits of a number, at 4 and 8
abbrev Quarter : ℕ → Type 0
Quarter x = (x ≡ 0) ⊎ ((x ≡ 4) ⊎ ((x ≡ 8) ⊎ (x ≡ 12)))

quarter_by : (q x : ℕ) → x ≡ 4 * q → q ≤ 3 → Quarter x
quarter_by zero x e h = inl (omega arith)
quarter_by (suc zero) x e h = inr (inl (omega arith))
quarter_by (suc (suc zero)) x e h = inr (inr (inl (omega arith)))
quarter_by (suc (suc (suc zero))) x e h = inr (inr (inr (omega arith)))
quarter_by (suc (suc (suc (suc q)))) x e h = absurd (omega arith)

pub quarter : (n : ℕ) → Quarter (bit_and n 12)
quarter n =
    let x : ℕ = bit_and n 12 in
    let most : x ≤ 12 = and_le_r n 12 in
    let whole : x % 4 ≡ 0 = and_mod n 12 2 ∙ and_zero_r (n % 4) in
    quarter_by (x / 4) x (omega arith) (omega arith)

-- what holds of four numbers holds of the two bits
by_quarter : (P : ℕ → Type 0) (n : ℕ) → P 0 → P 4 → P 8 → P 12 → P (bit_and n 12)
by_quarter P n a b c d = at (bit_and n 12) (quarter n)
  where
    at : (x : ℕ) → Quarter x → P x
    at x (inl e) = subst P (sym e) a
    at x (inr (inl e)) = subst P (sym e) b
    at x (inr (inr (inl e))) = subst P (sym e) c
    at x (inr (inr (inr e))) = subst P (sym e) d

-- what a byte says, where these two bits are given
abbrev Bits : ℕ → Bool → Bool → ℕ → RequestKind → Type 0
Bits byte ap_is read_is x asks = (has_bit byte 1 ≡ ap_is) × (has_bit byte 2 ≡ read_is) × (bit_and byte 12 ≡ x) × (kind_of byte ≡ asks) × IsTrue (is_request_byte byte)

says : (byte : ℕ) (ap_is read_is : Bool) (addr : ℕ) (asks : RequestKind) → Bits byte ap_is read_is (bit_and addr 12) asks → Says byte ap_is read_is addr asks
says byte ap_is read_is addr asks h = record { port = h.0; direction = h.1; address = h.2; asks_for = h.3; valid = h.4 }

read_bits : (ap_is : Bool) (addr : ℕ) → Bits (cond ap_is 1 0 + 2 + (bit_and addr 12)) ap_is true (bit_and addr 12) (cond ap_is Posted Read)
read_bits true addr = by_quarter (λ x. Bits (cond true 1 0 + 2 + x) true true x (cond true Posted Read)) addr (refl, refl, refl, refl, refl) (refl, refl, refl, refl, refl) (refl, refl, refl, refl, refl) (refl, refl, refl, refl, refl)
read_bits false addr = by_quarter (λ x. Bits (cond false 1 0 + 2 + x) false true x (cond false Posted Read)) addr (refl, refl, refl, refl, refl) (refl, refl, refl, refl, refl) (refl, refl, refl, refl, refl) (refl, refl, refl, refl, refl)

write_bits : (ap_is : Bool) (addr : ℕ) → Bits (cond ap_is 1 0 + 0 + (bit_and addr 12)) ap_is false (bit_and addr 12) Write
write_bits true addr = by_quarter (λ x. Bits (cond true 1 0 + 0 + x) true false x Write) addr (refl, refl, refl, refl, refl) (refl, refl, refl, refl, refl) (refl, refl, refl, refl, refl) (refl, refl, refl, refl, refl)
write_bits false addr = by_quarter (λ x. Bits (cond false 1 0 + 0 + x) false false x Write) addr (refl, refl, refl, refl, refl) (refl, refl, refl, refl, refl) (refl, refl, refl, refl, refl) (refl, refl, refl, refl, refl)

match_bits : (ap_is : Bool) (addr : ℕ) → Bits (cond ap_is 1 0 + 2 + (bit_and addr 12) + 16) ap_is true (bit_and addr 12) Match
match_bits true addr = by_quarter (λ x. Bits (cond true 1 0 + 2 + x + 16) true true x Match) addr (refl, refl, refl, refl, refl) (refl, refl, refl, refl, refl) (refl, refl, refl, refl, refl) (refl, refl, refl, refl, refl)
match_bits false addr = by_quarter (λ x. Bits (cond false 1 0 + 2 + x + 16) false true x Match) addr (refl, refl, refl, refl, refl) (refl, refl, refl, refl, refl) (refl, refl, refl, refl, refl) (refl, refl, refl, refl, refl)

pub read_says : (ap_is : Bool) (addr : ℕ) → Says (read_request ap_is addr).byte ap_is true addr (cond ap_is Posted Read)
read_says ap_is addr = says _ ap_is true addr _ (read_bits ap_is addr)

pub write_says : (ap_is : Bool) (addr word : ℕ) → Says (write_request ap_is addr word).byte ap_is false addr Write
write_says ap_is addr word = says _ ap_is false addr _ (write_bits ap_is addr)

pub match_says : (ap_is : Bool) (addr word : ℕ) → Says (match_request ap_is addr word).byte ap_is true addr Match
match_says ap_is addr word = says _ ap_is true addr _ (match_bits ap_is addr)

pub block_says : (ap_is : Bool) (addr word : ℕ) → IsTrue (is_block_byte (write_request ap_is addr word).byte)
block_says true addr word = by_quarter (λ x. IsTrue (is_block_byte (1 + 0 + x))) addr refl refl refl refl
block_says false addr word = by_quarter (λ x. IsTrue (is_block_byte (0 + 0 + x))) addr refl refl refl refl

-- a request whose kind is known
by_kind : (byte word : ℕ) (asks : RequestKind) → IsTrue (is_request_byte byte) → kind_of byte ≡ asks → IsWordFor (takes_word asks) word → IsRequest (record { byte = byte; word = word })
by_kind byte word asks valid is fits = record { byte = valid; word = subst (λ (k : RequestKind). IsWordFor (takes_word k) word) (sym is) fits }

no_word : (ap_is : Bool) → IsWordFor (takes_word (cond ap_is Posted Read)) 0
no_word true = refl
no_word false = refl

pub read_is_request : (ap_is : Bool) (addr : ℕ) → IsRequest (read_request ap_is addr)
read_is_request ap_is addr = let s = read_says ap_is addr in by_kind _ 0 _ s.valid s.asks_for (no_word ap_is)

pub write_is_request : (ap_is : Bool) (addr word : ℕ) → word < 2 ^ 32 → IsRequest (write_request ap_is addr word)
write_is_request ap_is addr word fits = let s = write_says ap_is addr word in by_kind _ word _ s.valid s.asks_for fits

pub match_is_request : (ap_is : Bool) (addr word : ℕ) → word < 2 ^ 32 → IsRequest (match_request ap_is addr word)
match_is_request ap_is addr word fits = let s = match_says ap_is addr word in by_kind _ word _ s.valid s.asks_for fits

pub mask_is_request : (word : ℕ) → word < 2 ^ 32 → IsRequest (mask_request word)
mask_is_request word fits = record { byte = refl; word = fits }
