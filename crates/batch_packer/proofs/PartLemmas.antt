-- The parts of a chain, one after the other.
use Rattle.std.proofs.Common.{◌≡◌, ℕ, zero, suc, ◌+◌, ◌-◌, ◌<◌, ◌≤◌, arith, take, drop, length, length-append, Bool, true, false, cond, eqb, List, [], ◌∷◌, ◌++◌, refl, ap, sym, ◌∙◌, subst, append_assoc, append-nil}
use Rattle.std.proofs.lemmas.Bool.Decides.{nat_tests}
use Rattle.target_machine.specs.declared.access.RegAccess.{RegAccess}
use Rattle.dap_messages.specs.Commands.{bytes_of_kind, command_bytes}
use Rattle.flight_forms.specs.Forms.{filled_parts, fits_guarded, parts_of}
use Rattle.flight_forms.specs.Packets.{FitChain, FitsPacket, chain_kind, chain_packets, guarded_command}
use Rattle.batch_packer.specs.Queues.{last_id, last_kind}

-- the bytes of a packet of a chain
pub part_bytes : (is_last : Bool) (accesses : List RegAccess) (command bytes : List ℕ) → command ≡ command_bytes (guarded_command accesses) → bytes ≡ (last_id is_last ∷ 1 ∷ []) ++ command →
    bytes ≡ bytes_of_kind (last_kind is_last) (guarded_command accesses ∷ [])
part_bytes true accesses command bytes c e = e ∙ ap (λ xs. 0x7F ∷ 1 ∷ xs) (c ∙ sym (append-nil (command_bytes (guarded_command accesses))))
part_bytes false accesses command bytes c e = e ∙ ap (λ xs. 0x7E ∷ 1 ∷ xs) (c ∙ sym (append-nil (command_bytes (guarded_command accesses))))

-- ---- lists of parts

pub some_filled : (size : ℕ) (part rest : List RegAccess) → 0 < length (filled_parts size part rest)
some_filled size part [] = omega arith
some_filled size part (a ∷ rest) = by_fit (fits_guarded size (part ++ a ∷ [])) (some_filled size (part ++ a ∷ []) rest)
  where
    by_fit : (b : Bool) → 0 < length (filled_parts size (part ++ a ∷ []) rest) → 0 < length (cond b (filled_parts size (part ++ a ∷ []) rest) (part ∷ filled_parts size (a ∷ []) rest))
    by_fit true h = h
    by_fit false h = omega arith

take_whole : (n : ℕ) (xs : List RegAccess) → length xs ≤ n → take n xs ≡ xs
take_whole zero [] h = refl
take_whole zero (x ∷ xs) h = absurd (omega arith)
take_whole (suc n) [] h = refl
take_whole (suc n) (x ∷ xs) h = ap (λ ys. x ∷ ys) (take_whole n xs (omega arith))

-- ---- the packets

abbrev whole_kind : List (List RegAccess) → Bool
whole_kind [] = true
whole_kind (part ∷ parts) = false

kind_is : (parts : List (List RegAccess)) → chain_kind parts ≡ last_kind (whole_kind parts)
kind_is [] = refl
kind_is (part ∷ parts) = refl

no_parts : (size : ℕ) (xs : List RegAccess) (is_last : Bool) → (is_last ≡ true → length xs ≡ 0) → (is_last ≡ false → 0 < length xs) → whole_kind (parts_of size xs) ≡ is_last
no_parts size [] true h k = refl
no_parts size [] false h k = absurd (let g = k refl in omega arith)
no_parts size (x ∷ xs) true h k = absurd (let g = h refl in omega arith)
no_parts size (x ∷ xs) false h k = some_kind (filled_parts size (x ∷ []) xs) (some_filled size (x ∷ []) xs)
  where
    some_kind : (parts : List (List RegAccess)) → 0 < length parts → whole_kind parts ≡ false
    some_kind [] g = absurd (omega arith)
    some_kind (part ∷ parts) g = refl

none_left : (k : ℕ) → drop {A = RegAccess} k [] ≡ []
none_left zero = refl
none_left (suc k) = refl

drop_more : (n m : ℕ) (xs : List RegAccess) → drop m (drop n xs) ≡ drop (n + m) xs
drop_more zero m xs = let e : 0 + m ≡ m = omega arith in ap (λ k. drop k xs) (sym e)
drop_more (suc n) m [] = none_left m ∙ sym (none_left (suc n + m))
drop_more (suc n) m (x ∷ xs) = let e : suc n + m ≡ suc (n + m) = omega arith in drop_more n m xs ∙ ap (λ k. drop k (x ∷ xs)) (sym e)

length_left : (n : ℕ) (xs : List RegAccess) → n ≤ length xs → length (drop n xs) + n ≡ length xs
length_left zero xs h = omega arith
length_left (suc n) [] h = absurd (omega arith)
length_left (suc n) (x ∷ xs) h = let r = length_left n xs (omega arith) in omega arith

same_true : (a b : ℕ) → eqb a b ≡ true → a ≡ b
same_true a b e = grind (arith, nat_tests)

same_false : (a b : ℕ) → eqb a b ≡ false → a ≡ b → ⊥
same_false a b e f = grind (arith, nat_tests)

-- after the packet of one part more: what is left, and whether the part was the last
pub record PartMade (size start len : ℕ) (accesses : List RegAccess) (is_last : Bool) : Type 0 where
  pub parts : parts_of size (drop start accesses) ≡ take len (drop start accesses) ∷ parts_of size (drop (start + len) accesses)
  pub kind : chain_kind (parts_of size (drop (start + len) accesses)) ≡ last_kind is_last
  pub within : start + len ≤ length accesses

pub part_made : (size start len : ℕ) (accesses : List RegAccess) → start ≤ length accesses → len ≤ length (drop start accesses) →
    parts_of size (drop start accesses) ≡ take len (drop start accesses) ∷ parts_of size (drop len (drop start accesses)) → PartMade size start len accesses (eqb len (length (drop start accesses)))
part_made size start len accesses inside within is =
    let rest = length_left start accesses inside in
    let most : start + len ≤ length accesses = omega arith in
    let long = length_left (start + len) accesses most in
    record {
      parts = is ∙ ap (λ ys. take len (drop start accesses) ∷ parts_of size ys) (drop_more start len accesses);
      kind = kind_is (parts_of size (drop (start + len) accesses))
          ∙ ap last_kind (no_parts size (drop (start + len) accesses) (eqb len (length (drop start accesses))) (λ e. let g = same_true len (length (drop start accesses)) e in omega arith)
          (λ e. let g = same_false len (length (drop start accesses)) e in omega arith));
      within = most;
    }

-- the packets so far, with those that are left
pub packets_go : (before new : List (List ℕ)) (packet : List ℕ) (part : List RegAccess) (parts left : List (List RegAccess)) (all : List (List ℕ)) (is_last : Bool) → new ≡ before ++ packet ∷ [] →
    packet ≡ bytes_of_kind (last_kind is_last) (guarded_command part ∷ []) → chain_kind left ≡ last_kind is_last → parts ≡ part ∷ left → before ++ chain_packets parts ≡ all → new ++ chain_packets left ≡ all
packets_go before new packet part parts left all is_last pushed bytes kind is whole =
    ap (λ xs. xs ++ chain_packets left) pushed
    ∙ append_assoc before (packet ∷ []) (chain_packets left)
    ∙ ap (λ x. before ++ x ∷ chain_packets left) (bytes ∙ ap (λ k. bytes_of_kind k (guarded_command part ∷ [])) (sym kind))
    ∙ ap (λ xs. before ++ chain_packets xs) (sym is)
    ∙ whole

pub fits_left : (size : ℕ) (part : List RegAccess) (parts left : List (List RegAccess)) → parts ≡ part ∷ left → FitChain size parts → FitsPacket size 2 (guarded_command part) × FitChain size left
fits_left size part parts left is fits = subst (λ (xs : List (List RegAccess)). FitChain size xs) is fits

pub one_longer : (old new : List (List ℕ)) (x : List ℕ) → new ≡ old ++ x ∷ [] → length new ≡ length old + 1
one_longer old new x e = ap length e ∙ length-append old (x ∷ [])

-- a slice up to the end
pub slice_rest : (n : ℕ) (xs : List RegAccess) → n ≤ length xs → take (length xs - n) (drop n xs) ≡ drop n xs
slice_rest n xs h = let l = length_left n xs h in take_whole (length xs - n) (drop n xs) (omega arith)

pub parts_some : (size : ℕ) (xs : List RegAccess) → 0 < length xs → 0 < length (parts_of size xs)
parts_some size [] h = absurd (omega arith)
parts_some size (x ∷ xs) h = some_filled size (x ∷ []) xs
