-- The first difference of what was read back, byte by byte and piece by piece.
use Rattle.std.proofs.Common.{◌≡◌, ◌∙◌, ℕ, zero, suc, ◌+◌, ◌-◌, ◌<◌, ◌≤◌, Bool, cond, List, [], ◌∷◌, length, drop, drop-cons, get_or, Option, None, Some, refl, sym, ap, arith, eq-eqb, ne_eqb}
use Rattle.std.proofs.Math.Nat.{add-zero}
use Rattle.image_load.specs.Pieces.{byte_from_bit, difference, first_difference, first_of}
use Rattle.image_load.specs.declared.piece.Difference.{Difference}
use Rattle.image_load.specs.declared.piece.WordOrByte.{WordOrByte}

-- ---- bytes

pub same_byte : (n bit address w f : ℕ) → byte_from_bit w bit ≡ byte_from_bit f bit → difference (suc n) bit address w f ≡ difference n (bit + 8) (address + 1) w f
same_byte n bit address w f same = ap (λ (b : Bool). cond b (difference n (bit + 8) (address + 1) w f) (Some (record { address = address; wanted = byte_from_bit w bit; found = byte_from_bit f bit }))) (eq-eqb (byte_from_bit w bit) (byte_from_bit f bit) same)

pub other_byte : (n bit address w f : ℕ) → (byte_from_bit w bit ≡ byte_from_bit f bit → ⊥) → difference (suc n) bit address w f ≡ Some (record { address = address; wanted = byte_from_bit w bit; found = byte_from_bit f bit })
other_byte n bit address w f differs = ap (λ (b : Bool). cond b (difference n (bit + 8) (address + 1) w f) (Some (record { address = address; wanted = byte_from_bit w bit; found = byte_from_bit f bit }))) (ne_eqb (byte_from_bit w bit) (byte_from_bit f bit) differs)

-- one byte further
pub next_byte : (size i bit address w f : ℕ) → i < size → byte_from_bit w bit ≡ byte_from_bit f bit → difference (size - i) bit (address + i) w f ≡ difference (size - (i + 1)) (bit + 8) (address + (i + 1)) w f
next_byte size i bit address w f less same =
    let count : size - i ≡ suc (size - (i + 1)) = omega (arith, less) in
    let next : address + i + 1 ≡ address + (i + 1) = omega arith in
    ap (λ (n : ℕ). difference n bit (address + i) w f) count ∙ same_byte (size - (i + 1)) bit (address + i) w f same ∙ ap (λ (a : ℕ). difference (size - (i + 1)) (bit + 8) a w f) next

pub differs_here : (size i bit address w f : ℕ) → i < size → (byte_from_bit w bit ≡ byte_from_bit f bit → ⊥) → difference (size - i) bit (address + i) w f ≡ Some (record { address = address + i; wanted = byte_from_bit w bit; found = byte_from_bit f bit })
differs_here size i bit address w f less differs =
    let count : size - i ≡ suc (size - (i + 1)) = omega (arith, less) in
    ap (λ (n : ℕ). difference n bit (address + i) w f) count ∙ other_byte (size - (i + 1)) bit (address + i) w f differs

pub no_byte : (size i bit address w f : ℕ) → size ≤ i → difference (size - i) bit address w f ≡ None
no_byte size i bit address w f le = (let none : size - i ≡ 0 = omega (arith, le) in ap (λ (n : ℕ). difference n bit address w f) none)

-- ---- pieces

-- the results count at their places alone
pub same_found : (ps : List WordOrByte) (f h : ℕ → ℕ) → ((i : ℕ) → f i ≡ h i) → first_difference ps f ≡ first_difference ps h
same_found [] f h same = refl
same_found (p ∷ ps) f h same =
    ap (λ (x : ℕ). first_of (difference p.size 0 p.address p.value x) (first_difference ps (λ i. f (i + 1)))) (same 0)
    ∙ ap (first_of (difference p.size 0 p.address p.value (h 0))) (same_found ps (λ i. f (i + 1)) (λ i. h (i + 1)) (λ i. same (i + 1)))

-- one piece further
pub next_piece : (ps : List WordOrByte) (i : ℕ) (d : WordOrByte) (f : ℕ → ℕ) → i < length ps → difference (get_or ps i d).size 0 (get_or ps i d).address (get_or ps i d).value (f i) ≡ None
    → first_difference (drop i ps) (λ k. f (i + k)) ≡ first_difference (drop (i + 1) ps) (λ k. f (i + 1 + k))
next_piece ps i d f less none =
    ap (λ (l : List WordOrByte). first_difference l (λ k. f (i + k))) (drop-cons ps i d less)
    ∙ ap (λ (x : ℕ). first_of (difference (get_or ps i d).size 0 (get_or ps i d).address (get_or ps i d).value (f x)) (first_difference (drop (suc i) ps) (λ k. f (i + (k + 1))))) (add-zero i)
    ∙ ap (λ (o : Option Difference). first_of o (first_difference (drop (suc i) ps) (λ k. f (i + (k + 1))))) none
    ∙ same_found (drop (suc i) ps) (λ k. f (i + (k + 1))) (λ k. f (i + 1 + k)) (λ k. let same : i + (k + 1) ≡ i + 1 + k = omega arith in ap f same)
    ∙ (let more : suc i ≡ i + 1 = omega arith in ap (λ (n : ℕ). first_difference (drop n ps) (λ k. f (i + 1 + k))) more)

pub differs_piece : (ps : List WordOrByte) (i : ℕ) (d : WordOrByte) (f : ℕ → ℕ) (x : Difference) → i < length ps → difference (get_or ps i d).size 0 (get_or ps i d).address (get_or ps i d).value (f i) ≡ Some x
    → first_difference (drop i ps) (λ k. f (i + k)) ≡ Some x
differs_piece ps i d f x less some =
    ap (λ (l : List WordOrByte). first_difference l (λ k. f (i + k))) (drop-cons ps i d less)
    ∙ ap (λ (y : ℕ). first_of (difference (get_or ps i d).size 0 (get_or ps i d).address (get_or ps i d).value (f y)) (first_difference (drop (suc i) ps) (λ k. f (i + (k + 1))))) (add-zero i)
    ∙ ap (λ (o : Option Difference). first_of o (first_difference (drop (suc i) ps) (λ k. f (i + (k + 1))))) some

pub differs_at : (ps : List WordOrByte) (i : ℕ) (d : WordOrByte) (f : ℕ → ℕ) (x : Difference) (found : ℕ) (r : Option Difference) → i < length ps → found ≡ f i → r ≡ difference (get_or ps i d).size 0 (get_or ps i d).address (get_or ps i d).value found → r ≡ Some x
    → first_difference (drop i ps) (λ k. f (i + k)) ≡ Some x
differs_at ps i d f x found r less is r_is some =
    differs_piece ps i d f x less (ap (difference (get_or ps i d).size 0 (get_or ps i d).address (get_or ps i d).value) (sym is) ∙ sym r_is ∙ some)

pub next_at : (ps : List WordOrByte) (i : ℕ) (d : WordOrByte) (f : ℕ → ℕ) (found : ℕ) (r : Option Difference) → i < length ps → found ≡ f i → r ≡ difference (get_or ps i d).size 0 (get_or ps i d).address (get_or ps i d).value found → r ≡ None
    → first_difference (drop i ps) (λ k. f (i + k)) ≡ first_difference (drop (i + 1) ps) (λ k. f (i + 1 + k))
next_at ps i d f found r less is r_is none =
    next_piece ps i d f less (ap (difference (get_or ps i d).size 0 (get_or ps i d).address (get_or ps i d).value) (sym is) ∙ sym r_is ∙ none)

pub rest_none : (ps : List WordOrByte) (i : ℕ) (f : ℕ → ℕ) → length ps ≤ i → first_difference (drop i ps) f ≡ None
rest_none [] zero f le = refl
rest_none [] (suc i) f le = refl
rest_none (p ∷ ps) zero f le = absurd (omega (arith, le))
rest_none (p ∷ ps) (suc i) f le = rest_none ps i f (omega (arith, le))
