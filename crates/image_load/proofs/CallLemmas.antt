-- Calls for pieces: all of them, and the first of them.
use Rattle.std.proofs.Common.{◌≡◌, ◌∙◌, ℕ, zero, suc, ◌+◌, ◌<◌, Bool, List, [], ◌∷◌, ◌++◌, append_assoc, length, take, drop, get_or, map, Result, Ok, Err, refl, sym, ap, subst, arith}
use Rattle.target_calls.specs.declared.calls.Ask.{Ask}
use Rattle.access_calls.specs.declared.stop.Stop.{Stop}
use Rattle.image_load.specs.Frame.{AsksCalls}
use Rattle.image_load.specs.Loading.{AskedPart}
use Rattle.image_load.specs.Pieces.{asked_all, piece_ask}
use Rattle.image_load.specs.declared.piece.WordOrByte.{WordOrByte}

pub map_more : {A B : Type 0} (f : A → B) (xs : List A) (i : ℕ) (d : A) → i < length xs → map f (take (i + 1) xs) ≡ map f (take i xs) ++ f (get_or xs i d) ∷ []
map_more f [] i d less = absurd (omega (arith, less))
map_more f (x ∷ xs) zero d less = refl
map_more f (x ∷ xs) (suc i) d less =
    (let same : suc i + 1 ≡ suc (i + 1) = omega arith in ap (λ (n : ℕ). map f (take n (x ∷ xs))) same)
    ∙ ap (λ (l : List _). f x ∷ l) (map_more f xs i d (omega (arith, less)))

pub map_parts : {A B : Type 0} (f : A → B) (xs : List A) (i : ℕ) (d : A) → i < length xs → map f xs ≡ map f (take i xs) ++ f (get_or xs i d) ∷ map f (drop (suc i) xs)
map_parts f [] i d less = absurd (omega (arith, less))
map_parts f (x ∷ xs) zero d less = refl
map_parts f (x ∷ xs) (suc i) d less = ap (λ (l : List _). f x ∷ l) (map_parts f xs i d (omega (arith, less)))

-- one call of a list that was asked so far
pub part_in : (front later old mid new : List Ask) (a : Ask) → mid ≡ old ++ front → AskedPart (a ∷ []) mid new → AskedPart (front ++ a ∷ later) old new
part_in front later old mid new a mid_is p = record {
  part = front ++ p.part;
  rest = p.rest ++ later;
  whole = ap (λ (l : List Ask). front ++ (l ++ later)) p.whole ∙ ap (λ (l : List Ask). front ++ l) (append_assoc p.part p.rest later) ∙ sym (append_assoc front p.part (p.rest ++ later));
  asked = p.asked ∙ ap (λ (l : List Ask). l ++ p.part) mid_is ∙ append_assoc old front p.part;
}

pub part_first : (first second old new : List Ask) → AskedPart first old new → AskedPart (first ++ second) old new
part_first first second old new p = record {
  part = p.part;
  rest = p.rest ++ second;
  whole = ap (λ (l : List Ask). l ++ second) p.whole ∙ append_assoc p.part p.rest second;
  asked = p.asked;
}

pub part_second : (first second old mid new : List Ask) → mid ≡ old ++ first → AskedPart second mid new → AskedPart (first ++ second) old new
part_second first second old mid new mid_is p = record {
  part = first ++ p.part;
  rest = p.rest;
  whole = ap (λ (l : List Ask). first ++ l) p.whole ∙ sym (append_assoc first p.part p.rest);
  asked = p.asked ∙ ap (λ (l : List Ask). l ++ p.part) mid_is ∙ append_assoc old first p.part;
}

pub count_all : (read : Bool) (n : ℕ) (ps : List WordOrByte) → length (asked_all read n ps) ≡ length ps
count_all read n [] = refl
count_all read n (p ∷ ps) = ap suc (count_all read n ps)

pub part_at : (read : Bool) (n : ℕ) (ps : List WordOrByte) (i : ℕ) (d : WordOrByte) (u : Ask) (old mid new : List Ask) → i < length ps → u ≡ piece_ask read n (get_or ps i d) → mid ≡ old ++ asked_all read n (take i ps) → AskedPart (u ∷ []) mid new
    → AskedPart (asked_all read n ps) old new
part_at read n ps i d u old mid new less is mid_is p =
    subst (λ (l : List Ask). AskedPart l old new) (sym (map_parts (piece_ask read n) ps i d less))
    (subst (λ (a : Ask). AskedPart (asked_all read n (take i ps) ++ a ∷ asked_all read n (drop (suc i) ps)) old new) is
    (part_in (asked_all read n (take i ps)) (asked_all read n (drop (suc i) ps)) old mid new u mid_is p))

-- calls after others
pub asks_then : (first second old mid new : List Ask) (r : Result ℕ Stop) → mid ≡ old ++ first → AsksCalls second r mid new → AsksCalls (first ++ second) r old new
asks_then first second old mid new (Ok x) mid_is h = h ∙ ap (λ (l : List Ask). l ++ second) mid_is ∙ append_assoc old first second
asks_then first second old mid new (Err e) mid_is h = part_second first second old mid new mid_is h
