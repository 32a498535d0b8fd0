-- The parts of a chain.
use Rattle.std.proofs.Common.{◌≡◌, ℕ, ◌≤◌, Bool, true, false, cond, List, [], ◌∷◌, ◌++◌, length, refl, ap, sym, ◌∙◌, arith, subst, append_assoc, length-append}
use Rattle.std.specs.List.{AllByRecursion}
use Rattle.target_machine.specs.declared.access.RegAccess.{RegAccess}
use Rattle.flight_forms.specs.Chains.{AllTaken, all_of}
use Rattle.flight_forms.specs.Forms.{filled_parts, fits_guarded, parts_of}
use Rattle.flight_forms.specs.Packing.{AreTaken, IsTaken}
use Rattle.flight_forms.proofs.Capacity.{few_fit_guarded}

fill_step : (b : Bool) (part more rest : List RegAccess) (longer shorter : List (List RegAccess)) → all_of longer ≡ (part ++ more) ++ rest → all_of shorter ≡ more ++ rest →
    all_of (cond b longer (part ∷ shorter)) ≡ part ++ (more ++ rest)
fill_step true part more rest longer shorter h k = h ∙ append_assoc part more rest
fill_step false part more rest longer shorter h k = ap (λ xs. part ++ xs) k

all_filled : (size : ℕ) (part rest : List RegAccess) → all_of (filled_parts size part rest) ≡ part ++ rest
all_filled size part [] = refl
all_filled size part (a ∷ rest) =
    fill_step (fits_guarded size (part ++ a ∷ [])) part (a ∷ []) rest (filled_parts size (part ++ a ∷ []) rest) (filled_parts size (a ∷ []) rest)
    (all_filled size (part ++ a ∷ []) rest) (all_filled size (a ∷ []) rest)

-- the parts of a flight are the flight
pub all_parts : (size : ℕ) (accesses : List RegAccess) → all_of (parts_of size accesses) ≡ accesses
all_parts size [] = refl
all_parts size (a ∷ rest) = all_filled size (a ∷ []) rest

split_all : (P : RegAccess → Type 0) (xs ys : List RegAccess) → AllByRecursion P (xs ++ ys) → AllByRecursion P xs × AllByRecursion P ys
split_all P [] ys h = (tt, h)
split_all P (x ∷ xs) ys h = (let rest = split_all P xs ys h.1 in ((h.0, rest.0), rest.1))

each_part : (P : RegAccess → Type 0) (parts : List (List RegAccess)) → AllByRecursion P (all_of parts) → AllByRecursion (λ xs. AllByRecursion P xs) parts
each_part P [] h = tt
each_part P (part ∷ parts) h = (let two = split_all P part (all_of parts) h in (two.0, each_part P parts two.1))

-- what is true of each access is true of each access of each part
pub parts_have : (P : RegAccess → Type 0) (size : ℕ) (accesses : List RegAccess) → AllByRecursion P accesses → AllByRecursion (λ xs. AllByRecursion P xs) (parts_of size accesses)
parts_have P size accesses h = each_part P (parts_of size accesses) (subst (AllByRecursion P) (sym (all_parts size accesses)) h)

pub parts_taken : (size : ℕ) (accesses : List RegAccess) → AreTaken accesses → AllTaken (parts_of size accesses)
parts_taken size accesses h = parts_have IsTaken size accesses h

-- each part has an access
filled_some : (size : ℕ) (part rest : List RegAccess) → 1 ≤ length part → AllByRecursion (λ xs. 1 ≤ length xs) (filled_parts size part rest)
filled_some size part [] some = (some, tt)
filled_some size part (a ∷ rest) some =
    by_fit (fits_guarded size (part ++ a ∷ [])) (filled_some size (part ++ a ∷ []) rest (let n = length-append part (a ∷ []) in omega arith)) (filled_some size (a ∷ []) rest (omega arith))
  where
    by_fit : (b : Bool) → AllByRecursion (λ xs. 1 ≤ length xs) (filled_parts size (part ++ a ∷ []) rest) → AllByRecursion (λ xs. 1 ≤ length xs) (filled_parts size (a ∷ []) rest) →
        AllByRecursion (λ xs. 1 ≤ length xs) (cond b (filled_parts size (part ++ a ∷ []) rest) (part ∷ filled_parts size (a ∷ []) rest))
    by_fit true longer shorter = longer
    by_fit false longer shorter = (some, shorter)

pub parts_some : (size : ℕ) (accesses : List RegAccess) → AllByRecursion (λ xs. 1 ≤ length xs) (parts_of size accesses)
parts_some size [] = tt
parts_some size (a ∷ rest) = filled_some size (a ∷ []) rest (omega arith)

filled_fit : (size : ℕ) (part rest : List RegAccess) → 64 ≤ size → size ≤ 1024 → fits_guarded size part ≡ true → AllByRecursion (λ xs. fits_guarded size xs ≡ true) (filled_parts size part rest)
filled_fit size part [] least small fits = (fits, tt)
filled_fit size part (a ∷ rest) least small fits =
    by_fit (fits_guarded size (part ++ a ∷ [])) refl (λ e. filled_fit size (part ++ a ∷ []) rest least small e)
    (filled_fit size (a ∷ []) rest least small (few_fit_guarded size (a ∷ []) small (omega arith)))
  where
    by_fit : (b : Bool) → fits_guarded size (part ++ a ∷ []) ≡ b →
        (fits_guarded size (part ++ a ∷ []) ≡ true → AllByRecursion (λ xs. fits_guarded size xs ≡ true) (filled_parts size (part ++ a ∷ []) rest)) →
        AllByRecursion (λ xs. fits_guarded size xs ≡ true) (filled_parts size (a ∷ []) rest) →
        AllByRecursion (λ xs. fits_guarded size xs ≡ true) (cond b (filled_parts size (part ++ a ∷ []) rest) (part ∷ filled_parts size (a ∷ []) rest))
    by_fit true e longer shorter = longer e
    by_fit false e longer shorter = (fits, shorter)

-- each part fits a guarded command
pub parts_fit : (size : ℕ) (accesses : List RegAccess) → 64 ≤ size → size ≤ 1024 → AllByRecursion (λ xs. fits_guarded size xs ≡ true) (parts_of size accesses)
parts_fit size [] least small = tt
parts_fit size (a ∷ rest) least small = filled_fit size (a ∷ []) rest least small (few_fit_guarded size (a ∷ []) small (omega arith))
