-- How many accesses a form holds.
use Rattle.std.proofs.Common.{◌≡◌, leb, ℕ, ◌+◌, ◌*◌, ◌-◌, ◌/◌, ◌≤◌, ◌<◌, Bool, true, false, cond, List, [], ◌∷◌, ◌++◌, length, refl, ap, sym, ◌∙◌, arith, suc, length-append, Option, Some, None, inl, inr}
use Rattle.std.proofs.Math.Nat.{mul_comm, mul-suc, mul-zero}
use Rattle.std.proofs.lemmas.Nat.{mul-le}
use Rattle.std.proofs.lemmas.Bool.{and_cases, and_parts, le-leb, leb-false, leb-true}
use Rattle.target_machine.specs.declared.access.RegAccess.{RegAccess}
use Rattle.dap_messages.specs.declared.request.Request.{Request}
use Rattle.dap_messages.specs.Requests.{reads_in}
use Rattle.flight_forms.specs.declared.form.Form.{Form}
use Rattle.flight_forms.specs.declared.form.Form.TheVariants.{Block, Transfer, Chain}
use Rattle.flight_forms.specs.Forms.{all_write_drw, bytes_in, capacity, filled_parts, fits_block, fits_chain, fits_guarded, fits_transfer, form_of, parts_of}
use Rattle.flight_forms.specs.Packing.{requests_for}
use Rattle.flight_forms.proofs.RequestSizes.{few_for, three_from, three_parts}

-- ---- few accesses fit

pub few_fit_transfer : (size : ℕ) (accesses : List RegAccess) → size ≤ 1024 → 6 * length accesses + 3 ≤ size → fits_transfer size accesses ≡ true
few_fit_transfer size accesses small few =
    let rs : List Request = requests_for false accesses in
    let all = few_for false accesses in
    three_from (leb (3 + bytes_in rs) size) (leb (3 + 4 * reads_in rs) size) (leb (length rs) 255)
    (le-leb (3 + bytes_in rs) size (let a = all.bytes in omega arith))
    (le-leb (3 + 4 * reads_in rs) size (let a = all.reads in omega arith))
    (le-leb (length rs) 255 (let a = all.requests in omega arith))

pub few_fit_guarded : (size : ℕ) (accesses : List RegAccess) → size ≤ 1024 → 6 * length accesses + 21 ≤ size → fits_guarded size accesses ≡ true
few_fit_guarded size accesses small few =
    let rs : List Request = requests_for false accesses in
    let all = few_for false accesses in
    three_from (leb (bytes_in rs + 21) size) (leb (reads_in rs) ((size - 9) / 4)) (leb (length rs) 251)
    (le-leb (bytes_in rs + 21) size (let a = all.bytes in omega arith))
    (le-leb (reads_in rs) ((size - 9) / 4) (let a = all.reads in omega arith))
    (le-leb (length rs) 251 (let a = all.requests in omega arith))

pub clash : {b : Bool} → b ≡ true → b ≡ false → ⊥
clash e f = (let g = sym e ∙ f in cc)

-- so many accesses are there where they do not fit
no_fewer : (b : Bool) (n m : ℕ) → (n < m → b ≡ true) → b ≡ false → m ≤ n
no_fewer b n m h e = by_order (leb m n) refl
  where
    by_order : (c : Bool) → leb m n ≡ c → m ≤ n
    by_order true f = leb-true m n f
    by_order false f = absurd (clash (h (leb-false m n f)) e)

-- how many accesses a part has at least that does not take one more
abbrev pub per_part : ℕ → ℕ
per_part size = (size - 21) / 6

full_part : (size : ℕ) (part : List RegAccess) (a : RegAccess) → 21 ≤ size → size ≤ 1024 → fits_guarded size (part ++ a ∷ []) ≡ false → per_part size ≤ length part
full_part size part a least small e =
    let n = length-append part (a ∷ []) in
    no_fewer (fits_guarded size (part ++ a ∷ [])) (length part) (per_part size) (λ h. few_fit_guarded size (part ++ a ∷ []) small (omega arith)) e

-- all parts but the last are full, which has an access
abbrev pub AreFull : ℕ → ℕ → List (List RegAccess) → Type 0
AreFull size n parts = (1 ≤ length parts) × (per_part size * length parts < n + per_part size)

pub full_parts : (size : ℕ) (part rest : List RegAccess) → 21 ≤ size → size ≤ 1024 → 1 ≤ length part → AreFull size (length part + length rest) (filled_parts size part rest)
full_parts size part [] least small some = (omega arith, (let a = mul-suc (per_part size) 0 in omega arith))
full_parts size part (a ∷ rest) least small some =
    let n = length-append part (a ∷ []) in
    by_fit (fits_guarded size (part ++ a ∷ [])) refl (full_parts size (part ++ a ∷ []) rest least small (omega arith)) (full_parts size (a ∷ []) rest least small (omega arith))
  where
    m : ℕ
    m = per_part size

    by_fit : (b : Bool) → fits_guarded size (part ++ a ∷ []) ≡ b → AreFull size (length (part ++ a ∷ []) + length rest) (filled_parts size (part ++ a ∷ []) rest) →
        AreFull size (1 + length rest) (filled_parts size (a ∷ []) rest) →
        AreFull size (length part + suc (length rest)) (cond b (filled_parts size (part ++ a ∷ []) rest) (part ∷ filled_parts size (a ∷ []) rest))
    by_fit true e longer shorter = (let n = length-append part (a ∷ []) in (longer.0, (let h = longer.1 in omega arith)))
    by_fit false e longer shorter =
        let full : per_part size ≤ length part = full_part size part a least small e in
        let more = mul-suc (per_part size) (length (filled_parts size (a ∷ []) rest)) in
        (omega arith, (let h = shorter.1 in omega arith))

parts_full : (size : ℕ) (accesses : List RegAccess) → 21 ≤ size → size ≤ 1024 → 1 ≤ length accesses → per_part size * length (parts_of size accesses) < length accesses + per_part size
parts_full size [] least small some = absurd (omega arith)
parts_full size (a ∷ rest) least small some = (let h = full_parts size (a ∷ []) rest least small (omega arith) in let k = h.1 in omega arith)

-- ---- where no form holds the accesses

some_or : (b : Bool) (f : Form) (rest : Option Form) → cond b (Some f) rest ≡ None → (b ≡ false) × (rest ≡ None)
some_or true f rest e = absurd (cc)
some_or false f rest e = (refl, e)

pub none_fits : (size count : ℕ) (accesses : List RegAccess) → form_of size count accesses ≡ None → (fits_transfer size accesses ≡ false) × (fits_chain size count accesses ≡ false)
none_fits size count accesses e =
    let one = some_or (fits_block size accesses) Block (cond (fits_transfer size accesses) (Some Transfer) (cond (fits_chain size count accesses) (Some Chain) None)) e in
    let two = some_or (fits_transfer size accesses) Transfer (cond (fits_chain size count accesses) (Some Chain) None) one.1 in
    let three = some_or (fits_chain size count accesses) Chain None two.1 in
    (two.0, three.0)

transfer_full : (size : ℕ) (accesses : List RegAccess) → 21 ≤ size → size ≤ 1024 → fits_transfer size accesses ≡ false → per_part size < length accesses
transfer_full size accesses least small e =
    let n = no_fewer (fits_transfer size accesses) (length accesses) (per_part size + 1) (λ h. few_fit_transfer size accesses small (omega arith)) e in omega arith

pub refused_is_full : (size count : ℕ) (accesses : List RegAccess) → 21 ≤ size → size ≤ 1024 → form_of size count accesses ≡ None → capacity size count < length accesses
refused_is_full size count accesses least small e =
    let none = none_fits size count accesses e in
    let m : ℕ = per_part size in
    let one : m < length accesses = transfer_full size accesses least small none.0 in
    elim (and_cases (leb 2 count) (leb (length (parts_of size accesses)) count) none.1) [
      | inl few ↦ (let h = leb-false 2 count few in let k = mul-le count m 1 m (omega arith) (omega arith) in omega arith)
      | inr many ↦
          let h : count < length (parts_of size accesses) = leb-false (length (parts_of size accesses)) count many in
          let k : m * suc count ≤ m * length (parts_of size accesses) = mul-le m (suc count) m (length (parts_of size accesses)) (omega arith) h in
          let n = mul-suc m count in
          let turned = mul_comm m count in
          let full = parts_full size accesses least small (omega arith) in
          omega arith
    ]

-- ---- each single access fits

pub one_fits : (size count : ℕ) (a : RegAccess) → 64 ≤ size → size ≤ 1024 → form_of size count (a ∷ []) ≡ Some Transfer
one_fits size count a least small =
    ap (λ b. cond b (Some Transfer) (cond (fits_chain size count (a ∷ [])) (Some Chain) None)) (few_fit_transfer size (a ∷ []) small (omega arith))

-- writes of DRW that no form holds are more than a block of them
pub refused_writes : (size count : ℕ) (accesses : List RegAccess) → 64 ≤ size → size ≤ 1024 → 1 ≤ length accesses → all_write_drw accesses ≡ true → form_of size count accesses ≡ None →
    (size - 5) / 4 < length accesses
refused_writes size count [] least small some write e = absurd (omega arith)
refused_writes size count (a ∷ []) least small some write e = absurd (let x : ◌≡◌ {A = Option Form} None (Some Transfer) = sym e ∙ one_fits size count a least small in cc)
refused_writes size count (a ∷ b ∷ rest) least small some write e =
    let xs : List RegAccess = a ∷ b ∷ rest in
    let one = some_or (fits_block size xs) Block (cond (fits_transfer size xs) (Some Transfer) (cond (fits_chain size count xs) (Some Chain) None)) e in
    by_room (leb (5 + 4 * length xs) size) refl one.0
  where
    by_room : (room : Bool) → leb (5 + 4 * length (a ∷ b ∷ rest)) size ≡ room → fits_block size (a ∷ b ∷ rest) ≡ false → (size - 5) / 4 < length (a ∷ b ∷ rest)
    by_room true h none =
        let two : leb 2 (length (a ∷ b ∷ rest)) ≡ true = le-leb 2 (length (a ∷ b ∷ rest)) (omega arith) in
        absurd (clash (three_from (leb 2 (length (a ∷ b ∷ rest))) (all_write_drw (a ∷ b ∷ rest)) (leb (5 + 4 * length (a ∷ b ∷ rest)) size) two write h) none)
    by_room false h none = (let more = leb-false (5 + 4 * length (a ∷ b ∷ rest)) size h in omega arith)

-- ---- no form holds more than 255 accesses a packet

pub transfer_most : (size : ℕ) (accesses : List RegAccess) → fits_transfer size accesses ≡ true → length accesses ≤ 255
transfer_most size accesses e =
    let rs : List Request = requests_for false accesses in
    let all = three_parts (leb (3 + bytes_in rs) size) (leb (3 + 4 * reads_in rs) size) (leb (length rs) 255) e in
    let few = leb-true (length rs) 255 all.2 in
    let some = few_for false accesses in
    (let s = some.some in omega arith)

pub guarded_most : (size : ℕ) (accesses : List RegAccess) → fits_guarded size accesses ≡ true → length accesses ≤ 251
guarded_most size accesses e =
    let rs : List Request = requests_for false accesses in
    let all = three_parts (leb (bytes_in rs + 21) size) (leb (reads_in rs) ((size - 9) / 4)) (leb (length rs) 251) e in
    let few = leb-true (length rs) 251 all.2 in
    let some = few_for false accesses in
    (let s = some.some in omega arith)

filled_most : (size : ℕ) (part rest : List RegAccess) → 64 ≤ size → size ≤ 1024 → length part ≤ 251 → length part + length rest ≤ 251 * length (filled_parts size part rest)
filled_most size part [] least small few = omega arith
filled_most size part (a ∷ rest) least small few =
    by_fit (fits_guarded size (part ++ a ∷ [])) refl (λ h. filled_most size (part ++ a ∷ []) rest least small h) (filled_most size (a ∷ []) rest least small (omega arith))
  where
    by_fit : (b : Bool) → fits_guarded size (part ++ a ∷ []) ≡ b →
        (length (part ++ a ∷ []) ≤ 251 → length (part ++ a ∷ []) + length rest ≤ 251 * length (filled_parts size (part ++ a ∷ []) rest)) →
        1 + length rest ≤ 251 * length (filled_parts size (a ∷ []) rest) →
        length part + suc (length rest) ≤ 251 * length (cond b (filled_parts size (part ++ a ∷ []) rest) (part ∷ filled_parts size (a ∷ []) rest))
    by_fit true e longer shorter =
        let n = length-append part (a ∷ []) in
        let more = longer (guarded_most size (part ++ a ∷ []) e) in
        omega arith
    by_fit false e longer shorter = omega arith

parts_most : (size : ℕ) (accesses : List RegAccess) → 64 ≤ size → size ≤ 1024 → length accesses ≤ 251 * length (parts_of size accesses)
parts_most size [] least small = omega arith
parts_most size (a ∷ rest) least small = (let h = filled_most size (a ∷ []) rest least small (omega arith) in omega arith)

pub held_most : (size count : ℕ) (accesses : List RegAccess) (f : Form) → 64 ≤ size → size ≤ 1024 → 1 ≤ count → form_of size count accesses ≡ Some f → length accesses ≤ 255 * count
held_most size count accesses f least small some e = by_block (fits_block size accesses) refl
  where
    chain_most : fits_chain size count accesses ≡ true → length accesses ≤ 255 * count
    chain_most h =
        let two = and_parts (leb 2 count) (leb (length (parts_of size accesses)) count) h in
        let few = leb-true (length (parts_of size accesses)) count two.1 in
        let most = parts_most size accesses least small in
        omega arith

    by_chain : (b : Bool) → fits_chain size count accesses ≡ b → cond {A = Option Form} b (Some Chain) None ≡ Some f → length accesses ≤ 255 * count
    by_chain true h g = chain_most h
    by_chain false h g = absurd (cc)

    by_transfer : (b : Bool) → fits_transfer size accesses ≡ b → cond {A = Option Form} b (Some Transfer) (cond (fits_chain size count accesses) (Some Chain) None) ≡ Some f → length accesses ≤ 255 * count
    by_transfer true h g = (let few = transfer_most size accesses h in omega arith)
    by_transfer false h g = by_chain (fits_chain size count accesses) refl g

    by_block : (b : Bool) → fits_block size accesses ≡ b → length accesses ≤ 255 * count
    by_block true h =
        let all = three_parts (leb 2 (length accesses)) (all_write_drw accesses) (leb (5 + 4 * length accesses) size) h in
        let few = leb-true (5 + 4 * length accesses) size all.2 in
        omega arith
    by_block false h =
        by_transfer (fits_transfer size accesses) refl
        (sym (ap (λ b. cond {A = Option Form} b (Some Block) (cond (fits_transfer size accesses) (Some Transfer) (cond (fits_chain size count accesses) (Some Chain) None))) h) ∙ e)
