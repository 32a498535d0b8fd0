-- Flights that were sent because there was no room, by their writes of DRW.
use Rattle.std.proofs.Common.{◌≡◌, ◌⊎◌, inl, inr, ◌∙◌, ℕ, zero, suc, ◌+◌, ◌*◌, ◌<◌, ◌≤◌, ◌==◌, Bool, true, false, not, ◌&&◌, List, [], ◌∷◌, ◌++◌, length, take, refl, sym, ap, subst, arith, append_assoc, length-append}
use Rattle.std.proofs.lemmas.Bool.{eqb-true}
use Rattle.std.proofs.lemmas.List.{map-append}
use Rattle.std.proofs.lemmas.List.Sums.{sum_by-append, sum_by-cons}
use Rattle.std.proofs.Math.Seq.{take-append_seam}
use Rattle.std.specs.Prelude.{bit_and, sum_by}
use Rattle.target_machine.specs.Plain.{Makes}
use Rattle.target_machine.specs.declared.access.RegAccess.{RegAccess}
use Rattle.probe_core.specs.declared.job.Limits.{Limits}
use Rattle.target_machine.specs.Counts.{one_if}
use Rattle.target_calls.specs.Journal.{Entry, actions_in}
use Rattle.access_regs.specs.Journal.{making}
use Rattle.access_calls.specs.Bounds.{block_words, flight_capacity}
use Rattle.flight_forms.specs.Forms.{all_write_drw, writes_drw}
use Rattle.flight_laws.specs.Packets.{drw_writes_in, is_drw_write}
use Rattle.flight_laws.proofs.FlightLemmas.{flight_length, head_makes}
use Rattle.bench_flights.specs.Full.{IsFull, transfer_accesses}
use Rattle.flight_laws.specs.Changes.{changes_after, changes_in, differs, others_in}
use Rattle.packed_access.specs.Blocks.{AreBlocks}

-- ---- more entries, and longer lists

pub sum_upto : (f : Entry → ℕ) (n k : ℕ) (es : List Entry) → n ≤ k → sum_by f (take n es) ≤ sum_by f (take k es)
sum_upto f zero k es le = omega arith
sum_upto f (suc n) zero es le = absurd (omega (arith, le))
sum_upto f (suc n) (suc k) [] le = omega arith
sum_upto f (suc n) (suc k) (e ∷ es) le =
    let rest = sum_upto f n k es (omega (arith, le)) in
    let a = sum_by-cons f e (take n es) in
    let b = sum_by-cons f e (take k es) in
    omega (arith, rest, a, b)

pub sum_longer : (f : Entry → ℕ) (n : ℕ) (xs ys : List Entry) → sum_by f (take n xs) ≤ sum_by f (take n (xs ++ ys))
sum_longer f zero xs ys = omega arith
sum_longer f (suc n) [] ys = omega arith
sum_longer f (suc n) (x ∷ xs) ys =
    let rest = sum_longer f n xs ys in
    let a = sum_by-cons f x (take n xs) in
    let b = sum_by-cons f x (take n (xs ++ ys)) in
    omega (arith, rest, a, b)

changes_upto : (b : Bool) (n k : ℕ) (es : List Entry) → n ≤ k → changes_after b (take n es) ≤ changes_after b (take k es)
changes_upto b zero k es le = omega arith
changes_upto b (suc n) zero es le = absurd (omega (arith, le))
changes_upto b (suc n) (suc k) [] le = omega arith
changes_upto b (suc n) (suc k) (e ∷ es) le = (let rest = changes_upto (is_drw_write e.action) n k es (omega (arith, le)) in omega (arith, rest))

changes_longer : (b : Bool) (n : ℕ) (xs ys : List Entry) → changes_after b (take n xs) ≤ changes_after b (take n (xs ++ ys))
changes_longer b zero xs ys = omega arith
changes_longer b (suc n) [] ys = omega arith
changes_longer b (suc n) (x ∷ xs) ys = (let rest = changes_longer (is_drw_write x.action) n xs ys in omega (arith, rest))

-- more are confirmed, or asked
pub blocks_grown : (full : ℕ) (limits limits' : Limits) (entries entries' more : List Entry) (confirmed confirmed' : ℕ) → AreBlocks full limits entries confirmed → limits' ≡ limits → entries' ≡ entries ++ more → confirmed ≤ confirmed' → AreBlocks full limits' entries' confirmed'
blocks_grown full limits limits' entries entries' more confirmed confirmed' h same longer le =
    subst (λ (l : Limits). AreBlocks full l entries' confirmed') (sym same)
    (subst (λ (es : List Entry). AreBlocks full limits es confirmed') (sym longer)
    (record {
      blocks = h.blocks;
      mixed = h.mixed;
      bare = h.bare;
      all = h.all;
      written = (let w = h.written in let a = sum_longer write confirmed entries more in let b = sum_upto write confirmed confirmed' (entries ++ more) le in omega (arith, w, a, b));
      changing = (let c = h.changing in let a = changes_longer false (confirmed + 1) entries more in let b = changes_upto false (confirmed + 1) (confirmed' + 1) (entries ++ more) (omega (arith, le)) in omega (arith, c, a, b));
      others = (let o = h.others in let a = sum_longer other confirmed entries more in let b = sum_upto other confirmed confirmed' (entries ++ more) le in omega (arith, o, a, b));
      sizes = (let z = h.sizes in let a = sum_longer write confirmed entries more in let b = sum_upto write confirmed confirmed' (entries ++ more) le in let c = sum_longer other confirmed entries more in let d = sum_upto other confirmed confirmed' (entries ++ more) le in omega (arith, z, a, b, c, d));
    }))
  where
    write : Entry → ℕ
    write = λ e. one_if (is_drw_write e.action)

    other : Entry → ℕ
    other = λ e. one_if (not (is_drw_write e.action))

-- ---- entries without a change

same_writes : (es : List Entry) → changes_after true es ≡ 0 → drw_writes_in es ≡ length es
same_writes [] h = refl
same_writes (e ∷ es) h = sum_by-cons (λ (x : Entry). one_if (is_drw_write x.action)) e es ∙ by_kind (λ k. same_writes es k) (is_drw_write e.action) refl
  where
    by_kind : (changes_after true es ≡ 0 → drw_writes_in es ≡ length es) → (b : Bool) → is_drw_write e.action ≡ b → one_if (is_drw_write e.action) + drw_writes_in es ≡ suc (length es)
    by_kind again true is =
        let one = ap one_if is in
        let rest = again (let k = ap (λ (b : Bool). differs true b + changes_after b es) is in omega (arith, k, h)) in
        omega (arith, one, rest)
    by_kind again false is = absurd (let k = ap (λ (b : Bool). differs true b + changes_after b es) is in omega (arith, k, h))

same_others : (es : List Entry) → changes_after false es ≡ 0 → others_in es ≡ length es
same_others [] h = refl
same_others (e ∷ es) h = sum_by-cons (λ (x : Entry). one_if (not (is_drw_write x.action))) e es ∙ by_kind (λ k. same_others es k) (is_drw_write e.action) refl
  where
    by_kind : (changes_after false es ≡ 0 → others_in es ≡ length es) → (b : Bool) → is_drw_write e.action ≡ b → one_if (not (is_drw_write e.action)) + others_in es ≡ suc (length es)
    by_kind again false is =
        let one = ap (λ (b : Bool). one_if (not b)) is in
        let rest = again (let k = ap (λ (b : Bool). differs false b + changes_after b es) is in omega (arith, k, h)) in
        omega (arith, one, rest)
    by_kind again true is = absurd (let k = ap (λ (b : Bool). differs false b + changes_after b es) is in omega (arith, k, h))

all_kinds : (es : List Entry) → drw_writes_in es + others_in es ≡ length es
all_kinds [] = refl
all_kinds (e ∷ es) =
    let a = sum_by-cons (λ (x : Entry). one_if (is_drw_write x.action)) e es in
    let b = sum_by-cons (λ (x : Entry). one_if (not (is_drw_write x.action))) e es in
    let c = by_kind (is_drw_write e.action) in
    let r = all_kinds es in
    omega (arith, a, b, c, r)
  where
    by_kind : (b : Bool) → one_if b + one_if (not b) ≡ 1
    by_kind true = refl
    by_kind false = refl

changes_front : (b : Bool) (xs ys : List Entry) → changes_after b xs ≤ changes_after b (xs ++ ys)
changes_front b [] ys = omega arith
changes_front b (x ∷ xs) ys = (let r = changes_front (is_drw_write x.action) xs ys in omega (arith, r))

changes_split : (b : Bool) (xs : List Entry) (x : Entry) (ys : List Entry) → changes_after b (xs ++ x ∷ ys) ≡ changes_after b (xs ++ x ∷ []) + changes_after (is_drw_write x.action) ys
changes_split b [] x ys = omega arith
changes_split b (e ∷ xs) x ys = (let r = changes_split (is_drw_write e.action) xs x ys in omega (arith, r))

-- ---- a flight and the access after it

drw_by_parts : (x y : Bool) (n : ℕ) → (x && (not y && (n == 12))) ≡ true → ((x && not y) && (bit_and n 12 == 12)) ≡ true
drw_by_parts true false n h = ap (λ (k : ℕ). bit_and k 12 == 12) (eqb-true n 12 h)
drw_by_parts true true n h = absurd (cc)
drw_by_parts false y n h = absurd (cc)

drw_write : (a : RegAccess) → is_drw_write (Makes a) ≡ true → writes_drw a ≡ true
drw_write a h = drw_by_parts a.ap a.read a.addr h

all_writes : (es : List Entry) (accesses : List RegAccess) → actions_in es ≡ making accesses → changes_after true es ≡ 0 → all_write_drw accesses ≡ true
all_writes [] [] e h = refl
all_writes [] (a ∷ accesses) e h = absurd (cc)
all_writes (x ∷ es) [] e h = absurd (cc)
all_writes (x ∷ es) (a ∷ accesses) e h = by_kind (λ f k. all_writes es accesses f k) (is_drw_write x.action) refl
  where
    p : (x.action ≡ Makes a) × (actions_in es ≡ making accesses)
    p = head_makes x.action (Makes a) (actions_in es) (making accesses) e

    by_kind : (actions_in es ≡ making accesses → changes_after true es ≡ 0 → all_write_drw accesses ≡ true) → (b : Bool) → is_drw_write x.action ≡ b → all_write_drw (a ∷ accesses) ≡ true
    by_kind again true is =
        let first : writes_drw a ≡ true = drw_write a (ap is_drw_write (sym p.0) ∙ is) in
        let rest = again p.1 (let k = ap (λ (b : Bool). differs true b + changes_after b es) is in omega (arith, k, h)) in
        (λ j. first j && rest j)
    by_kind again false is = absurd (let k = ap (λ (b : Bool). differs true b + changes_after b es) is in omega (arith, k, h))

-- ---- one more of them

module _ (full : ℕ) (limits : Limits) (made flying rest : List Entry) (e : Entry) (next : RegAccess) (accesses : List RegAccess) (h : AreBlocks full limits (made ++ (flying ++ e ∷ rest)) (length made))
    (flight : actions_in flying ≡ making accesses) (makes : e.action ≡ Makes next) (is_full : IsFull limits accesses next) where
  abbrev all : List Entry
  all = made ++ (flying ++ e ∷ rest)

  abbrev count : ℕ
  count = length made + length flying

  size : length flying ≡ length accesses
  size = flight_length flying accesses flight

  made_front : take (length made) all ≡ made
  made_front = take-append_seam made (flying ++ e ∷ rest)

  flown_front : take count all ≡ made ++ flying
  flown_front =
      let l : count ≡ length (made ++ flying) = (let k = length-append made flying in omega (arith, k)) in
      (λ j. take (l j) (sym (append_assoc made flying (e ∷ rest)) j)) ∙ take-append_seam (made ++ flying) (e ∷ rest)

  writes_both : drw_writes_in (take count all) ≡ drw_writes_in (take (length made) all) + drw_writes_in flying
  writes_both = ap drw_writes_in flown_front ∙ sum_by-append (λ (x : Entry). one_if (is_drw_write x.action)) made flying ∙ ap (λ (l : List Entry). drw_writes_in l + drw_writes_in flying) (sym made_front)

  others_both : others_in (take count all) ≡ others_in (take (length made) all) + others_in flying
  others_both = ap others_in flown_front ∙ sum_by-append (λ (x : Entry). one_if (not (is_drw_write x.action))) made flying ∙ ap (λ (l : List Entry). others_in l + others_in flying) (sym made_front)

  further : changes_in (take (length made + 1) all) ≤ changes_in (take (count + 1) all)
  further = changes_upto false (length made + 1) (count + 1) all (omega arith)

  -- all of them are writes of DRW
  full_block : changes_after true (flying ++ e ∷ []) ≡ 0 → AreBlocks (full + 1) limits all count
  full_block none = record {
    blocks = h.blocks + 1;
    mixed = h.mixed;
    bare = h.bare;
    all = (let a = h.all in omega (arith, a));
    written = (let w = h.written in let b = writes_both in let s = same_writes flying front in let d : (h.blocks + 1) * block_words limits ≡ h.blocks * block_words limits + block_words limits = omega arith in let m = is_full.words writes in let l = size in omega (arith, w, b, s, d, m, l));
    changing = (let c = h.changing in let f = further in omega (arith, c, f));
    others = (let o = h.others in let b = others_both in omega (arith, o, b));
    sizes = (let z = h.sizes in let a = writes_both in let b = others_both in let s = same_writes flying front in let l = size in let m = is_full.words writes in let d : (h.blocks + 1) * block_words limits ≡ h.blocks * block_words limits + block_words limits = omega arith in omega (arith, z, a, b, s, l, m, d));
  }
    where
      front : changes_after true flying ≡ 0
      front = (let f = changes_front true flying (e ∷ []) in omega (arith, f, none))

      writes : all_write_drw (accesses ++ next ∷ []) ≡ true
      writes = all_writes (flying ++ e ∷ []) (accesses ++ next ∷ []) (map-append (λ (x : Entry). x.action) flying (e ∷ []) ∙ (λ j. flight j ++ makes j ∷ []) ∙ sym (map-append (λ (a : RegAccess). Makes a) accesses (next ∷ []))) none

  -- none of the flight is
  full_bare : others_in flying ≡ length flying → AreBlocks (full + 1) limits all count
  full_bare none = record {
    blocks = h.blocks;
    mixed = h.mixed;
    bare = h.bare + 1;
    all = (let a = h.all in omega (arith, a));
    written = (let w = h.written in let b = writes_both in omega (arith, w, b));
    changing = (let c = h.changing in let f = further in omega (arith, c, f));
    others = (let o = h.others in let b = others_both in let d : (h.bare + 1) * flight_capacity limits ≡ h.bare * flight_capacity limits + flight_capacity limits = omega arith in let l = size in let many = is_full.many in omega (arith, o, b, none, d, l, many));
    sizes = (let z = h.sizes in let a = writes_both in let b = others_both in let k = all_kinds flying in let l = size in let m = is_full.wide in let d : (h.mixed + (h.bare + 1)) * transfer_accesses limits ≡ (h.mixed + h.bare) * transfer_accesses limits + transfer_accesses limits = omega arith in omega (arith, z, a, b, k, l, m, d));
  }

  -- both are there
  full_mixed : changes_in (take (length made + 1) all) + 1 ≤ changes_in (take (count + 1) all) → AreBlocks (full + 1) limits all count
  full_mixed more = record {
    blocks = h.blocks;
    mixed = h.mixed + 1;
    bare = h.bare;
    all = (let a = h.all in omega (arith, a));
    written = (let w = h.written in let b = writes_both in omega (arith, w, b));
    changing = (let c = h.changing in omega (arith, c, more));
    others = (let o = h.others in let b = others_both in omega (arith, o, b));
    sizes = (let z = h.sizes in let a = writes_both in let b = others_both in let k = all_kinds flying in let l = size in let m = is_full.wide in let d : (h.mixed + 1 + h.bare) * transfer_accesses limits ≡ (h.mixed + h.bare) * transfer_accesses limits + transfer_accesses limits = omega arith in omega (arith, z, a, b, k, l, m, d));
  }

-- the places up to the first entry of a flight, and up to the entry after it
first_place : (made fs rest : List Entry) (f e : Entry) → take (length made + 1) (made ++ ((f ∷ fs) ++ e ∷ rest)) ≡ made ++ f ∷ []
first_place made fs rest f e =
    let l : length made + 1 ≡ length (made ++ f ∷ []) = (let k = length-append made (f ∷ []) in omega (arith, k)) in
    (λ j. take (l j) (sym (append_assoc made (f ∷ []) (fs ++ e ∷ rest)) j)) ∙ take-append_seam (made ++ f ∷ []) (fs ++ e ∷ rest)

after_place : (made fs rest : List Entry) (f e : Entry) → take ((length made + suc (length fs)) + 1) (made ++ ((f ∷ fs) ++ e ∷ rest)) ≡ made ++ f ∷ (fs ++ e ∷ [])
after_place made fs rest f e =
    let front : List Entry = made ++ f ∷ (fs ++ e ∷ []) in
    let l : (length made + suc (length fs)) + 1 ≡ length front = (let k = length-append made (f ∷ (fs ++ e ∷ [])) in let m = length-append fs (e ∷ []) in omega (arith, k, m)) in
    let same : made ++ ((f ∷ fs) ++ e ∷ rest) ≡ front ++ rest = ap (λ (x : List Entry). made ++ f ∷ x) (sym (append_assoc fs (e ∷ []) rest)) ∙ sym (append_assoc made (f ∷ (fs ++ e ∷ [])) rest) in
    (λ j. take (l j) (same j)) ∙ take-append_seam front rest

one_more : (full : ℕ) (limits : Limits) (made flying rest : List Entry) (e : Entry) (next : RegAccess) (accesses : List RegAccess) → AreBlocks full limits (made ++ (flying ++ e ∷ rest)) (length made) → actions_in flying ≡ making accesses → e.action ≡ Makes next →
    IsFull limits accesses next → AreBlocks (full + 1) limits (made ++ (flying ++ e ∷ rest)) (length made + length flying)
one_more full limits made [] rest e next accesses h flight makes is_full = full_bare full limits made [] rest e next accesses h flight makes is_full refl
one_more full limits made (f ∷ fs) rest e next accesses h flight makes is_full = by_changes (changes_after (is_drw_write f.action) (fs ++ e ∷ [])) refl (is_drw_write f.action) refl
  where
    by_changes : (n : ℕ) → changes_after (is_drw_write f.action) (fs ++ e ∷ []) ≡ n → (b : Bool) → is_drw_write f.action ≡ b → AreBlocks (full + 1) limits (made ++ ((f ∷ fs) ++ e ∷ rest)) (length made + suc (length fs))
    by_changes zero none true is = full_block full limits made (f ∷ fs) rest e next accesses h flight makes is_full
        (let k = ap (λ (b : Bool). differs true b) is in omega (arith, k, none))
    by_changes zero none false is = full_bare full limits made (f ∷ fs) rest e next accesses h flight makes is_full
        (same_others (f ∷ fs) (let k = ap (λ (b : Bool). differs false b) is in let c = changes_front (is_drw_write f.action) fs (e ∷ []) in omega (arith, k, none, c)))
    by_changes (suc n) some b is = full_mixed full limits made (f ∷ fs) rest e next accesses h flight makes is_full
        (let x = ap changes_in (first_place made fs rest f e) in let y = ap changes_in (after_place made fs rest f e) in let z = changes_split false made f (fs ++ e ∷ []) in omega (arith, x, y, z, some))

-- a flight was sent for which there was no room for one access more
pub blocks_full : (full : ℕ) (limits limits' : Limits) (made flying rest entries entries' : List Entry) (e : Entry) (next : RegAccess) (accesses : List RegAccess) (confirmed confirmed' : ℕ) → AreBlocks full limits entries confirmed → entries ≡ made ++ (flying ++ e ∷ rest) → length made ≡ confirmed →
    actions_in flying ≡ making accesses → e.action ≡ Makes next → IsFull limits accesses next → limits' ≡ limits → entries' ≡ entries → confirmed' ≡ confirmed + length flying →
    AreBlocks (full + 1) limits' entries' confirmed'
blocks_full full limits limits' made flying rest entries entries' e next accesses confirmed confirmed' h are at flight makes is_full same again later =
    subst (λ (l : Limits). AreBlocks (full + 1) l entries' confirmed') (sym same)
    (subst (λ (es : List Entry). AreBlocks (full + 1) limits es confirmed') (sym (again ∙ are))
    (subst (λ (n : ℕ). AreBlocks (full + 1) limits (made ++ (flying ++ e ∷ rest)) n) (sym (later ∙ ap (λ (n : ℕ). n + length flying) (sym at)))
    (one_more full limits made flying rest e next accesses (subst (λ (n : ℕ). AreBlocks full limits (made ++ (flying ++ e ∷ rest)) n) (sym at) (subst (λ (es : List Entry). AreBlocks full limits es confirmed) are h)) flight makes is_full)))
