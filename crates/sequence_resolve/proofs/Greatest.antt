-- Candidates put one after another leave the greatest of each name.
use Rattle.std.proofs.Common.{◌≡◌, ℕ, ◌<◌, ◌≤◌, Bool, true, false, cond, nat_le, List, [], ◌∷◌, ◌++◌, map, bytes_eq, refl, ap, sym, subst, ◌∙◌, arith, append_assoc, true≢false, ◌||◌}
use Rattle.std.proofs.lemmas.Bool.{leb-true, leb-false, or_parts}
use Rattle.std.proofs.lemmas.List.{append-nil}
use Rattle.std.specs.List.{AllByRecursion, list_any, IsDistinct}
use Rattle.sequence_resolve.specs.Effective.{Candidate, name_added, names_after, NoneAbove, AllBelow, Wins, AreWinners, entry_of}
use Rattle.sequence_resolve.specs.Winners.{with_candidate, with_all}
use Rattle.dap_base.proofs.Basics.{text_itself, same_text}

abbrev pub names_of : List Candidate → List (List ℕ)
names_of ws = map (λ w. w.sequence.name) ws

-- ---- the names

kept_name : (over : Bool) (c w : Candidate) (ws : List Candidate) → c.sequence.name ≡ w.sequence.name → names_of (cond over c w ∷ ws) ≡ names_of (w ∷ ws)
kept_name true c w ws e = ap (λ n. n ∷ names_of ws) e
kept_name false c w ws e = refl

names_at : (b : Bool) (c w : Candidate) (ws rest : List Candidate) (more : List (List ℕ)) → bytes_eq c.sequence.name w.sequence.name ≡ b → names_of rest ≡ more
    → names_of (cond b (cond (nat_le w.rank c.rank) c w ∷ ws) (w ∷ rest)) ≡ cond b (w.sequence.name ∷ names_of ws) (w.sequence.name ∷ more)
names_at true c w ws rest more is e = kept_name (nat_le w.rank c.rank) c w ws (same_text _ _ is)
names_at false c w ws rest more is e = ap (λ ns. w.sequence.name ∷ ns) e

names-with_candidate : (ws : List Candidate) (c : Candidate) → names_of (with_candidate ws c) ≡ name_added (names_of ws) c.sequence.name
names-with_candidate [] c = refl
names-with_candidate (w ∷ ws) c = names_at (bytes_eq c.sequence.name w.sequence.name) c w ws (with_candidate ws c) _ refl (names-with_candidate ws c)

names-with_all : (ws cs : List Candidate) → names_of (with_all ws cs) ≡ names_after (names_of ws) cs
names-with_all ws [] = refl
names-with_all ws (c ∷ cs) = names-with_all (with_candidate ws c) cs ∙ ap (λ ns. names_after ns cs) (names-with_candidate ws c)

-- ---- what stays true with one more candidate

NoneAbove-append : (xs ys : List Candidate) (w : Candidate) → NoneAbove xs w → NoneAbove ys w → NoneAbove (xs ++ ys) w
NoneAbove-append [] ys w h k = k
NoneAbove-append (x ∷ xs) ys w h k = (h.0, NoneAbove-append xs ys w h.1 k)

AllBelow-append : (cs : List Candidate) (c w : Candidate) → AllBelow cs w → (bytes_eq c.sequence.name w.sequence.name ≡ true → c.rank < w.rank) → AllBelow (cs ++ c ∷ []) w
AllBelow-append [] c w h last = (last, tt)
AllBelow-append (x ∷ cs) c w h last = (h.0, AllBelow-append cs c w h.1 last)

-- what stands below it does not stand above it
below_not_above : (cs : List Candidate) (w : Candidate) → AllBelow cs w → NoneAbove cs w
below_not_above [] w h = tt
below_not_above (c ∷ cs) w h = (λ is. (let lt : c.rank < w.rank = h.0 is in omega arith), below_not_above cs w h.1)

-- none of all the candidates stands above a winner
greatest_of : (cs : List Candidate) (w : Candidate) → Wins cs w → NoneAbove cs w
greatest_of cs w h =
    subst (λ xs. NoneAbove xs w) (sym h.candidate) (NoneAbove-append h.before (w ∷ h.after) w h.greatest ((λ is. omega arith), below_not_above h.after w h.last))

-- one that stands below the winner, or has another name
stays : (cs : List Candidate) (c w : Candidate) → Wins cs w → (bytes_eq c.sequence.name w.sequence.name ≡ true → c.rank < w.rank) → Wins (cs ++ c ∷ []) w
stays cs c w h below = record {
  before = h.before;
  after = h.after ++ c ∷ [];
  candidate = ap (λ xs. xs ++ c ∷ []) h.candidate ∙ append_assoc h.before (w ∷ h.after) (c ∷ []);
  greatest = h.greatest;
  last = AllBelow-append h.after c w h.last below;
}

-- the winners of other names
all_stay : (cs : List Candidate) (c : Candidate) (ws : List Candidate) → AllByRecursion (Wins cs) ws → list_any (bytes_eq c.sequence.name) (names_of ws) ≡ false → AllByRecursion (Wins (cs ++ c ∷ [])) ws
all_stay cs c [] h other = tt
all_stay cs c (w ∷ ws) h other =
    let apart = or_parts (bytes_eq c.sequence.name w.sequence.name) (list_any (bytes_eq c.sequence.name) (names_of ws)) other in
    (stays cs c w h.0 (λ e. absurd (true≢false (sym e ∙ apart.0))), all_stay cs c ws h.1 apart.1)

-- none stands above a candidate that no winner of its name stands above
NoneAbove-over : (cs : List Candidate) (c w : Candidate) → c.sequence.name ≡ w.sequence.name → w.rank ≤ c.rank → NoneAbove cs w → NoneAbove cs c
NoneAbove-over [] c w e le h = tt
NoneAbove-over (x ∷ cs) c w e le h =
    let first : bytes_eq x.sequence.name c.sequence.name ≡ true → x.rank ≤ c.rank = λ is. (let at_w : x.rank ≤ w.rank = h.0 (subst (λ n. bytes_eq x.sequence.name n ≡ true) e is) in omega (arith, at_w, le)) in
    (first, NoneAbove-over cs c w e le h.1)

wins_last : (cs : List Candidate) (c : Candidate) → NoneAbove cs c → Wins (cs ++ c ∷ []) c
wins_last cs c h = record { before = cs; after = []; candidate = refl; greatest = h; last = tt }

-- of two of one name, the later one unless the other stands above it
wins_of_two : (b : Bool) (cs : List Candidate) (c w : Candidate) → nat_le w.rank c.rank ≡ b → c.sequence.name ≡ w.sequence.name → Wins cs w → Wins (cs ++ c ∷ []) (cond b c w)
wins_of_two true cs c w is e h = wins_last cs c (NoneAbove-over cs c w e (leb-true w.rank c.rank is) (greatest_of cs w h))
wins_of_two false cs c w is e h = stays cs c w h (λ same. leb-false w.rank c.rank is)

-- ---- names are distinct, and each candidate has one of them

abbrev Distinct : List (List ℕ) → Type 0
Distinct [] = Unit {0}
Distinct (n ∷ ns) = (list_any (bytes_eq n) ns ≡ false) × Distinct ns

abbrev Covers : List (List ℕ) → List Candidate → Type 0
Covers names [] = Unit {0}
Covers names (c ∷ cs) = (list_any (bytes_eq c.sequence.name) names ≡ true) × Covers names cs

NoneAbove-absent : (names : List (List ℕ)) (cs : List Candidate) (c : Candidate) → Covers names cs → list_any (bytes_eq c.sequence.name) names ≡ false → NoneAbove cs c
NoneAbove-absent names [] c h absent = tt
NoneAbove-absent names (x ∷ cs) c h absent =
    let first : bytes_eq x.sequence.name c.sequence.name ≡ true → x.rank ≤ c.rank = λ is. absurd (true≢false (sym (subst (λ n. list_any (bytes_eq n) names ≡ true) (same_text _ _ is) h.0) ∙ absent)) in
    (first, NoneAbove-absent names cs c h.1 absent)

-- ---- one more candidate

abbrev Every : List Candidate → List Candidate → Type 0
Every cs ws = AllByRecursion (Wins cs) ws

one_more_at : (b : Bool) (cs : List Candidate) (c w : Candidate) (ws rest : List Candidate) → bytes_eq c.sequence.name w.sequence.name ≡ b → Wins cs w → Every cs ws → list_any (bytes_eq w.sequence.name) (names_of ws) ≡ false
    → (b ≡ false → Every (cs ++ c ∷ []) rest) → Every (cs ++ c ∷ []) (cond b (cond (nat_le w.rank c.rank) c w ∷ ws) (w ∷ rest))
one_more_at true cs c w ws rest is h each apart later =
    let e = same_text c.sequence.name w.sequence.name is in
    (wins_of_two (nat_le w.rank c.rank) cs c w refl e h, all_stay cs c ws each (subst (λ n. list_any (bytes_eq n) (names_of ws) ≡ false) (sym e) apart))
one_more_at false cs c w ws rest is h each apart later = (stays cs c w h (λ e. absurd (true≢false (sym e ∙ is))), later refl)

one_more : (cs ws : List Candidate) (c : Candidate) → Every cs ws → Distinct (names_of ws) → (list_any (bytes_eq c.sequence.name) (names_of ws) ≡ false → NoneAbove cs c) → Every (cs ++ c ∷ []) (with_candidate ws c)
one_more cs [] c each apart absent = (wins_last cs c (absent refl), tt)
one_more cs (w ∷ ws) c each apart absent =
    one_more_at (bytes_eq c.sequence.name w.sequence.name) cs c w ws (with_candidate ws c) refl each.0 each.1 apart.0
    (λ is. one_more cs ws c each.1 apart.1 (λ none. absent (rw is none)))

-- ---- names with one more

added_lacks_at : (b : Bool) (n m k : List ℕ) (ns rest : List (List ℕ)) → bytes_eq n k || list_any (bytes_eq n) ns ≡ false → list_any (bytes_eq n) rest ≡ false → list_any (bytes_eq n) (cond b (k ∷ ns) (k ∷ rest)) ≡ false
added_lacks_at true n m k ns rest h later = h
added_lacks_at false n m k ns rest h later = rw ((or_parts (bytes_eq n k) (list_any (bytes_eq n) ns) h).0, later) refl

added_lacks : (ns : List (List ℕ)) (n m : List ℕ) → list_any (bytes_eq n) ns ≡ false → bytes_eq n m ≡ false → list_any (bytes_eq n) (name_added ns m) ≡ false
added_lacks [] n m h apart = rw apart refl
added_lacks (k ∷ ns) n m h apart = added_lacks_at (bytes_eq m k) n m k ns (name_added ns m) h (added_lacks ns n m (or_parts (bytes_eq n k) (list_any (bytes_eq n) ns) h).1 apart)

apart_sym_at : (b : Bool) (n m : List ℕ) → bytes_eq m n ≡ b → bytes_eq n m ≡ false → b ≡ false
apart_sym_at true n m is h = absurd (true≢false (sym (subst (λ k. bytes_eq n k ≡ true) (sym (same_text m n is)) (text_itself n)) ∙ h))
apart_sym_at false n m is h = refl

distinct_added_at : (b : Bool) (n m : List ℕ) (ns : List (List ℕ)) → bytes_eq m n ≡ b → Distinct (n ∷ ns) → Distinct (name_added ns m) → Distinct (cond b (n ∷ ns) (n ∷ name_added ns m))
distinct_added_at true n m ns is h later = h
distinct_added_at false n m ns is h later = (added_lacks ns n m h.0 (apart_sym_at (bytes_eq n m) m n refl is), later)

distinct_added : (ns : List (List ℕ)) (m : List ℕ) → Distinct ns → Distinct (name_added ns m)
distinct_added [] m h = (refl, tt)
distinct_added (n ∷ ns) m h = distinct_added_at (bytes_eq m n) n m ns refl h (distinct_added ns m h.1)

or_true_left : (a b : Bool) → a ≡ true → a || b ≡ true
or_true_left a b e = rw e refl

added_has_at : (b : Bool) (n k : List ℕ) (ns rest : List (List ℕ)) → list_any (bytes_eq n) (k ∷ ns) ≡ true → (list_any (bytes_eq n) ns ≡ true → list_any (bytes_eq n) rest ≡ true) → list_any (bytes_eq n) (cond b (k ∷ ns) (k ∷ rest)) ≡ true
added_has_at true n k ns rest h later = h
added_has_at false n k ns rest h later = either (bytes_eq n k) (list_any (bytes_eq n) ns) (list_any (bytes_eq n) rest) h later where
  either : (a x y : Bool) → a || x ≡ true → (x ≡ true → y ≡ true) → a || y ≡ true
  either true x y e f = refl
  either false x y e f = f e

added_has : (ns : List (List ℕ)) (n m : List ℕ) → list_any (bytes_eq n) ns ≡ true → list_any (bytes_eq n) (name_added ns m) ≡ true
added_has [] n m h = absurd (true≢false (sym h))
added_has (k ∷ ns) n m h = added_has_at (bytes_eq m k) n k ns (name_added ns m) h (added_has ns n m)

added_itself_at : (b : Bool) (m k : List ℕ) (ns rest : List (List ℕ)) → bytes_eq m k ≡ b → list_any (bytes_eq m) rest ≡ true → list_any (bytes_eq m) (cond b (k ∷ ns) (k ∷ rest)) ≡ true
added_itself_at true m k ns rest is later = rw is refl
added_itself_at false m k ns rest is later = rw (is, later) refl

added_itself : (ns : List (List ℕ)) (m : List ℕ) → list_any (bytes_eq m) (name_added ns m) ≡ true
added_itself [] m = rw (text_itself m) refl
added_itself (k ∷ ns) m = added_itself_at (bytes_eq m k) m k ns (name_added ns m) refl (added_itself ns m)

covers_added : (ns : List (List ℕ)) (cs : List Candidate) (c : Candidate) → Covers ns cs → Covers (name_added ns c.sequence.name) (cs ++ c ∷ [])
covers_added ns [] c h = (added_itself ns c.sequence.name, tt)
covers_added ns (x ∷ cs) c h = (added_has ns x.sequence.name c.sequence.name h.0, covers_added ns cs c h.1)

-- ---- all of them

pub record Holds (cs ws : List Candidate) : Type 0 where
  pub each : Every cs ws
  pub distinct : Distinct (names_of ws)
  pub covers : Covers (names_of ws) cs

holds_then : (cs ws : List Candidate) (c : Candidate) → Holds cs ws → Holds (cs ++ c ∷ []) (with_candidate ws c)
holds_then cs ws c h = record {
  each = one_more cs ws c h.each h.distinct (NoneAbove-absent (names_of ws) cs c h.covers);
  distinct = rw (names-with_candidate ws c) (distinct_added (names_of ws) c.sequence.name h.distinct);
  covers = rw (names-with_candidate ws c) (covers_added (names_of ws) cs c h.covers);
}

holds_all : (done ws cs : List Candidate) → Holds done ws → Holds (done ++ cs) (with_all ws cs)
holds_all done ws [] h = rw append-nil h
holds_all done ws (c ∷ cs) h = rw (sym (append_assoc done (c ∷ []) cs)) (holds_all (done ++ c ∷ []) (with_candidate ws c) cs (holds_then done ws c h))

pub effective-with_all : (cs : List Candidate) → AreWinners cs (with_all [] cs)
effective-with_all cs =
    let start : Holds [] [] = record { each = tt; distinct = tt; covers = tt } in
    record { names = names-with_all [] cs; each = (holds_all [] [] cs start).each }

-- ---- no two entries have one name

none_same : (name : List ℕ) (ns : List (List ℕ)) → list_any (bytes_eq name) ns ≡ false → AllByRecursion (λ other. bytes_eq name other ≡ false) ns
none_same name [] h = tt
none_same name (n ∷ ns) h = let a = or_parts (bytes_eq name n) (list_any (bytes_eq name) ns) h in (a.0, none_same name ns a.1)

distinct_names : (ns : List (List ℕ)) → Distinct ns → IsDistinct bytes_eq ns
unfolding IsDistinct
distinct_names [] h = tt
distinct_names (n ∷ ns) h = (none_same n ns h.0, distinct_names ns h.1)

entry_names : (ws : List Candidate) → map (λ e. e.name) (map entry_of ws) ≡ names_of ws
entry_names [] = refl
entry_names (w ∷ ws) = ap (λ ns. w.sequence.name ∷ ns) (entry_names ws)

pub distinct_entries : (cs : List Candidate) → IsDistinct bytes_eq (map (λ e. e.name) (map entry_of (with_all [] cs)))
distinct_entries cs =
    let start : Holds [] [] = record { each = tt; distinct = tt; covers = tt } in
    rw entry_names (distinct_names (names_of (with_all [] cs)) (holds_all [] [] cs start).distinct)
