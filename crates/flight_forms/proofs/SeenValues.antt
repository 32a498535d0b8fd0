-- The words of a reply against the values of the reads.
use Rattle.std.proofs.Common.{◌≡◌, ℕ, ◌+◌, ◌-◌, ◌≤◌, Bool, true, false, cond, List, [], ◌∷◌, ◌++◌, take, drop, length, refl, ap, sym, ◌∙◌, arith, suc, zero, subst, length-append, append_assoc, Option, Some, None}
use Rattle.std.specs.Prelude.{slice_get}
use Rattle.dap_transfer.specs.Private.{word_of}
use Rattle.target_machine.specs.State.{TargetState}
use Rattle.target_machine.specs.Attempt.{attempt}
use Rattle.target_machine.specs.declared.access.RegAccess.{RegAccess}
use Rattle.dap_messages.specs.declared.request.Request.{Request}
use Rattle.dap_messages.specs.declared.request.RequestKind.{RequestKind}
use Rattle.dap_messages.specs.declared.request.RequestKind.TheVariants.{Posted, Read, Match, Mask, Write}
use Rattle.dap_messages.specs.Requests.{is_posted, kind, gives_word}
use Rattle.dap_transfer.specs.Wires.{access_of}
use Rattle.dap_transfer.specs.Laws.{accesses_in, value_now, read_values, IsNormalKind, AreNormal}
use Rattle.dap_transfer.specs.CommandEnds.{posted_last}
use Rattle.flight_forms.specs.Flights.{is_own, slot_values, seen_one, seen_values, next_word}
use Rattle.dap_transfer.proofs.CommandEnds.{write_bits, read_is}
use Rattle.dap_transfer.proofs.ReadWords.{posted_bits}
use Rattle.flight_forms.proofs.OwnAccesses.{not_own, own_posted, own_write}

-- what the first request sees
abbrev seen_as : Bool → Bool → List ℕ → List (Option ℕ) → List (Option ℕ) → List (Option ℕ)
seen_as true true words after none = next_word words ∷ after
seen_as true false words after none = after
seen_as false own words after none = None ∷ none

seen_first : (reads own : Bool) (words : List ℕ) (after none : List (Option ℕ)) →
    cond reads (cond own (next_word words ∷ after) after) (None ∷ none) ≡ seen_as reads own words after none
seen_first true true words after none = refl
seen_first true false words after none = refl
seen_first false own words after none = refl

-- a read that was seen, and a write
read_step : (own : Bool) (t : TargetState) (a : RegAccess) (v : ℕ) (words : List ℕ) (rest : List RegAccess) (after : List (Option ℕ)) → is_own a ≡ own → a.read ≡ true →
    next_word words ≡ Some (value_now t a) → after ≡ slot_values (attempt t a).next rest →
    cond own (next_word words ∷ after) after ≡ slot_values t (cond own (a ∷ rest) rest)
read_step true t a v words rest after e r n h =
    (λ i. n i ∷ h i) ∙ ap (λ b. cond b (Some (value_now t a)) None ∷ slot_values (attempt t a).next rest) (sym r)
read_step false t a v words rest after e r n h = h ∙ ap (λ u. slot_values u rest) (not_own t a e)

write_step : (own : Bool) (t : TargetState) (a : RegAccess) (rest : List RegAccess) (after : List (Option ℕ)) → is_own a ≡ own → own ≡ true → a.read ≡ false →
    after ≡ slot_values (attempt t a).next rest → None ∷ after ≡ slot_values t (cond own (a ∷ rest) rest)
write_step true t a rest after e o r h = (λ i. None ∷ h i) ∙ ap (λ b. cond b (Some (value_now t a)) None ∷ slot_values (attempt t a).next rest) (sym r)
write_step false t a rest after e o r h = absurd (cc)

first_of_words : (words rest : List ℕ) (v : ℕ) → words ≡ v ∷ rest → (next_word words ≡ Some v) × (drop 1 words ≡ rest)
first_of_words words rest v e = (ap next_word e, ap (drop 1) e)

-- where every word came
pub all_seen : (t : TargetState) (rs : List Request) (words : List ℕ) → AreNormal rs → words ≡ read_values t rs → seen_values rs words ≡ slot_values t (accesses_in rs)
all_seen t [] words normal e = refl
all_seen t (r ∷ rs) words normal e =
    by_kind (kind r) refl normal.0 (λ (ws : List ℕ) f. all_seen (attempt t (access_of r)).next rs ws normal.1 f)
  where
    a : RegAccess
    a = access_of r

    reads : (k : RequestKind) → kind r ≡ k → gives_word k ≡ true → a.read ≡ true → ((ws : List ℕ) → ws ≡ read_values (attempt t a).next rs → seen_values rs ws ≡ slot_values (attempt t a).next (accesses_in rs)) →
        seen_values (r ∷ rs) words ≡ slot_values t (accesses_in (r ∷ rs))
    reads k f b read ih =
        let is_read : gives_word (kind r) ≡ true = ap gives_word f ∙ b in
        let came : words ≡ value_now t a ∷ read_values (attempt t a).next rs = e ∙ ap (λ c. cond c (value_now t a ∷ []) [] ++ read_values (attempt t a).next rs) is_read in
        let one = first_of_words words (read_values (attempt t a).next rs) (value_now t a) came in
        ap (λ c. cond c (cond (is_own a) (next_word words ∷ seen_values rs (drop 1 words)) (seen_values rs (drop 1 words))) (None ∷ seen_values rs words)) is_read
        ∙ read_step (is_own a) t a 0 words (accesses_in rs) (seen_values rs (drop 1 words)) refl read one.0 (ih (drop 1 words) one.1)

    by_kind : (k : RequestKind) → kind r ≡ k → IsNormalKind k → ((ws : List ℕ) → ws ≡ read_values (attempt t a).next rs → seen_values rs ws ≡ slot_values (attempt t a).next (accesses_in rs)) →
        seen_values (r ∷ rs) words ≡ slot_values t (accesses_in (r ∷ rs))
    by_kind Posted f h ih = let bits = posted_bits r f in reads Posted f refl bits.1 ih
    by_kind Read f h ih = reads Read f refl (read_is r f) ih
    by_kind Write f h ih =
        let is_read : gives_word (kind r) ≡ false = ap gives_word f in
        let came : words ≡ read_values (attempt t a).next rs = e ∙ ap (λ c. cond c (value_now t a ∷ []) [] ++ read_values (attempt t a).next rs) is_read in
        ap (λ c. cond c (cond (is_own a) (next_word words ∷ seen_values rs (drop 1 words)) (seen_values rs (drop 1 words))) (None ∷ seen_values rs words)) is_read
        ∙ write_step (is_own a) t a (accesses_in rs) (seen_values rs words) refl (own_write r f) (write_bits r f) (ih words came)
    by_kind Match f h ih = absurd h
    by_kind Mask f h ih = absurd h

-- ---- where the last word is missing

tail_of : (x y : ℕ) (xs ys : List ℕ) → x ∷ xs ≡ y ∷ ys → (x ≡ y) × (xs ≡ ys)
tail_of x y xs ys e = (ap (get_first x) e, ap (drop 1) e)
  where
    get_first : ℕ → List ℕ → ℕ
    get_first d [] = d
    get_first d (v ∷ vs) = v

-- a posted read gives a value
posted_value : (o : Bool) (t : TargetState) (r : Request) (rs : List Request) → posted_last o (r ∷ rs) ≡ true → read_values t (r ∷ rs) ≡ [] → ⊥
posted_value o t r [] e none = no_value (kind r) e none
  where
    no_value : (k : RequestKind) → is_posted k ≡ true → cond (gives_word k) (value_now t (access_of r) ∷ []) [] ++ [] ≡ [] → ⊥
    no_value Posted f g = (let n = ap length g in absurd (cc))
    no_value Read f g = absurd (cc)
    no_value Match f g = absurd (cc)
    no_value Mask f g = absurd (cc)
    no_value Write f g = absurd (cc)
posted_value o t r (q ∷ rs) e none = posted_value (is_posted (kind r)) (attempt t (access_of r)).next q rs e (no_front (gives_word (kind r)) none)
  where
    no_front : (b : Bool) → cond b (value_now t (access_of r) ∷ []) [] ++ read_values (attempt t (access_of r)).next (q ∷ rs) ≡ [] → read_values (attempt t (access_of r)).next (q ∷ rs) ≡ []
    no_front true g = absurd (let n = ap length g in cc)
    no_front false g = g

one_own : (b : Bool) (a : RegAccess) (c : ℕ) → b ≡ true → c + 1 ≤ length (cond b (a ∷ []) []) → c ≡ 0
one_own true a c e h = omega arith
one_own false a c e h = absurd (cc)

none_taken : (c : ℕ) (xs : List (Option ℕ)) (t : TargetState) (accesses : List RegAccess) → c ≡ 0 → take c xs ≡ slot_values t (take c accesses)
none_taken c xs t accesses e = ap (λ n. take n xs) e ∙ ap (λ n. slot_values t (take n accesses)) (sym e)

abbrev Less : TargetState → Request → List Request → ℕ → Type 0
Less t r rs v = (ws : List ℕ) → ws ++ v ∷ [] ≡ read_values t (r ∷ rs) → (c : ℕ) → c + 1 ≤ length (accesses_in (r ∷ rs)) →
    take c (seen_values (r ∷ rs) ws) ≡ slot_values t (take c (accesses_in (r ∷ rs)))

-- a read in front of others
read_front : (own : Bool) (t : TargetState) (a : RegAccess) (v : ℕ) (q : Request) (rs : List Request) (ws : List ℕ) (c : ℕ) → is_own a ≡ own → a.read ≡ true →
    (read_values (attempt t a).next (q ∷ rs) ≡ [] → ⊥) → Less (attempt t a).next q rs v →
    ws ++ v ∷ [] ≡ value_now t a ∷ read_values (attempt t a).next (q ∷ rs) → c + 1 ≤ length (cond own (a ∷ accesses_in (q ∷ rs)) (accesses_in (q ∷ rs))) →
    take c (cond own (next_word ws ∷ seen_values (q ∷ rs) (drop 1 ws)) (seen_values (q ∷ rs) (drop 1 ws))) ≡ slot_values t (take c (cond own (a ∷ accesses_in (q ∷ rs)) (accesses_in (q ∷ rs))))
read_front own t a v q rs [] c is read some ih e h = absurd (some (sym (let f = tail_of v (value_now t a) [] (read_values (attempt t a).next (q ∷ rs)) e in f.1)))
read_front true t a v q rs (w ∷ ws) zero is read some ih e h = refl
read_front true t a v q rs (w ∷ ws) (suc c) is read some ih e h =
    let f = tail_of w (value_now t a) (ws ++ v ∷ []) (read_values (attempt t a).next (q ∷ rs)) e in
    (λ i. Some (f.0 i) ∷ ih ws f.1 c (omega arith) i)
    ∙ ap (λ b. cond b (Some (value_now t a)) None ∷ slot_values (attempt t a).next (take c (accesses_in (q ∷ rs)))) (sym read)
read_front false t a v q rs (w ∷ ws) c is read some ih e h =
    let f = tail_of w (value_now t a) (ws ++ v ∷ []) (read_values (attempt t a).next (q ∷ rs)) e in
    ih ws f.1 c h ∙ ap (λ u. slot_values u (take c (accesses_in (q ∷ rs)))) (not_own t a is)

write_front : (own : Bool) (t : TargetState) (a : RegAccess) (v : ℕ) (q : Request) (rs : List Request) (ws : List ℕ) (c : ℕ) → own ≡ true → a.read ≡ false →
    Less (attempt t a).next q rs v → ws ++ v ∷ [] ≡ read_values (attempt t a).next (q ∷ rs) → c + 1 ≤ length (cond own (a ∷ accesses_in (q ∷ rs)) (accesses_in (q ∷ rs))) →
    take c (None ∷ seen_values (q ∷ rs) ws) ≡ slot_values t (take c (cond own (a ∷ accesses_in (q ∷ rs)) (accesses_in (q ∷ rs))))
write_front true t a v q rs ws zero is read ih e h = refl
write_front true t a v q rs ws (suc c) is read ih e h =
    ap (λ xs. None ∷ xs) (ih ws e c (omega arith))
    ∙ ap (λ b. cond b (Some (value_now t a)) None ∷ slot_values (attempt t a).next (take c (accesses_in (q ∷ rs)))) (sym read)
write_front false t a v q rs ws c is read ih e h = absurd (cc)

pub less_seen : (o : Bool) (t : TargetState) (r : Request) (rs : List Request) (v : ℕ) → AreNormal (r ∷ rs) → posted_last o (r ∷ rs) ≡ true → Less t r rs v
less_seen o t r [] v normal last ws e c h =
    none_taken c (seen_values (r ∷ []) ws) t (accesses_in (r ∷ [])) (one_own (is_own (access_of r)) (access_of r) c (by_kind (kind r) refl last) h)
  where
    by_kind : (k : RequestKind) → kind r ≡ k → is_posted k ≡ true → is_own (access_of r) ≡ true
    by_kind Posted f g = own_posted r f
    by_kind Read f g = absurd (cc)
    by_kind Match f g = absurd (cc)
    by_kind Mask f g = absurd (cc)
    by_kind Write f g = absurd (cc)
less_seen o t r (q ∷ rs) v normal last ws e c h =
    by_kind (kind r) refl normal.0 (less_seen (is_posted (kind r)) (attempt t (access_of r)).next q rs v normal.1 last)
  where
    a : RegAccess
    a = access_of r

    reads : (k : RequestKind) → kind r ≡ k → gives_word k ≡ true → a.read ≡ true → Less (attempt t a).next q rs v →
        take c (seen_values (r ∷ q ∷ rs) ws) ≡ slot_values t (take c (accesses_in (r ∷ q ∷ rs)))
    reads k f b read ih =
        let is_read : gives_word (kind r) ≡ true = ap gives_word f ∙ b in
        let came : ws ++ v ∷ [] ≡ value_now t a ∷ read_values (attempt t a).next (q ∷ rs) = e ∙ ap (λ x. cond x (value_now t a ∷ []) [] ++ read_values (attempt t a).next (q ∷ rs)) is_read in
        ap (λ x. take c (cond x (cond (is_own a) (next_word ws ∷ seen_values (q ∷ rs) (drop 1 ws)) (seen_values (q ∷ rs) (drop 1 ws))) (None ∷ seen_values (q ∷ rs) ws))) is_read
        ∙ read_front (is_own a) t a v q rs ws c refl read (posted_value (is_posted (kind r)) (attempt t a).next q rs last) ih came h

    by_kind : (k : RequestKind) → kind r ≡ k → IsNormalKind k → Less (attempt t a).next q rs v → take c (seen_values (r ∷ q ∷ rs) ws) ≡ slot_values t (take c (accesses_in (r ∷ q ∷ rs)))
    by_kind Posted f g ih = let bits = posted_bits r f in reads Posted f refl bits.1 ih
    by_kind Read f g ih = reads Read f refl (read_is r f) ih
    by_kind Write f g ih =
        let is_read : gives_word (kind r) ≡ false = ap gives_word f in
        let came : ws ++ v ∷ [] ≡ read_values (attempt t a).next (q ∷ rs) = e ∙ ap (λ x. cond x (value_now t a ∷ []) [] ++ read_values (attempt t a).next (q ∷ rs)) is_read in
        ap (λ x. take c (cond x (cond (is_own a) (next_word ws ∷ seen_values (q ∷ rs) (drop 1 ws)) (seen_values (q ∷ rs) (drop 1 ws))) (None ∷ seen_values (q ∷ rs) ws))) is_read
        ∙ write_front (is_own a) t a v q rs ws c (own_write r f) (write_bits r f) ih came h
    by_kind Match f g ih = absurd g
    by_kind Mask f g ih = absurd g

-- ---- one request after the other

next_found : (n : ℕ) (words : List ℕ) → next_word (drop n words) ≡ slice_get words n
next_found zero [] = refl
next_found zero (w ∷ words) = refl
next_found (suc n) [] = refl
next_found (suc n) (w ∷ words) = next_found n words

drop_next : (n : ℕ) (words : List ℕ) → drop 1 (drop n words) ≡ drop (suc n) words
drop_next zero [] = refl
drop_next zero (w ∷ words) = refl
drop_next (suc n) [] = refl
drop_next (suc n) (w ∷ words) = drop_next n words

by_word : (k : RequestKind) (own : Bool) (found : Option ℕ) (words : List ℕ) (after : List ℕ → List (Option ℕ)) (n : ℕ) → found ≡ slice_get words n → (IsNormalKind k) →
    cond (gives_word k) (cond own (slice_get words n ∷ after (drop (suc n) words)) (after (drop (suc n) words))) (None ∷ after (drop n words))
    ≡ cond (gives_word k) (cond own (found ∷ []) []) (None ∷ []) ++ after (drop (n + word_of k) words)
by_word Posted true found words after n e h = let s : suc n ≡ n + 1 = omega arith in λ i. sym e i ∷ after (drop (s i) words)
by_word Posted false found words after n e h = let s : suc n ≡ n + 1 = omega arith in λ i. after (drop (s i) words)
by_word Read true found words after n e h = let s : suc n ≡ n + 1 = omega arith in λ i. sym e i ∷ after (drop (s i) words)
by_word Read false found words after n e h = let s : suc n ≡ n + 1 = omega arith in λ i. after (drop (s i) words)
by_word Write own found words after n e h = let s : n ≡ n + 0 = omega arith in λ i. None ∷ after (drop (s i) words)
by_word Match own found words after n e h = absurd h
by_word Mask own found words after n e h = absurd h

abbrev seen_by : Bool → Bool → Option ℕ → List (Option ℕ) → List (Option ℕ) → List (Option ℕ)
seen_by reads own found after none = cond reads (cond own (found ∷ after) after) (None ∷ none)

pub sees_one : (r : Request) (rest : List Request) (words : List ℕ) (n m : ℕ) → m ≡ n + word_of (kind r) → IsNormalKind (kind r) →
    seen_values (r ∷ rest) (drop n words) ≡ seen_one r (slice_get words n) ++ seen_values rest (drop m words)
sees_one r rest words n m e h =
    (λ i. seen_by (gives_word (kind r)) (is_own (access_of r)) (next_found n words i) (seen_values rest (drop_next n words i)) (seen_values rest (drop n words)))
    ∙ by_word (kind r) (is_own (access_of r)) (slice_get words n) words (seen_values rest) n refl h
    ∙ ap (λ k. seen_one r (slice_get words n) ++ seen_values rest (drop k words)) (sym e)

-- ---- and its place in the list

normal_at : (rs : List Request) (i : ℕ) (r : Request) (rest : List Request) → AreNormal rs → drop i rs ≡ r ∷ rest → IsNormalKind (kind r)
normal_at [] zero r rest h e = absurd (let n = ap length e in omega arith)
normal_at [] (suc i) r rest h e = absurd (let n = ap length e in omega arith)
normal_at (q ∷ rs) zero r rest h e = subst (λ k. IsNormalKind k) (ap (λ xs. kind (first_or q xs)) e) h.0
  where
    first_or : Request → List Request → Request
    first_or d [] = d
    first_or d (x ∷ xs) = x
normal_at (q ∷ rs) (suc i) r rest h e = normal_at rs i r rest h.1 e

pub goes_seen : (rs : List Request) (words : List ℕ) (i n m : ℕ) (r : Request) (before now all : List (Option ℕ)) → AreNormal rs → drop i rs ≡ r ∷ drop (i + 1) rs →
    m ≡ n + word_of (kind r) → before ++ seen_values (drop i rs) (drop n words) ≡ all → now ≡ before ++ seen_one r (slice_get words n) →
    now ++ seen_values (drop (i + 1) rs) (drop m words) ≡ all
goes_seen rs words i n m r before now all normal is m_is whole now_is =
    ap (λ xs. xs ++ seen_values (drop (i + 1) rs) (drop m words)) now_is
    ∙ append_assoc before (seen_one r (slice_get words n)) (seen_values (drop (i + 1) rs) (drop m words))
    ∙ ap (λ xs. before ++ xs) (sym (sees_one r (drop (i + 1) rs) words n m m_is (normal_at rs i r (drop (i + 1) rs) normal is)))
    ∙ ap (λ xs. before ++ seen_values xs (drop n words)) (sym is)
    ∙ whole

one_short : (reads own : Bool) (found : Option ℕ) → length (cond reads (cond own (found ∷ []) []) (None ∷ [])) ≤ 1
one_short true true found = omega arith
one_short true false found = omega arith
one_short false own found = omega arith

pub few_seen : (r : Request) (found : Option ℕ) (before now : List (Option ℕ)) (most : ℕ) → now ≡ before ++ seen_one r found → length before ≤ most → length now ≤ most + 1
few_seen r found before now most e h =
    let short : length (seen_one r found) ≤ 1 = one_short (gives_word (kind r)) (is_own (access_of r)) found in
    let size : length now ≡ length before + length (seen_one r found) = ap length e ∙ length-append before (seen_one r found) in
    omega arith

-- ---- as many values as accesses

length_step : (k : RequestKind) (own : Bool) (found : Option ℕ) (a : RegAccess) (after : List (Option ℕ)) (none : List (Option ℕ)) (rest : List RegAccess) → IsNormalKind k → (k ≡ Write → own ≡ true) →
    length after ≡ length rest → length none ≡ length rest →
    length (cond (gives_word k) (cond own (found ∷ after) after) (None ∷ none)) ≡ length (cond own (a ∷ rest) rest)
length_step Posted true found a after none rest h o e f = ap suc e
length_step Posted false found a after none rest h o e f = e
length_step Read true found a after none rest h o e f = ap suc e
length_step Read false found a after none rest h o e f = e
length_step Write true found a after none rest h o e f = ap suc f
length_step Write false found a after none rest h o e f = absurd (let g = o refl in cc)
length_step Match own found a after none rest h o e f = absurd h
length_step Mask own found a after none rest h o e f = absurd h

pub length_seen : (rs : List Request) (words : List ℕ) → AreNormal rs → length (seen_values rs words) ≡ length (accesses_in rs)
length_seen [] words h = refl
length_seen (r ∷ rs) words h =
    length_step (kind r) (is_own (access_of r)) (next_word words) (access_of r) (seen_values rs (drop 1 words)) (seen_values rs words) (accesses_in rs) h.0 (own_write r)
    (length_seen rs (drop 1 words) h.1) (length_seen rs words h.1)

-- the first of the values after others
pub kept_values : (before seen : List (Option ℕ)) (c : ℕ) → take (length before + c) (before ++ seen) ≡ before ++ take c seen
kept_values [] seen c = let e : 0 + c ≡ c = omega arith in ap (λ n. take n seen) e
kept_values (x ∷ before) seen c = let e : suc (length before) + c ≡ suc (length before + c) = omega arith in ap (λ n. take n (x ∷ before ++ seen)) e ∙ ap (λ xs. x ∷ xs) (kept_values before seen c)

pub counted : (rs : List Request) (words : List ℕ) (old new : List (Option ℕ)) (before len : ℕ) → AreNormal rs → before ≡ length old → new ≡ old ++ seen_values rs words → len ≡ length new →
    len - before ≡ length (accesses_in rs)
counted rs words old new before len normal b n l =
    let size : length new ≡ length old + length (seen_values rs words) = ap length n ∙ length-append old (seen_values rs words) in
    let own = length_seen rs words normal in
    omega arith

pub kept : (old new seen : List (Option ℕ)) (before c d : ℕ) → before ≡ length old → new ≡ old ++ seen → c ≡ d → take (before + c) new ≡ old ++ take d seen
kept old new seen before c d b n e =
    (λ i. take (b i + e i) (n i)) ∙ kept_values old seen d
