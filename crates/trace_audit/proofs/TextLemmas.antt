-- Texts of entries.
use Rattle.std.proofs.Common.{◌≡◌, ◌∙◌, ℕ, ◌≤◌, ◌<◌, ◌+◌, ◌%◌, ◌==◌, ◌&&◌, ◌||◌, nat_le, Bool, true, false, List, [], ◌∷◌, ◌++◌, length, take, get_or, Option, None, Some, Ok, refl, sym, ap, ap₂, subst, arith, suc, map, not, cond, count_by}
use Rattle.std.proofs.lemmas.Bool.{leb-true, and_parts}
use Rattle.std.proofs.lemmas.Bool.Decides.{nat_tests}
use Rattle.std.proofs.lemmas.List.Sums.{AllPass-from_list_all, list_all-from_AllPass, sum_by-cons}
use Rattle.std.proofs.lemmas.List.{map_push, take_more}
use Rattle.std.specs.Prelude.{IfSome, IsNone}
use Rattle.std.specs.List.{All, list_all}
use Rattle.hex.specs.Hex.{decode_of, is_hex_digit}
use Rattle.hex.proofs.HexLemmas.{decode_of-digits, decode_of-ok, decode_of-same}
use Rattle.probe_core.specs.Log.{Entry}
use Rattle.trace_audit.specs.Audits.{entries_of, entry_of}
use Rattle.trace_audit.specs.declared.entry.Entry as trace
use Rattle.trace_audit.specs.Texts.{AreEntriesOf, IsEntry, IsEntryText, IsMarked, are_digits, entry_mark, is_entry_text}

-- ---- tests

pub is_equal : (x y : ℕ) → (x == y) ≡ true → x ≡ y
is_equal x y e = grind (arith, nat_tests)

-- ---- the text of one entry

-- the bytes of digits
record HasBytes (digits : List ℕ) : Type 0 where
  few : length digits ≤ 2048
  bytes : List ℕ
  are : decode_of digits ≡ Ok bytes

bytes_of : (digits : List ℕ) → are_digits digits ≡ true → HasBytes digits
bytes_of digits e =
    let a = and_parts (nat_le (length digits) 2048 && (length digits % 2 == 0)) (list_all is_hex_digit digits) e in
    let b = and_parts (nat_le (length digits) 2048) (length digits % 2 == 0) a.0 in
    let found = decode_of-digits digits (is_equal _ 0 b.1) (AllPass-from_list_all is_hex_digit digits a.1) in
    record { few = leb-true _ _ b.0; bytes = found.0; are = found.1 }

marked_test : (is_reply : Bool) (digits : List ℕ) → is_entry_text (entry_mark is_reply ++ digits) ≡ are_digits digits
marked_test true digits = refl
marked_test false digits = refl

entry_by : (is_reply : Bool) (text digits : List ℕ) → text ≡ entry_mark is_reply ++ digits → are_digits digits ≡ true → IsEntry text
entry_by is_reply text digits parts e =
    let found = bytes_of digits e in
    (record { is_reply = is_reply; bytes = found.bytes }, record { digits = digits; parts = parts; few = found.few; bytes = found.are })

-- the marks as numbers
mark_of : (mark space : ℕ) (digits : List ℕ) → (mark == 60 || mark == 62) && (space == 32) ≡ true → IsMarked (mark ∷ space ∷ digits)
mark_of mark space digits e =
    let a = and_parts (mark == 60 || mark == 62) (space == 32) e in
    by_mark (mark == 60) refl a.0 (is_equal space 32 a.1)
  where
    by_mark : (b : Bool) → (mark == 60) ≡ b → b || mark == 62 ≡ true → space ≡ 32 → IsMarked (mark ∷ space ∷ digits)
    by_mark true first either blank = record { is_reply = true; digits = digits; parts = let m = is_equal mark 60 first in rw (m, blank) refl }
    by_mark false first either blank = record { is_reply = false; digits = digits; parts = let m = is_equal mark 62 either in rw (m, blank) refl }

split_mark : (mark space : ℕ) (digits : List ℕ) → is_entry_text (mark ∷ space ∷ digits) ≡ true → IsMarked (mark ∷ space ∷ digits) × (are_digits digits ≡ true)
split_mark mark space digits e = let a = and_parts ((mark == 60 || mark == 62) && (space == 32)) (are_digits digits) e in (mark_of mark space digits a.0, a.1)

-- a text that passes the test begins with a mark, and digits are after it
pub entry_of_test : (text : List ℕ) → is_entry_text text ≡ true → IsEntry text
entry_of_test [] e = absurd cc
entry_of_test (mark ∷ []) e = absurd cc
entry_of_test (mark ∷ space ∷ digits) e =
    let a = split_mark mark space digits e in
    entry_by a.0.is_reply (mark ∷ space ∷ digits) a.0.digits a.0.parts (ap are_digits (digits_are a.0.is_reply mark space digits a.0.digits a.0.parts) ∙ a.1)
  where
    digits_are : (is_reply : Bool) (mark space : ℕ) (xs ys : List ℕ) → mark ∷ space ∷ xs ≡ entry_mark is_reply ++ ys → ys ≡ xs
    digits_are true mark space xs ys e = cc
    digits_are false mark space xs ys e = cc

digits_by : (digits bytes : List ℕ) → length digits ≤ 2048 → decode_of digits ≡ Ok bytes → are_digits digits ≡ true
digits_by digits bytes few are =
    let ok = decode_of-ok digits bytes are in
    let all = list_all-from_AllPass is_hex_digit digits ok.1 in
    let even = ok.0 in
    grind (arith, nat_tests, all, even, few)

-- the text of an entry passes the test
pub test_of_entry : (text : List ℕ) → IsEntry text → is_entry_text text ≡ true
test_of_entry text h =
    let e = h.1 in
    ap is_entry_text e.parts ∙ marked_test h.0.is_reply e.digits ∙ digits_by e.digits h.0.bytes e.few e.bytes

-- ---- one entry

-- the first byte of a text
first_of : {x y : ℕ} {xs ys : List ℕ} → x ∷ xs ≡ y ∷ ys → x ≡ y
first_of e = cc

marks_differ : (mark : ℕ) → mark ≡ 60 → mark ≡ 62 → ⊥
marks_differ mark e f = omega arith

one_mark : (a b : Bool) (xs ys : List ℕ) → entry_mark a ++ xs ≡ entry_mark b ++ ys → (a ≡ b) × (xs ≡ ys)
one_mark true true xs ys e = (refl, cc)
one_mark false false xs ys e = (refl, cc)
one_mark true false xs ys e = absurd (marks_differ 60 refl (first_of e))
one_mark false true xs ys e = absurd (marks_differ 60 refl (sym (first_of e)))

one_entry : (text : List ℕ) (x y : Entry) → IsEntryText text x → IsEntryText text y → x ≡ y
one_entry text x y a b =
    let marks = one_mark x.is_reply y.is_reply a.digits b.digits (sym a.parts ∙ b.parts) in
    let bytes = decode_of-same b.digits x.bytes y.bytes (subst (λ (d : List ℕ). decode_of d ≡ Ok x.bytes) marks.1 a.bytes) b.bytes in
    same x y marks.0 bytes
  where
    same : (x y : Entry) → x.is_reply ≡ y.is_reply → x.bytes ≡ y.bytes → x ≡ y
    same x y p q = ap₂ (λ (r : Bool) (bytes : List ℕ). record { is_reply = r; bytes = bytes }) p q

pub one_list : (texts : List (List ℕ)) (xs ys : List Entry) → AreEntriesOf texts xs → AreEntriesOf texts ys → xs ≡ ys
one_list [] [] [] a b = refl
one_list [] [] (y ∷ ys) a b = absurd b
one_list [] (x ∷ xs) ys a b = absurd a
one_list (t ∷ texts) [] ys a b = absurd a
one_list (t ∷ texts) (x ∷ xs) [] a b = absurd b
one_list (t ∷ texts) (x ∷ xs) (y ∷ ys) a b = ap₂ (λ (e : Entry) (es : List Entry). e ∷ es) (one_entry t x y a.0 b.0) (one_list texts xs ys a.1 b.1)

-- ---- the texts that were read

-- one text more
pub entries_push : (texts : List (List ℕ)) (es : List Entry) (text : List ℕ) (e : Entry) → AreEntriesOf texts es → IsEntryText text e → AreEntriesOf (texts ++ text ∷ []) (es ++ e ∷ [])
entries_push [] [] text e before is = (is, tt)
entries_push [] (x ∷ es) text e before is = absurd before
entries_push (t ∷ texts) [] text e before is = absurd before
entries_push (t ∷ texts) (x ∷ es) text e before is = (before.0, entries_push texts es text e before.1 is)

-- ---- counts

-- what a test counts of results
pub count-entries : {A B : Type 0} (p : B → Bool) (f : A → B) (xs : List A) → count_by (λ x. p (f x)) xs ≡ count_by p (map f xs)
count-entries p f [] = refl
count-entries p f (x ∷ xs) =
    sum_by-cons (λ y. cond (p (f y)) 1 0) x xs ∙ ap (λ n. cond (p (f x)) 1 0 + n) (count-entries p f xs) ∙ sym (sum_by-cons (λ y. cond (p y) 1 0) (f x) (map f xs))

-- each item passes a test or not
pub count-others : {A : Type 0} (p : A → Bool) (xs : List A) → length xs ≡ count_by (λ x. not (p x)) xs + count_by p xs
count-others p [] = refl
count-others {A} p (x ∷ xs) =
    rw (sum_by-cons (λ (y : A). cond (not (p y)) 1 0) x xs, sum_by-cons (λ (y : A). cond (p y) 1 0) x xs) (by_test (p x) (count-others p xs))
  where
    by_test : (b : Bool) → length xs ≡ count_by (λ x. not (p x)) xs + count_by p xs
        → suc (length xs) ≡ (cond (not b) 1 0 + count_by (λ x. not (p x)) xs) + (cond b 1 0 + count_by p xs)
    by_test true rest = omega arith
    by_test false rest = omega arith

-- the text of a place is the next
pub entries_more : (texts : List (List ℕ)) (i : ℕ) (text : List ℕ) (es : List Entry) (e : Entry) → i < length texts → text ≡ get_or texts i text → AreEntriesOf (take i texts) es → IsEntryText text e → AreEntriesOf (take (i + 1) texts) (es ++ e ∷ [])
entries_more texts i text es e lt at before is =
    let last : take (i + 1) texts ≡ take i texts ++ text ∷ [] = take_more texts i text lt ∙ ap (λ (t : List ℕ). take i texts ++ t ∷ []) (sym at) in
    subst (λ (ts : List (List ℕ)). AreEntriesOf ts (es ++ e ∷ [])) (sym last) (entries_push (take i texts) es text e before is)

-- the text of a place is that of an entry
pub entry_at : (texts : List (List ℕ)) (i : ℕ) (text : List ℕ) → All IsEntry texts → i < length texts → text ≡ get_or texts i text → IsEntry text
entry_at texts i text all lt at = subst IsEntry (sym at) (all i text lt)

-- what the reading of an entry says of the text of a place
pub no_entry : (found : Option trace.Entry) (P : Type 0) → found ≡ None → (IsNone found → P → ⊥) → P → ⊥
no_entry None P is none h = none refl h
no_entry (Some e) P is none h = absurd (cc is)

pub some_entry : (text : List ℕ) (found : Option trace.Entry) (entry : trace.Entry) → found ≡ Some entry → IfSome found (λ e. IsEntryText text (entry_of e)) → IsEntryText text (entry_of entry)
some_entry text found entry is h = subst (λ (o : Option trace.Entry). IfSome o (λ e. IsEntryText text (entry_of e))) is h

-- one entry more that was read
pub reads_on : (texts : List (List ℕ)) (i : ℕ) (text : List ℕ) (es : List trace.Entry) (e : trace.Entry) → i < length texts → text ≡ get_or texts i text → AreEntriesOf (take i texts) (entries_of es) → IsEntryText text (entry_of e)
    → AreEntriesOf (take (i + 1) texts) (entries_of (es ++ e ∷ []))
reads_on texts i text es e lt at before is =
    subst (AreEntriesOf (take (i + 1) texts)) (sym (map_push entry_of es e)) (entries_more texts i text (entries_of es) (entry_of e) lt at before is)
