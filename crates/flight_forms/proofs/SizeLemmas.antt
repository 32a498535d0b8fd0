-- The size of accesses as the list grows.
use Rattle.std.proofs.Common.{◌≡◌, leb, ltb, ℕ, ◌+◌, ◌-◌, ◌/◌, ◌≤◌, ◌<◌, ◌&&◌, Bool, true, false, cond, List, [], ◌∷◌, ◌++◌, Some, None, length, fold, refl, ap, sym, ◌∙◌, arith, suc, subst, length-append, append_assoc}
use Rattle.std.specs.Prelude.{is_some}
use Rattle.std.proofs.lemmas.Bool.{le-leb, lt-ltb, ltb-true, and_parts, and_from, and_left}
use Rattle.std.proofs.Math.Bool.{and-true}
use Rattle.target_machine.specs.declared.access.RegAccess.{RegAccess}
use Rattle.dap_messages.specs.declared.request.Request.{Request}
use Rattle.target_machine.proofs.CountLemmas.{one_most}
use Rattle.dap_transfer.specs.CommandEnds.{may_be_free, writes_ap}
use Rattle.flight_forms.specs.declared.size.FlightSize.{FlightSize}
use Rattle.flight_forms.specs.declared.size.Tally.{Tally}
use Rattle.flight_forms.specs.Forms.{all_write_drw, filled_parts, fits_block, fits_chain, fits_guarded, fits_transfer, form_of, parts_of, writes_drw}
use Rattle.flight_forms.specs.declared.form.Form.TheVariants.{Block, Transfer, Chain}
use Rattle.flight_forms.specs.Packing.{check_when, request_of, requests_for}
use Rattle.flight_forms.specs.Sizes.{Counts, IsSizeOf, ends_in_ap_write, has_part_more, last_of, no_tally, plus, size_with, tally_fits_guarded, with_access}
use Rattle.flight_forms.proofs.RequestSizes.{few_for, one_added}

-- ---- one access more

-- whether the last of these accesses is a write of an access port, after one or not
abbrev pub ap_write_at_end : Bool → List RegAccess → Bool
ap_write_at_end before accesses = fold (λ _ a. writes_ap a) before accesses

requests_more : (w : Bool) (accesses : List RegAccess) (a : RegAccess) →
    requests_for w (accesses ++ a ∷ []) ≡ requests_for w accesses ++ (check_when (ap_write_at_end w accesses && may_be_free a) ++ request_of a ∷ [])
requests_more w [] a = refl
requests_more w (x ∷ rest) a =
    let first : List Request = check_when (w && may_be_free x) in
    let more : List Request = check_when (ap_write_at_end (writes_ap x) rest && may_be_free a) ++ request_of a ∷ [] in
    ap (λ rs. first ++ request_of x ∷ rs) (requests_more (writes_ap x) rest a)
    ∙ sym (append_assoc first (request_of x ∷ requests_for (writes_ap x) rest) more)

pub write_more : (w : Bool) (accesses : List RegAccess) (a : RegAccess) → ap_write_at_end w (accesses ++ a ∷ []) ≡ writes_ap a
write_more w [] a = refl
write_more w (x ∷ rest) a = write_more (writes_ap x) rest a

and_twice : (x y z : Bool) → (x && (y && z)) ≡ ((x && y) && z)
and_twice true y z = refl
and_twice false y z = refl

all_more : (accesses : List RegAccess) (a : RegAccess) → all_write_drw (accesses ++ a ∷ []) ≡ (all_write_drw accesses && writes_drw a)
all_more [] a = and-true (writes_drw a)
all_more (x ∷ rest) a = ap (λ b. writes_drw x && b) (all_more rest a) ∙ and_twice (writes_drw x) (all_write_drw rest) (writes_drw a)

-- ---- one part more, or one access more in the last part

last_after : (part : List RegAccess) (parts : List (List RegAccess)) → 1 ≤ length parts → last_of (part ∷ parts) ≡ last_of parts
last_after part [] h = absurd (omega arith)
last_after part (other ∷ parts) h = refl

pub some_parts : (size : ℕ) (part rest : List RegAccess) → 1 ≤ length (filled_parts size part rest)
some_parts size part [] = omega arith
some_parts size part (a ∷ rest) = by_fit (fits_guarded size (part ++ a ∷ [])) (some_parts size (part ++ a ∷ []) rest)
  where
    by_fit : (b : Bool) → 1 ≤ length (filled_parts size (part ++ a ∷ []) rest) → 1 ≤ length (cond b (filled_parts size (part ++ a ∷ []) rest) (part ∷ filled_parts size (a ∷ []) rest))
    by_fit true h = h
    by_fit false h = omega arith

-- how the parts grow where the last of them takes the access or not
pub record PartsGrow (size : ℕ) (a : RegAccess) (before after : List (List RegAccess)) : Type 0 where
  pub count : length after ≡ length before + cond (fits_guarded size (last_of before ++ a ∷ [])) 0 1
  pub last : last_of after ≡ cond (fits_guarded size (last_of before ++ a ∷ [])) (last_of before ++ a ∷ []) (a ∷ [])

under_part : (size : ℕ) (a : RegAccess) (part : List RegAccess) (before after : List (List RegAccess)) → 1 ≤ length before → 1 ≤ length after →
    PartsGrow size a before after → PartsGrow size a (part ∷ before) (part ∷ after)
under_part size a part before after some more h =
    let same : last_of (part ∷ before) ≡ last_of before = last_after part before some in
    record {
      count = ap suc h.count ∙ (let x : suc (length before + cond (fits_guarded size (last_of before ++ a ∷ [])) 0 1) ≡ suc (length before) + cond (fits_guarded size (last_of before ++ a ∷ [])) 0 1 = omega arith in x)
          ∙ ap (λ xs. suc (length before) + cond (fits_guarded size (xs ++ a ∷ [])) 0 1) (sym same);
      last = last_after part after more ∙ h.last ∙ ap (λ xs. cond (fits_guarded size (xs ++ a ∷ [])) (xs ++ a ∷ []) (a ∷ [])) (sym same);
    }

filled_more : (size : ℕ) (part rest : List RegAccess) (a : RegAccess) → PartsGrow size a (filled_parts size part rest) (filled_parts size part (rest ++ a ∷ []))
filled_more size part [] a = record { count = by_count (fits_guarded size (part ++ a ∷ [])); last = by_last (fits_guarded size (part ++ a ∷ [])) }
  where
    by_count : (b : Bool) → length (cond b ((part ++ a ∷ []) ∷ []) (part ∷ (a ∷ []) ∷ [])) ≡ 1 + cond b 0 1
    by_count true = refl
    by_count false = refl

    by_last : (b : Bool) → last_of (cond b ((part ++ a ∷ []) ∷ []) (part ∷ (a ∷ []) ∷ [])) ≡ cond b (part ++ a ∷ []) (a ∷ [])
    by_last true = refl
    by_last false = refl
filled_more size part (x ∷ rest) a = by_fit (fits_guarded size (part ++ x ∷ [])) (filled_more size (part ++ x ∷ []) rest a) (filled_more size (x ∷ []) rest a)
  where
    by_fit : (b : Bool) → PartsGrow size a (filled_parts size (part ++ x ∷ []) rest) (filled_parts size (part ++ x ∷ []) (rest ++ a ∷ [])) →
        PartsGrow size a (filled_parts size (x ∷ []) rest) (filled_parts size (x ∷ []) (rest ++ a ∷ [])) →
        PartsGrow size a (cond b (filled_parts size (part ++ x ∷ []) rest) (part ∷ filled_parts size (x ∷ []) rest))
        (cond b (filled_parts size (part ++ x ∷ []) (rest ++ a ∷ [])) (part ∷ filled_parts size (x ∷ []) (rest ++ a ∷ [])))
    by_fit true longer shorter = longer
    by_fit false longer shorter =
        under_part size a part (filled_parts size (x ∷ []) rest) (filled_parts size (x ∷ []) (rest ++ a ∷ [])) (some_parts size (x ∷ []) rest) (some_parts size (x ∷ []) (rest ++ a ∷ [])) shorter

-- the last part ends as the whole does
ends_alike : (size : ℕ) (part rest : List RegAccess) → 1 ≤ length part → ends_in_ap_write (last_of (filled_parts size part rest)) ≡ ap_write_at_end (ends_in_ap_write part) rest
ends_alike size part [] some = refl
ends_alike size part (x ∷ rest) some =
    by_fit (fits_guarded size (part ++ x ∷ [])) (ends_alike size (part ++ x ∷ []) rest (let n = length-append part (x ∷ []) in omega arith)) (ends_alike size (x ∷ []) rest (omega arith))
  where
    by_fit : (b : Bool) → ends_in_ap_write (last_of (filled_parts size (part ++ x ∷ []) rest)) ≡ ap_write_at_end (ends_in_ap_write (part ++ x ∷ [])) rest →
        ends_in_ap_write (last_of (filled_parts size (x ∷ []) rest)) ≡ ap_write_at_end (writes_ap x) rest →
        ends_in_ap_write (last_of (cond b (filled_parts size (part ++ x ∷ []) rest) (part ∷ filled_parts size (x ∷ []) rest))) ≡ ap_write_at_end (writes_ap x) rest
    by_fit true longer shorter = longer ∙ ap (λ w. ap_write_at_end w rest) (write_more false part x)
    by_fit false longer shorter = ap ends_in_ap_write (last_after part (filled_parts size (x ∷ []) rest) (some_parts size (x ∷ []) rest)) ∙ shorter

last_ends : (size : ℕ) (accesses : List RegAccess) → ends_in_ap_write (last_of (parts_of size accesses)) ≡ ends_in_ap_write accesses
last_ends size [] = refl
last_ends size (a ∷ rest) = ends_alike size (a ∷ []) rest (omega arith)

-- no part is longer than the whole
short_part : (size : ℕ) (part rest : List RegAccess) → length (last_of (filled_parts size part rest)) ≤ length part + length rest
short_part size part [] = omega arith
short_part size part (x ∷ rest) = by_fit (fits_guarded size (part ++ x ∷ [])) (short_part size (part ++ x ∷ []) rest) (short_part size (x ∷ []) rest)
  where
    by_fit : (b : Bool) → length (last_of (filled_parts size (part ++ x ∷ []) rest)) ≤ length (part ++ x ∷ []) + length rest →
        length (last_of (filled_parts size (x ∷ []) rest)) ≤ 1 + length rest →
        length (last_of (cond b (filled_parts size (part ++ x ∷ []) rest) (part ∷ filled_parts size (x ∷ []) rest))) ≤ length part + suc (length rest)
    by_fit true longer shorter = (let n = length-append part (x ∷ []) in omega arith)
    by_fit false longer shorter = (let n = ap length (last_after part (filled_parts size (x ∷ []) rest) (some_parts size (x ∷ []) rest)) in omega arith)

short_last : (size : ℕ) (accesses : List RegAccess) → length (last_of (parts_of size accesses)) ≤ length accesses
short_last size [] = omega arith
short_last size (a ∷ rest) = (let h = short_part size (a ∷ []) rest in omega arith)

few_parts : (size : ℕ) (part rest : List RegAccess) → length (filled_parts size part rest) ≤ 1 + length rest
few_parts size part [] = omega arith
few_parts size part (x ∷ rest) = by_fit (fits_guarded size (part ++ x ∷ [])) (few_parts size (part ++ x ∷ []) rest) (few_parts size (x ∷ []) rest)
  where
    by_fit : (b : Bool) → length (filled_parts size (part ++ x ∷ []) rest) ≤ 1 + length rest → length (filled_parts size (x ∷ []) rest) ≤ 1 + length rest →
        length (cond b (filled_parts size (part ++ x ∷ []) rest) (part ∷ filled_parts size (x ∷ []) rest)) ≤ 1 + suc (length rest)
    by_fit true longer shorter = omega arith
    by_fit false longer shorter = omega arith

parts_few : (size : ℕ) (accesses : List RegAccess) → length (parts_of size accesses) ≤ length accesses
parts_few size [] = omega arith
parts_few size (a ∷ rest) = (let h = few_parts size (a ∷ []) rest in omega arith)

-- ---- the tally of one access more

bytes_most : (b : Bool) → cond {A = ℕ} b 1 5 ≤ 5
bytes_most true = omega arith
bytes_most false = omega arith

-- the tally of the requests of few accesses grows with one more
pub counts_more : (accesses : List RegAccess) (a : RegAccess) (t : Tally) (checked : Bool) → length accesses < 65535 → checked ≡ (ends_in_ap_write accesses && may_be_free a) →
    Counts (requests_for false accesses) t → Counts (requests_for false (accesses ++ a ∷ [])) (with_access t checked a.read)
counts_more accesses a t checked few is h =
    let rs : List Request = requests_for false accesses in
    let most = few_for false accesses in
    let one = one_most checked in
    let read = one_most a.read in
    let bytes = bytes_most a.read in
    let added = one_added checked a rs in
    let grows : requests_for false (accesses ++ a ∷ []) ≡ rs ++ (check_when checked ++ request_of a ∷ []) =
    requests_more false accesses a ∙ ap (λ b. rs ++ (check_when b ++ request_of a ∷ [])) (sym is) in
    subst (λ (xs : List Request). Counts xs (with_access t checked a.read)) (sym grows)
    (record {
      requests_are = (let x = h.requests_are in let y = added.requests in let z = most.requests in omega arith);
      bytes_are = (let x = h.bytes_are in let y = added.bytes in let z = most.bytes in omega arith);
      reads_are = (let x = h.reads_are in let y = added.reads in let z = most.reads in omega arith);
    })

-- whether a part takes the access, by its tally
pub fits_by : (size : ℕ) (accesses : List RegAccess) (t : Tally) → Counts (requests_for false accesses) t → tally_fits_guarded size t ≡ fits_guarded size accesses
fits_by size accesses t h = λ i. leb (h.bytes_are i + 21) size && leb (h.reads_are i) ((size - 9) / 4) && leb (h.requests_are i) 251

-- ---- the size with one access more

none_counted : Counts [] no_tally
none_counted = record { requests_are = refl; bytes_are = refl; reads_are = refl }

-- the tally of a part that begins
pub alone_counted : (a : RegAccess) → Counts (requests_for false (a ∷ [])) (with_access no_tally false a.read)
alone_counted a = counts_more [] a no_tally false (omega arith) refl none_counted

abbrev PartsCounted : ℕ → List (List RegAccess) → ℕ → Tally → Type 0
PartsCounted size parts n t = (n ≡ length parts) × Counts (requests_for false (last_of parts)) t

-- the parts where there are some before
parts_grow : (size n : ℕ) (a : RegAccess) (before after : List (List RegAccess)) (t : Tally) (b : Bool) → PartsGrow size a before after →
    b ≡ fits_guarded size (last_of before ++ a ∷ []) → n ≡ length before → n < 65536 → Counts (requests_for false (last_of before ++ a ∷ [])) t →
    PartsCounted size after (cond b n (plus n 1)) (cond b t (with_access no_tally false a.read))
parts_grow size n a before after t true grow is count few counts = (
  (let x = grow.count ∙ ap (λ (c : Bool). length before + cond {A = ℕ} c 0 1) (sym is) in omega arith),
  subst (λ (part : List RegAccess). Counts (requests_for false part) t) (sym (grow.last ∙ ap (λ (c : Bool). cond c (last_of before ++ a ∷ []) (a ∷ [])) (sym is))) counts,
)
parts_grow size n a before after t false grow is count few counts = (
  (let x = grow.count ∙ ap (λ (c : Bool). length before + cond {A = ℕ} c 0 1) (sym is) in omega arith),
  subst (λ (part : List RegAccess). Counts (requests_for false part) (with_access no_tally false a.read))
      (sym (grow.last ∙ ap (λ (c : Bool). cond c (last_of before ++ a ∷ []) (a ∷ [])) (sym is))) (alone_counted a),
)

and_first : (x y : Bool) → x ≡ true → (x && y) ≡ y
and_first true y e = refl
and_first false y e = absurd (cc)

pub parts_with : (accesses : List RegAccess) (s : FlightSize) (a : RegAccess) → length accesses < 65535 → IsSizeOf accesses s →
    (let u = size_with s a in PartsCounted s.packet_size (parts_of s.packet_size (accesses ++ a ∷ [])) u.parts u.last)
parts_with [] s a few h =
    let more : Tally = with_access s.last (s.after_write && may_be_free a) a.read in
    let none : s.parts ≡ 0 = h.parts in
    let apart : (ltb 0 s.parts && tally_fits_guarded s.packet_size more) ≡ false = and_left (ltb 0 s.parts) (tally_fits_guarded s.packet_size more) (ap (ltb 0) none) in
    subst (λ (b : Bool). PartsCounted s.packet_size ((a ∷ []) ∷ []) (cond b s.parts (plus s.parts 1)) (cond b more (with_access no_tally false a.read))) (sym apart)
    ((omega arith), alone_counted a)
parts_with (x ∷ rest) s a few h =
    let size : ℕ = s.packet_size in
    let before : List (List RegAccess) = parts_of size (x ∷ rest) in
    let after : List (List RegAccess) = parts_of size (x ∷ rest ++ a ∷ []) in
    let checked : Bool = s.after_write && may_be_free a in
    let more : Tally = with_access s.last checked a.read in
    let n : ℕ = s.parts in
    let count : n ≡ length before = h.parts in
    let some = some_parts size (x ∷ []) rest in
    let most = parts_few size (x ∷ rest) in
    let short = short_last size (x ∷ rest) in
    let is : checked ≡ (ends_in_ap_write (last_of before) && may_be_free a) = ap (λ b. b && may_be_free a) (h.write ∙ sym (last_ends size (x ∷ rest))) in
    let counts : Counts (requests_for false (last_of before ++ a ∷ [])) more = counts_more (last_of before) a s.last checked (omega arith) is h.last in
    let fits : tally_fits_guarded size more ≡ fits_guarded size (last_of before ++ a ∷ []) = fits_by size (last_of before ++ a ∷ []) more counts in
    let joins : (ltb 0 n && tally_fits_guarded size more) ≡ fits_guarded size (last_of before ++ a ∷ []) =
    and_first (ltb 0 n) (tally_fits_guarded size more) (lt-ltb 0 n (omega arith)) ∙ fits in
    parts_grow size n a before after more (ltb 0 n && tally_fits_guarded size more) (filled_more size (x ∷ []) rest a) joins count (omega arith) counts

pub size_grows : (accesses : List RegAccess) (s : FlightSize) (a : RegAccess) → length accesses < 65535 → IsSizeOf accesses s → IsSizeOf (accesses ++ a ∷ []) (size_with s a)
size_grows accesses s a few h =
    let parts = parts_with accesses s a few h in
    record {
      count = (let n = length-append accesses (a ∷ []) in let m = h.count in omega arith);
      all = ap (λ b. b && writes_drw a) h.all ∙ sym (all_more accesses a);
      write = sym (write_more false accesses a);
      whole = counts_more accesses a s.whole (s.after_write && may_be_free a) few (ap (λ b. b && may_be_free a) h.write) h.whole;
      parts = parts.0;
      last = parts.1;
    }

-- ---- room in a chain

joined_or_more : (b : Bool) (n : ℕ) → cond b n (plus n 1) ≤ n + 1
joined_or_more true n = omega arith
joined_or_more false n = omega arith

some_form : (block transfer chain : Bool) → chain ≡ true → is_some (cond block (Some Block) (cond transfer (Some Transfer) (cond chain (Some Chain) None))) ≡ true
some_form true transfer chain e = refl
some_form false true chain e = refl
some_form false false true e = refl
some_form false false false e = absurd (cc)

-- one access more begins one part more at most
pub part_holds : (accesses : List RegAccess) (s : FlightSize) (a : RegAccess) → length accesses < 65535 → IsSizeOf accesses s → has_part_more s ≡ true →
    is_some (form_of s.packet_size s.packet_count (accesses ++ a ∷ [])) ≡ true
part_holds accesses s a few h more =
    let grows = size_grows accesses s a few h in
    let parts = grows.parts in
    let at_most = joined_or_more (ltb 0 s.parts && tally_fits_guarded s.packet_size (with_access s.last (s.after_write && may_be_free a) a.read)) s.parts in
    let has = and_parts (leb 2 s.packet_count) (ltb s.parts s.packet_count) more in
    let room : s.parts < s.packet_count = ltb-true s.parts s.packet_count has.1 in
    let fits : length (parts_of s.packet_size (accesses ++ a ∷ [])) ≤ s.packet_count = omega (arith, parts, at_most, room) in
    some_form (fits_block s.packet_size (accesses ++ a ∷ [])) (fits_transfer s.packet_size (accesses ++ a ∷ [])) (fits_chain s.packet_size s.packet_count (accesses ++ a ∷ []))
    (and_from (leb 2 s.packet_count) (leb (length (parts_of s.packet_size (accesses ++ a ∷ []))) s.packet_count) has.0 (le-leb (length (parts_of s.packet_size (accesses ++ a ∷ []))) s.packet_count fits))
