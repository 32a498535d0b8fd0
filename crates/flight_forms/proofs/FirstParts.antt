-- The first part of a chain is filled access by access.
use Rattle.std.proofs.Common.{◌≡◌, ℕ, ◌+◌, ◌≤◌, ◌<◌, ◌&&◌, Bool, true, false, cond, List, [], ◌∷◌, ◌++◌, length, take, drop, slice_index_or, refl, ap, sym, ◌∙◌, arith, suc, zero, subst}
use Rattle.std.proofs.lemmas.List.{length-take-le}
use Rattle.target_machine.specs.declared.access.RegAccess.{RegAccess}
use Rattle.dap_transfer.specs.CommandEnds.{may_be_free, writes_ap}
use Rattle.flight_forms.specs.declared.size.Tally.{Tally}
use Rattle.flight_forms.specs.Forms.{filled_parts, fits_guarded, parts_of}
use Rattle.flight_forms.specs.Packing.{requests_for}
use Rattle.flight_forms.specs.Sizes.{Counts, ends_in_ap_write, no_tally, tally_fits_guarded, with_access}
use Rattle.flight_forms.proofs.SizeLemmas.{alone_counted, counts_more, fits_by, write_more}

-- The first part has the first i accesses and may take more.
pub record IsFilling (size i : ℕ) (accesses : List RegAccess) (t : Tally) (after_write : Bool) : Type 0 where
  pub some : 1 ≤ i
  pub within : i ≤ length accesses
  pub write : after_write ≡ ends_in_ap_write (take i accesses)
  pub counts : Counts (requests_for false (take i accesses)) t
  pub parts : parts_of size accesses ≡ filled_parts size (take i accesses) (drop i accesses)

-- the access at a place, between those before and those after it
pub place_split : (accesses : List RegAccess) (i : ℕ) (d : RegAccess) → i < length accesses →
    (drop i accesses ≡ slice_index_or accesses i d ∷ drop (i + 1) accesses) × (take (i + 1) accesses ≡ take i accesses ++ slice_index_or accesses i d ∷ [])
place_split [] i d h = absurd (omega arith)
place_split (a ∷ rest) zero d h = (refl, refl)
place_split (a ∷ rest) (suc i) d h =
    let more = place_split rest i d (omega arith) in
    let next : suc i + 1 ≡ suc (i + 1) = omega arith in (
      more.0 ∙ ap (λ n. slice_index_or rest i d ∷ drop n (a ∷ rest)) (sym next),
      ap (λ n. take n (a ∷ rest)) next ∙ ap (λ xs. a ∷ xs) more.1,
    )

pub filling_begins : (size : ℕ) (accesses : List RegAccess) (d : RegAccess) (t : Tally) (w : Bool) → 1 ≤ length accesses → t ≡ with_access no_tally false (slice_index_or accesses 0 d).read →
    w ≡ writes_ap (slice_index_or accesses 0 d) → IsFilling size 1 accesses t w
filling_begins size [] d t w some t_is w_is = absurd (omega arith)
filling_begins size (a ∷ rest) d t w some t_is w_is = record {
  some = omega arith;
  within = omega arith;
  write = w_is;
  counts = subst (λ (x : Tally). Counts (requests_for false (a ∷ [])) x) (sym t_is) (alone_counted a);
  parts = refl;
}

-- the tally with the next access, and whether it fits
more_counts : (size i : ℕ) (accesses : List RegAccess) (d : RegAccess) (t more : Tally) (w checked : Bool) → length accesses < 65535 → i < length accesses → IsFilling size i accesses t w →
    checked ≡ (w && may_be_free (slice_index_or accesses i d)) → more ≡ with_access t checked (slice_index_or accesses i d).read →
    Counts (requests_for false (take i accesses ++ slice_index_or accesses i d ∷ [])) more
more_counts size i accesses d t more w checked few inside h is more_is =
    let a : RegAccess = slice_index_or accesses i d in
    subst (λ (x : Tally). Counts (requests_for false (take i accesses ++ a ∷ [])) x) (sym more_is)
    (counts_more (take i accesses) a t checked (let n = length-take-le i accesses h.within in omega arith) (is ∙ ap (λ b. b && may_be_free a) h.write) h.counts)

pub filling_goes_on : (size i : ℕ) (accesses : List RegAccess) (d : RegAccess) (t more : Tally) (w checked u : Bool) → length accesses < 65535 → i < length accesses → IsFilling size i accesses t w →
    checked ≡ (w && may_be_free (slice_index_or accesses i d)) → more ≡ with_access t checked (slice_index_or accesses i d).read → tally_fits_guarded size more ≡ true →
    u ≡ writes_ap (slice_index_or accesses i d) → IsFilling size (i + 1) accesses more u
filling_goes_on size i accesses d t more w checked u few inside h is more_is fits u_is =
    let a : RegAccess = slice_index_or accesses i d in
    let split = place_split accesses i d inside in
    let counts : Counts (requests_for false (take i accesses ++ a ∷ [])) more = more_counts size i accesses d t more w checked few inside h is more_is in
    let takes : fits_guarded size (take i accesses ++ a ∷ []) ≡ true = sym (fits_by size (take i accesses ++ a ∷ []) more counts) ∙ fits in
    record {
      some = omega arith;
      within = omega arith;
      write = u_is ∙ sym (write_more false (take i accesses) a) ∙ ap ends_in_ap_write (sym split.1);
      counts = subst (λ (xs : List RegAccess). Counts (requests_for false xs) more) (sym split.1) counts;
      parts =
          h.parts ∙ ap (filled_parts size (take i accesses)) split.0
          ∙ ap (λ b. cond b (filled_parts size (take i accesses ++ a ∷ []) (drop (i + 1) accesses)) (take i accesses ∷ filled_parts size (a ∷ []) (drop (i + 1) accesses))) takes
          ∙ ap (λ xs. filled_parts size xs (drop (i + 1) accesses)) (sym split.1);
    }

pub filling_stops : (size i : ℕ) (accesses : List RegAccess) (d : RegAccess) (t more : Tally) (w checked : Bool) → length accesses < 65535 → i < length accesses → IsFilling size i accesses t w →
    checked ≡ (w && may_be_free (slice_index_or accesses i d)) → more ≡ with_access t checked (slice_index_or accesses i d).read → tally_fits_guarded size more ≡ false →
    parts_of size accesses ≡ take i accesses ∷ parts_of size (drop i accesses)
filling_stops size i accesses d t more w checked few inside h is more_is fits =
    let a : RegAccess = slice_index_or accesses i d in
    let split = place_split accesses i d inside in
    let counts : Counts (requests_for false (take i accesses ++ a ∷ [])) more = more_counts size i accesses d t more w checked few inside h is more_is in
    let refuses : fits_guarded size (take i accesses ++ a ∷ []) ≡ false = sym (fits_by size (take i accesses ++ a ∷ []) more counts) ∙ fits in
    h.parts ∙ ap (filled_parts size (take i accesses)) split.0
    ∙ ap (λ b. cond b (filled_parts size (take i accesses ++ a ∷ []) (drop (i + 1) accesses)) (take i accesses ∷ filled_parts size (a ∷ []) (drop (i + 1) accesses))) refuses
    ∙ ap (λ xs. take i accesses ∷ parts_of size xs) (sym split.0)

past_end : (n : ℕ) (accesses : List RegAccess) → length accesses ≤ n → drop n accesses ≡ []
past_end zero [] h = refl
past_end (suc n) [] h = refl
past_end zero (a ∷ rest) h = absurd (omega arith)
past_end (suc n) (a ∷ rest) h = past_end n rest (omega arith)

pub filling_ends : (size i : ℕ) (accesses : List RegAccess) (t : Tally) (w : Bool) → IsFilling size i accesses t w → length accesses ≤ i →
    parts_of size accesses ≡ take (length accesses) accesses ∷ parts_of size (drop (length accesses) accesses)
filling_ends size i accesses t w h all =
    let same : i ≡ length accesses = (let m = h.within in omega arith) in
    let none : drop i accesses ≡ [] = past_end i accesses all in
    h.parts ∙ ap (filled_parts size (take i accesses)) none
    ∙ ap (λ n. take n accesses ∷ []) same
    ∙ ap (λ xs. take (length accesses) accesses ∷ parts_of size xs) (sym (past_end (length accesses) accesses (omega arith)))
