-- From requests to the accesses among them.
use Rattle.std.proofs.Common.{◌≡◌, eqb, ltb, ℕ, ◌+◌, ◌-◌, ◌≤◌, ◌<◌, ◌&&◌, ◌||◌, not, Bool, true, false, cond, List, [], ◌∷◌, take, length, map, refl, ap, sym, ◌∙◌, arith, suc, zero, subst, ◌⊎◌, inl, inr}
use Rattle.target_machine.specs.State.{TargetState}
use Rattle.target_machine.specs.Attempt.{attempt}
use Rattle.target_machine.proofs.AccessLaws.{rdbuff_read}
use Rattle.target_machine.specs.declared.access.RegAccess.{RegAccess}
use Rattle.dap_messages.specs.declared.request.Request.{Request}
use Rattle.dap_messages.specs.declared.request.RequestKind.{RequestKind}
use Rattle.dap_messages.specs.declared.request.RequestKind.TheVariants.{Posted, Read, Match, Mask, Write}
use Rattle.std.proofs.lemmas.Bool.{eqb-true, ltb-false, ltb-true, not-false}
use Rattle.std.proofs.Math.Seq.{take-length}
use Rattle.dap_messages.specs.declared.request.Response.{Response}
use Rattle.dap_messages.specs.declared.request.Response.TheVariants.{Good, Fault}
use Rattle.dap_messages.specs.Requests.{is_posted, kind, write_after, write_last}
use Rattle.dap_transfer.specs.Wires.{access_of}
use Rattle.dap_transfer.specs.Laws.{accesses_in, one_at_a_time, IsNormalKind, AreNormal}
use Rattle.target_machine.specs.Counts.{one_if}
use Rattle.dap_transfer.specs.CommandEnds.{posted_last, EndsAt, is_doubted, target_after}
use Rattle.dap_transfer.proofs.CommandEnds.{write_bits}
use Rattle.dap_transfer.proofs.ReadWords.{posted_bits}
use Rattle.flight_forms.specs.Flights.{AreClear, Performs, is_own}

-- ---- reads of RDBUFF leave the target

rdbuff_bits : (ap_is read_is : Bool) (addr : ℕ) → not (not ap_is && read_is && eqb addr 12) ≡ false → (ap_is ≡ false) × (read_is ≡ true) × (eqb addr 12 ≡ true)
rdbuff_bits true read_is addr e = absurd (cc)
rdbuff_bits false false addr e = absurd (cc)
rdbuff_bits false true addr e = (refl, refl, not-false (eqb addr 12) e)

pub not_own : (t : TargetState) (a : RegAccess) → is_own a ≡ false → (attempt t a).next ≡ t
not_own t a e = let bits = rdbuff_bits a.ap a.read a.addr e in rdbuff_read t a bits.0 bits.1 (eqb-true a.addr 12 bits.2)

own_step : (b : Bool) (t : TargetState) (a : RegAccess) (all own : List RegAccess) → is_own a ≡ b →
    ((u : TargetState) → one_at_a_time u all ≡ one_at_a_time u own) → one_at_a_time (attempt t a).next all ≡ one_at_a_time t (cond b (a ∷ own) own)
own_step true t a all own e h = h (attempt t a).next
own_step false t a all own e h = ap (λ u. one_at_a_time u all) (not_own t a e) ∙ h t

pub own_targets : (t : TargetState) (rs : List Request) → one_at_a_time t (map access_of rs) ≡ one_at_a_time t (accesses_in rs)
own_targets t [] = refl
own_targets t (r ∷ rs) = own_step (is_own (access_of r)) t (access_of r) (map access_of rs) (accesses_in rs) refl (λ u. own_targets u rs)

clear_step : (b : Bool) (t : TargetState) (a : RegAccess) (own : List RegAccess) → is_own a ≡ b → t.sticky ≡ false → AreClear (attempt t a).next own → AreClear t (cond b (a ∷ own) own)
clear_step true t a own e clear h = (clear, h)
clear_step false t a own e clear h = subst (λ u. AreClear u own) (not_own t a e) h

pub clear_own : (t : TargetState) (rs : List Request) → AreClear t (map access_of rs) → AreClear t (accesses_in rs)
clear_own t [] h = h
clear_own t (r ∷ rs) h = clear_step (is_own (access_of r)) t (access_of r) (accesses_in rs) refl h.0 (clear_own (attempt t (access_of r)).next rs h.1)

pub clear_from : (t : TargetState) (accesses : List RegAccess) (m : ℕ) → m ≤ length accesses → ((j : ℕ) → j ≤ m → (one_at_a_time t (take j accesses)).sticky ≡ false) →
    AreClear t (take m accesses)
clear_from t accesses zero fits h = h 0 (omega arith)
clear_from t [] (suc m) fits h = absurd (omega arith)
clear_from t (a ∷ rest) (suc m) fits h = (h 0 (omega arith), clear_from (attempt t a).next rest m (omega arith) (λ j k. h (suc j) (omega arith)))

-- ---- the accesses among the first of the requests

abbrev pub own_count : ℕ → List Request → ℕ
own_count n rs = length (accesses_in (take n rs))

taken_step : (b : Bool) (a : RegAccess) (some all : List RegAccess) → some ≡ take (length some) all → cond b (a ∷ some) some ≡ take (length (cond b (a ∷ some) some)) (cond b (a ∷ all) all)
taken_step true a some all h = ap (λ xs. a ∷ xs) h
taken_step false a some all h = h

pub taken_own : (n : ℕ) (rs : List Request) → accesses_in (take n rs) ≡ take (own_count n rs) (accesses_in rs)
taken_own zero rs = refl
taken_own (suc n) [] = refl
taken_own (suc n) (r ∷ rs) = taken_step (is_own (access_of r)) (access_of r) (accesses_in (take n rs)) (accesses_in rs) (taken_own n rs)

most_step : (b : Bool) (a : RegAccess) (some all : List RegAccess) → length some ≤ length all → length (cond b (a ∷ some) some) ≤ length (cond b (a ∷ all) all)
most_step true a some all h = omega arith
most_step false a some all h = h

pub own_most : (n : ℕ) (rs : List Request) → own_count n rs ≤ length (accesses_in rs)
own_most zero rs = omega arith
own_most (suc n) [] = omega arith
own_most (suc n) (r ∷ rs) = most_step (is_own (access_of r)) (access_of r) (accesses_in (take n rs)) (accesses_in rs) (own_most n rs)

take_mapped : (n : ℕ) (rs : List Request) → take n (map access_of rs) ≡ map access_of (take n rs)
take_mapped zero rs = refl
take_mapped (suc n) [] = refl
take_mapped (suc n) (r ∷ rs) = ap (λ xs. access_of r ∷ xs) (take_mapped n rs)

length_mapped : (rs : List Request) → length (map access_of rs) ≡ length rs
length_mapped [] = refl
length_mapped (r ∷ rs) = ap suc (length_mapped rs)

-- an access that is in doubt is no read of RDBUFF

no_read : (x y z : Bool) → y ≡ false → not (not x && y && z) ≡ true
no_read x true z f = absurd (cc)
no_read true false z f = refl
no_read false false z f = refl

pub own_write : (r : Request) → kind r ≡ Write → is_own (access_of r) ≡ true
own_write r e = no_read (access_of r).ap (access_of r).read (eqb (access_of r).addr 12) (write_bits r e)

pub own_posted : (r : Request) → kind r ≡ Posted → is_own (access_of r) ≡ true
own_posted r e = let bits = posted_bits r e in ap (λ b. not (not b && (access_of r).read && eqb (access_of r).addr 12)) bits.0

own_kind : (k : RequestKind) → IsNormalKind k → (r : Request) (u : Bool) → kind r ≡ k → (is_posted k || write_last k u) ≡ true → is_own (access_of r) ≡ true
own_kind Posted h r u e f = let bits = posted_bits r e in ap (λ b. not (not b && (access_of r).read && eqb (access_of r).addr 12)) bits.0
own_kind Read h r u e f = absurd (cc)
own_kind Write h r u e f = no_read (access_of r).ap (access_of r).read (eqb (access_of r).addr 12) (write_bits r e)
  where
    no_read : (x y z : Bool) → y ≡ false → not (not x && y && z) ≡ true
    no_read x true z f = absurd (cc)
    no_read true false z f = refl
    no_read false false z f = refl
own_kind Match h r u e f = absurd h
own_kind Mask h r u e f = absurd h

one_own : (b : Bool) (a : RegAccess) → b ≡ true → length (cond b (a ∷ []) []) ≡ 1
one_own true a e = refl
one_own false a e = absurd (cc)

count_step : (b : Bool) (a : RegAccess) (some more : List RegAccess) → length more ≡ length some + 1 → length (cond b (a ∷ more) more) ≡ length (cond b (a ∷ some) some) + 1
count_step true a some more h = omega arith
count_step false a some more h = h

pub last_own : (n : ℕ) (o u : Bool) (rs : List Request) → AreNormal rs → suc n ≤ length rs →
    (posted_last o (take (suc n) rs) || write_after u (take (suc n) rs)) ≡ true → own_count (suc n) rs ≡ own_count n rs + 1
last_own n o u [] normal fits h = absurd (omega arith)
last_own zero o u (r ∷ rs) normal fits h = one_own (is_own (access_of r)) (access_of r) (own_kind (kind r) normal.0 r u refl h) ∙ omega arith
last_own (suc n) o u (r ∷ rs) normal fits h =
    count_step (is_own (access_of r)) (access_of r) (accesses_in (take n rs)) (accesses_in (take (suc n) rs))
    (last_own n (is_posted (kind r)) (write_last (kind r) u) rs normal.1 (omega arith) h)

pub doubted_count : (doubt : Bool) (n : ℕ) (rs : List Request) → AreNormal rs → n ≤ length rs →
    (doubt ≡ true → (posted_last false (take n rs) || write_after false (take n rs)) ≡ true) → own_count n rs ≡ own_count (n - one_if doubt) rs + one_if doubt
doubted_count false n rs normal fits h = let same : n - 0 ≡ n = omega arith in ap (λ k. own_count k rs) (sym same) ∙ omega arith
doubted_count true zero rs normal fits h = absurd (let e = h refl in cc)
doubted_count true (suc n) rs normal fits h = let same : suc n - 1 ≡ n = omega arith in last_own n false false rs normal fits (h refl) ∙ ap (λ k. own_count k rs + 1) (sym same)

-- ---- a check follows a write

-- each check comes where the last access before it is a write
abbrev pub ChecksFollow : Bool → List Request → Type 0
ChecksFollow written [] = Unit {0}
ChecksFollow written (r ∷ rs) = (is_own (access_of r) ≡ false → written ≡ true) × ChecksFollow (write_last (kind r) written) rs

own_more : (b : Bool) (a : RegAccess) (all : List RegAccess) → b ≡ true → 0 < length (cond b (a ∷ all) all)
own_more true a all e = omega arith
own_more false a all e = absurd (cc)

more_step : (b : Bool) (a : RegAccess) (some all : List RegAccess) → length some < length all → length (cond b (a ∷ some) some) < length (cond b (a ∷ all) all)
more_step true a some all h = omega arith
more_step false a some all h = h

-- where not all requests were executed, the next is an access of the flight's own, or the last that was executed is a write
pub next_or_write : (n : ℕ) (w : Bool) (rs : List Request) → ChecksFollow w rs → n < length rs →
    (own_count n rs < length (accesses_in rs)) ⊎ (write_after w (take n rs) ≡ true)
next_or_write n w [] follow h = absurd (omega arith)
next_or_write zero w (r ∷ rs) follow h = by_own (is_own (access_of r)) refl
  where
    by_own : (b : Bool) → is_own (access_of r) ≡ b → (own_count 0 (r ∷ rs) < length (accesses_in (r ∷ rs))) ⊎ (w ≡ true)
    by_own true e = inl (own_more (is_own (access_of r)) (access_of r) (accesses_in rs) e)
    by_own false e = inr (follow.0 e)
next_or_write (suc n) w (r ∷ rs) follow h =
    elim (next_or_write n (write_last (kind r) w) rs follow.1 (omega arith)) [
      | inl few ↦ inl (more_step (is_own (access_of r)) (access_of r) (accesses_in (take n rs)) (accesses_in rs) few)
      | inr last ↦ inr last
    ]

sure_good : (x : Response) (p : Bool) → x ≡ Good → is_doubted x p ≡ false
sure_good x p e = ap (λ y. is_doubted y p) e

doubt_fault : (x : Response) (p : Bool) → x ≡ Fault → is_doubted x p ≡ true
doubt_fault x p e = ap (λ y. is_doubted y p) e

-- what a command does to its accesses
pub performs_own : (t u : TargetState) (rs : List Request) (given n : ℕ) (x : Response) (pending : Bool) → AreNormal rs → ChecksFollow false rs →
    EndsAt t false false rs given n x (is_doubted x pending) → u ≡ target_after t n rs →
    Performs t u (accesses_in rs) (own_count n rs) (own_count (n - one_if (is_doubted x pending)) rs) x
performs_own t u rs given n x pending normal follow ends target =
    let doubt : Bool = is_doubted x pending in
    let m : ℕ = n - one_if doubt in
    let near : own_count n rs ≡ own_count m rs + one_if doubt = doubted_count doubt n rs normal ends.most ends.unseen in
    let fits : m ≤ length (map access_of rs) = (let a = length_mapped rs in let b = ends.most in omega arith) in
    let enough : (doubt ≡ true → 1 ≤ n) = (λ e. at_least n e (ends.unseen e)) in
    record {
      most = own_most n rs;
      doubt = doubt;
      near = near;
      target = target ∙ ap (one_at_a_time t) (take_mapped n rs) ∙ own_targets t (take n rs) ∙ ap (one_at_a_time t) (taken_own n rs);
      clear = subst (AreClear t) (taken_own m rs)
          (clear_own t (take m rs) (subst (AreClear t) (take_mapped m rs) (clear_from t (map access_of rs) m fits (λ j h. ends.clear j (within j doubt h enough)))));
      whole = λ e.
          (let all : n ≡ length rs = ends.whole e in
          let sure : doubt ≡ false = sure_good x pending e in
          let same : m ≡ length rs = (let z = ap one_if sure in omega arith) in
          ap (λ k. own_count k rs) same ∙ ap (λ xs. length (accesses_in xs)) (take-length rs));
      short = λ bad. fewer bad (next_or_write n false rs follow) near;
      fault = λ e. (doubt_fault x pending e, ap (λ (v : TargetState). v.sticky) target ∙ ends.fault e);
      never = ends.never;
    }
  where
    at_least : (n : ℕ) → is_doubted x pending ≡ true → (posted_last false (take n rs) || write_after false (take n rs)) ≡ true → 1 ≤ n
    at_least zero e h = absurd (cc)
    at_least (suc n) e h = omega arith

    -- fewer than all are confirmed: one was not performed, or the last is in doubt
    fewer : (x ≡ Good → ⊥) → (n < length rs → (own_count n rs < length (accesses_in rs)) ⊎ (write_after false (take n rs) ≡ true)) →
        own_count n rs ≡ own_count (n - one_if (is_doubted x pending)) rs + one_if (is_doubted x pending) →
        own_count (n - one_if (is_doubted x pending)) rs < length (accesses_in rs)
    fewer bad next near = by_end (ltb n (length rs)) refl
      where
        all : own_count n rs ≤ length (accesses_in rs)
        all = own_most n rs

        in_doubt : is_doubted x pending ≡ true → own_count (n - one_if (is_doubted x pending)) rs < length (accesses_in rs)
        in_doubt e = (let one = ap one_if e in let most = all in let is = near in omega arith)

        by_end : (b : Bool) → ltb n (length rs) ≡ b → own_count (n - one_if (is_doubted x pending)) rs < length (accesses_in rs)
        by_end true e = elim (next (ltb-true n (length rs) e)) [ inl h ↦ (omega arith) | inr h ↦ in_doubt (ends.unproven h bad) ]
        by_end false e = in_doubt (ends.at_end bad (let h = ltb-false n (length rs) e in let k = ends.most in omega arith))

    within : (j : ℕ) (doubt : Bool) → j ≤ n - one_if doubt → (doubt ≡ true → 1 ≤ n) → j + one_if doubt ≤ n
    within j true h k = let a = k refl in omega arith
    within j false h k = omega arith
