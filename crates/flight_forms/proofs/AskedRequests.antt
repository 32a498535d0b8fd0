-- The requests of accesses.
use Rattle.std.proofs.Common.{◌≡◌, ℕ, ◌&&◌, not, Bool, true, false, cond, List, [], ◌∷◌, ◌++◌, take, length, map, refl, ap, sym, ◌∙◌, suc, zero, subst, append-nil, append_assoc, Some, None}
use Rattle.std.proofs.Math.Bool.{and-false}
use Rattle.target_machine.specs.State.{TargetState}
use Rattle.target_machine.specs.Attempt.{attempt}
use Rattle.target_machine.specs.declared.access.RegAccess.{RegAccess}
use Rattle.dap_messages.specs.declared.request.Request.{Request}
use Rattle.dap_messages.specs.declared.request.RequestKind.TheVariants.{Posted, Read, Write}
use Rattle.dap_messages.specs.Requests.{kind, write_after, write_last}
use Rattle.dap_transfer.specs.Wires.{access_of}
use Rattle.dap_transfer.specs.WireTransfer.{value_of}
use Rattle.dap_transfer.specs.Laws.{accesses_in, one_at_a_time, value_now, IsNormalKind, AreNormal}
use Rattle.dap_transfer.specs.CommandEnds.{AreGuarded, may_be_free, writes_ap}
use Rattle.flight_forms.specs.Packing.{AreTaken, IsTaken, check_when, request_of, requests_for, payload, write_at_end}
use Rattle.flight_forms.specs.Flights.{AreClear, is_own, slot_values}
use Rattle.flight_forms.proofs.OwnAccesses.{ChecksFollow}
use Rattle.flight_forms.proofs.RequestFacts.{carries, kind_carried, same_attempt, own_carried, free_carried}
use Rattle.dap_base.proofs.Basics.{first_true, second_true}

-- ---- no value match and no mask

kind_normal : (read_is ap_is : Bool) → IsNormalKind (cond read_is (cond ap_is Posted Read) Write)
kind_normal true true = tt
kind_normal true false = tt
kind_normal false ap_is = tt

request_normal : (a : RegAccess) → IsNormalKind (kind (request_of a))
request_normal a = subst IsNormalKind (sym (kind_carried a)) (kind_normal a.read a.ap)

check_normal : (b : Bool) (rs : List Request) → AreNormal rs → AreNormal (check_when b ++ rs)
check_normal true rs h = (tt, h)
check_normal false rs h = h

normal-append : (xs ys : List Request) → AreNormal xs → AreNormal ys → AreNormal (xs ++ ys)
normal-append [] ys h k = k
normal-append (x ∷ xs) ys h k = (h.0, normal-append xs ys h.1 k)

pub are_normal : (b : Bool) (accesses : List RegAccess) → AreNormal (requests_for b accesses)
are_normal b [] = tt
are_normal b (a ∷ rest) = check_normal (b && may_be_free a) (request_of a ∷ requests_for (writes_ap a) rest) (request_normal a, are_normal (writes_ap a) rest)

when_normal : (b : Bool) → AreNormal (check_when b)
when_normal true = (tt, tt)
when_normal false = tt

pub payload_normal : (accesses : List RegAccess) → AreNormal (payload accesses)
payload_normal accesses = normal-append (requests_for false accesses) (check_when (write_at_end false accesses)) (are_normal false accesses) (when_normal (write_at_end false accesses))

-- ---- a write of an AP is checked before what may act where STICKYERR is set

writes_carried : (a : RegAccess) → writes_ap (access_of (request_of a)) ≡ writes_ap a
writes_carried a = ap writes_ap (carries a)

-- with a check after all of them or not
ending_guarded : (w last : Bool) → AreGuarded w (check_when last)
ending_guarded w true = (and-false w, tt)
ending_guarded w false = tt

guarded_step : (c w : Bool) (a : RegAccess) (rs : List Request) → IsTaken a → (w && may_be_free a) ≡ c → AreGuarded (writes_ap (access_of (request_of a))) rs →
    AreGuarded w (check_when c ++ request_of a ∷ rs)
guarded_step true w a rs taken e h = (and-false w, (refl, h))
guarded_step false w a rs taken e h = (ap (λ b. w && b) (free_carried a taken) ∙ e, h)

pub are_guarded : (w last : Bool) (accesses : List RegAccess) → AreTaken accesses → AreGuarded w (requests_for w accesses ++ check_when last)
are_guarded w last [] taken = ending_guarded w last
are_guarded w last (a ∷ rest) taken =
    subst (AreGuarded w) (sym (append_assoc (check_when (w && may_be_free a)) (request_of a ∷ requests_for (writes_ap a) rest) (check_when last)))
    (guarded_step (w && may_be_free a) w a (requests_for (writes_ap a) rest ++ check_when last) taken.0 refl
    (subst (λ b. AreGuarded b (requests_for (writes_ap a) rest ++ check_when last)) (sym (writes_carried a)) (are_guarded (writes_ap a) last rest taken.1)))

pub all_guarded : (accesses : List RegAccess) → AreTaken accesses → AreGuarded false (requests_for false accesses)
all_guarded accesses taken = subst (AreGuarded false) (append-nil (requests_for false accesses)) (are_guarded false false accesses taken)

-- ---- the accesses among them

abbrev pub asked_of : RegAccess → RegAccess
asked_of a = access_of (request_of a)

in_check : (b : Bool) (rs : List Request) → accesses_in (check_when b ++ rs) ≡ accesses_in rs
in_check true rs = refl
in_check false rs = refl

in_ending : (b : Bool) → accesses_in (check_when b) ≡ []
in_ending true = refl
in_ending false = refl

pub accesses_asked : (w last : Bool) (accesses : List RegAccess) → AreTaken accesses → accesses_in (requests_for w accesses ++ check_when last) ≡ map asked_of accesses
accesses_asked w last [] taken = in_ending last
accesses_asked w last (a ∷ rest) taken =
    let rs : List Request = requests_for (writes_ap a) rest in
    ap accesses_in (append_assoc (check_when (w && may_be_free a)) (request_of a ∷ rs) (check_when last))
    ∙ in_check (w && may_be_free a) (request_of a ∷ rs ++ check_when last)
    ∙ ap (λ b. cond b (asked_of a ∷ accesses_in (rs ++ check_when last)) (accesses_in (rs ++ check_when last))) (own_carried a taken.0)
    ∙ ap (λ xs. asked_of a ∷ xs) (accesses_asked (writes_ap a) last rest taken.1)

-- ---- no write is left unchecked in a guarded command

write_kind : (read_is ap_is b : Bool) → write_last (cond read_is (cond ap_is Posted Read) Write) b ≡ not read_is
write_kind true true b = refl
write_kind true false b = refl
write_kind false ap_is b = refl

write_request : (a : RegAccess) (b : Bool) → write_last (kind (request_of a)) b ≡ not a.read
write_request a b = ap (λ k. write_last k b) (kind_carried a) ∙ write_kind a.read a.ap b

write_check : (c b : Bool) (rs : List Request) (r : Request) → write_last (kind r) false ≡ write_last (kind r) b → write_after b (check_when c ++ r ∷ rs) ≡ write_after (write_last (kind r) b) rs
write_check true b rs r e = ap (λ x. write_after x rs) e
write_check false b rs r e = refl

write_follows : (w last b : Bool) (accesses : List RegAccess) → write_after b (requests_for w accesses ++ check_when last) ≡ write_after (write_at_end b accesses) (check_when last)
write_follows w last b [] = refl
write_follows w last b (a ∷ rest) =
    let rs : List Request = requests_for (writes_ap a) rest in
    ap (write_after b) (append_assoc (check_when (w && may_be_free a)) (request_of a ∷ rs) (check_when last))
    ∙ write_check (w && may_be_free a) b (rs ++ check_when last) (request_of a) (write_request a false ∙ sym (write_request a b))
    ∙ ap (λ x. write_after x (rs ++ check_when last)) (write_request a b)
    ∙ write_follows (writes_ap a) last (not a.read) rest

checked_end : (b : Bool) → write_after b (check_when b) ≡ false
checked_end true = refl
checked_end false = refl

pub payload_checked : (accesses : List RegAccess) → write_after false (payload accesses) ≡ false
payload_checked accesses = write_follows false (write_at_end false accesses) false accesses ∙ checked_end (write_at_end false accesses)

-- ---- what was asked for is what was to be done

pub asked_targets : (t : TargetState) (accesses : List RegAccess) (k : ℕ) → AreTaken accesses → one_at_a_time t (take k (map asked_of accesses)) ≡ one_at_a_time t (take k accesses)
asked_targets t accesses zero taken = refl
asked_targets t [] (suc k) taken = refl
asked_targets t (a ∷ rest) (suc k) taken =
    ap (λ x. one_at_a_time x.next (take k (map asked_of rest))) (same_attempt t a taken.0) ∙ asked_targets (attempt t a).next rest k taken.1

pub asked_clear : (t : TargetState) (accesses : List RegAccess) (k : ℕ) → AreTaken accesses → AreClear t (take k (map asked_of accesses)) → AreClear t (take k accesses)
asked_clear t accesses zero taken h = h
asked_clear t [] (suc k) taken h = h
asked_clear t (a ∷ rest) (suc k) taken h =
    (h.0, asked_clear (attempt t a).next rest k taken.1 (subst (λ x. AreClear x.next (take k (map asked_of rest))) (same_attempt t a taken.0) h.1))

pub asked_values : (t : TargetState) (accesses : List RegAccess) (k : ℕ) → AreTaken accesses → slot_values t (take k (map asked_of accesses)) ≡ slot_values t (take k accesses)
asked_values t accesses zero taken = refl
asked_values t [] (suc k) taken = refl
asked_values t (a ∷ rest) (suc k) taken =
    (λ i. cond ((carries a i).read) (Some (value_of (same_attempt t a taken.0 i).outcome)) None ∷ slot_values (same_attempt t a taken.0 i).next (take k (map asked_of rest)))
    ∙ ap (λ xs. cond a.read (Some (value_now t a)) None ∷ xs) (asked_values (attempt t a).next rest k taken.1)

pub length_asked : (accesses : List RegAccess) → length (map asked_of accesses) ≡ length accesses
length_asked [] = refl
length_asked (a ∷ rest) = ap suc (length_asked rest)

-- ---- each check follows a write

check_not_own : (b : Bool) (w : Bool) (rs : List Request) (r : Request) → (b ≡ true → w ≡ true) → write_last (kind r) false ≡ write_last (kind r) w → is_own (access_of r) ≡ true →
    ChecksFollow (write_last (kind r) w) rs → ChecksFollow w (check_when b ++ r ∷ rs)
check_not_own true w rs r h e own rest = ((λ _. h refl), ((λ f. absurd (not_both f own)), subst (λ x. ChecksFollow x rs) (sym e) rest))
  where
    not_both : {x : Bool} → x ≡ false → x ≡ true → ⊥
    not_both f g = (let h = sym f ∙ g in cc)
check_not_own false w rs r h e own rest = ((λ f. absurd (not_both f own)), rest)
  where
    not_both : {x : Bool} → x ≡ false → x ≡ true → ⊥
    not_both f g = (let h = sym f ∙ g in cc)

-- a write of an AP is a write
ap_is_write : (a : RegAccess) → writes_ap a ≡ true → not a.read ≡ true
ap_is_write a e = second_true a.ap (not a.read) e

ending_follows : (w last : Bool) → (last ≡ true → w ≡ true) → ChecksFollow w (check_when last)
ending_follows w true h = ((λ _. h refl), tt)
ending_follows w false h = tt

pub checks_follow : (w b last : Bool) (accesses : List RegAccess) → AreTaken accesses → (w ≡ true → b ≡ true) → (last ≡ true → write_at_end b accesses ≡ true) →
    ChecksFollow b (requests_for w accesses ++ check_when last)
checks_follow w b last [] taken h k = ending_follows b last k
checks_follow w b last (a ∷ rest) taken h k =
    let rs : List Request = requests_for (writes_ap a) rest in
    let written = write_request a b in
    subst (ChecksFollow b) (sym (append_assoc (check_when (w && may_be_free a)) (request_of a ∷ rs) (check_when last)))
    (check_not_own (w && may_be_free a) b (rs ++ check_when last) (request_of a) (λ e. h (first_true w (may_be_free a) e)) (write_request a false ∙ sym written) (own_carried a taken.0)
    (subst (λ x. ChecksFollow x (rs ++ check_when last)) (sym written) (checks_follow (writes_ap a) (not a.read) last rest taken.1 (ap_is_write a) k)))
