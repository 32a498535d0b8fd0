-- What a command does to its accesses, and what its reply shows of it.
use Rattle.std.proofs.Common.{◌≡◌, ltb, ℕ, ◌+◌, ◌-◌, ◌≤◌, ◌&&◌, ◌||◌, Bool, true, false, cond, List, [], ◌∷◌, ◌++◌, take, length, refl, ap, sym, ◌∙◌, arith, suc, zero, subst, length-append, append-nil, Some, None}
use Rattle.std.specs.Prelude.{nat_lt}
use Rattle.std.proofs.lemmas.Bool.{le-ltb, lt-ltb}
use Rattle.target_machine.specs.State.{TargetState}
use Rattle.target_machine.specs.Attempt.{attempt}
use Rattle.target_machine.specs.declared.access.RegAccess.{RegAccess}
use Rattle.dap_messages.specs.declared.request.Request.{Request}
use Rattle.dap_messages.specs.declared.request.RequestKind.{RequestKind}
use Rattle.dap_messages.specs.declared.request.RequestKind.TheVariants.{Posted, Read, Match, Mask, Write}
use Rattle.dap_messages.specs.declared.request.Response.{Response}
use Rattle.dap_messages.specs.declared.request.Response.TheVariants.{Good, Wait, Fault, Mismatch}
use Rattle.dap_messages.specs.Requests.{kind, reads_in, write_after, gives_word}
use Rattle.dap_transfer.specs.Wires.{access_of}
use Rattle.dap_transfer.specs.State.{TransferState, Transferred}
use Rattle.dap_transfer.specs.Transfer.{transfer_result}
use Rattle.dap_transfer.specs.Private.{word_of}
use Rattle.dap_transfer.specs.Laws.{accesses_in, value_now, read_values, AreNormal}
use Rattle.dap_transfer.proofs.Prefix.{makes_prefix}
use Rattle.dap_transfer.proofs.ReadWords.{has_words}
use Rattle.dap_transfer.proofs.Words.{reads_first}
use Rattle.target_machine.specs.Counts.{one_if}
use Rattle.dap_transfer.specs.CommandEnds.{AreGuarded, EndsAt, is_doubted, posted_last, target_after}
use Rattle.flight_forms.specs.Flights.{DoesPart, Performs, doubts, part_of, seen_values, slot_values}
use Rattle.dap_transfer.proofs.CommandEnds.{command_ends}
use Rattle.dap_transfer.proofs.Work.{counts_accesses}
use Rattle.dap_transfer.proofs.Numbering.{numbers_transfers}
use Rattle.flight_forms.proofs.OwnAccesses.{ChecksFollow, doubted_count, own_count, performs_own, taken_own}
use Rattle.flight_forms.proofs.Numbers.{number_kept, taken_normal}
use Rattle.flight_forms.proofs.SeenValues.{all_seen, less_seen}
use Rattle.flight_forms.proofs.Stalled.{command_over}

-- ---- whether the last access is in doubt shows in the reply

lt_self : (n : ℕ) → ltb n n ≡ false
lt_self n = le-ltb n n (omega arith)

doubt_of : (w posted doubt : Bool) (given reads : ℕ) → given + one_if (doubt && posted) ≡ reads → (doubt ≡ true → (posted || w) ≡ true) → (w ≡ true → doubt ≡ true) →
    (w || nat_lt given reads) ≡ doubt
doubt_of true posted doubt given reads words unseen unproven = sym (unproven refl)
doubt_of false true true given reads words unseen unproven = lt-ltb given reads (omega arith)
doubt_of false false true given reads words unseen unproven = absurd (let e = unseen refl in cc)
doubt_of false posted false given reads words unseen unproven = (let same : reads ≡ given = omega arith in ap (nat_lt given) same ∙ lt_self given)

pub doubt_shows : (t : TargetState) (rs : List Request) (given n : ℕ) (x : Response) (pending : Bool) → EndsAt t false false rs given n x (is_doubted x pending) →
    doubts x (take n rs) given ≡ is_doubted x pending
doubt_shows t rs given n Good pending ends = refl
doubt_shows t rs given n Wait pending ends =
    doubt_of (write_after false (take n rs)) (posted_last false (take n rs)) pending given (reads_in (take n rs)) (ends.words ∙ omega arith) ends.unseen (λ e. ends.unproven e (λ f. cc))
doubt_shows t rs given n Fault pending ends =
    doubt_of (write_after false (take n rs)) (posted_last false (take n rs)) true given (reads_in (take n rs)) (ends.words ∙ omega arith) ends.unseen (λ e. ends.unproven e (λ f. cc))
doubt_shows t rs given n Mismatch pending ends = absurd (ends.never refl)

-- ---- the values

take_values : (c : ℕ) (t : TargetState) (accesses : List RegAccess) → take c (slot_values t accesses) ≡ slot_values t (take c accesses)
take_values zero t accesses = refl
take_values (suc c) t [] = refl
take_values (suc c) t (a ∷ rest) = ap (λ xs. cond a.read (Some (value_now t a)) None ∷ xs) (take_values c (attempt t a).next rest)

take_twice : (c k : ℕ) (accesses : List RegAccess) → c ≤ k → take c (take k accesses) ≡ take c accesses
take_twice zero k accesses h = refl
take_twice (suc c) zero accesses h = absurd (omega arith)
take_twice (suc c) (suc k) [] h = refl
take_twice (suc c) (suc k) (a ∷ rest) h = ap (λ xs. a ∷ xs) (take_twice c k rest (omega arith))

word_count : (k : RequestKind) (v : ℕ) (vs : List ℕ) → length (cond (gives_word k) (v ∷ []) [] ++ vs) ≡ word_of k + length vs
word_count Posted v vs = omega arith
word_count Read v vs = omega arith
word_count Match v vs = omega arith
word_count Mask v vs = omega arith
word_count Write v vs = omega arith

value_count : (t : TargetState) (rs : List Request) → length (read_values t rs) ≡ reads_in rs
value_count t [] = refl
value_count t (r ∷ rs) =
    word_count (kind r) (value_now t (access_of r)) (read_values (attempt t (access_of r)).next rs)
    ∙ ap (λ n. word_of (kind r) + n) (value_count (attempt t (access_of r)).next rs)
    ∙ sym (reads_first (r ∷ rs) rs r refl)

is_one : (doubt posted : Bool) → one_if (doubt && posted) ≡ 1 → (doubt ≡ true) × (posted ≡ true)
is_one true true e = (refl, refl)
is_one true false e = absurd (cc)
is_one false posted e = absurd (cc)

-- the last word is missing
one_less : (t : TargetState) (some : List Request) (words : List ℕ) (v : ℕ) (doubt : Bool) → AreNormal some → words ++ v ∷ [] ≡ read_values t some →
    length words + one_if (doubt && posted_last false some) ≡ reads_in some →
    (c : ℕ) → c ≡ length (accesses_in some) - one_if doubt → length (accesses_in some) ≡ c + one_if doubt → take c (seen_values some words) ≡ slot_values t (take c (accesses_in some))
one_less t [] words v doubt normal e count c is near = absurd (let n = ap length e in let m = length-append words (v ∷ []) in omega arith)
one_less t (r ∷ rs) words v doubt normal e count c is near =
    let n : length words + 1 ≡ reads_in (r ∷ rs) = (let a = length-append words (v ∷ []) in sym a ∙ ap length e ∙ value_count t (r ∷ rs)) in
    let both = is_one doubt (posted_last false (r ∷ rs)) (omega arith) in
    let fits : c + 1 ≤ length (accesses_in (r ∷ rs)) = (let d = ap one_if both.0 in omega arith) in
    less_seen false t r rs v normal both.1 words e c fits

pub values_seen : (t : TargetState) (some : List Request) (words missing : List ℕ) (doubt : Bool) → AreNormal some → length missing ≤ 1 → words ++ missing ≡ read_values t some →
    length words + one_if (doubt && posted_last false some) ≡ reads_in some →
    (c : ℕ) → c ≡ length (accesses_in some) - one_if doubt → length (accesses_in some) ≡ c + one_if doubt → take c (seen_values some words) ≡ slot_values t (take c (accesses_in some))
values_seen t some words [] doubt normal short e count c is near =
    ap (take c) (all_seen t some words normal (sym (append-nil words) ∙ e)) ∙ take_values c t (accesses_in some)
values_seen t some words (v ∷ []) doubt normal short e count c is near = one_less t some words v doubt normal e count c is near
values_seen t some words (v ∷ w ∷ more) doubt normal short e count c is near = absurd (omega arith)

own_values : (t : TargetState) (rs : List Request) (n c : ℕ) (words missing : List ℕ) (doubt : Bool) → AreNormal rs → length missing ≤ 1 → words ++ missing ≡ read_values t (take n rs) →
    length words + one_if (doubt && posted_last false (take n rs)) ≡ 0 + reads_in (take n rs) → c ≡ own_count n rs - one_if doubt → own_count n rs ≡ c + one_if doubt →
    take c (seen_values (take n rs) words) ≡ slot_values t (take c (accesses_in rs))
own_values t rs n c words missing doubt normal short e count c_is near =
    values_seen t (take n rs) words missing doubt (taken_normal n rs normal) short e (count ∙ omega arith) c c_is near
    ∙ ap (λ xs. slot_values t (take c xs)) (taken_own n rs)
    ∙ ap (slot_values t) (take_twice c (own_count n rs) (accesses_in rs) (omega arith))

wait_count : (x : Response) (pending : Bool) (k m c : ℕ) → x ≡ Wait → k ≡ m + one_if (is_doubted x pending) → m ≡ c → k ≡ c + one_if pending
wait_count Good pending k m c e near is = absurd (cc)
wait_count Wait pending k m c e near is = omega arith
wait_count Fault pending k m c e near is = absurd (cc)
wait_count Mismatch pending k m c e near is = absurd (cc)

-- ---- a command of these requests

pub does_own : (p : TransferState) (rs : List Request) → AreNormal rs → AreGuarded false rs → ChecksFollow false rs → p.line.target.sticky ≡ false →
    (let d = transfer_result p rs in DoesPart p d.next (accesses_in rs) (part_of (take d.executed rs) d.response d.words))
does_own p rs normal guarded follow clear =
    let t : TargetState = p.line.target in
    let d : Transferred = transfer_result p rs in
    let n : ℕ = d.executed in
    let x : Response = d.response in
    let ends : EndsAt t false false rs (length d.words) n x (is_doubted x d.next.pending) = command_ends p rs normal guarded clear in
    let target : d.next.line.target ≡ target_after t n rs = makes_prefix p rs normal in
    let doubt : Bool = is_doubted x d.next.pending in
    let some : List Request = take n rs in
    let shows : doubts x some (length d.words) ≡ doubt = doubt_shows t rs (length d.words) n x d.next.pending ends in
    let performs = performs_own t d.next.line.target rs (length d.words) n x d.next.pending normal follow ends target in
    let k : ℕ = own_count n rs in
    let c : ℕ = k - one_if (doubts x some (length d.words)) in
    let near_own : k ≡ own_count (n - one_if doubt) rs + one_if doubt = doubted_count doubt n rs normal ends.most ends.unseen in
    let has = has_words p rs normal in
    let c_is : own_count (n - one_if doubt) rs ≡ c = (let z = ap one_if shows in omega arith) in
    record {
      made = subst (λ (j : ℕ). Performs t d.next.line.target (accesses_in rs) k j x) c_is performs;
      values = own_values t rs n c d.words has.0 doubt normal has.1 has.3 ends.words (ap (λ b. k - one_if b) shows) (near_own ∙ ap (λ j. j + one_if doubt) c_is);
      work = counts_accesses p rs normal;
      setting = refl;
      retries = refl;
      pending = λ e. wait_count x d.next.pending k (own_count (n - one_if doubt) rs) c e near_own c_is;
      number = number_kept t rs p.line.number d.next.line.number (length d.words) n x d.next.pending normal follow ends (numbers_transfers p rs normal);
      over = command_over p rs;
    }
