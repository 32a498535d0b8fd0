-- What replies show that may come, whatever the probe did.
use Rattle.std.proofs.Common.{◌≡◌, eqb, leb, ltb, ℕ, ◌+◌, ◌*◌, ◌-◌, ◌≤◌, ◌<◌, ◌&&◌, ◌||◌, not, Bool, true, false, List, [], ◌∷◌, take, length, refl, ap, sym, ◌∙◌, arith, suc, zero, subst, ◌⊎◌, inl, inr, IsTrue, append-nil, Option}
use Rattle.std.proofs.lemmas.Bool.{eqb-true, leb-true, lt-ltb, ltb-false, ltb-true, and_parts, or_right, or_left}
use Rattle.std.proofs.Math.Seq.{take-length}
use Rattle.target_machine.specs.declared.access.RegAccess.{RegAccess}
use Rattle.dap_messages.specs.declared.request.Request.{Request}
use Rattle.dap_messages.specs.declared.request.RequestKind.{RequestKind}
use Rattle.dap_messages.specs.declared.request.RequestKind.TheVariants.{Posted, Read, Match, Mask, Write}
use Rattle.dap_messages.specs.declared.request.Response.{Response}
use Rattle.dap_messages.specs.declared.request.Response.TheVariants.{Good, Wait, Fault, Mismatch}
use Rattle.dap_messages.specs.Replies.{Answers, AnswersTransfer, kind_at, last_is_posted, may_end_block, may_end_by, may_stop, passes, progress_at}
use Rattle.dap_messages.specs.Replies as reply
use Rattle.dap_messages.specs.Requests.{ends_in_write, is_mask, is_match, kind, reads_in, write_after, block_requests}
use Rattle.dap_messages.specs.Responses.{code_of, response_of, is_good}
use Rattle.target_machine.specs.Counts.{one_if}
use Rattle.target_machine.proofs.CountLemmas.{one_most}
use Rattle.dap_transfer.specs.CommandEnds.{posted_last}
use Rattle.dap_transfer.specs.Laws.{AreNormal, IsNormalKind, accesses_in}
use Rattle.flight_forms.specs.Flights.{IsPartOf, doubts, part_of, seen_values}
use Rattle.flight_forms.specs.Flights.{words_of}
use Rattle.flight_forms.specs.Forms.{all_write_drw, fits_block}
use Rattle.flight_forms.specs.Packets.{block_command, transfer_command}
use Rattle.flight_forms.specs.Packing.{AreTaken, requests_for}
use Rattle.flight_forms.proofs.Blocks.{drw_requests, drw_taken, length_writes, no_reads}
use Rattle.flight_forms.proofs.Fits.{length_words}
use Rattle.flight_forms.proofs.RequestSizes.{three_parts}
use Rattle.flight_forms.proofs.AskedRequests.{accesses_asked, are_normal, checks_follow, length_asked}
use Rattle.flight_forms.proofs.OwnAccesses.{ChecksFollow, last_own, next_or_write, own_count, own_most}
use Rattle.flight_forms.proofs.SeenValues.{length_seen}
use Rattle.flight_forms.proofs.Numbers.{taken_normal}
use Rattle.flight_forms.proofs.Capacity.{clash}
use Rattle.dap_transfer.proofs.NormalAnswers.{posted_at}
use Rattle.dap_transfer.proofs.Numbering.{one_is}

-- ---- requests of which the first were executed

-- why a command may have stopped: requests are left, a word is missing, or the last access is a write
abbrev pub Stopped : ℕ → List Request → Bool → Type 0
Stopped n rs missing = (n < length rs) ⊎ ((missing ≡ true) ⊎ (write_after false (take n rs) ≡ true))

-- what is said of these requests by a reply
pub record Says (rs : List Request) (n : ℕ) (x : Response) (given : ℕ) : Type 0 where
  pub within : n ≤ length rs
  pub missing : Bool
  pub posted : missing ≡ true → posted_last false (take n rs) ≡ true
  pub words : given + one_if missing ≡ reads_in (take n rs)
  pub whole : x ≡ Good → n ≡ length rs
  pub stopped : (x ≡ Good → ⊥) → Stopped n rs missing

-- the last executed request is an own access
some_own : (n : ℕ) (rs : List Request) → AreNormal rs → n ≤ length rs → (posted_last false (take n rs) || write_after false (take n rs)) ≡ true → 1 ≤ own_count n rs
some_own zero rs normal fits e = absurd (cc)
some_own (suc n) rs normal fits e = (let h = last_own n false false rs normal fits e in omega arith)

not_good : (x : Response) → (x ≡ Good → ⊥) → not (is_good x) ≡ true
not_good Good bad = absurd (bad refl)
not_good Wait bad = refl
not_good Fault bad = refl
not_good Mismatch bad = refl

no_doubt : (x : Response) (some : List Request) (given : ℕ) → x ≡ Good → one_if (doubts x some given) ≡ 0
no_doubt x some given e = ap (λ y. one_if (not (is_good y) && (write_after false some || ltb given (reads_in some)))) e

doubt_is : (x : Response) (some : List Request) (given : ℕ) → (x ≡ Good → ⊥) → (write_after false some || ltb given (reads_in some)) ≡ true → one_if (doubts x some given) ≡ 1
doubt_is x some given bad e = (λ i. one_if (not_good x bad i && e i))

take_few : (c : ℕ) (xs : List (Option ℕ)) → c ≤ length xs → length (take c xs) ≡ c
take_few zero xs h = refl
take_few (suc c) [] h = absurd (omega arith)
take_few (suc c) (x ∷ xs) h = ap suc (take_few c xs (omega arith))

-- fewer than all are confirmed
pub stopped_short : (rs : List Request) (n : ℕ) (x : Response) (given : ℕ) → AreNormal rs → ChecksFollow false rs → Says rs n x given → (x ≡ Good → ⊥) →
    own_count n rs - one_if (doubts x (take n rs) given) < length (accesses_in rs)
stopped_short rs n x given normal follow says bad = by_stop (says.stopped bad)
  where
    some : List Request
    some = take n rs

    most : own_count n rs ≤ length (accesses_in rs)
    most = own_most n rs

    -- the last is in doubt, and is an own access
    doubtful : (posted_last false some || write_after false some) ≡ true → (write_after false some || ltb given (reads_in some)) ≡ true →
        own_count n rs - one_if (doubts x some given) < length (accesses_in rs)
    doubtful own e = (let one = some_own n rs normal says.within own in let d = doubt_is x some given bad e in let m = most in omega arith)

    written : write_after false some ≡ true → own_count n rs - one_if (doubts x some given) < length (accesses_in rs)
    written e = doubtful (or_right (posted_last false some) (write_after false some) e) (or_left (write_after false some) (ltb given (reads_in some)) e)

    by_stop : Stopped n rs says.missing → own_count n rs - one_if (doubts x some given) < length (accesses_in rs)
    by_stop (inl left) = elim (next_or_write n false rs follow left) [ inl few ↦ (omega arith) | inr e ↦ written e ]
    by_stop (inr (inl lost)) =
        doubtful (or_left (posted_last false some) (write_after false some) (says.posted lost))
        (or_right (write_after false some) (ltb given (reads_in some)) (lt-ltb given (reads_in some) (let w = says.words in let one = ap one_if lost in omega arith)))
    by_stop (inr (inr e)) = written e

all_own : (n : ℕ) (rs : List Request) → n ≡ length rs → own_count n rs ≡ length (accesses_in rs)
all_own n rs e = ap (λ k. length (accesses_in (take k rs))) e ∙ ap (λ xs. length (accesses_in xs)) (take-length rs)

-- what the reply shows of these requests
pub says_part : (rs : List Request) (n : ℕ) (x : Response) (words : List ℕ) → AreNormal rs → ChecksFollow false rs → Says rs n x (length words) →
    IsPartOf (length (accesses_in rs)) (part_of (take n rs) x words)
says_part rs n x words normal follow says =
    let some : List Request = take n rs in
    let k : ℕ = own_count n rs in
    let d : ℕ = one_if (doubts x some (length words)) in
    let one = one_most (doubts x some (length words)) in
    let seen = length_seen some words (taken_normal n rs normal) in
    record {
      most = own_most n rs;
      within = omega arith;
      near = omega arith;
      whole = λ e. (let all = all_own n rs (says.whole e) in let none = no_doubt x some (length words) e in omega arith);
      short = λ bad. stopped_short rs n x (length words) normal follow says bad;
      values = take_few (k - d) (seen_values some words) (omega arith);
    }

-- ---- one Transfer

pub kind_unmatched : (k : RequestKind) → IsNormalKind k → is_match k ≡ false
kind_unmatched Posted h = refl
kind_unmatched Read h = refl
kind_unmatched Match h = absurd h
kind_unmatched Mask h = refl
kind_unmatched Write h = refl

pub normal_kind : (n : ℕ) (rs : List Request) → AreNormal rs → passes is_match (kind_at rs n) ≡ false
normal_kind n [] normal = refl
normal_kind zero (r ∷ rs) normal = kind_unmatched (kind r) normal.0
normal_kind (suc n) (r ∷ rs) normal = normal_kind n rs normal.1

some_kind : (test : RequestKind → Bool) (n : ℕ) (rs : List Request) → passes test (kind_at rs n) ≡ true → n < length rs
some_kind test n [] e = absurd (cc)
some_kind test zero (r ∷ rs) e = omega arith
some_kind test (suc n) (r ∷ rs) e = (let h = some_kind test n rs e in omega arith)

pub three_or : (x y z : Bool) → (x || y || z) ≡ true → (x ≡ true) ⊎ ((y ≡ true) ⊎ (z ≡ true))
three_or true y z e = inl refl
three_or false true z e = inr (inl refl)
three_or false false z e = inr (inr e)

pub posted_is : (n : ℕ) (rs : List Request) → n ≤ length rs → IsTrue (last_is_posted rs n) → posted_last false (take n rs) ≡ true
posted_is zero rs h e = absurd (let f = e in cc)
posted_is (suc n) rs h e = posted_at n false rs h ∙ e

transfer_stopped : (rs : List Request) (n : ℕ) (missing : Bool) → may_stop (progress_at rs n) missing ≡ true → Stopped n rs missing
transfer_stopped rs n missing e = by_reason (three_or (passes (λ k. not (is_mask k)) (kind_at rs n)) missing (eqb n (length rs) && ends_in_write rs) e)
  where
    at_end : (n ≡ length rs) → write_after false rs ≡ true → write_after false (take n rs) ≡ true
    at_end f g = ap (λ k. write_after false (take k rs)) f ∙ ap (write_after false) (take-length rs) ∙ g

    by_reason : (passes (λ k. not (is_mask k)) (kind_at rs n) ≡ true) ⊎ ((missing ≡ true) ⊎ ((eqb n (length rs) && ends_in_write rs) ≡ true)) → Stopped n rs missing
    by_reason (inl f) = inl (some_kind (λ k. not (is_mask k)) n rs f)
    by_reason (inr (inl f)) = inr (inl f)
    by_reason (inr (inr f)) = (let two = and_parts (eqb n (length rs)) (ends_in_write rs) f in inr (inr (at_end (eqb-true n (length rs) two.0) two.1)))

transfer_ends : (x : Response) (rs : List Request) (n : ℕ) (missing : Bool) → AreNormal rs → IsTrue (may_end_by (response_of (code_of x)) (progress_at rs n) missing) →
    (x ≡ Good → n ≡ length rs) × ((x ≡ Good → ⊥) → Stopped n rs missing)
transfer_ends Good rs n missing normal e = ((λ _. eqb-true n (length rs) (let two = and_parts (eqb n (length rs)) (not missing) e in two.0)), (λ bad. absurd (bad refl)))
transfer_ends Wait rs n missing normal e = ((λ f. absurd (cc)), (λ _. transfer_stopped rs n missing e))
transfer_ends Fault rs n missing normal e = ((λ f. absurd (cc)), (λ _. transfer_stopped rs n missing e))
transfer_ends Mismatch rs n missing normal e = absurd (clash e (normal_kind n rs normal))

transfer_says : (rs : List Request) (n : ℕ) (x : Response) (words : List ℕ) → AreNormal rs → AnswersTransfer rs n (code_of x) words → Says rs n x (length words)
transfer_says rs n x words normal may =
    let ends = transfer_ends x rs n may.missing normal may.ends in
    record {
      within = may.within;
      missing = may.missing;
      posted = λ e. posted_is n rs may.within (may.posted e);
      words = ap (λ k. length words + k) (sym (one_is may.missing)) ∙ may.given;
      whole = ends.0;
      stopped = ends.1;
    }

plain_count : (accesses : List RegAccess) → AreTaken accesses → length (accesses_in (requests_for false accesses)) ≡ length accesses
plain_count accesses taken =
    ap (λ rs. length (accesses_in rs)) (sym (append-nil (requests_for false accesses))) ∙ ap length (accesses_asked false false accesses taken) ∙ length_asked accesses

plain_follow : (accesses : List RegAccess) → AreTaken accesses → ChecksFollow false (requests_for false accesses)
plain_follow accesses taken =
    subst (ChecksFollow false) (append-nil (requests_for false accesses)) (checks_follow false false false accesses taken (λ e. e) (λ e. absurd (cc)))

pub transfer_shows : (accesses : List RegAccess) (n : ℕ) (x : Response) (words : List ℕ) → AreTaken accesses → Answers (transfer_command accesses) (reply.Transfer n (code_of x) words) →
    IsPartOf (length accesses) (part_of (take n (requests_for false accesses)) x words)
transfer_shows accesses n x words taken may =
    let rs : List Request = requests_for false accesses in
    let normal : AreNormal rs = are_normal false accesses in
    subst (λ (k : ℕ). IsPartOf k (part_of (take n rs) x words)) (plain_count accesses taken)
    (says_part rs n x words normal (plain_follow accesses taken) (transfer_says rs n x words normal may))

-- ---- a block

writes_last : (b : Bool) (words : List ℕ) → 1 ≤ length words → write_after b (block_requests 0x0D words) ≡ true
writes_last b [] some = absurd (omega arith)
writes_last b (w ∷ []) some = refl
writes_last b (w ∷ v ∷ words) some = writes_last true (v ∷ words) (omega arith)

block_stopped : (accesses : List RegAccess) (n : ℕ) → all_write_drw accesses ≡ true → 1 ≤ length accesses → n ≤ length accesses → Stopped n (requests_for false accesses) false
block_stopped accesses n all some fits = by_end (ltb n (length rs)) refl
  where
    rs : List Request
    rs = requests_for false accesses

    count : length rs ≡ length accesses
    count = ap length (drw_requests false accesses all) ∙ length_writes (words_of accesses) ∙ length_words accesses

    written : write_after false rs ≡ true
    written = ap (write_after false) (drw_requests false accesses all) ∙ writes_last false (words_of accesses) (let n = length_words accesses in omega arith)

    by_end : (b : Bool) → ltb n (length rs) ≡ b → Stopped n rs false
    by_end true e = inl (ltb-true n (length rs) e)
    by_end false e =
        let past = ltb-false n (length rs) e in
        let whole : n ≡ length rs = (let c = count in omega arith) in
        inr (inr (ap (λ k. write_after false (take k rs)) whole ∙ ap (write_after false) (take-length rs) ∙ written))

block_ends : (x : Response) (n m : ℕ) → IsTrue (may_end_block (response_of (code_of x)) n m) → (x ≡ Good → n ≡ m) × (x ≡ Mismatch → ⊥)
block_ends Good n m e = ((λ _. eqb-true n m e), (λ f. absurd (cc)))
block_ends Wait n m e = ((λ f. absurd (cc)), (λ f. absurd (cc)))
block_ends Fault n m e = ((λ f. absurd (cc)), (λ f. absurd (cc)))
block_ends Mismatch n m e = absurd (let f = e in cc)

pub block_shows : (size : ℕ) (accesses : List RegAccess) (n : ℕ) (x : Response) → fits_block size accesses ≡ true → Answers (block_command accesses) (reply.Block n (code_of x)) →
    IsPartOf (length accesses) (part_of (take n (requests_for false accesses)) x [])
block_shows size accesses n x fits may =
    let rs : List Request = requests_for false accesses in
    let parts = three_parts (leb 2 (length accesses)) (all_write_drw accesses) (leb (5 + 4 * length accesses) size) fits in
    let all : all_write_drw accesses ≡ true = parts.1 in
    let some : 2 ≤ length accesses = leb-true 2 (length accesses) parts.0 in
    let taken : AreTaken accesses = drw_taken accesses all in
    let normal : AreNormal rs = are_normal false accesses in
    let words : length (words_of accesses) ≡ length accesses = length_words accesses in
    let count : length rs ≡ length accesses = ap length (drw_requests false accesses all) ∙ length_writes (words_of accesses) ∙ words in
    let ends = block_ends x n (length (words_of accesses)) may.1 in
    let within : n ≤ length accesses = (let m = may.0 in omega arith) in
    let none : reads_in (take n rs) ≡ 0 = ap (λ xs. reads_in (take n xs)) (drw_requests false accesses all) ∙ no_reads n (words_of accesses) in
    subst (λ (k : ℕ). IsPartOf k (part_of (take n rs) x [])) (plain_count accesses taken)
    (says_part rs n x [] normal (plain_follow accesses taken)
    (record {
      within = omega arith;
      missing = false;
      posted = λ e. absurd (cc);
      words = sym none;
      whole = λ e. ends.0 e ∙ words ∙ sym count;
      stopped = λ bad. block_stopped accesses n all (omega arith) within;
    }))
