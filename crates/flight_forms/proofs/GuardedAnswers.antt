-- The reply of a probe to a guarded command is one that the command may get.
use Rattle.std.proofs.Common.{◌≡◌, eqb, ltb, ℕ, ◌+◌, ◌^◌, ◌≤◌, ◌<◌, ◌&&◌, ◌||◌, not, Bool, true, false, List, [], ◌∷◌, ◌++◌, take, length, length-append, refl, ap, sym, ◌∙◌, arith, suc, zero, IsTrue}
use Rattle.std.specs.List.{AllByRecursion}
use Rattle.std.proofs.lemmas.Bool.{eq-eqb, ltb-false, ltb-true}
use Rattle.std.proofs.Math.Seq.{take-length}
use Rattle.target_machine.specs.State.{TargetState}
use Rattle.dap_messages.specs.declared.request.Request.{Request}
use Rattle.dap_messages.specs.declared.request.Response.{Response}
use Rattle.dap_messages.specs.declared.request.Response.TheVariants.{Good, Wait, Fault, Mismatch}
use Rattle.dap_messages.specs.Requests.{ends_in_write, is_mask, is_posted, kind, mask_request, match_request, reads_in, write_after}
use Rattle.dap_messages.specs.Responses.{code_of, response_of}
use Rattle.dap_messages.specs.Replies.{AnswersTransfer, kind_at, last_is_posted, may_end_by, may_stop, passes, progress_at}
use Rattle.dap_transfer.specs.Laws.{AreNormal}
use Rattle.dap_transfer.specs.Private.{word_of}
use Rattle.dap_transfer.proofs.Words.{reads_first}
use Rattle.dap_transfer.specs.CommandEnds.{EndsAt, posted_last, is_doubted}
use Rattle.flight_forms.specs.Packing.{with_guards}
use Rattle.dap_transfer.proofs.NormalAnswers.{count_missing, missing_posted, next_waits, or_first}

pub reads_masked : (rs : List Request) (v : ℕ) → reads_in (rs ++ mask_request v ∷ []) ≡ reads_in rs
reads_masked [] v = reads_first (mask_request v ∷ []) [] (mask_request v) refl
reads_masked (r ∷ rs) v =
    reads_first (r ∷ rs ++ mask_request v ∷ []) (rs ++ mask_request v ∷ []) r refl ∙ ap (λ n. word_of (kind r) + n) (reads_masked rs v) ∙ sym (reads_first (r ∷ rs) rs r refl)

pub reads_guarded : (rs : List Request) → reads_in (match_request false 0x0 0 ∷ mask_request 1 ∷ rs) ≡ reads_in rs
reads_guarded rs =
    let a : reads_in (match_request false 0x0 0 ∷ mask_request 1 ∷ rs) ≡ 0 + reads_in (mask_request 1 ∷ rs) = reads_first (match_request false 0x0 0 ∷ mask_request 1 ∷ rs) (mask_request 1 ∷ rs) (match_request false 0x0 0) refl in
    let b : reads_in (mask_request 1 ∷ rs) ≡ 0 + reads_in rs = reads_first (mask_request 1 ∷ rs) rs (mask_request 1) refl in
    omega arith

pub take_in_front : (n : ℕ) (rs : List Request) (v : ℕ) → n ≤ length rs → take n (rs ++ mask_request v ∷ []) ≡ take n rs
take_in_front zero rs v h = refl
take_in_front (suc n) [] v h = absurd (omega arith)
take_in_front (suc n) (r ∷ rs) v h = ap (λ xs. r ∷ xs) (take_in_front n rs v (omega arith))

pub kind_in_front : (n : ℕ) (rs : List Request) (v : ℕ) → n < length rs → kind_at (rs ++ mask_request v ∷ []) n ≡ kind_at rs n
kind_in_front n [] v h = absurd (omega arith)
kind_in_front zero (r ∷ rs) v h = refl
kind_in_front (suc n) (r ∷ rs) v h = kind_in_front n rs v (omega arith)

guarded_posted : (doubt : Bool) (n : ℕ) (rs : List Request) → n ≤ length rs → (doubt && posted_last false (take n rs)) ≡ true → IsTrue (last_is_posted (with_guards rs) (suc (suc n)))
guarded_posted true zero rs h e = absurd (cc)
guarded_posted true (suc n) rs h e = ap (passes is_posted) (kind_in_front n rs 0 (omega arith)) ∙ missing_posted true (suc n) rs h e
guarded_posted false n rs h e = absurd (cc)

or_second : (x y z : Bool) → y ≡ true → (x || y || z) ≡ true
or_second true y z e = refl
or_second false true z e = refl
or_second false false z e = absurd (cc)

only_posted : (doubt posted w : Bool) → doubt ≡ true → (posted || w) ≡ true → w ≡ false → (doubt && posted) ≡ true
only_posted true true w d e f = refl
only_posted true false true d e f = absurd (cc)
only_posted true false false d e f = absurd (cc)
only_posted false posted w d e f = absurd (cc)

guarded_stops : (t : TargetState) (rs : List Request) (given n : ℕ) (x : Response) (doubt : Bool) → AreNormal rs → write_after false rs ≡ false → EndsAt t false false rs given n x doubt → (x ≡ Good → ⊥) →
    may_stop (progress_at (with_guards rs) (suc (suc n))) (doubt && posted_last false (take n rs)) ≡ true
guarded_stops t rs given n x doubt normal checked ends bad = by_end (ltb n (length rs)) refl
  where
    missing : Bool
    missing = doubt && posted_last false (take n rs)

    next : Bool
    next = passes (λ k. not (is_mask k)) (kind_at (with_guards rs) (suc (suc n)))

    last : Bool
    last = eqb (suc (suc n)) (length (with_guards rs)) && ends_in_write (with_guards rs)

    at_end : n ≡ length rs → may_stop (progress_at (with_guards rs) (suc (suc n))) missing ≡ true
    at_end e =
        let sure : doubt ≡ true = ends.at_end bad e in
        let all : take n rs ≡ rs = ap (λ k. take k rs) e ∙ take-length rs in
        or_second next missing last (only_posted doubt (posted_last false (take n rs)) (write_after false (take n rs)) sure (ends.unseen sure) (ap (write_after false) all ∙ checked))

    by_end : (b : Bool) → ltb n (length rs) ≡ b → may_stop (progress_at (with_guards rs) (suc (suc n))) missing ≡ true
    by_end true e =
        let below : n < length rs = ltb-true n (length rs) e in
        or_first next missing last (ap (passes (λ k. not (is_mask k))) (kind_in_front n rs 0 below) ∙ next_waits n rs normal below)
    by_end false e = at_end (let h = ltb-false n (length rs) e in let k = ends.most in omega arith)

guarded_ends : (x : Response) (t : TargetState) (rs : List Request) (given n : ℕ) (pending : Bool) → AreNormal rs → write_after false rs ≡ false → EndsAt t false false rs given n x (is_doubted x pending) →
    (x ≡ Good → ⊥) → IsTrue (may_end_by (response_of (code_of x)) (progress_at (with_guards rs) (suc (suc n))) (is_doubted x pending && posted_last false (take n rs)))
guarded_ends Good t rs given n pending normal checked ends bad = absurd (bad refl)
guarded_ends Wait t rs given n pending normal checked ends bad = guarded_stops t rs given n Wait pending normal checked ends bad
guarded_ends Fault t rs given n pending normal checked ends bad = guarded_stops t rs given n Fault true normal checked ends bad
guarded_ends Mismatch t rs given n pending normal checked ends bad = absurd (ends.never refl)

-- a guarded command that was cut: the guard's two requests and n others were executed
pub answers_cut : (t : TargetState) (rs : List Request) (n : ℕ) (x : Response) (pending : Bool) (words : List ℕ) → AreNormal rs → write_after false rs ≡ false →
    AllByRecursion (λ word. word < 2 ^ 32) words → EndsAt t false false rs (length words) n x (is_doubted x pending) → (x ≡ Good → ⊥) → AnswersTransfer (with_guards rs) (suc (suc n)) (code_of x) words
answers_cut t rs n x pending words normal checked fits ends bad =
    let missing : Bool = is_doubted x pending && posted_last false (take n rs) in
    let size : length (rs ++ mask_request 0 ∷ []) ≡ length rs + 1 = length-append rs (mask_request 0 ∷ []) in
    record {
      within = (let m = ends.most in omega arith);
      fits = fits;
      missing = missing;
      posted = guarded_posted (is_doubted x pending) n rs ends.most;
      given =
          ap (λ k. length words + k) (sym (count_missing missing)) ∙ ends.words
          ∙ (let a = reads_guarded (take n (rs ++ mask_request 0 ∷ [])) in let b = ap reads_in (take_in_front n rs 0 ends.most) in omega arith);
      ends = guarded_ends x t rs (length words) n pending normal checked ends bad;
    }

-- and one that came to its end
pub answers_whole : (rs : List Request) (words : List ℕ) → AllByRecursion (λ word. word < 2 ^ 32) words → length words ≡ reads_in rs → AnswersTransfer (with_guards rs) (length (with_guards rs)) 1 words
answers_whole rs words fits count = record {
  within = omega arith;
  fits = fits;
  missing = false;
  posted = λ e. absurd (cc);
  given =
      (let a = reads_guarded (rs ++ mask_request 0 ∷ []) in
      let b = reads_masked rs 0 in
      let c = ap reads_in (take-length (with_guards rs)) in
      omega arith);
  ends = ap (λ b. b && true) (eq-eqb (length (with_guards rs)) (length (with_guards rs)) refl);
}

-- and one that was not let in
pub answers_shut : (rs : List Request) → AnswersTransfer (with_guards rs) 0 0x11 []
answers_shut rs = record { within = omega arith; fits = tt; missing = false; posted = λ e. absurd (cc); given = refl; ends = refl }
