-- The reply of a probe to an unguarded Transfer of normal requests is one that the command may get.
use Rattle.std.proofs.Common.{◌≡◌, eqb, ltb, ℕ, ◌+◌, ◌^◌, ◌≤◌, ◌<◌, ◌&&◌, ◌||◌, not, Bool, true, false, cond, List, [], ◌∷◌, take, length, refl, ap, sym, ◌∙◌, arith, suc, zero, IsTrue}
use Rattle.std.specs.List.{AllByRecursion}
use Rattle.std.proofs.lemmas.Bool.{eq-eqb, ltb-false, ltb-true}
use Rattle.std.proofs.Math.Seq.{take-length}
use Rattle.target_machine.specs.State.{TargetState}
use Rattle.dap_messages.specs.declared.request.Request.{Request}
use Rattle.dap_messages.specs.declared.request.RequestKind.{RequestKind}
use Rattle.dap_messages.specs.declared.request.RequestKind.TheVariants.{Posted, Read, Match, Mask, Write}
use Rattle.dap_messages.specs.declared.request.Response.{Response}
use Rattle.dap_messages.specs.declared.request.Response.TheVariants.{Good, Wait, Fault, Mismatch}
use Rattle.dap_messages.specs.Requests.{ends_in_write, is_mask, is_posted, kind, write_after}
use Rattle.dap_messages.specs.Responses.{code_of, response_of}
use Rattle.dap_messages.specs.Replies.{AnswersTransfer, kind_at, last_is_posted, may_end_by, may_stop, passes, progress_at}
use Rattle.dap_transfer.specs.Laws.{AreNormal, IsNormalKind}
use Rattle.target_machine.specs.Counts.{one_if}
use Rattle.dap_transfer.specs.CommandEnds.{EndsAt, posted_last, is_doubted}

pub posted_at : (n : ℕ) (o : Bool) (rs : List Request) → suc n ≤ length rs → posted_last o (take (suc n) rs) ≡ last_is_posted rs (suc n)
posted_at n o [] h = absurd (omega arith)
posted_at zero o (r ∷ rs) h = refl
posted_at (suc n) o (r ∷ rs) h = posted_at n (is_posted (kind r)) rs (omega arith)

pub missing_posted : (doubt : Bool) (n : ℕ) (rs : List Request) → n ≤ length rs → (doubt && posted_last false (take n rs)) ≡ true → IsTrue (last_is_posted rs n)
missing_posted true zero rs h e = absurd (cc)
missing_posted true (suc n) rs h e = sym (posted_at n false rs h) ∙ e
missing_posted false n rs h e = absurd (cc)

no_mask : (k : RequestKind) → IsNormalKind k → not (is_mask k) ≡ true
no_mask Posted h = refl
no_mask Read h = refl
no_mask Match h = absurd h
no_mask Mask h = absurd h
no_mask Write h = refl

pub next_waits : (n : ℕ) (rs : List Request) → AreNormal rs → n < length rs → passes (λ k. not (is_mask k)) (kind_at rs n) ≡ true
next_waits n [] normal h = absurd (omega arith)
next_waits zero (r ∷ rs) normal h = no_mask (kind r) normal.0
next_waits (suc n) (r ∷ rs) normal h = next_waits n rs normal.1 (omega arith)

pub or_first : (x y z : Bool) → x ≡ true → (x || y || z) ≡ true
or_first true y z e = refl
or_first false y z e = absurd (cc)

stops_whole : (x missing whole w : Bool) → (missing || w) ≡ true → whole ≡ true → (x || missing || (whole && w)) ≡ true
stops_whole true missing whole w e f = refl
stops_whole false true whole w e f = refl
stops_whole false false true true e f = refl
stops_whole false false true false e f = absurd (cc)
stops_whole false false false w e f = absurd (cc)

-- WAIT and FAULT come only where an access may have met them
may_stop_at : (t : TargetState) (rs : List Request) (given n : ℕ) (x : Response) (doubt : Bool) → AreNormal rs → EndsAt t false false rs given n x doubt → (x ≡ Good → ⊥) →
    may_stop (progress_at rs n) (doubt && posted_last false (take n rs)) ≡ true
may_stop_at t rs given n x doubt normal ends bad = by_end (ltb n (length rs)) refl
  where
    missing : Bool
    missing = doubt && posted_last false (take n rs)

    at_end : n ≡ length rs → may_stop (progress_at rs n) missing ≡ true
    at_end e =
        let sure : doubt ≡ true = ends.at_end bad e in
        let seen : (posted_last false (take n rs) || write_after false (take n rs)) ≡ true = ends.unseen sure in
        let all : take n rs ≡ rs = ap (λ k. take k rs) e ∙ take-length rs in
        let either : (missing || ends_in_write rs) ≡ true =
        ap (λ b. (b && posted_last false (take n rs)) || ends_in_write rs) sure ∙ ap (λ xs. posted_last false (take n rs) || write_after false xs) (sym all) ∙ seen in
        stops_whole (passes (λ k. not (is_mask k)) (kind_at rs n)) missing (eqb n (length rs)) (ends_in_write rs) either (eq-eqb n (length rs) e)

    by_end : (b : Bool) → ltb n (length rs) ≡ b → may_stop (progress_at rs n) missing ≡ true
    by_end true e = or_first (passes (λ k. not (is_mask k)) (kind_at rs n)) missing (eqb n (length rs) && ends_in_write rs) (next_waits n rs normal (ltb-true n (length rs) e))
    by_end false e = at_end (let h = ltb-false n (length rs) e in let k = ends.most in omega arith)

pub count_missing : (b : Bool) → one_if b ≡ cond b 1 0
count_missing true = refl
count_missing false = refl

ends_by : (x : Response) (t : TargetState) (rs : List Request) (given n : ℕ) (pending : Bool) → AreNormal rs → EndsAt t false false rs given n x (is_doubted x pending) →
    IsTrue (may_end_by (response_of (code_of x)) (progress_at rs n) (is_doubted x pending && posted_last false (take n rs)))
ends_by Good t rs given n pending normal ends = ap (λ b. b && true) (eq-eqb n (length rs) (ends.whole refl))
ends_by Wait t rs given n pending normal ends = may_stop_at t rs given n Wait pending normal ends (λ e. cc)
ends_by Fault t rs given n pending normal ends = may_stop_at t rs given n Fault true normal ends (λ e. cc)
ends_by Mismatch t rs given n pending normal ends = absurd (ends.never refl)

-- the reply to an unguarded Transfer of normal requests
pub answers_normal : (t : TargetState) (rs : List Request) (n : ℕ) (x : Response) (pending : Bool) (words : List ℕ) → AreNormal rs → AllByRecursion (λ word. word < 2 ^ 32) words →
    EndsAt t false false rs (length words) n x (is_doubted x pending) → AnswersTransfer rs n (code_of x) words
answers_normal t rs n x pending words normal fits ends =
    let missing : Bool = is_doubted x pending && posted_last false (take n rs) in
    record {
      within = ends.most;
      fits = fits;
      missing = missing;
      posted = missing_posted (is_doubted x pending) n rs ends.most;
      given = ap (λ k. length words + k) (sym (count_missing missing)) ∙ ends.words ∙ omega arith;
      ends = ends_by x t rs (length words) n pending normal ends;
    }
