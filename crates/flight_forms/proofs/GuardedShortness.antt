-- What the reply to a guarded command shows that may come, whatever the probe did.
use Rattle.std.proofs.Common.{◌≡◌, eqb, ltb, ℕ, ◌+◌, ◌-◌, ◌≤◌, ◌<◌, ◌&&◌, not, Bool, true, false, List, [], ◌∷◌, ◌++◌, take, length, refl, ap, sym, ◌∙◌, arith, suc, zero, subst, ◌⊎◌, inl, inr, IsTrue, length-append}
use Rattle.std.proofs.lemmas.Bool.{eqb-true, ltb-false, ltb-true, and_parts}
use Rattle.std.proofs.Math.Seq.{take-length}
use Rattle.target_machine.specs.declared.access.RegAccess.{RegAccess}
use Rattle.dap_messages.specs.declared.request.Request.{Request}
use Rattle.dap_messages.specs.declared.request.RequestKind.{RequestKind}
use Rattle.dap_messages.specs.declared.request.RequestKind.TheVariants.{Mask}
use Rattle.dap_messages.specs.declared.request.Response.{Response}
use Rattle.dap_messages.specs.declared.request.Response.TheVariants.{Good, Wait, Fault, Mismatch}
use Rattle.dap_messages.specs.Replies.{Answers, AnswersTransfer, kind_at, last_is_posted, may_end_block, may_end_by, may_stop, passes, progress_at}
use Rattle.dap_messages.specs.Replies as reply
use Rattle.dap_messages.specs.Requests.{ends_in_write, is_mask, is_match, is_posted, kind, reads_in, write_after, write_last}
use Rattle.dap_messages.specs.Responses.{code_of, response_of}
use Rattle.target_machine.specs.Counts.{one_if}
use Rattle.dap_transfer.specs.CommandEnds.{posted_last}
use Rattle.dap_transfer.specs.Laws.{AreNormal, accesses_in}
use Rattle.dap_transfer.proofs.Numbering.{one_is}
use Rattle.flight_forms.specs.Flights.{IsPartOf, Part, part_of}
use Rattle.dap_messages.specs.Requests.{mask_request}
use Rattle.flight_forms.specs.Chains.{joined_as}
use Rattle.flight_forms.specs.Packets.{guarded_command}
use Rattle.flight_forms.specs.Packing.{AreTaken, check_when, with_guards, payload, requests_for, write_at_end}
use Rattle.flight_forms.proofs.GuardedAnswers.{kind_in_front, reads_guarded, reads_masked, take_in_front}
use Rattle.flight_forms.proofs.RequestSizes.{few_for}
use Rattle.flight_forms.proofs.AskedRequests.{accesses_asked, checks_follow, length_asked, payload_checked, payload_normal}
use Rattle.flight_forms.proofs.OwnAccesses.{ChecksFollow}
use Rattle.flight_forms.proofs.Rows.{take_past}
use Rattle.flight_forms.proofs.Shortness.{Stopped, normal_kind, posted_is, says_part, three_or}
use Rattle.flight_forms.proofs.Capacity.{clash}

masked_kind : (test : RequestKind → Bool) (n : ℕ) (rs : List Request) → length rs ≤ n → test Mask ≡ false → passes test (kind_at (rs ++ mask_request 0 ∷ []) n) ≡ false
masked_kind test zero [] h e = e
masked_kind test (suc n) [] h e = refl
masked_kind test zero (r ∷ rs) h e = absurd (omega arith)
masked_kind test (suc n) (r ∷ rs) h e = masked_kind test n rs (omega arith) e

-- the kind after the first n of the requests and of the mask after them
pub normal_or_mask : (n : ℕ) (rs : List Request) → AreNormal rs → passes is_match (kind_at (rs ++ mask_request 0 ∷ []) n) ≡ false
normal_or_mask n rs normal = by_end (ltb n (length rs)) refl
  where
    by_end : (b : Bool) → ltb n (length rs) ≡ b → passes is_match (kind_at (rs ++ mask_request 0 ∷ []) n) ≡ false
    by_end true e = ap (passes is_match) (kind_in_front n rs 0 (ltb-true n (length rs) e)) ∙ normal_kind n rs normal
    by_end false e = masked_kind is_match n rs (ltb-false n (length rs) e) refl

guarded_stopped : (rs : List Request) (k : ℕ) (missing : Bool) → k ≤ length rs → may_stop (progress_at (with_guards rs) (suc (suc k))) missing ≡ true → Stopped k rs missing
guarded_stopped rs k missing fits e =
    by_reason (three_or (passes (λ j. not (is_mask j)) (kind_at (rs ++ mask_request 0 ∷ []) k)) missing (eqb (suc (suc k)) (length (with_guards rs)) && ends_in_write (with_guards rs)) e)
  where
    by_end : (b : Bool) → ltb k (length rs) ≡ b → passes (λ j. not (is_mask j)) (kind_at (rs ++ mask_request 0 ∷ []) k) ≡ true → Stopped k rs missing
    by_end true f g = inl (ltb-true k (length rs) f)
    by_end false f g = absurd (clash g (masked_kind (λ j. not (is_mask j)) k rs (ltb-false k (length rs) f) refl))

    by_reason : (passes (λ j. not (is_mask j)) (kind_at (rs ++ mask_request 0 ∷ []) k) ≡ true) ⊎ ((missing ≡ true) ⊎ ((eqb (suc (suc k)) (length (with_guards rs)) && ends_in_write (with_guards rs)) ≡ true)) →
        Stopped k rs missing
    by_reason (inl f) = by_end (ltb k (length rs)) refl f
    by_reason (inr (inl f)) = inr (inl f)
    by_reason (inr (inr f)) =
        let two = and_parts (eqb (suc (suc k)) (length (with_guards rs))) (ends_in_write (with_guards rs)) f in
        let whole = eqb-true (suc (suc k)) (length (with_guards rs)) two.0 in
        absurd (let n = length-append rs (mask_request 0 ∷ []) in omega arith)

write_masked : (b : Bool) (rs : List Request) → write_after b (rs ++ mask_request 0 ∷ []) ≡ write_after b rs
write_masked b [] = refl
write_masked b (r ∷ rs) = write_masked (write_last (kind r) b) rs

-- why a command stopped, by its response
abbrev EndedBy : Response → List Request → ℕ → Bool → Type 0
EndedBy x rs n missing = IsTrue (may_end_by (response_of (code_of x)) (progress_at rs n) missing)

-- with the guard alone, or nothing, executed
none_ended : (x : Response) (rs : List Request) (missing : Bool) → EndedBy x (with_guards rs) 0 missing → x ≡ Good → ⊥
none_ended Good rs missing e f = (let two = and_parts (eqb 0 (length (with_guards rs))) (not missing) e in let g = eqb-true 0 (length (with_guards rs)) two.0 in absurd (cc))
none_ended Wait rs missing e f = (let g = f in cc)
none_ended Fault rs missing e f = (let g = f in cc)
none_ended Mismatch rs missing e f = (let g = f in cc)

after_match : (rs : List Request) (missing : Bool) → (missing ≡ true → ⊥) → may_stop (progress_at (with_guards rs) 1) missing ≡ true → ⊥
after_match rs missing held e =
    elim (three_or false missing (eqb 1 (length (with_guards rs)) && ends_in_write (with_guards rs)) e) [
      | inl f ↦ (let g = f in cc)
      | inr g ↦ elim g [
        | inl f ↦ held f
        | inr f ↦ (let two = and_parts (eqb 1 (length (with_guards rs))) (ends_in_write (with_guards rs)) f in let h = eqb-true 1 (length (with_guards rs)) two.0 in absurd (omega arith))
      ]
    ]

one_ended : (x : Response) (rs : List Request) (missing : Bool) → (missing ≡ true → ⊥) → EndedBy x (with_guards rs) 1 missing → ⊥
one_ended Good rs missing held e = (let two = and_parts (eqb 1 (length (with_guards rs))) (not missing) e in let g = eqb-true 1 (length (with_guards rs)) two.0 in absurd (omega arith))
one_ended Wait rs missing held e = after_match rs missing held e
one_ended Fault rs missing held e = after_match rs missing held e
one_ended Mismatch rs missing held e = (let f = e in cc)

-- with some of the requests after it executed
some_ended : (x : Response) (rs : List Request) (k : ℕ) (missing : Bool) → AreNormal rs → k ≤ length rs → EndedBy x (with_guards rs) (suc (suc k)) missing →
    (x ≡ Good → ⊥) × Stopped k rs missing
some_ended Good rs k missing normal fits e =
    let two = and_parts (eqb (suc (suc k)) (length (with_guards rs))) (not missing) e in
    let g = eqb-true (suc (suc k)) (length (with_guards rs)) two.0 in
    absurd (let n = length-append rs (mask_request 0 ∷ []) in omega arith)
some_ended Wait rs k missing normal fits e = ((λ f. (let g = f in cc)), guarded_stopped rs k missing fits e)
some_ended Fault rs k missing normal fits e = ((λ f. (let g = f in cc)), guarded_stopped rs k missing fits e)
some_ended Mismatch rs k missing normal fits e = absurd (clash e (normal_or_mask k rs normal))

-- with all of them executed, and the mask
past_stopped : (rs : List Request) (k : ℕ) (missing : Bool) → write_after false rs ≡ false → length rs < k → (missing ≡ true → ⊥) → may_stop (progress_at (with_guards rs) (suc (suc k))) missing ≡ true → ⊥
past_stopped rs k missing checked past held e =
    elim (three_or (passes (λ j. not (is_mask j)) (kind_at (rs ++ mask_request 0 ∷ []) k)) missing (eqb (suc (suc k)) (length (with_guards rs)) && ends_in_write (with_guards rs)) e) [
      | inl f ↦ clash f (masked_kind (λ j. not (is_mask j)) k rs (omega arith) refl)
      | inr g ↦ elim g [
        | inl f ↦ held f
        | inr f ↦ (let two = and_parts (eqb (suc (suc k)) (length (with_guards rs))) (ends_in_write (with_guards rs)) f in clash two.1 (write_masked false rs ∙ checked))
      ]
    ]

past_ended : (x : Response) (rs : List Request) (k : ℕ) (missing : Bool) → AreNormal rs → write_after false rs ≡ false → length rs < k → (missing ≡ true → ⊥) → EndedBy x (with_guards rs) (suc (suc k)) missing → x ≡ Good
past_ended Good rs k missing normal checked past held e = refl
past_ended Wait rs k missing normal checked past held e = absurd (past_stopped rs k missing checked past held e)
past_ended Fault rs k missing normal checked past held e = absurd (past_stopped rs k missing checked past held e)
past_ended Mismatch rs k missing normal checked past held e = absurd (clash e (masked_kind is_match k rs (omega arith) refl))

guarded_posted : (rs : List Request) (k : ℕ) → k ≤ length rs → IsTrue (last_is_posted (with_guards rs) (suc (suc k))) → posted_last false (take k rs) ≡ true
guarded_posted rs zero fits e = absurd (let f = e in cc)
guarded_posted rs (suc j) fits e = posted_is (suc j) rs fits (sym (ap (passes is_posted) (kind_in_front j rs 0 (omega arith))) ∙ e)

-- a mask comes with no word
past_missing : (rs : List Request) (k : ℕ) → length rs < k → IsTrue (last_is_posted (with_guards rs) (suc (suc k))) → ⊥
past_missing rs zero past e = absurd (omega arith)
past_missing rs (suc j) past e = clash e (masked_kind is_posted j rs (omega arith) refl)

guarded_reads : (rs : List Request) (k : ℕ) → k ≤ length rs → reads_in (take (suc (suc k)) (with_guards rs)) ≡ reads_in (take k rs)
guarded_reads rs k fits = reads_guarded (take k (rs ++ mask_request 0 ∷ [])) ∙ ap reads_in (take_in_front k rs 0 fits)

abbrev Shows : List Request → ℕ → Response → List ℕ → Type 0
Shows rs k x words = IsPartOf (length (accesses_in rs)) (part_of (take k rs) x words)

guarded_part_shows : (rs : List Request) (n : ℕ) (x : Response) (words : List ℕ) → AreNormal rs → ChecksFollow false rs → write_after false rs ≡ false → 1 ≤ length rs →
    AnswersTransfer (with_guards rs) n (code_of x) words → Shows rs (n - 2) x words
guarded_part_shows rs zero x words normal follow checked some may =
    let bad = none_ended x rs may.missing may.ends in
    let count = one_is may.missing in
    says_part rs 0 x words normal follow
    (record {
      within = omega arith;
      missing = false;
      posted = λ e. absurd (cc);
      words = (let g = may.given in omega arith);
      whole = λ e. absurd (bad e);
      stopped = λ _. inl some;
    })
guarded_part_shows rs (suc zero) x words normal follow checked some may =
    absurd (one_ended x rs may.missing (λ e. (let f = may.posted e in cc)) may.ends)
guarded_part_shows rs (suc (suc k)) x words normal follow checked some may =
    let two : suc (suc k) - 2 ≡ k = omega arith in
    subst (λ j. Shows rs j x words) (sym two) (by_end (ltb (length rs) k) refl)
  where
    here : k ≤ length rs → Shows rs k x words
    here fits =
        let ended = some_ended x rs k may.missing normal fits may.ends in
        says_part rs k x words normal follow
        (record {
          within = fits;
          missing = may.missing;
          posted = λ e. guarded_posted rs k fits (may.posted e);
          words = ap (λ j. length words + j) (sym (one_is may.missing)) ∙ may.given ∙ guarded_reads rs k fits;
          whole = λ e. absurd (ended.0 e);
          stopped = λ _. ended.1;
        })

    past : length rs < k → Shows rs k x words
    past h =
        let size = length-append rs (mask_request 0 ∷ []) in
        let not_missing : may.missing ≡ true → ⊥ = λ e. past_missing rs k h (may.posted e) in
        let good : x ≡ Good = past_ended x rs k may.missing normal checked h not_missing may.ends in
        let same : take (length rs) rs ≡ take k rs = take-length rs ∙ sym (take_past rs k (omega arith)) in
        let none : may.missing ≡ false = is_false may.missing not_missing in
        let all : suc (suc k) ≡ length (with_guards rs) = (let m = may.within in omega arith) in
        let reads : reads_in (take (suc (suc k)) (with_guards rs)) ≡ reads_in (take (length rs) rs) =
        ap (λ j. reads_in (take j (with_guards rs))) all ∙ ap reads_in (take-length (with_guards rs)) ∙ reads_guarded (rs ++ mask_request 0 ∷ []) ∙ reads_masked rs 0 ∙ ap reads_in (sym (take-length rs)) in
        subst (λ (xs : List Request). IsPartOf (length (accesses_in rs)) (part_of xs x words)) same
        (says_part rs (length rs) x words normal follow
        (record {
          within = omega arith;
          missing = false;
          posted = λ e. absurd (cc);
          words = (let g = may.given in let c = ap one_if none in let d = one_is may.missing in omega arith);
          whole = λ _. refl;
          stopped = λ bad. absurd (bad good);
        }))
      where
        is_false : (b : Bool) → (b ≡ true → ⊥) → b ≡ false
        is_false true given = absurd (given refl)
        is_false false given = refl

    by_end : (b : Bool) → ltb (length rs) k ≡ b → Shows rs k x words
    by_end true e = past (ltb-true (length rs) k e)
    by_end false e = here (let h = ltb-false (length rs) k e in h)

pub guarded_shows : (accesses : List RegAccess) (n : ℕ) (x : Response) (words : List ℕ) → AreTaken accesses → 1 ≤ length accesses →
    Answers (guarded_command accesses) (reply.Transfer n (code_of x) words) → IsPartOf (length accesses) (part_of (take (n - 2) (payload accesses)) x words)
guarded_shows accesses n x words taken some may =
    let last : Bool = write_at_end false accesses in
    let rs : List Request = payload accesses in
    let normal : AreNormal rs = payload_normal accesses in
    let follow : ChecksFollow false rs = checks_follow false false last accesses taken (λ e. e) (λ e. e) in
    let count : length (accesses_in rs) ≡ length accesses = ap length (accesses_asked false last accesses taken) ∙ length_asked accesses in
    let long = few_for false accesses in
    let size = length-append (requests_for false accesses) (check_when last) in
    subst (λ (k : ℕ). IsPartOf k (part_of (take (n - 2) rs) x words)) count
    (guarded_part_shows rs n x words normal follow (payload_checked accesses) (let h = long.some in omega arith) may)

-- ---- parts in a row

stays : (m n : ℕ) (a : Part) → (a.response ≡ Good → ⊥) → IsPartOf m a → IsPartOf (m + n) a
stays m n a bad h = record {
  most = (let x = h.most in omega arith);
  within = h.within;
  near = h.near;
  whole = λ e. absurd (bad e);
  short = λ _. (let x = h.short bad in omega arith);
  values = h.values;
}

joined_by : (x : Response) (m n : ℕ) (a b : Part) → a.response ≡ x → IsPartOf m a → IsPartOf n b → IsPartOf (m + n) (joined_as x a b)
joined_by Good m n a b e first last =
    let whole : a.confirmed ≡ m = first.whole e in
    record {
      most = (let x = first.most in let y = last.most in omega arith);
      within = (let x = first.within in let y = last.within in omega arith);
      near = (let x = first.most in let y = last.near in omega arith);
      whole = λ f. (let y = last.whole f in omega arith);
      short = λ bad. (let y = last.short bad in omega arith);
      values = (let x = first.values in let y = last.values in let z = length-append a.values b.values in omega arith);
    }
joined_by Wait m n a b e first last = stays m n a (λ f. (let g = sym e ∙ f in cc)) first
joined_by Fault m n a b e first last = stays m n a (λ f. (let g = sym e ∙ f in cc)) first
joined_by Mismatch m n a b e first last = stays m n a (λ f. (let g = sym e ∙ f in cc)) first

pub parts_joined : (m n : ℕ) (a b : Part) → IsPartOf m a → IsPartOf n b → IsPartOf (m + n) (joined_as a.response a b)
parts_joined m n a b first last = joined_by a.response m n a b refl first last
