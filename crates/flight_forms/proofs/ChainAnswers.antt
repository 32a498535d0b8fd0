-- The replies to a guarded chain are ones that its commands may get.
use Rattle.std.proofs.Common.{◌≡◌, ℕ, ◌+◌, ◌&&◌, false, List, [], ◌∷◌, take, length, refl, ap, sym, ◌∙◌, arith, suc, zero, subst, ◌⊎◌, inl, inr, length-append}
use Rattle.std.specs.List.{AllByRecursion}
use Rattle.std.proofs.Math.Seq.{take-length}
use Rattle.target_machine.specs.InRange.{IsInRange, IsWord}
use Rattle.target_machine.specs.State.{TargetState}
use Rattle.target_machine.specs.declared.access.RegAccess.{RegAccess}
use Rattle.dap_messages.specs.declared.request.Request.{Request}
use Rattle.dap_messages.specs.declared.request.Response.{Response}
use Rattle.dap_messages.specs.declared.request.Response.TheVariants.{Good, Wait, Fault, Mismatch}
use Rattle.dap_messages.specs.Replies.{Answers, AnswersTransfer}
use Rattle.dap_messages.specs.Requests.{mask_request, reads_in, write_after}
use Rattle.dap_messages.specs.Responses.{code_of}
use Rattle.target_machine.specs.Counts.{one_if}
use Rattle.dap_transfer.specs.CommandEnds.{EndsAt, counted_from, is_doubted, masked_by, posted_last}
use Rattle.dap_transfer.specs.Laws.{AreNormal}
use Rattle.dap_transfer.specs.State.{TransferState, Transferred}
use Rattle.dap_transfer.specs.Transfer.{transfer_result}
use Rattle.dap_transfer.proofs.CommandEnds.{command_ends}
use Rattle.flight_forms.specs.Chains.{AllTaken, IsGuardOpen, IsGuardShut, LeavesGuard, chain_replies, guarded_part}
use Rattle.flight_forms.specs.Packets.{AnswerChain, guarded_command, transfer_answer}
use Rattle.flight_forms.specs.Packing.{AreTaken, AreWords, with_guards, guarded_requests, payload, write_at_end}
use Rattle.flight_forms.proofs.AskedRequests.{are_guarded, payload_checked, payload_normal}
use Rattle.flight_forms.proofs.Chains.{shut_now}
use Rattle.flight_forms.proofs.Guarded.{DoesGuarded, does_guarded, guarded_is}
use Rattle.flight_forms.proofs.GuardedAnswers.{answers_cut, answers_shut, answers_whole}
use Rattle.flight_forms.proofs.Ranges.{payload_words, stays_in_range}
use Rattle.dap_transfer.proofs.WordRanges.{words_in_range}

abbrev AnswersBy : List Request → Transferred → Type 0
AnswersBy rs d = AnswersTransfer rs d.executed (code_of d.response) d.words

by_response : (x y : Response) (rs : List Request) (n : ℕ) (words : List ℕ) → y ≡ x → AnswersTransfer rs n (code_of x) words → AnswersTransfer rs n (code_of y) words
by_response x y rs n words e h = subst (λ z. AnswersTransfer rs n (code_of z) words) (sym e) h

cut_counted : (t : TargetState) (rs : List Request) (d : Transferred) → AreNormal rs → (AnswersTransfer (with_guards rs) (suc (suc d.executed)) (code_of d.response) d.words) →
    AnswersBy (with_guards rs) (counted_from 2 d)
cut_counted t rs d normal h = let same : suc (suc d.executed) ≡ 2 + d.executed = omega arith in subst (λ n. AnswersTransfer (with_guards rs) n (code_of d.response) d.words) same h

-- with the guard counted, by how the requests after it ended
answers_by : (x : Response) (t : TargetState) (rs : List Request) (d : Transferred) → d.response ≡ x → AreNormal rs → write_after false rs ≡ false →
    AllByRecursion IsWord d.words → EndsAt t false false rs (length d.words) d.executed d.response (is_doubted d.response d.next.pending) →
    AnswersBy (with_guards rs) (counted_from 2 (masked_by x d 0))
answers_by Good t rs d e normal checked fits ends =
    let all : d.executed ≡ length rs = ends.whole e in
    let sure : is_doubted d.response d.next.pending ≡ false = ap (λ y. is_doubted y d.next.pending) e in
    let none : one_if (is_doubted d.response d.next.pending && posted_last false (take d.executed rs)) ≡ 0 = ap (λ b. one_if (b && posted_last false (take d.executed rs))) sure in
    let whole : reads_in (take d.executed rs) ≡ reads_in rs = ap (λ n. reads_in (take n rs)) all ∙ ap reads_in (take-length rs) in
    let count : length d.words ≡ reads_in rs = (let h = ends.words in omega arith) in
    let size : length (with_guards rs) ≡ 2 + (d.executed + 1) = (let a = length-append rs (mask_request 0 ∷ []) in omega arith) in
    by_response Good d.response (with_guards rs) (2 + (d.executed + 1)) d.words e
    (subst (λ n. AnswersTransfer (with_guards rs) n 1 d.words) size (answers_whole rs d.words fits count))
answers_by Wait t rs d e normal checked fits ends =
    cut_counted t rs d normal (answers_cut t rs d.executed d.response d.next.pending d.words normal checked fits ends (λ f. (let g = sym e ∙ f in cc)))
answers_by Fault t rs d e normal checked fits ends =
    cut_counted t rs d normal (answers_cut t rs d.executed d.response d.next.pending d.words normal checked fits ends (λ f. (let g = sym e ∙ f in cc)))
answers_by Mismatch t rs d e normal checked fits ends = absurd (ends.never e)

-- the reply to one guarded command
pub guarded_answers : (p : TransferState) (accesses : List RegAccess) → AreTaken accesses → AreWords accesses → IsGuardOpen p → IsInRange p.line.target →
    Answers (guarded_command accesses) (transfer_answer (transfer_result p (guarded_requests accesses)))
guarded_answers p accesses taken ranges opened h =
    let rs : List Request = payload accesses in
    let q : TransferState = record p { mask = 1 } in
    let d : Transferred = transfer_result q rs in
    let normal : AreNormal rs = payload_normal accesses in
    let ends = command_ends q rs normal (are_guarded false (write_at_end false accesses) accesses taken) opened.clear in
    subst (AnswersBy (with_guards rs)) (sym (guarded_is p accesses opened))
    (answers_by d.response p.line.target rs d refl normal (payload_checked accesses) (words_in_range q rs normal h (payload_words accesses ranges)) ends)

-- and to those that are not let in
shut_answers : (q : TransferState) (parts : List (List RegAccess)) → IsGuardShut q → AnswerChain parts (chain_replies q parts)
shut_answers q [] shut = tt
shut_answers q (accesses ∷ parts) shut =
    let d : Transferred = transfer_result q (guarded_requests accesses) in
    let is = shut_now q accesses shut in
    let next : d.next ≡ q = ap (λ (x : Transferred). x.next) is in (
      subst (AnswersBy (guarded_requests accesses)) (sym is) (answers_shut (payload accesses)),
      subst (λ (v : TransferState). AnswerChain parts (chain_replies v parts)) (sym next) (shut_answers q parts shut),
    )

good_or_shut : (x : Response) (q : TransferState) → (x ≡ Mismatch → ⊥) → LeavesGuard x q → ((x ≡ Good) × IsGuardOpen q) ⊎ IsGuardShut q
good_or_shut Good q never h = inl (refl, h)
good_or_shut Wait q never h = inr h
good_or_shut Fault q never h = inr h
good_or_shut Mismatch q never h = absurd (never refl)

pub taken_ranges : (n : ℕ) (accesses : List RegAccess) → AreWords accesses → AreWords (take n accesses)
taken_ranges zero accesses v = tt
taken_ranges (suc n) [] v = tt
taken_ranges (suc n) (a ∷ rest) v = (v.0, taken_ranges n rest v.1)

pub chain_answers : (p : TransferState) (parts : List (List RegAccess)) → AllTaken parts → AllByRecursion (λ xs. AreWords xs) parts → IsGuardOpen p → IsInRange p.line.target →
    AnswerChain parts (chain_replies p parts)
chain_answers p [] taken ranges opened h = tt
chain_answers p (accesses ∷ parts) taken ranges opened h =
    let d : Transferred = transfer_result p (guarded_requests accesses) in
    let one : DoesGuarded p accesses = does_guarded p accesses taken.0 opened in
    let part = one.part in
    let made = part.made in
    let n : ℕ = (guarded_part accesses d).performed in
    let next : IsInRange d.next.line.target = subst IsInRange (sym made.target) (stays_in_range p.line.target (take n accesses) h (taken_ranges n accesses ranges.0)) in (
      guarded_answers p accesses taken.0 ranges.0 opened h,
      elim (good_or_shut d.response d.next one.never one.guard) [
        | inl open_next ↦ chain_answers d.next parts taken.1 ranges.1 open_next.1 next
        | inr shut ↦ shut_answers d.next parts shut
      ],
    )
