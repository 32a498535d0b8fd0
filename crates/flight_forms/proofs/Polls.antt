-- A portion of a poll is the polled reads, one at a time.
use Rattle.std.proofs.Common.{◌≡◌, ℕ, ◌+◌, ◌-◌, ◌^◌, ◌≤◌, ◌<◌, Bool, true, false, cond, List, [], ◌∷◌, refl, ap, sym, ◌∙◌, arith, subst}
use Rattle.target_machine.specs.Attempt.{bank}
use Rattle.target_machine.specs.Plain.{Polled, poll_result}
use Rattle.target_machine.specs.State.{TargetState}
use Rattle.dap_messages.specs.declared.request.Request.{Request}
use Rattle.dap_messages.specs.declared.request.Response.TheVariants.{Good, Mismatch}
use Rattle.dap_messages.specs.Replies.{AnswersTransfer}
use Rattle.dap_messages.specs.Responses.{code_of}
use Rattle.dap_messages.proofs.RequestBits.{mask_is_request, match_is_request}
use Rattle.dap_transfer.specs.CommandEnds.{counted_from}
use Rattle.dap_transfer.specs.Lines.{configured_state}
use Rattle.dap_transfer.specs.State.{TransferState, Transferred}
use Rattle.dap_transfer.specs.ValueMatch.{has_matched}
use Rattle.dap_transfer.proofs.Polls.{ctrl_match, mask_alone, mask_in_front, match_alone, never_faults, poll_end, poll_left, poll_of}
use Rattle.flight_forms.specs.Polls.{IsPollPacket, poll_packet, PollsAtOnce, clear_mask, poll_cleared, poll_matched, poll_requests}

-- ---- a portion

matched_answers : (mask v : ℕ) (m : Bool) → AnswersTransfer (poll_requests mask v) (cond m 2 1) (code_of (cond m Good Mismatch)) []
matched_answers mask v true = record { within = omega arith; fits = tt; missing = false; posted = λ e. absurd (cc); given = refl; ends = refl }
matched_answers mask v false = record { within = omega arith; fits = tt; missing = false; posted = λ e. absurd (cc); given = refl; ends = refl }

cleared_answers : AnswersTransfer clear_mask 1 1 []
cleared_answers = record { within = omega arith; fits = tt; missing = false; posted = λ e. absurd (cc); given = refl; ends = refl }

end_is : (m : Bool) (q : TransferState) (x : Polled) →
    counted_from 1 (poll_end m q x) ≡ record { executed = cond m 2 1; response = cond m Good Mismatch; words = []; next = poll_left q x }
end_is true q x = refl
end_is false q x = refl

abbrev SomeAnswers : List Request → Transferred → Type 0
SomeAnswers rs d = AnswersTransfer rs d.executed (code_of d.response) d.words

pub polls_at_once : (p : TransferState) (retry mask requested turns : ℕ) → bank p.line.target ≡ 0 → 1 ≤ turns → PollsAtOnce p retry mask requested turns
polls_at_once p retry mask requested turns e some =
    let t : TargetState = p.line.target in
    let c : TransferState = configured_state p retry (turns - 1) in
    let q : TransferState = record c { mask = mask } in
    let all : turns - 1 + 1 ≡ turns = omega arith in
    let x : Polled = poll_result turns mask requested t in
    let d : Transferred = poll_matched p retry mask requested turns in
    let u : Transferred = poll_cleared p retry mask requested turns in
    let same : poll_of q requested ≡ x = ap (λ n. poll_result n mask requested t) all in
    let m : Bool = has_matched x in
    let d_is : d ≡ record { executed = cond m 2 1; response = cond m Good Mismatch; words = []; next = poll_left q x } =
    mask_in_front c mask (ctrl_match requested ∷ [])
    ∙ ap (counted_from 1) (match_alone q requested m e (ap has_matched same) ∙ ap (λ y. poll_end m q y) same)
    ∙ end_is m q x in
    let u_is : u ≡ record { executed = 1; response = Good; words = []; next = record d.next { mask = 0 } } = mask_alone d.next 0 in
    record {
      passes = never_faults turns mask requested t e;
      response = ap (λ (y : Transferred). y.response) d_is;
      executed = ap (λ (y : Transferred). y.executed) d_is;
      words = ap (λ (y : Transferred). y.words) d_is;
      answers = subst (SomeAnswers (poll_requests mask requested)) (sym d_is) (matched_answers mask requested m);
      clears = u_is;
      clear_answers = subst (SomeAnswers clear_mask) (sym u_is) cleared_answers;
      after = ap (λ (y : Transferred). configured_state y.next retry 0) u_is ∙ ap (λ (y : Transferred). configured_state (record y.next { mask = 0 }) retry 0) d_is;
    }

-- ---- its packet

pub poll_fits : (idle retry mask requested turns : ℕ) → idle < 2 ^ 8 → retry < 2 ^ 16 → mask < 2 ^ 32 → requested < 2 ^ 32 → turns ≤ 2 ^ 16 →
    IsPollPacket (poll_packet idle retry mask requested turns)
poll_fits idle retry mask requested turns a b c d e = record {
  packet = record {
    count = (omega arith, omega arith);
    commands = (
      (a, b, omega arith),
      (
        (omega arith, omega arith, (mask_is_request mask c, (match_is_request false 0x4 requested d, tt))),
        ((omega arith, omega arith, (mask_is_request 0 (omega arith), tt)), ((a, b, omega arith), tt)),
      ),
    );
    size = omega arith;
  };
  bytes = refl;
  reply = refl;
}
