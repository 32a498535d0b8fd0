-- The match mask at the end of a command: normal requests leave it, and one that is set after them costs nothing.
use Rattle.std.proofs.Common.{◌≡◌, ℕ, ◌+◌, ◌&&◌, Bool, true, false, List, [], ◌∷◌, ◌++◌, length, refl, ap, sym, ◌∙◌, arith, subst, inl, inr, length-append, append-nil}
use Rattle.dap_messages.specs.declared.request.Request.{Request}
use Rattle.dap_transfer.specs.declared.notes.Notes.{Notes}
use Rattle.dap_messages.specs.declared.request.RequestKind.{RequestKind}
use Rattle.dap_messages.specs.declared.request.RequestKind.TheVariants.{Posted, Read, Match, Mask, Write}
use Rattle.dap_messages.specs.declared.request.Response.{Response}
use Rattle.dap_messages.specs.declared.request.Response.TheVariants.{Good, Wait, Fault, Mismatch}
use Rattle.dap_messages.specs.Requests.{ends_in_write, is_posted, kind, mask_request, write_after, write_last}
use Rattle.dap_transfer.specs.Wires.{Wire, check_if, wires_from, between, mask_after, last_mask}
use Rattle.dap_transfer.specs.State.{TransferState, Transferred}
use Rattle.dap_transfer.specs.Transfer.{RunResult, run_reply, transfer_result}
use Rattle.dap_transfer.specs.Private.{mask_if, request_ran, run, state_after_run}
use Rattle.dap_transfer.specs.Laws.{IsNormalKind, AreNormal}
use Rattle.dap_transfer.specs.CommandEnds.{masked_result, masked_by}
use Rattle.dap_transfer.proofs.Prefix.{good_or_not}
use Rattle.dap_transfer.proofs.Steps.{continued, start_notes, from_start, goes_on, one_after, breaks_off, closes}

-- the mask stays
stays_here : (x : Response) (p : TransferState) (k : RequestKind) (r : Request) → (x ≡ Good → ⊥) → mask_if x k p.mask r ≡ p.mask
stays_here Good p k r bad = absurd (bad refl)
stays_here Wait p k r bad = refl
stays_here Fault p k r bad = refl
stays_here Mismatch p k r bad = refl

stays_by : (x : Response) (k : RequestKind) (m : ℕ) (r : Request) → IsNormalKind k → x ≡ Good → mask_if x k m r ≡ m
stays_by Good Posted m r h e = refl
stays_by Good Read m r h e = refl
stays_by Good Match m r h e = absurd h
stays_by Good Mask m r h e = absurd h
stays_by Good Write m r h e = refl
stays_by Wait k m r h e = absurd (cc)
stays_by Fault k m r h e = absurd (cc)
stays_by Mismatch k m r h e = absurd (cc)

pub stays_from : (p : TransferState) (words : List ℕ) (notes : Notes) (rs : List Request) → AreNormal rs → (notes.outstanding && notes.unchecked) ≡ false →
    (continued p words notes rs).next.mask ≡ p.mask
stays_from p words notes [] normal one = ap (λ (x : Transferred). x.next.mask) (closes p words notes)
stays_from p words notes (r ∷ rs) normal one =
    let ran : RunResult = request_ran p notes r in
    elim (good_or_not ran.response) [
      | inl good ↦
          let next : Notes = record { outstanding = is_posted (kind r); unchecked = ran.written; executed = notes.executed + 1 } in
          let q : TransferState = state_after_run p ran (kind r) r in
          ap (λ (x : Transferred). x.next.mask) (goes_on p words notes r rs good one)
          ∙ stays_from q (words ++ ran.words) next rs normal.1 (one_after p notes r one good)
          ∙ stays_by ran.response (kind r) p.mask r normal.0 good
      | inr bad ↦
          ap (λ (x : Transferred). x.next.mask) (breaks_off p words notes r rs bad) ∙ stays_here ran.response p (kind r) r bad
    ]

-- a command of normal requests leaves the match mask as it was
pub mask_stays : (p : TransferState) (rs : List Request) → AreNormal rs → (transfer_result p rs).next.mask ≡ p.mask
mask_stays p rs normal = ap (λ (d : Transferred). d.next.mask) (sym (from_start p rs)) ∙ stays_from p [] start_notes rs normal refl

-- ---- a mask after the last request

wires_masked : (i m : ℕ) (o : Bool) (rs : List Request) (v : ℕ) → wires_from i m o (rs ++ mask_request v ∷ []) ≡ wires_from i m o rs
wires_masked i m o [] v = append-nil _ ∙ append-nil _
wires_masked i m o (r ∷ rs) v = ap (λ ws. between (kind r) o i m r ++ ws) (wires_masked (i + 1) (mask_after m r) (is_posted (kind r)) rs v)

write_masked : (b : Bool) (rs : List Request) (v : ℕ) → write_after b (rs ++ mask_request v ∷ []) ≡ write_after b rs
write_masked b [] v = refl
write_masked b (r ∷ rs) v = write_masked (write_last (kind r) b) rs v

mask_masked : (m : ℕ) (rs : List Request) (v : ℕ) → last_mask m (rs ++ mask_request v ∷ []) ≡ v
mask_masked m [] v = refl
mask_masked m (r ∷ rs) v = mask_masked (mask_after m r) rs v

ended_masked : (x : Response) (p : TransferState) (words : List ℕ) (ran : RunResult) (whole mask v : ℕ) → ran.response ≡ x →
    run_reply p words ran (whole + 1) v ≡ masked_by x (run_reply p words ran whole mask) v
ended_masked x p words ran whole mask v e =
    subst (λ (a : RunResult). run_reply p words a (whole + 1) v ≡ masked_by x (run_reply p words a whole mask) v) (λ j. record ran { response = sym e j }) (by_end x)
  where
    by_end : (x : Response) → run_reply p words (record ran { response = x }) (whole + 1) v ≡ masked_by x (run_reply p words (record ran { response = x }) whole mask) v
    by_end Good = refl
    by_end Wait = refl
    by_end Fault = refl
    by_end Mismatch = refl

pub closed_by : (p : TransferState) (words : List ℕ) (notes : Notes) (rs : List Request) (v : ℕ) → write_after notes.unchecked rs ≡ false →
    continued p words notes (rs ++ mask_request v ∷ []) ≡ masked_result (continued p words notes rs) v
closed_by p words notes rs v none =
    let form = λ (ws : List Wire) (b : Bool) (n m : ℕ). run_reply p words (run p.setting notes.unchecked p.line (ws ++ check_if b n m)) n m in
    let more : List Request = rs ++ mask_request v ∷ [] in
    let i : ℕ = notes.executed in
    let ws : List Wire = wires_from i p.mask notes.outstanding rs in
    let n : ℕ = i + length rs in
    let count : i + length more ≡ n + 1 = (let h = length-append rs (mask_request v ∷ []) in omega arith) in
    let first : continued p words notes more ≡ form ws false (n + 1) v =
    λ j. form (wires_masked i p.mask notes.outstanding rs v j) ((write_masked notes.unchecked rs v ∙ none) j) (count j) (mask_masked p.mask rs v j) in
    let last : continued p words notes rs ≡ form ws false n (last_mask p.mask rs) = λ j. form ws (none j) n (last_mask p.mask rs) in
    let ran : RunResult = run p.setting notes.unchecked p.line (ws ++ []) in
    first ∙ ended_masked ran.response p words ran n (last_mask p.mask rs) v refl ∙ ap (λ (d : Transferred). masked_result d v) (sym last)

-- a mask after requests whose last access is no write
pub mask_after_last : (p : TransferState) (rs : List Request) (v : ℕ) → ends_in_write rs ≡ false → transfer_result p (rs ++ mask_request v ∷ []) ≡ masked_result (transfer_result p rs) v
mask_after_last p rs v none =
    sym (from_start p (rs ++ mask_request v ∷ [])) ∙ closed_by p [] start_notes rs v none ∙ ap (λ (d : Transferred). masked_result d v) (from_start p rs)
