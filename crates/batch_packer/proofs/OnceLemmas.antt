-- One read of CTRL/STAT in one Transfer.
use Rattle.std.proofs.Common.{◌≡◌, ◌∙◌, false, cond, eqb, List, [], ◌∷◌, take, refl, sym, ap, subst}
use Rattle.std.specs.Prelude.{nat_lt, slice_index}
use Rattle.target_machine.specs.Attempt.{bank, is_free}
use Rattle.target_machine.specs.Plain.{dp_read_of}
use Rattle.target_machine.specs.declared.access.RegAccess.{RegAccess}
use Rattle.dap_messages.specs.declared.request.Response.{Response}
use Rattle.dap_messages.specs.declared.request.Response.TheVariants.{Good, Wait, Fault, Mismatch}
use Rattle.dap_transfer.specs.State.{Setting, TransferState, Transferred, WireState}
use Rattle.dap_transfer.specs.Transfer.{transfer_result}
use Rattle.dap_messages.specs.Requests.{read_request}
use Rattle.dap_transfer.specs.WireTransfer.{ends, wire_ending_as}
use Rattle.dap_transfer.specs.Wires.{access_of}
use Rattle.dap_transfer.proofs.Polls.{first_good}
use Rattle.flight_forms.specs.Flights.{part_of}
use Rattle.flight_forms.specs.Packing.{requests_for}
use Rattle.batch_packer.specs.Flying.{ReadsOnce}
use Rattle.dap_messages.specs.Responses.{is_good}

abbrev one : List RegAccess
one = dp_read_of 0x4 ∷ []

-- where DPBANKSEL is 0 it never waits
ends_free : (s : Setting) (l : WireState) → bank l.target ≡ 0 → ends s l (dp_read_of 0x4) ≡ Good
unfolding ends is_free
ends_free s l e = first_good (is_free l.target (dp_read_of 0x4)) (cond (nat_lt s.retry (slice_index s.stalls l.number)) Wait (cond l.target.sticky Fault Good)) (ap (λ n. eqb n 0) e)

-- so its wire transfer ends
ended_by : (p : TransferState) (x : Response) → ends p.setting p.line (access_of (read_request false 0x4)) ≡ x → (wire_ending_as (ends p.setting p.line (access_of (read_request false 0x4))) p.line (access_of (read_request false 0x4))).response ≡ x
ended_by p Good e = ap (λ (y : Response). (wire_ending_as y p.line (access_of (read_request false 0x4))).response) e
ended_by p Wait e = ap (λ (y : Response). (wire_ending_as y p.line (access_of (read_request false 0x4))).response) e
ended_by p Fault e = ap (λ (y : Response). (wire_ending_as y p.line (access_of (read_request false 0x4))).response) e
ended_by p Mismatch e = ap (λ (y : Response). (wire_ending_as y p.line (access_of (read_request false 0x4))).response) e

-- the response is how its wire transfer ends
response_by : (p : TransferState) (x : Response) → ends p.setting p.line (access_of (read_request false 0x4)) ≡ x → (transfer_result p (requests_for false (dp_read_of 0x4 ∷ []))).response ≡ x
response_by p Good e = simp e refl
response_by p Wait e = simp e (ended_by p Wait e)
response_by p Fault e = simp e (ended_by p Fault e)
response_by p Mismatch e = simp e (ended_by p Mismatch e)

-- where it does not end well the request was not executed
executed_by : (p : TransferState) (x : Response) → ends p.setting p.line (access_of (read_request false 0x4)) ≡ x → (x ≡ Good → ⊥) → (transfer_result p (requests_for false (dp_read_of 0x4 ∷ []))).executed ≡ 0
executed_by p Good e bad = absurd (bad refl)
executed_by p Wait e bad = simp e (ap (λ (y : Response). cond (is_good (wire_ending_as y p.line (access_of (read_request false 0x4))).response) 1 0) e)
executed_by p Fault e bad = simp e (ap (λ (y : Response). cond (is_good (wire_ending_as y p.line (access_of (read_request false 0x4))).response) 1 0) e)
executed_by p Mismatch e bad = simp e (ap (λ (y : Response). cond (is_good (wire_ending_as y p.line (access_of (read_request false 0x4))).response) 1 0) e)

reads_one : (p : TransferState) → (transfer_result p (requests_for false (dp_read_of 0x4 ∷ []))).next.mask ≡ p.mask →
    (let d : Transferred = transfer_result p (requests_for false (dp_read_of 0x4 ∷ [])) in ReadsOnce (part_of (take d.executed (requests_for false (dp_read_of 0x4 ∷ []))) d.response d.words) p d.next)
reads_one p mask = record {
  refused = λ bad.
      ap (λ n. (part_of (take n (requests_for false (dp_read_of 0x4 ∷ []))) Good []).performed)
      (executed_by p (ends p.setting p.line (dp_read_of 0x4)) refl (λ good. bad (response_by p (ends p.setting p.line (dp_read_of 0x4)) refl ∙ good)));
  free = λ zero_bank. response_by p (ends p.setting p.line (dp_read_of 0x4)) refl ∙ ends_free p.setting p.line zero_bank;
  mask = mask;
}

pub reads_once : (p : TransferState) (accesses : List RegAccess) → accesses ≡ dp_read_of 0x4 ∷ [] → (transfer_result p (requests_for false accesses)).next.mask ≡ p.mask →
    (let d : Transferred = transfer_result p (requests_for false accesses) in ReadsOnce (part_of (take d.executed (requests_for false accesses)) d.response d.words) p d.next)
reads_once p accesses same mask =
    subst (λ (l : List RegAccess). (transfer_result p (requests_for false l)).next.mask ≡ p.mask → (let d : Transferred = transfer_result p (requests_for false l) in ReadsOnce (part_of (take d.executed (requests_for false l)) d.response d.words) p d.next)) (sym same) (reads_one p) mask
