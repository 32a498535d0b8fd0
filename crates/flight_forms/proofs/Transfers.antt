-- Commands without a guard: one Transfer, and one block.
use Rattle.std.proofs.Common.{◌≡◌, ℕ, false, List, map, take, ap, sym, ◌∙◌, arith, subst, append-nil, ◌++◌}
use Rattle.target_machine.specs.State.{TargetState}
use Rattle.target_machine.specs.declared.access.RegAccess.{RegAccess}
use Rattle.dap_messages.specs.declared.request.Request.{Request}
use Rattle.dap_messages.specs.declared.request.Response.{Response}
use Rattle.dap_transfer.specs.CommandEnds.{AreGuarded}
use Rattle.dap_transfer.specs.Laws.{AreNormal, accesses_in}
use Rattle.dap_transfer.specs.State.{TransferState, Transferred}
use Rattle.dap_transfer.specs.Transfer.{transfer_result}
use Rattle.dap_transfer.proofs.LastMask.{mask_stays}
use Rattle.flight_forms.specs.Packing.{AreTaken, check_when, requests_for}
use Rattle.flight_forms.specs.Flights.{DoesPart, DoesTransfer, Part, Performs, part_of}
use Rattle.flight_forms.proofs.OwnAccesses.{ChecksFollow}
use Rattle.flight_forms.proofs.AskedRequests.{accesses_asked, all_guarded, are_normal, asked_clear, asked_of, asked_targets, asked_values, checks_follow, length_asked}
use Rattle.flight_forms.proofs.OwnParts.{does_own}

-- ---- from what is asked for to the accesses

performs_asked : (t u : TargetState) (accesses : List RegAccess) (performed confirmed : ℕ) (x : Response) → AreTaken accesses →
    Performs t u (map asked_of accesses) performed confirmed x → Performs t u accesses performed confirmed x
performs_asked t u accesses performed confirmed x taken h = record {
  most = (let a = h.most in let b = length_asked accesses in omega arith);
  doubt = h.doubt;
  near = h.near;
  target = h.target ∙ asked_targets t accesses performed taken;
  clear = asked_clear t accesses confirmed taken h.clear;
  whole = λ e. h.whole e ∙ length_asked accesses;
  short = λ bad. (let a = h.short bad in let b = length_asked accesses in omega arith);
  fault = h.fault;
  never = h.never;
}

pub part_asked : (p q : TransferState) (accesses : List RegAccess) (part : Part) → AreTaken accesses → DoesPart p q (map asked_of accesses) part → DoesPart p q accesses part
part_asked p q accesses part taken h = record {
  made = performs_asked p.line.target q.line.target accesses part.performed part.confirmed part.response taken h.made;
  values = h.values ∙ asked_values p.line.target accesses part.confirmed taken;
  work = h.work;
  setting = h.setting;
  retries = h.retries;
  pending = h.pending;
  number = h.number;
  over = h.over;
}

-- ---- one Transfer

pub does_transfer : (p : TransferState) (accesses : List RegAccess) → AreTaken accesses → p.line.target.sticky ≡ false → DoesTransfer p accesses
does_transfer p accesses taken clear =
    let rs : List Request = requests_for false accesses in
    let d : Transferred = transfer_result p rs in
    let same : rs ++ check_when false ≡ rs = append-nil rs in
    let asked : accesses_in rs ≡ map asked_of accesses = ap accesses_in (sym same) ∙ accesses_asked false false accesses taken in
    let normal : AreNormal rs = are_normal false accesses in
    let guarded : AreGuarded false rs = all_guarded accesses taken in
    let follow : ChecksFollow false rs = subst (ChecksFollow false) same (checks_follow false false false accesses taken (λ e. e) (λ e. absurd (cc))) in
    let does = does_own p rs normal guarded follow clear in (
      part_asked p d.next accesses (part_of (take d.executed rs) d.response d.words) taken
          (subst (λ (xs : List RegAccess). DoesPart p d.next xs (part_of (take d.executed rs) d.response d.words)) asked does),
      mask_stays p rs normal,
    )
