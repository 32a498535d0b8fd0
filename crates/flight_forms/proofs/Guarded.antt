-- A guarded command of accesses.
use Rattle.std.proofs.Common.{◌≡◌, eqb, ℕ, ◌+◌, ◌-◌, true, false, List, [], ◌∷◌, ◌++◌, take, length, refl, ap, sym, ◌∙◌, arith, subst}
use Rattle.std.specs.Prelude.{bit_and}
use Rattle.std.specs.Int.Bits.{and_zero_r}
use Rattle.target_machine.specs.State.{TargetState}
use Rattle.target_machine.specs.declared.access.RegAccess.{RegAccess}
use Rattle.dap_messages.specs.declared.request.Request.{Request}
use Rattle.dap_messages.specs.declared.request.Response.{Response}
use Rattle.dap_messages.specs.declared.request.Response.TheVariants.{Good, Wait, Fault, Mismatch}
use Rattle.dap_messages.specs.Requests.{mask_request}
use Rattle.dap_transfer.specs.CommandEnds.{EndsAt, counted_from, in_doubt, masked_result, masked_by}
use Rattle.dap_transfer.specs.State.{Setting, TransferState, Transferred}
use Rattle.dap_transfer.specs.Transfer.{transfer_result}
use Rattle.dap_transfer.specs.Laws.{AreNormal, accesses_in}
use Rattle.dap_transfer.proofs.CommandEnds.{command_ends}
use Rattle.dap_transfer.proofs.Guards.{match_opens}
use Rattle.dap_transfer.proofs.LastMask.{mask_after_last, mask_stays}
use Rattle.flight_forms.specs.Packing.{AreTaken, guarded_requests, payload, write_at_end}
use Rattle.flight_forms.specs.Flights.{DoesPart, Part, part_of}
use Rattle.flight_forms.specs.Chains.{IsGuardOpen, IsGuardShut, LeavesGuard, guarded_part}
use Rattle.flight_forms.proofs.AskedRequests.{accesses_asked, are_guarded, checks_follow, payload_checked, payload_normal}
use Rattle.flight_forms.proofs.OwnAccesses.{ChecksFollow}
use Rattle.flight_forms.proofs.OwnParts.{does_own}
use Rattle.flight_forms.proofs.Rows.{clear_end, dpidr_stays, good_whole, take_past}
use Rattle.flight_forms.proofs.Transfers.{part_asked}

pub record DoesGuarded (p : TransferState) (accesses : List RegAccess) : Type 0 where
  pub part : (let d = transfer_result p (guarded_requests accesses) in DoesPart p d.next accesses (guarded_part accesses d))
  pub guard : (let d = transfer_result p (guarded_requests accesses) in LeavesGuard d.response d.next)
  pub never : (transfer_result p (guarded_requests accesses)).response ≡ Mismatch → ⊥

abbrev GuardedBy : TransferState → List RegAccess → List Request → Transferred → Type 0
GuardedBy p accesses rs d = DoesPart p d.next accesses (part_of (take (d.executed - 2) rs) d.response d.words) × LeavesGuard d.response d.next × (d.response ≡ Mismatch → ⊥)

pub leaves_by : (x y : Response) (q : TransferState) → y ≡ x → LeavesGuard x q → LeavesGuard y q
leaves_by x y q e h = subst (λ z. LeavesGuard z q) (sym e) h

-- the same part, whatever the mask was and is
under_mask : (p q : TransferState) (m n : ℕ) (accesses : List RegAccess) (part : Part) → DoesPart (record p { mask = m }) q accesses part → DoesPart p (record q { mask = n }) accesses part
under_mask p q m n accesses part h = record { made = h.made; values = h.values; work = h.work; setting = h.setting; retries = h.retries; pending = h.pending; number = h.number; over = h.over }

shut_by : (p : TransferState) (d : Transferred) (accesses : List RegAccess) (rs : List Request) → IsGuardOpen p → d.next.mask ≡ 1 →
    DoesPart (record p { mask = 1 }) d.next accesses (part_of (take d.executed rs) d.response d.words) → IsGuardShut d.next
shut_by p d accesses rs opened mask part =
    let made = part.made in
    record {
      mask = mask;
      matches = ap (λ (v : Setting). v.matches) part.setting ∙ opened.matches;
      dpidr = ap (λ n. eqb (bit_and n 1) 0) (ap (λ (v : TargetState). v.dpidr) made.target ∙ dpidr_stays p.line.target (take (length (accesses_in (take d.executed rs))) accesses)) ∙ opened.dpidr;
    }

-- the part of a command that did not come to its end, with the guard counted
cut_by : (p : TransferState) (accesses : List RegAccess) (rs : List Request) (d : Transferred) →
    DoesPart (record p { mask = 1 }) d.next accesses (part_of (take d.executed rs) d.response d.words) →
    DoesPart p d.next accesses (part_of (take (2 + d.executed - 2) rs) d.response d.words)
cut_by p accesses rs d part =
    let same : d.executed ≡ 2 + d.executed - 2 = omega arith in
    subst (λ (n : ℕ). DoesPart p d.next accesses (part_of (take n rs) d.response d.words)) same
    (under_mask p d.next 1 d.next.mask accesses (part_of (take d.executed rs) d.response d.words) part)

guarded_by : (x : Response) (p : TransferState) (accesses : List RegAccess) (rs : List Request) (d : Transferred) → d.response ≡ x → IsGuardOpen p →
    (x ≡ Good → d.executed ≡ length rs) → d.next.mask ≡ 1 → DoesPart (record p { mask = 1 }) d.next accesses (part_of (take d.executed rs) d.response d.words) →
    GuardedBy p accesses rs (counted_from 2 (masked_by x d 0))
guarded_by Good p accesses rs d e opened whole mask part =
    let count = whole refl in
    let same : take d.executed rs ≡ take (2 + (d.executed + 1) - 2) rs = take_past rs d.executed (omega arith) ∙ sym (take_past rs (2 + (d.executed + 1) - 2) (omega arith)) in
    let here = under_mask p d.next 1 0 accesses (part_of (take d.executed rs) d.response d.words) part in
    let good = good_whole part.made e in (
      subst (λ some. DoesPart p (record d.next { mask = 0 }) accesses (part_of some d.response d.words)) same here,
      leaves_by Good d.response (record d.next { mask = 0 }) e
          (record {
            mask = refl;
            matches = ap (λ (v : Setting). v.matches) part.setting ∙ opened.matches;
            dpidr = ap (λ n. eqb (bit_and n 1) 0) (ap (λ (v : TargetState). v.dpidr) good.2 ∙ dpidr_stays p.line.target accesses) ∙ opened.dpidr;
            clear = ap (λ (v : TargetState). v.sticky) good.2 ∙ clear_end p.line.target accesses good.3;
          }),
      (λ f. absurd (let g = sym e ∙ f in cc)),
    )
guarded_by Wait p accesses rs d e opened whole mask part =
    (cut_by p accesses rs d part, leaves_by Wait d.response d.next e (shut_by p d accesses rs opened mask part), (λ f. absurd (let g = sym e ∙ f in cc)))
guarded_by Fault p accesses rs d e opened whole mask part =
    (cut_by p accesses rs d part, leaves_by Fault d.response d.next e (shut_by p d accesses rs opened mask part), (λ f. absurd (let g = sym e ∙ f in cc)))
guarded_by Mismatch p accesses rs d e opened whole mask part = absurd (let m = part.made in m.never e)

-- The guard in front and the mask at the end of a command: two requests more are executed in front, and where it came to its end
-- one more.
pub guarded_is : (p : TransferState) (accesses : List RegAccess) → IsGuardOpen p →
    transfer_result p (guarded_requests accesses) ≡ counted_from 2 (masked_result (transfer_result (record p { mask = 1 }) (payload accesses)) 0)
guarded_is p accesses opened =
    let rs : List Request = payload accesses in
    let hit : eqb (bit_and p.line.target.dpidr p.mask) 0 ≡ true =
    ap (λ m. eqb (bit_and p.line.target.dpidr m) 0) opened.mask ∙ ap (λ n. eqb n 0) (and_zero_r p.line.target.dpidr) in
    match_opens p 0 1 (rs ++ mask_request 0 ∷ []) hit
    ∙ ap (counted_from 2) (mask_after_last (record p { mask = 1 }) rs 0 (payload_checked accesses))

pub does_guarded : (p : TransferState) (accesses : List RegAccess) → AreTaken accesses → IsGuardOpen p → DoesGuarded p accesses
does_guarded p accesses taken opened =
    let rs : List Request = payload accesses in
    let last = write_at_end false accesses in
    let q : TransferState = record p { mask = 1 } in
    let d : Transferred = transfer_result q rs in
    let normal : AreNormal rs = payload_normal accesses in
    let guard_kept = are_guarded false last accesses taken in
    let follow : ChecksFollow false rs = checks_follow false false last accesses taken (λ e. e) (λ e. e) in
    let does = does_own q rs normal guard_kept follow opened.clear in
    let part : Part = part_of (take d.executed rs) d.response d.words in
    let here : DoesPart q d.next accesses part =
    part_asked q d.next accesses part taken (subst (λ (xs : List RegAccess). DoesPart q d.next xs part) (accesses_asked false last accesses taken) does) in
    let ends : EndsAt q.line.target false false rs (length d.words) d.executed d.response (in_doubt d) = command_ends q rs normal guard_kept opened.clear in
    let by = guarded_by d.response p accesses rs d refl opened ends.whole (mask_stays q rs normal) here in
    let whole : GuardedBy p accesses rs (transfer_result p (guarded_requests accesses)) = subst (GuardedBy p accesses rs) (sym (guarded_is p accesses opened)) by in
    record { part = whole.0; guard = whole.1; never = whole.2 }
