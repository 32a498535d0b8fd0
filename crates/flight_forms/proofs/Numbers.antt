-- How far the list of stalls goes on in a command whose checks follow writes.
use Rattle.std.proofs.Common.{◌≡◌, ℕ, ◌+◌, ◌*◌, ◌≤◌, ◌||◌, Bool, true, false, cond, List, [], ◌∷◌, take, length, refl, ap, arith, suc, zero}
use Rattle.target_machine.specs.State.{TargetState}
use Rattle.target_machine.specs.declared.access.RegAccess.{RegAccess}
use Rattle.dap_messages.specs.declared.request.Request.{Request}
use Rattle.dap_messages.specs.declared.request.RequestKind.{RequestKind}
use Rattle.dap_messages.specs.declared.request.RequestKind.TheVariants.{Posted, Read, Match, Mask, Write}
use Rattle.dap_messages.specs.declared.request.Response.{Response}
use Rattle.dap_messages.specs.declared.request.Response.TheVariants.{Good, Wait, Fault, Mismatch}
use Rattle.dap_messages.specs.Requests.{is_posted, kind, write_after, write_last}
use Rattle.target_machine.specs.Counts.{one_if}
use Rattle.dap_transfer.specs.CommandEnds.{EndsAt, IsNumbered, is_doubted, one_at_end, posted_in, posted_last}
use Rattle.dap_transfer.specs.Laws.{AreNormal, IsNormalKind, accesses_in}
use Rattle.dap_transfer.specs.State.{is_wait}
use Rattle.dap_transfer.specs.Wires.{access_of}
use Rattle.dap_transfer.proofs.Numbering.{posted_first}
use Rattle.flight_forms.specs.Flights.{is_own}
use Rattle.flight_forms.proofs.OwnAccesses.{ChecksFollow, own_posted, own_write}

one_step : (k : RequestKind) (b w : Bool) (a : RegAccess) (own : List RegAccess) (n posted : ℕ) (last : Bool) → IsNormalKind k → (k ≡ Posted → b ≡ true) → (k ≡ Write → b ≡ true) →
    (b ≡ false → w ≡ true) → n + posted + one_if last ≤ 2 * length own + one_if (write_last k w) →
    suc n + (one_if (is_posted k) + posted) + one_if last ≤ 2 * length (cond b (a ∷ own) own) + one_if w
one_step Posted true w a own n posted last normal p q follow h = omega arith
one_step Posted false w a own n posted last normal p q follow h = absurd (let e = p refl in cc)
one_step Read true w a own n posted last normal p q follow h = omega arith
one_step Read false w a own n posted last normal p q follow h = (let e = ap one_if (follow refl) in omega arith)
one_step Write true w a own n posted last normal p q follow h = omega arith
one_step Write false w a own n posted last normal p q follow h = absurd (let e = q refl in cc)
one_step Match b w a own n posted last normal p q follow h = absurd normal
one_step Mask b w a own n posted last normal p q follow h = absurd normal

-- one transfer for each request, one for the word of each posted read, and one for the check of a last write
few_transfers : (w : Bool) (rs : List Request) → AreNormal rs → ChecksFollow w rs →
    length rs + posted_in rs + one_if (write_after w rs) ≤ 2 * length (accesses_in rs) + one_if w
few_transfers w [] normal follow = omega arith
few_transfers w (r ∷ rs) normal follow =
    let k : RequestKind = kind r in
    let rest = few_transfers (write_last k w) rs normal.1 follow.1 in
    let one = one_step k (is_own (access_of r)) w (access_of r) (accesses_in rs) (length rs) (posted_in rs) (write_after (write_last k w) rs) normal.0 (own_posted r) (own_write r) follow.0 rest in
    let first = posted_first r rs in
    omega arith

pub taken_follow : (n : ℕ) (w : Bool) (rs : List Request) → ChecksFollow w rs → ChecksFollow w (take n rs)
taken_follow zero w rs h = tt
taken_follow (suc n) w [] h = tt
taken_follow (suc n) w (r ∷ rs) h = (h.0, taken_follow n (write_last (kind r) w) rs h.1)

pub taken_normal : (n : ℕ) (rs : List Request) → AreNormal rs → AreNormal (take n rs)
taken_normal zero rs h = tt
taken_normal (suc n) [] h = tt
taken_normal (suc n) (r ∷ rs) h = (h.0, taken_normal n rs h.1)

taken_length : (n : ℕ) (rs : List Request) → n ≤ length rs → length (take n rs) ≡ n
taken_length zero rs h = refl
taken_length (suc n) [] h = absurd (omega arith)
taken_length (suc n) (r ∷ rs) h = ap suc (taken_length n rs (omega arith))

end_charged : (x : Response) (pending posted written : Bool) → (x ≡ Mismatch → ⊥) → (is_doubted x pending ≡ true → (posted || written) ≡ true) →
    one_if (one_at_end x posted written) ≤ one_if written + one_if (is_wait x)
end_charged Good pending posted written never unseen = omega arith
end_charged Wait pending posted written never unseen = omega arith
end_charged Fault pending true written never unseen = omega arith
end_charged Fault pending false written never unseen = (let e = ap one_if (unseen refl) in omega arith)
end_charged Mismatch pending posted written never unseen = absurd (never refl)

pub number_kept : (t : TargetState) (rs : List Request) (before number given n : ℕ) (x : Response) (pending : Bool) → AreNormal rs → ChecksFollow false rs →
    EndsAt t false false rs given n x (is_doubted x pending) → IsNumbered before false false n rs x number →
    number ≤ before + 2 * length (accesses_in (take n rs)) + one_if (is_wait x)
number_kept t rs before number given n x pending normal follow ends numbered =
    let some : List Request = take n rs in
    let few = few_transfers false some (taken_normal n rs normal) (taken_follow n false rs follow) in
    let end = end_charged x pending (posted_last false some) (write_after false some) ends.never ends.unseen in
    let size = taken_length n rs ends.most in
    omega arith
