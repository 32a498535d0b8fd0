-- The words that the requests of accesses write are of 32 bits, and the target after them is in range.
use Rattle.std.proofs.Common.{◌≡◌, ◌&&◌, Bool, true, false, cond, List, [], ◌∷◌, ◌++◌, refl, ap, arith, subst}
use Rattle.target_machine.specs.Attempt.{attempt}
use Rattle.target_machine.specs.InRange.{IsInRange, IsWord}
use Rattle.target_machine.specs.State.{TargetState}
use Rattle.target_machine.specs.declared.access.RegAccess.{RegAccess}
use Rattle.dap_messages.specs.declared.request.Request.{Request}
use Rattle.dap_messages.specs.Requests.{read_request, write_request}
use Rattle.dap_transfer.specs.CommandEnds.{may_be_free, writes_ap}
use Rattle.dap_transfer.specs.Laws.{one_at_a_time}
use Rattle.dap_transfer.proofs.WordRanges.{Words, one_in_range}
use Rattle.flight_forms.specs.Packing.{AreWords, check_when, payload, request_of, requests_for, write_at_end}

-- the target after accesses is in range too
pub stays_in_range : (t : TargetState) (accesses : List RegAccess) → IsInRange t → AreWords accesses → IsInRange (one_at_a_time t accesses)
stays_in_range t [] h v = h
stays_in_range t (a ∷ rest) h v = let x = one_in_range t a h v.0 in stays_in_range (attempt t a).next rest x.next v.1

-- ---- the requests of accesses

request_word : (a : RegAccess) → IsWord a.value → IsWord (request_of a).word
request_word a v = by_read a.read
  where
    by_read : (b : Bool) → IsWord (cond b (read_request a.ap a.addr) (write_request a.ap a.addr a.value)).word
    by_read true = omega arith
    by_read false = v

pub requests_words : (w : Bool) (accesses : List RegAccess) (more : List Request) → AreWords accesses → Words more → Words (requests_for w accesses ++ more)
requests_words w [] more v k = k
requests_words w (a ∷ rest) more v k = by_check (w && may_be_free a) (requests_words (writes_ap a) rest more v.1 k)
  where
    by_check : (b : Bool) → Words (requests_for (writes_ap a) rest ++ more) → Words ((check_when b ++ request_of a ∷ requests_for (writes_ap a) rest) ++ more)
    by_check true h = ((omega arith), (request_word a v.0, h))
    by_check false h = (request_word a v.0, h)

pub plain_words : (w : Bool) (accesses : List RegAccess) → AreWords accesses → Words (requests_for w accesses)
plain_words w accesses v = subst Words (append-none (requests_for w accesses)) (requests_words w accesses [] v tt)
  where
    append-none : (rs : List Request) → rs ++ [] ≡ rs
    append-none [] = refl
    append-none (r ∷ rs) = ap (λ xs. r ∷ xs) (append-none rs)

pub payload_words : (accesses : List RegAccess) → AreWords accesses → Words (payload accesses)
payload_words accesses v = requests_words false accesses (check_when (write_at_end false accesses)) v (checks (write_at_end false accesses))
  where
    checks : (b : Bool) → Words (check_when b)
    checks true = ((omega arith), tt)
    checks false = tt
