-- The words of a reply are of 32 bits where the target's numbers are in range.
use Rattle.std.proofs.Common.{◌≡◌, ℕ, Bool, true, false, cond, List, [], ◌∷◌, ◌++◌, take, refl, sym, suc, zero, subst}
use Rattle.std.specs.List.{AllByRecursion}
use Rattle.target_machine.specs.Attempt.{attempt}
use Rattle.target_machine.specs.InRange.{IsAttemptInRange, IsInRange, IsWord}
use Rattle.target_machine.specs.Plain.{Makes, given_number}
use Rattle.target_machine.specs.State.{TargetState}
use Rattle.target_machine.specs.declared.access.Outcome.{Outcome}
use Rattle.target_machine.specs.declared.access.Outcome.TheVariants.{Value, Done, Fault}
use Rattle.target_machine.specs.declared.access.RegAccess.{RegAccess}
use Rattle.target_machine.proofs.ActionRanges.{acted_in_range}
use Rattle.dap_messages.specs.declared.request.Request.{Request}
use Rattle.dap_messages.specs.Requests.{kind, gives_word}
use Rattle.dap_transfer.specs.Laws.{AreNormal, read_values, value_now}
use Rattle.dap_transfer.specs.State.{TransferState}
use Rattle.dap_transfer.specs.Transfer.{transfer_result}
use Rattle.dap_transfer.specs.WireTransfer.{value_of}
use Rattle.dap_transfer.specs.Wires.{access_of}
use Rattle.dap_transfer.proofs.ReadWords.{has_words}

same_value : (o : Outcome) → given_number o ≡ value_of o
same_value (Value n) = refl
same_value Done = refl
same_value Fault = refl

pub one_in_range : (t : TargetState) (a : RegAccess) → IsInRange t → IsWord a.value → IsAttemptInRange (attempt t a)
one_in_range t a h v = acted_in_range t (Makes a) h v

pub value_in_range : (t : TargetState) (a : RegAccess) → IsInRange t → IsWord a.value → IsWord (value_now t a)
value_in_range t a h v = let x = one_in_range t a h v in subst IsWord (same_value (attempt t a).outcome) x.value

-- what each of the requests writes is of 32 bits
abbrev pub Words : List Request → Type 0
Words rs = AllByRecursion (λ r. IsWord r.word) rs

values_in_range : (t : TargetState) (rs : List Request) → IsInRange t → Words rs → AllByRecursion IsWord (read_values t rs)
values_in_range t [] h v = tt
values_in_range t (r ∷ rs) h v =
    let x = one_in_range t (access_of r) h v.0 in
    by_read (gives_word (kind r)) (value_in_range t (access_of r) h v.0) (values_in_range (attempt t (access_of r)).next rs x.next v.1)
  where
    by_read : (b : Bool) → IsWord (value_now t (access_of r)) → AllByRecursion IsWord (read_values (attempt t (access_of r)).next rs) →
        AllByRecursion IsWord (cond b (value_now t (access_of r) ∷ []) [] ++ read_values (attempt t (access_of r)).next rs)
    by_read true one more = (one, more)
    by_read false one more = more

taken_words : (n : ℕ) (rs : List Request) → Words rs → Words (take n rs)
taken_words zero rs v = tt
taken_words (suc n) [] v = tt
taken_words (suc n) (r ∷ rs) v = (v.0, taken_words n rs v.1)

front_words : (xs ys : List ℕ) → AllByRecursion IsWord (xs ++ ys) → AllByRecursion IsWord xs
front_words [] ys h = tt
front_words (x ∷ xs) ys h = (h.0, front_words xs ys h.1)

pub words_in_range : (p : TransferState) (rs : List Request) → AreNormal rs → IsInRange p.line.target → Words rs → AllByRecursion IsWord (transfer_result p rs).words
words_in_range p rs normal h v =
    let has = has_words p rs normal in
    front_words (transfer_result p rs).words has.0
    (subst (AllByRecursion IsWord) (sym has.3) (values_in_range p.line.target (take (transfer_result p rs).executed rs) h (taken_words (transfer_result p rs).executed rs v)))
