-- The numbers of a stop, where of the first entries their numbers alone are kept.
use Rattle.std.proofs.Common.{◌≡◌, ◌∙◌, ℕ, suc, ◌+◌, ◌-◌, ◌≤◌, Bool, List, [], ◌∷◌, ◌++◌, length, take, sum_by, slice_get, Some, option_map, sym, ap, arith, length-append}
use Rattle.std.proofs.Math.Seq.{take-append-add}
use Rattle.std.proofs.lemmas.List.Sums.{sum_by-append, sum_by-cons}
use Rattle.target_machine.specs.Counts.{one_if}
use Rattle.target_machine.proofs.CountLemmas.{one_most}
use Rattle.target_calls.specs.Journal.{Entry, completes, is_skip}
use Rattle.target_calls.specs.declared.calls.Ask.{Ask}
use Rattle.target_calls.specs.declared.journal.Part.{Part}
use Rattle.access_calls.specs.Issued.{AreKeptOf, attempted_by_kept, lines_before_kept, skipped_by_kept}
use Rattle.access_calls.specs.Numbers.{HasNumbers, attempted_by}
use Rattle.access_calls.specs.declared.issued.Issued.{Issued}
use Rattle.access_calls.specs.declared.stop.Report.{Report}
use Rattle.access_calls.proofs.IssuedLemmas.{kept_numbers}
use Rattle.packed_access.specs.Counted.{AreFew, CountsConfirmed}
use Rattle.packed_access.specs.declared.confirmed.Confirmed.{Confirmed}

-- no more units than entries
pub kept_few : (f : Part → Bool) (kept : List Issued) → sum_by (λ (i : Issued). one_if (f i.part)) kept ≤ length kept
kept_few f [] = omega arith
kept_few f (i ∷ kept) =
    let here = sum_by-cons (λ (i : Issued). one_if (f i.part)) i kept in
    let one = one_most (f i.part) in
    let more = kept_few f kept in
    omega (arith, here, one, more)

pub counted_few : (c : Confirmed) (first : List Issued) → CountsConfirmed c first → AreFew c
counted_few c first h =
    let n = h.entries in
    let a = h.attempted in
    let s = h.skipped in
    let a_few = kept_few completes first in
    let s_few = kept_few is_skip first in
    record { attempted = omega (arith, n, a, a_few); skipped = omega (arith, n, s, s_few) }

-- the numbers of more entries
pub counted_more : (c d : Confirmed) (entries first : List Issued) → d.entries ≡ c.entries + length entries → d.attempted ≡ c.attempted + attempted_by_kept entries → d.skipped ≡ c.skipped + skipped_by_kept entries
    → CountsConfirmed c first → CountsConfirmed d (first ++ entries)
counted_more c d entries first more attempts skips h = record {
  entries = more ∙ ap (λ (n : ℕ). n + length entries) h.entries ∙ sym (length-append first entries);
  attempted = attempts ∙ ap (λ (n : ℕ). n + attempted_by_kept entries) h.attempted ∙ sym (sum_by-append (λ (i : Issued). one_if (completes i.part)) first entries);
  skipped = skips ∙ ap (λ (n : ℕ). n + skipped_by_kept entries) h.skipped ∙ sym (sum_by-append (λ (i : Issued). one_if (is_skip i.part)) first entries);
}

-- the entry so many places after the first ones
there_after : (first entries : List Issued) (k : ℕ) → slice_get (first ++ entries) (length first + k) ≡ slice_get entries k
there_after [] entries k = (let none : length {A = Issued} [] + k ≡ k = omega arith in ap (slice_get entries) none)
there_after (i ∷ first) entries k =
    (let one : length (i ∷ first) + k ≡ suc (length first + k) = omega arith in ap (slice_get (i ∷ (first ++ entries))) one) ∙ there_after first entries k

-- what the first entries and so many after them count for
sum_after : (f : Part → Bool) (first entries : List Issued) (k : ℕ) → sum_by (λ (i : Issued). one_if (f i.part)) (take (length first + k) (first ++ entries))
    ≡ sum_by (λ (i : Issued). one_if (f i.part)) first + sum_by (λ (i : Issued). one_if (f i.part)) (take k entries)
sum_after f first entries k = ap (λ xs. sum_by (λ (i : Issued). one_if (f i.part)) xs) (take-append-add first entries k)
    ∙ sum_by-append (λ (i : Issued). one_if (f i.part)) first (take k entries)

-- The numbers of a stop are those that the numbers of the first entries and what is kept of the others give.
pub kept_after : (c : Confirmed) (first : List Issued) (all : List Entry) (entries : List Issued) (calls : List Ask) (i : Issued) (performed confirmed : ℕ) (r : Report) (skipped lines : ℕ) → CountsConfirmed c first
    → AreKeptOf all (first ++ entries) → slice_get entries confirmed ≡ Some i → r.confirmed ≡ c.entries + confirmed → r.accesses ≡ c.entries + performed
    → r.unit ≡ i.unit → r.attempted ≡ attempted_by r.cause i.unit (c.attempted + attempted_by_kept (take performed entries)) → skipped ≡ c.skipped + skipped_by_kept (take performed entries) → lines ≡ lines_before_kept i
    → option_map (λ ask. ask.call) (slice_get calls (r.unit - 1)) ≡ Some r.what → HasNumbers all calls skipped lines r
kept_after c first all entries calls i performed confirmed r skipped lines count are there confirmed_is accesses_is unit attempted skips line what =
    kept_numbers all (first ++ entries) calls i r skipped lines are
    (ap (slice_get (first ++ entries)) (confirmed_is ∙ ap (λ (n : ℕ). n + confirmed) count.entries) ∙ there_after first entries confirmed ∙ there)
    unit
    (attempted ∙ ap (attempted_by r.cause i.unit) (ap (λ (n : ℕ). n + attempted_by_kept (take performed entries)) count.attempted ∙ sym (sum_after completes first entries performed) ∙ ap (λ (n : ℕ). attempted_by_kept (take n (first ++ entries))) (sym at)))
    (skips ∙ ap (λ (n : ℕ). n + skipped_by_kept (take performed entries)) count.skipped ∙ sym (sum_after is_skip first entries performed) ∙ ap (λ (n : ℕ). skipped_by_kept (take n (first ++ entries))) (sym at))
    line
    what
  where
    at : r.accesses ≡ length first + performed
    at = accesses_is ∙ ap (λ (n : ℕ). n + performed) count.entries
