-- The entries that were begun of a run that was left off are the first of the journal of the outcome's calls.
use Rattle.std.proofs.Common.{◌≡◌, ◌∙◌, ◌⊎◌, inl, inr, ℕ, zero, suc, ◌<◌, ◌≤◌, List, [], ◌∷◌, ◌++◌, append-nil, length, take, IfSome, Option, Some, refl, sym, ap, subst, arith}
use Rattle.std.specs.List.{AllByRecursion}
use Rattle.std.specs.Prelude.{slice_get}
use Rattle.std.proofs.lemmas.Bool.{cases_lt}
use Rattle.std.proofs.lemmas.List.{length-append, take-append-le, take-take}
use Rattle.target_machine.specs.State.{Agree, TargetState}
use Rattle.probe_core.specs.Bench.{BenchState}
use Rattle.probe_core.specs.Probe.{target_of}
use Rattle.target_calls.specs.Asks.{settled_last}
use Rattle.target_calls.specs.Journal.{Entry, target_after}
use Rattle.target_calls.specs.World.{World, stop}
use Rattle.target_calls.specs.declared.calls.Ask.{Ask}
use Rattle.target_calls.proofs.CallLists.{stop_more}
use Rattle.target_calls.proofs.MarkLemmas.{stop_marked}
use Rattle.access_calls.specs.Growing.{GoesOnWith, IsAfter, IsForFirstCalls, JournalGoesOn, JournalSettles}
use Rattle.access_calls.specs.Reported.{Beginning, start_of}
use Rattle.access_calls.specs.Standing.{IsAfterPart, IsPartOfEntry}
use Rattle.control_flow.specs.Answers.{EndsWhole}
use Rattle.sequence_rules.specs.Laws.{StopBy}
use Rattle.sequence_rules.specs.Runs as runs
use Rattle.sequence_rules.specs.Runs.{Ending}
use Rattle.followed_runs.proofs.CallLemmas.{from_length}
use Rattle.job_runs.proofs.FrontLemmas.{Meets, after_fewer, beyond, covers, goes_beyond, within}
use Rattle.job_runs.proofs.SharedLemmas.{Common}

-- ---- lists

get_taken : {A : Type 0} (k : ℕ) (xs : List A) → slice_get (take (suc k) xs) k ≡ slice_get xs k
get_taken zero [] = refl
get_taken zero (x ∷ xs) = refl
get_taken (suc k) [] = refl
get_taken (suc k) (x ∷ xs) = get_taken k xs

-- what is so of an entry of two lists, where there is one, is so in the first of them
first_entry : (P : Entry → Type 0) (i : ℕ) (xs ys : List Entry) → IfSome (slice_get (xs ++ ys) i) P → IfSome (slice_get xs i) P
first_entry P i [] ys h = tt
first_entry P zero (x ∷ xs) ys h = h
first_entry P (suc i) (x ∷ xs) ys h = first_entry P i xs ys h

-- what is so in the first, and of all entries of the second
both_entries : (P : Entry → Type 0) (i : ℕ) (xs ys : List Entry) → i ≤ length xs → IfSome (slice_get xs i) P → AllByRecursion P ys → IfSome (slice_get (xs ++ ys) i) P
both_entries P i [] [] le h all = tt
both_entries P zero [] (y ∷ ys) le h all = all.0
both_entries P (suc i) [] (y ∷ ys) le h all = absurd (omega (arith, le))
both_entries P zero (x ∷ xs) ys le h all = h
both_entries P (suc i) (x ∷ xs) ys le h all = both_entries P i xs ys (omega (arith, le)) h all

-- entries that are all issued for the first calls lie in front of those that are issued after them
few_begun : (calls begun : ℕ) (front rest : List Entry) → AllByRecursion (IsAfter calls) rest → AllByRecursion (IsForFirstCalls calls) (take begun (front ++ rest)) → begun ≤ length (front ++ rest) → begun ≤ length front
few_begun calls zero front rest later own le = omega arith
few_begun calls (suc begun) [] [] later own le = absurd (omega (arith, le))
few_begun calls (suc begun) [] (x ∷ rest) later own le = absurd (let low = later.0 in let high = own.0 in omega (arith, low, high))
few_begun calls (suc begun) (x ∷ front) rest later own le = (let h = few_begun calls begun front rest later own.1 (omega (arith, le)) in omega (arith, h))

-- ---- calls

-- the calls of an outcome that is neither Done nor Halted stop at the last
pub ends_how : (w : World) (ending : Ending) (calls : List Ask) → StopBy w ending calls → EndsWhole ending ⊎ (stop w calls ≡ Some (length calls))
ends_how w runs.Done calls h = inl tt
ends_how w (runs.Halted cause) calls h = inl tt
ends_how w (runs.Faulted call) calls h = inr h.stopped.first
ends_how w runs.Unanswered calls h = inr h.first
ends_how w runs.Lost calls h = absurd h

-- where more were asked, these stop there too
pub asked_stop : (w : World) (asked calls : List Ask) → Meets asked calls → length calls < length asked → stop w calls ≡ Some (length calls) → stop w asked ≡ Some (length calls)
asked_stop w asked calls (within g) more stops = absurd (let long = from_length asked calls g in omega (arith, long, more))
asked_stop w asked calls (beyond g) more stops = by_mark g.so
  where
    by_mark : (asked ≡ calls ++ g.more) ⊎ (asked ≡ settled_last calls ++ g.more) → stop w asked ≡ Some (length calls)
    by_mark (inl e) = ap (stop w) e ∙ stop_more w calls g.more (length calls) stops ∙ stops
    by_mark (inr e) = ap (stop w) e ∙ stop_more w (settled_last calls) g.more (length calls) (stop_marked w calls ∙ stops) ∙ stop_marked w calls ∙ stops

-- ---- journals

-- The first entries are the same in both lists.
pub record Share (begun : ℕ) (theirs ours : List Entry) : Type 0 where
  pub same : take begun theirs ≡ take begun ours
  pub within : begun ≤ length ours

-- one list goes on from the other
share_longer : (begun calls : ℕ) (theirs ours : List Entry) → GoesOnWith calls theirs ours → begun ≤ length theirs → Share begun theirs ours
share_longer begun calls theirs ours g le = record {
  same = sym (ap (take begun) g.joined ∙ take-append-le begun theirs g.rest le);
  within = (let long = ap length g.joined ∙ length-append theirs g.rest in omega (arith, long, le));
}

-- both go on from one
share_both : (begun calls : ℕ) (first theirs ours : List Entry) → GoesOnWith calls first theirs → GoesOnWith calls first ours → begun ≤ length first → Share begun theirs ours
share_both begun calls first theirs ours g h le =
    let a = share_longer begun calls first theirs g le in
    let b = share_longer begun calls first ours h le in
    record { same = sym a.same ∙ b.same; within = b.within }

module _ (journal : TargetState → List Ask → List Entry) (grows : JournalGoesOn journal) (settles : JournalSettles journal) (t : TargetState) where
  -- The entries that were begun are the same in the journal of the outcome's calls; where more were asked, since all of them are issued
  -- for the outcome's calls.
  pub begun_share : (asked calls : List Ask) (begun : ℕ) → Meets asked calls → begun ≤ length (journal t asked)
      → (length calls < length asked → AllByRecursion (IsForFirstCalls (length calls)) (take begun (journal t asked))) → Share begun (journal t asked) (journal t (settled_last calls))
  begun_share asked calls begun m le own = by_length (cases_lt (length calls) (length asked))
    where
      by_length : (length calls < length asked) ⊎ (length asked ≤ length calls) → Share begun (journal t asked) (journal t (settled_last calls))
      by_length (inl more) =
          let g = goes_beyond journal grows settles t asked calls m more in
          share_both begun (length calls) (journal t calls) (journal t asked) (journal t (settled_last calls)) g (settles t calls)
          (few_begun (length calls) begun (journal t calls) g.rest g.later
          (subst (λ (es : List Entry). AllByRecursion (IsForFirstCalls (length calls)) (take begun es)) g.joined (own more))
          (subst (λ (es : List Entry). begun ≤ length es) g.joined le))
      by_length (inr few) = share_longer begun (length asked) (journal t asked) (journal t (settled_last calls)) (covers journal grows settles t asked calls m few).goes_on le

  -- The journal of what was asked and that of the outcome's calls come first in one list: the settled one of the outcome's calls, or the
  -- journal of what was asked, where that is more.
  pub in_common : (asked calls : List Ask) → Meets asked calls → Common (journal t asked) (journal t calls)
  in_common asked calls m = by_length (cases_lt (length calls) (length asked))
    where
      by_length : (length calls < length asked) ⊎ (length asked ≤ length calls) → Common (journal t asked) (journal t calls)
      by_length (inl more) =
          let g = goes_beyond journal grows settles t asked calls m more in
          record { all = journal t asked; their_rest = []; own_rest = g.rest; their_all = sym (append-nil (journal t asked)); own_all = g.joined }
      by_length (inr few) =
          let g = (covers journal grows settles t asked calls m few).goes_on in
          let h = settles t calls in
          record { all = journal t (settled_last calls); their_rest = g.rest; own_rest = h.rest; their_all = g.joined; own_all = h.joined }

  -- Where the first entry that is not confirmed was issued once so many calls were asked, so was that of the journal of the outcome's calls.
  pub later_own : (asked calls : List Ask) (confirmed came : ℕ) → Meets asked calls → came ≤ length asked → confirmed ≤ length (journal t asked)
      → IfSome (slice_get (journal t asked) confirmed) (IsAfter came) → IfSome (slice_get (journal t calls) confirmed) (IsAfter came)
  later_own asked calls confirmed came m low le later = by_length (cases_lt (length calls) (length asked))
    where
      by_length : (length calls < length asked) ⊎ (length asked ≤ length calls) → IfSome (slice_get (journal t calls) confirmed) (IsAfter came)
      by_length (inl more) =
          let g = goes_beyond journal grows settles t asked calls m more in
          first_entry (IsAfter came) confirmed (journal t calls) g.rest (subst (λ (es : List Entry). IfSome (slice_get es confirmed) (IsAfter came)) g.joined later)
      by_length (inr few) =
          let g = (covers journal grows settles t asked calls m few).goes_on in
          let h = settles t calls in
          first_entry (IsAfter came) confirmed (journal t calls) h.rest
          (subst (λ (es : List Entry). IfSome (slice_get es confirmed) (IsAfter came)) (sym g.joined ∙ h.joined)
          (both_entries (IsAfter came) confirmed (journal t asked) g.rest le later (after_fewer came (length asked) g.rest low g.later)))

-- a part of one more entry, in lists whose first entries are the same
pub part_shared : (theirs ours : List Entry) (count begun : ℕ) (b : Beginning) (m : BenchState) → take begun theirs ≡ take begun ours → IsAfterPart theirs count begun b m → IsAfterPart ours count begun b m
part_shared theirs ours count begun b m same (inl h) = inl (
  h.0,
  subst (λ (es : List Entry). Agree (target_of m.probe) (target_after (start_of b) es)) (subst (λ (k : ℕ). take k theirs ≡ take k ours) h.0 same) h.1,
)
part_shared theirs ours count begun b m same (inr h) =
    let next_begun : begun ≡ suc count = (let is = h.0 in omega (arith, is)) in
    let more : take (suc count) theirs ≡ take (suc count) ours = subst (λ (k : ℕ). take k theirs ≡ take k ours) next_begun same in
    let first : take count theirs ≡ take count ours = sym (take-take count (suc count) theirs (omega arith)) ∙ ap (take count) more ∙ take-take count (suc count) ours (omega arith) in
    let next : slice_get theirs count ≡ slice_get ours count = sym (get_taken count theirs) ∙ ap (λ (l : List Entry). slice_get l count) more ∙ get_taken count ours in
    inr (
      h.0,
      subst (λ (x : Option Entry). IsPartOfEntry x (target_after (start_of b) (take count ours)) (target_of m.probe)) next
          (subst (λ (es : List Entry). IsPartOfEntry (slice_get theirs count) (target_after (start_of b) es) (target_of m.probe)) first h.1),
    )

-- at most so many were begun, and one more
pub count_begun : (entries : List Entry) (count begun : ℕ) (b : Beginning) (m : BenchState) → IsAfterPart entries count begun b m → count ≤ begun
count_begun entries count begun b m (inl h) = (let is = h.0 in omega (arith, is))
count_begun entries count begun b m (inr h) = (let is = h.0 in omega (arith, is))
