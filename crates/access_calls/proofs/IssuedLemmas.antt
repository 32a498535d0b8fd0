-- The numbers of a stop, from what is kept of the entries.
use Rattle.std.proofs.Common.{◌≡◌, ◌∙◌, ℕ, ◌+◌, ◌-◌, ◌<◌, Bool, List, [], ◌∷◌, length, map, take, sum_by, slice_get, get_or, IfSome, ◌≤◌, Option, Some, None, option_map, refl, sym, ap, subst, arith}
use Rattle.std.proofs.lemmas.List.Sums.{sum_by-cons}
use Rattle.std.proofs.lemmas.List.{take-map}
use Rattle.std.proofs.lemmas.Option.{slice_get-get_or, slice_get-map, slice_get_within}
use Rattle.target_machine.specs.Counts.{one_if}
use Rattle.target_calls.specs.Journal.{Entry, completes, is_skip}
use Rattle.target_calls.specs.declared.calls.Ask.{Ask}
use Rattle.target_calls.specs.declared.journal.Part.{Part}
use Rattle.access_calls.specs.Issued.{AreKeptOf, attempted_by_kept, kept_of, lines_before_kept, skipped_by_kept}
use Rattle.access_calls.specs.Numbers.{HasNumbers, attempted_by, lines_at, unit_at}
use Rattle.access_calls.specs.declared.issued.Issued.{Issued}
use Rattle.access_calls.specs.declared.stop.Report.{Report}

-- what parts count for is the same of entries and of what is kept of them
sum_kept : (f : Part → Bool) (entries : List Entry) → sum_by (λ (i : Issued). one_if (f i.part)) (map kept_of entries) ≡ sum_by (λ (e : Entry). one_if (f e.part)) entries
sum_kept f [] = refl
sum_kept f (e ∷ entries) = sum_by-cons (λ (i : Issued). one_if (f i.part)) (kept_of e) (map kept_of entries)
    ∙ ap (λ n. one_if (f e.part) + n) (sum_kept f entries) ∙ sym (sum_by-cons (λ (e : Entry). one_if (f e.part)) e entries)

-- the same of the first ones
first_kept : (f : Part → Bool) (n : ℕ) (entries : List Entry) → sum_by (λ (i : Issued). one_if (f i.part)) (take n (map kept_of entries)) ≡ sum_by (λ (e : Entry). one_if (f e.part)) (take n entries)
first_kept f n entries = ap (λ xs. sum_by (λ (i : Issued). one_if (f i.part)) xs) (take-map kept_of n entries) ∙ sum_kept f (take n entries)

-- an entry of which this is kept
record IsNext (at : Option Entry) (i : Issued) : Type 0 where
  pub unit : unit_at at ≡ i.unit
  pub lines : lines_at at ≡ lines_before_kept i

next_kept : (at : Option Entry) (i : Issued) → option_map kept_of at ≡ Some i → IsNext at i
next_kept None i is = absurd (cc)
next_kept (Some e) i is = subst (IsNext (Some e)) (same is) (record { unit = refl; lines = refl })
  where
    same : Some (kept_of e) ≡ Some i → kept_of e ≡ i
    same is = cc

-- The numbers of a stop are those that what is kept of the entries gives.
pub kept_numbers : (all : List Entry) (issued : List Issued) (calls : List Ask) (i : Issued) (r : Report) (skipped lines : ℕ) → AreKeptOf all issued → slice_get issued r.confirmed ≡ Some i
    → r.unit ≡ i.unit → r.attempted ≡ attempted_by r.cause i.unit (attempted_by_kept (take r.accesses issued)) → skipped ≡ skipped_by_kept (take r.accesses issued) → lines ≡ lines_before_kept i
    → option_map (λ ask. ask.call) (slice_get calls (r.unit - 1)) ≡ Some r.what → HasNumbers all calls skipped lines r
kept_numbers all issued calls i r skipped lines are there unit attempted skips line what =
    let at : option_map kept_of (slice_get all r.confirmed) ≡ Some i = sym (slice_get-map kept_of all r.confirmed) ∙ subst (λ xs. slice_get xs r.confirmed ≡ Some i) are there in
    let next = next_kept (slice_get all r.confirmed) i at in
    record {
      named = within (slice_get all r.confirmed) refl at;
      numbers = λ j. record {
        unit = (unit ∙ sym next.unit) j;
        attempted = (attempted ∙ (λ k. attempted_by r.cause (sym next.unit k) (attempted_by_kept (take r.accesses (are k))))
            ∙ ap (attempted_by r.cause (unit_at (slice_get all r.confirmed))) (first_kept completes r.accesses all)) j;
        skipped = (skips ∙ ap (λ xs. skipped_by_kept (take r.accesses xs)) are ∙ first_kept is_skip r.accesses all) j;
        lines = (line ∙ sym next.lines) j;
      };
      what = what;
    }
  where
    within : (at : Option Entry) → slice_get all r.confirmed ≡ at → option_map kept_of at ≡ Some i → r.confirmed < length all
    within None is e = absurd (cc)
    within (Some e) is same = slice_get_within all r.confirmed e is

-- the named unit is one of the calls
pub unit_within : (issued : List Issued) (calls : List Ask) (confirmed : ℕ) (i : Issued) → slice_get issued confirmed ≡ Some i
    → IfSome (slice_get issued confirmed) (λ e. (0 < e.unit) × (e.unit ≤ length calls)) → i.unit - 1 < length calls
unit_within issued calls confirmed i there within =
    let both : (0 < i.unit) × (i.unit ≤ length calls) = subst (λ at. IfSome at (λ e. (0 < e.unit) × (e.unit ≤ length calls))) there within in
    let some = both.0 in
    let few = both.1 in
    omega (arith, some, few)

-- what the named unit asks
pub what_is : (calls : List Ask) (place : ℕ) (d : Ask) → place < length calls → option_map (λ (ask : Ask). ask.call) (slice_get calls place) ≡ Some (get_or calls place d).call
what_is calls place d within = ap (option_map (λ (ask : Ask). ask.call)) (slice_get-get_or calls place d within)
