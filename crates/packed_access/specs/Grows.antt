-- The proofs of the laws `grows` and `settles`: the journal of more calls, and of a `finish` after them, begins with that of the calls.
-- These are lemmas, which a reader of definitions may skip.
use Rattle.std.specs.Prelude.{◌≡◌, ℕ, ◌+◌, false, List, [], ◌∷◌, length}
use Rattle.std.specs.List.{AllByRecursion}
use Rattle.std.proofs.Common.{subst, arith}
use Rattle.target_machine.specs.State.{TargetState}
use Rattle.target_machine.specs.declared.access.RegAccess.{RegAccess}
use Rattle.target_calls.specs.Journal.{Entry, target_after}
use Rattle.target_calls.specs.declared.calls.Ask.{Ask}
use Rattle.target_calls.specs.declared.journal.Part.TheVariants.{Settles}
use Rattle.access_regs.specs.Entries.{kept_by}
use Rattle.access_regs.specs.Journal.{issued_entries, issued_from, kept_from, numbered_entries, steps_of}
use Rattle.access_regs.specs.Kept.{nothing_kept}
use Rattle.access_regs.specs.Plan.{settle}
use Rattle.access_regs.specs.declared.planner.Planner.{Planner}
use Rattle.access_regs.proofs.EntryLemmas.{journal_marks}
use Rattle.access_regs.proofs.Joins.{journal_joins, later_entries}
use Rattle.access_calls.specs.Growing.{IsAfter, JournalGoesOn, JournalSettles}

-- The journal of more calls is that of the first calls, and entries of later calls after it.
pub grows_packed : (p : Planner) → JournalGoesOn (issued_entries p)
grows_packed p t asks more =
    let n : ℕ = 0 + length asks in
    let rest : List Entry = issued_from p n (kept_from p nothing_kept t asks) (target_after t (issued_entries p t asks)) more in
    let later : AllByRecursion (IsAfter n) rest = later_entries p n (kept_from p nothing_kept t asks) (target_after t (issued_entries p t asks)) more in
    let number : n ≡ length asks = omega arith in
    record {
      rest = rest;
      joined = journal_joins p 0 nothing_kept t asks more;
      later = subst (λ (k : ℕ). AllByRecursion (IsAfter k) rest) number later;
    }

-- what settles so many calls is issued after them
settling_later : (n : ℕ) (accesses : List RegAccess) → AllByRecursion (IsAfter n) (numbered_entries n false (steps_of Settles accesses))
settling_later n [] = tt
settling_later n (a ∷ accesses) = (omega arith, settling_later n accesses)

-- The journal of calls that a `finish` follows is that of the calls, and what settles them after it.
pub settles_packed : (p : Planner) → JournalSettles (issued_entries p)
settles_packed p t asks = record {
  rest = numbered_entries (length asks) false (steps_of Settles (settle (kept_by p t asks)));
  joined = (journal_marks p t asks).0;
  later = settling_later (length asks) (settle (kept_by p t asks));
}
