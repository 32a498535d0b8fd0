-- What is kept of the entries of a journal.
use Rattle.std.specs.Prelude.{◌≡◌, ℕ, ◌-◌, if◌then◌else◌, List, map, sum_by}
use Rattle.target_machine.specs.Counts.{one_if}
use Rattle.target_calls.specs.Journal.{Entry, completes, is_skip, settles}
use Rattle.access_calls.specs.declared.issued.Issued.{Issued}

-- what is kept of an entry
abbrev pub kept_of : Entry → Issued
kept_of e = record { unit = e.unit; part = e.part }

-- what is kept of entries
abbrev pub AreKeptOf : List Entry → List Issued → Type 0
AreKeptOf entries issued = issued ≡ map kept_of entries

-- how many units are attempted by the entries of which this is kept
abbrev pub attempted_by_kept : List Issued → ℕ
attempted_by_kept issued = sum_by (λ (i : Issued). one_if (completes i.part)) issued

-- how many units are skipped by them
abbrev pub skipped_by_kept : List Issued → ℕ
skipped_by_kept issued = sum_by (λ (i : Issued). one_if (is_skip i.part)) issued

-- how many units have their lines before the entry of which this is kept
abbrev pub lines_before_kept : Issued → ℕ
lines_before_kept i = if settles i.part then i.unit else i.unit - 1
