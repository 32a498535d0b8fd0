-- Entries that are no writes of DRW, where such entries and writes of DRW follow each other, and the marks of a `finish`.
use Rattle.std.specs.Prelude.{ℕ, ◌+◌, Bool, true, false, not, List, [], ◌∷◌, sum_by}
use Rattle.target_machine.specs.Counts.{one_if}
use Rattle.target_calls.specs.Journal.{Entry}
use Rattle.target_calls.specs.declared.calls.Ask.{Ask}
use Rattle.flight_laws.specs.Packets.{is_drw_write}

-- how many of these entries are something else than writes of DRW
abbrev pub others_in : List Entry → ℕ
others_in entries = sum_by (λ (e : Entry). one_if (not (is_drw_write e.action))) entries

-- one where the two are not the same
abbrev pub differs : Bool → Bool → ℕ
differs true b = one_if (not b)
differs false b = one_if b

-- how often a write of DRW follows something else, or something else a write of DRW, where one of these came before
abbrev pub changes_after : Bool → List Entry → ℕ
changes_after before [] = 0
changes_after before (e ∷ entries) = differs before (is_drw_write e.action) + changes_after (is_drw_write e.action) entries

-- how often it is so from the first write of DRW on
abbrev pub changes_in : List Entry → ℕ
changes_in entries = changes_after false entries

-- how many of the calls have the mark of a `finish`
abbrev pub marks_in : List Ask → ℕ
marks_in calls = sum_by (λ (c : Ask). one_if c.settled) calls
