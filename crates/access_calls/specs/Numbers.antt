-- The numbers of a stop.
use Rattle.std.specs.Prelude.{◌≡◌, ℕ, ◌-◌, ◌<◌, List, length, take, slice_get, Option, Some, None, option_map}
use Rattle.target_calls.specs.Journal.{Entry, attempted_in, lines_before, skipped_in}
use Rattle.target_calls.specs.declared.calls.Ask.{Ask}
use Rattle.access_calls.specs.declared.stop.Report.{Report}
use Rattle.access_calls.specs.declared.stop.StopCause.{StopCause}
use Rattle.access_calls.specs.declared.stop.StopCause.TheVariants.{Faulted, NoAnswer}

-- the unit of an entry, where there is one
abbrev pub unit_at : Option Entry → ℕ
unit_at None = 0
unit_at (Some e) = e.unit

-- how many units have their lines before an entry, where there is one
abbrev pub lines_at : Option Entry → ℕ
lines_at None = 0
lines_at (Some e) = lines_before e

-- at a fault all units up to the named one were attempted, and where a retry ended those that are complete
abbrev pub attempted_by : StopCause → ℕ → ℕ → ℕ
attempted_by Faulted unit complete = unit
attempted_by NoAnswer unit complete = complete

-- The numbers of a stop: the unit that it names, and how many units were attempted, were skipped, and have their lines before it.
pub record StopNumbers : Type 0 where
  pub unit : ℕ
  pub attempted : ℕ
  pub skipped : ℕ
  pub lines : ℕ

-- Where the first `performed` entries were performed and the first `confirmed` of them are confirmed, a stop names the unit
-- of the next entry after the confirmed ones.
abbrev pub stop_numbers : List Entry → ℕ → ℕ → StopCause → StopNumbers
stop_numbers entries performed confirmed cause =
    let next : Option Entry = slice_get entries confirmed in
    record {
      unit = unit_at next;
      attempted = attempted_by cause (unit_at next) (attempted_in (take performed entries));
      skipped = skipped_in (take performed entries);
      lines = lines_at next;
    }

-- The report, the number of skipped units and the number of lines are those of a stop, and what the named unit asks is so.
pub record HasNumbers (entries : List Entry) (calls : List Ask) (skipped lines : ℕ) (r : Report) : Type 0 where
  pub named : r.confirmed < length entries
  pub numbers : record { unit = r.unit; attempted = r.attempted; skipped = skipped; lines = lines }
      ≡ stop_numbers entries r.accesses r.confirmed r.cause
  pub what : option_map (λ ask. ask.call) (slice_get calls (r.unit - 1)) ≡ Some r.what
