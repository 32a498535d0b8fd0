-- What is kept of entries that are confirmed.
use Rattle.std.specs.Prelude.{◌≡◌, ◌≤◌, List, length}
use Rattle.access_calls.specs.Issued.{attempted_by_kept, skipped_by_kept}
use Rattle.access_calls.specs.declared.issued.Issued.{Issued}
use Rattle.packed_access.specs.declared.confirmed.Confirmed.{Confirmed}

-- these are the numbers of entries of which this is kept
pub record CountsConfirmed (c : Confirmed) (first : List Issued) : Type 0 where
  pub entries : c.entries ≡ length first
  pub attempted : c.attempted ≡ attempted_by_kept first
  pub skipped : c.skipped ≡ skipped_by_kept first

-- no more units than entries
pub record AreFew (c : Confirmed) : Type 0 where
  pub attempted : c.attempted ≤ c.entries
  pub skipped : c.skipped ≤ c.entries
