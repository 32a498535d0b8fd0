-- Flights that were sent because there was no room, by how many writes of DRW they have.
use Rattle.std.specs.Prelude.{ℕ, ◌+◌, ◌*◌, ◌≤◌, List, take}
use Rattle.probe_core.specs.declared.job.Limits.{Limits}
use Rattle.target_calls.specs.Journal.{Entry}
use Rattle.access_calls.specs.Bounds.{block_words, flight_capacity}
use Rattle.bench_flights.specs.Full.{transfer_accesses}
use Rattle.flight_laws.specs.Changes.{changes_in, others_in}
use Rattle.flight_laws.specs.Packets.{drw_writes_in}

-- So many flights were sent because there was no room, and their accesses are among the first, confirmed entries. Some have a block of writes of
-- DRW. In others, or where the next entry follows them, writes of DRW and something else follow each other. The rest have the capacity of
-- accesses that are no such writes. Those without a block have as many accesses as one Transfer holds.
pub record AreBlocks (full : ℕ) (limits : Limits) (entries : List Entry) (confirmed : ℕ) : Type 0 where
  pub blocks : ℕ
  pub mixed : ℕ
  pub bare : ℕ
  pub all : full ≤ blocks + mixed + bare
  pub written : blocks * block_words limits ≤ drw_writes_in (take confirmed entries)
  pub changing : mixed ≤ changes_in (take (confirmed + 1) entries)
  pub others : bare * flight_capacity limits ≤ others_in (take confirmed entries)
  pub sizes : blocks * block_words limits + (mixed + bare) * transfer_accesses limits ≤ drw_writes_in (take confirmed entries) + others_in (take confirmed entries)
