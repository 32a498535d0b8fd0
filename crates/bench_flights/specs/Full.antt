-- A flight for which there is no room for one access more, by how many accesses it has.
use Rattle.std.specs.Prelude.{◌≡◌, ℕ, ◌-◌, ◌/◌, ◌≤◌, true, List, [], ◌∷◌, ◌++◌, length}
use Rattle.target_machine.specs.declared.access.RegAccess.{RegAccess}
use Rattle.probe_core.specs.declared.job.Limits.{Limits}
use Rattle.access_calls.specs.Bounds.{block_words, flight_capacity}
use Rattle.flight_forms.specs.Forms.{all_write_drw}

-- how many accesses one Transfer holds at least
abbrev pub transfer_accesses : Limits → ℕ
transfer_accesses limits = (limits.packet_size - 3) / 6

-- A flight for which there is no room for this access more. It has the capacity of accesses, at least as many as one Transfer holds, and a block
-- of them where all are writes of DRW.
pub record IsFull (limits : Limits) (accesses : List RegAccess) (next : RegAccess) : Type 0 where
  pub many : flight_capacity limits ≤ length accesses
  pub wide : transfer_accesses limits ≤ length accesses
  pub words : all_write_drw (accesses ++ next ∷ []) ≡ true → block_words limits ≤ length accesses
