-- How few packets an access sends.
use Rattle.std.specs.Prelude.{◌≡◌, ⊤, ℕ, ◌+◌, ◌-◌, ◌*◌, ◌/◌, ◌^◌, ◌<◌, ◌≤◌, Bool, true, false, List, [], ◌∷◌, length, None}
use Rattle.target_machine.specs.declared.unit.Call.TheVariants.{Access}
use Rattle.target_machine.specs.declared.unit.Unit.TheVariants as unit
use Rattle.probe_core.specs.Bench.{BenchState}
use Rattle.probe_core.specs.declared.job.Limits.{Limits}
use Rattle.target_calls.specs.Asks.{is_forgiving}
use Rattle.target_calls.specs.Journal.{Entry}
use Rattle.target_calls.specs.Weights.{registers_in}
use Rattle.target_calls.specs.declared.calls.Ask.{Ask}
use Rattle.access_calls.specs.Reported.{AccessView, Beginning}
use Rattle.access_calls.specs.Standing.{WhereObservable}

-- how many register accesses a flight has at least that is sent because there is no room for one more
abbrev pub flight_capacity : Limits → ℕ
flight_capacity limits = limits.packet_count * ((limits.packet_size - 21) / 6)

-- how many words one block of writes has
abbrev pub block_words : Limits → ℕ
block_words limits = (limits.packet_size - 5) / 4

-- the call writes memory at this address, in this block of 1,024 bytes, and forgives nothing
pub record IsWriteAt (block size ap address : ℕ) (ask : Ask) : Type 0 where
  pub value : ℕ
  pub is : ask.call ≡ Access (unit.Memory size false ap address value)
  pub strict : is_forgiving ask ≡ false
  pub near : address / 1024 ≡ block

-- The calls are such writes of one size on one AP, each at the address after the one before.
abbrev pub AreNextWrites : ℕ → ℕ → ℕ → ℕ → List Ask → Type 0
AreNextWrites block size ap address [] = ⊤
AreNextWrites block size ap address (ask ∷ asks) = IsWriteAt block size ap address ask × AreNextWrites block size ap (address + size) asks

-- how many starting packets were received since the beginning
abbrev pub starting_since : Beginning → BenchState → ℕ
starting_since b m = m.starting - b.state.starting

-- The starting packets are few: at most three for the opening, one for each need point, and k / c for k register accesses. Here a flight holds c
-- of them. Let all calls be writes at neighbouring addresses of one block of 1,024 bytes below 2^32, one at least, with at most two need points.
-- Then there are at most six more than the blocks of writes that hold them.
pub record KeepsBounds (entries : List Entry) (a : AccessView) (b : Beginning) (m : BenchState) : Type 0 where
  pub few : starting_since b m ≤ 3 + a.asks.needs + registers_in entries / flight_capacity a.bench.limits
  pub blocks : (size ap address : ℕ) → 0 < length a.asks.calls → AreNextWrites (address / 1024) size ap address a.asks.calls
      → address < 2 ^ 32 → a.asks.needs ≤ 2
      → starting_since b m ≤ 6 + (length a.asks.calls + block_words a.bench.limits - 1) / block_words a.bench.limits

-- An access that says so keeps these bounds while it has no end.
abbrev pub KeepsBoundsIf : Bool → List Entry → AccessView → Beginning → Type 0
KeepsBoundsIf false entries a b = ⊤
KeepsBoundsIf true entries a b = a.end ≡ None → WhereObservable a.state (λ m. KeepsBounds entries a b m)
