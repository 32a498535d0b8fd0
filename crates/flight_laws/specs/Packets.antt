-- How few starting packets an access sends.
use Rattle.std.specs.Prelude.{◌≡◌, ℕ, ◌+◌, ◌-◌, ◌*◌, ◌/◌, ◌^◌, ◌<◌, ◌≤◌, Bool, true, false, not, ◌&&◌, ◌==◌, List, [], ◌∷◌, ◌++◌, length, sum_by, None}
use Rattle.target_machine.specs.Plain.{Action, Makes, Polls, Commands}
use Rattle.target_machine.specs.Registers.{drw_register}
use Rattle.target_machine.specs.declared.access.RegAccess.{RegAccess}
use Rattle.probe_core.specs.Bench.{BenchState}
use Rattle.target_machine.specs.Counts.{one_if}
use Rattle.target_calls.specs.Journal.{Entry, actions_in}
use Rattle.target_calls.specs.Weights.{registers_in}
use Rattle.target_calls.specs.declared.calls.Ask.{Ask}
use Rattle.target_machine.specs.State.{TargetState}
use Rattle.access_regs.specs.Journal.{issued_entries, making}
use Rattle.access_regs.specs.declared.planner.Planner.{Planner}
use Rattle.probe_core.specs.declared.job.Limits.{Limits}
use Rattle.flight_forms.specs.Forms.{all_write_drw, form_of}
use Rattle.access_calls.specs.Bounds.{starting_since}
use Rattle.access_calls.specs.Bounds as bounds
use Rattle.probe_core.specs.Ranges.{AreLimits}
use Rattle.access_calls.specs.Reported.{AccessView, Beginning}
use Rattle.target_machine.specs.Lines.{grown_counter}

-- Each starting packet is one of the three of the opening, one at a need point, or one of so many flights that were sent because there was no
-- room. These had at least the capacity of accesses each.
pub record IsSparing (full capacity needs : ℕ) (made : List Entry) (b : Beginning) (m : BenchState) : Type 0 where
  pub some : 0 < capacity
  pub few : starting_since b m ≤ 3 + needs + full
  pub filled : full * capacity ≤ registers_in made

-- So the starting packets keep their bound.
abbrev pub FewPackets : Type 0
FewPackets = (full capacity needs : ℕ) (made more : List Entry) (b : Beginning) (m : BenchState) → IsSparing full capacity needs made b m →
    starting_since b m ≤ 3 + needs + registers_in (made ++ more) / capacity

-- One more flight was sent because there was no room, by one starting packet.
abbrev pub FullFlight : Type 0
FullFlight = (full capacity needs : ℕ) (made flying : List Entry) (accesses : List RegAccess) (b : Beginning) (m o : BenchState) →
    IsSparing full capacity needs made b m → actions_in flying ≡ making accesses → capacity ≤ length accesses →
    starting_since b o ≤ starting_since b m + 1 → IsSparing (full + 1) capacity needs (made ++ flying) b o

-- Need points came, and no more starting packets than these. Both counts stop at 2^64 - 1.
abbrev pub NeedPoint : Type 0
NeedPoint = (full capacity needs more : ℕ) (made flying : List Entry) (b : Beginning) (m o : BenchState) → IsSparing full capacity needs made b m →
    starting_since b o ≤ starting_since b m + more → o.starting < 2 ^ 64 → IsSparing full capacity (grown_counter needs more) (made ++ flying) b o

-- ---- blocks of writes

-- the action is a write of DRW
abbrev pub is_drw_write : Action → Bool
is_drw_write (Makes a) = a.ap && (not a.read && (a.addr == drw_register))
is_drw_write (Polls mask value turns) = false
is_drw_write (Commands c) = false

-- how many of these entries are such writes
abbrev pub drw_writes_in : List Entry → ℕ
drw_writes_in entries = sum_by (λ (e : Entry). one_if (is_drw_write e.action)) entries

-- Each starting packet is one of the three of the opening, one at a need point, or one of a flight that was sent because there was no room. The
-- first of these flights has a write of DRW, where there was one. The settling may have split one. Each of so many others has a block of such
-- writes.
pub record IsBlockwise (full block needs : ℕ) (first split : Bool) (made : List Entry) (b : Beginning) (m : BenchState) : Type 0 where
  pub some : 0 < block
  pub few : starting_since b m ≤ 3 + needs + one_if first + one_if split + full
  pub filled : full * block + one_if first ≤ drw_writes_in made

-- So the starting packets keep their bound for writes, with at most two need points.
abbrev pub FewBlocks : Type 0
FewBlocks = (full block needs writes : ℕ) (first split : Bool) (made more : List Entry) (b : Beginning) (m : BenchState) →
    IsBlockwise full block needs first split made b m →
    drw_writes_in (made ++ more) ≤ writes → 0 < writes → needs ≤ 2 → starting_since b m ≤ 6 + (writes + block - 1) / block

-- One more flight was sent because there was no room, by one starting packet: the first, one that the settling splits, or one more.
abbrev pub FirstBlock : Type 0
FirstBlock = (full block needs : ℕ) (split : Bool) (made flying : List Entry) (b : Beginning) (m o : BenchState) → IsBlockwise full block needs false split made b m →
    1 ≤ drw_writes_in flying → starting_since b o ≤ starting_since b m + 1 → IsBlockwise full block needs true split (made ++ flying) b o

-- One more flight was sent because there was no room: the settling splits its block of writes.
abbrev pub SplitBlock : Type 0
SplitBlock = (full block needs : ℕ) (first : Bool) (made flying : List Entry) (b : Beginning) (m o : BenchState) → IsBlockwise full block needs first false made b m →
    starting_since b o ≤ starting_since b m + 1 → IsBlockwise full block needs first true (made ++ flying) b o

-- it has a block of writes
abbrev pub NextBlock : Type 0
NextBlock = (full block needs : ℕ) (first split : Bool) (made flying : List Entry) (b : Beginning) (m o : BenchState) →
    IsBlockwise full block needs first split made b m →
    block ≤ drw_writes_in flying → starting_since b o ≤ starting_since b m + 1 → IsBlockwise (full + 1) block needs first split (made ++ flying) b o

-- need points came
abbrev pub NeedBlock : Type 0
NeedBlock = (full block needs more : ℕ) (first split : Bool) (made flying : List Entry) (b : Beginning) (m o : BenchState) →
    IsBlockwise full block needs first split made b m →
    starting_since b o ≤ starting_since b m + more → o.starting < 2 ^ 64 → IsBlockwise full block (grown_counter needs more) first split (made ++ flying) b o

-- No call issues more than one write of DRW.
abbrev pub WritesAreFew : Type 0
WritesAreFew = (p : Planner) (t : TargetState) (asks : List Ask) → drw_writes_in (issued_entries p t asks) ≤ length asks

-- ---- the bounds of an access

-- flights of some numbers, by which the starting packets are few
pub record SomeSparing (capacity needs : ℕ) (made : List Entry) (b : Beginning) (m : BenchState) : Type 0 where
  pub full : ℕ
  pub so : IsSparing full capacity needs made b m

-- flights of some numbers, by which they are few for writes
pub record SomeBlockwise (block needs : ℕ) (made : List Entry) (b : Beginning) (m : BenchState) : Type 0 where
  pub full : ℕ
  pub first : Bool
  pub split : Bool
  pub so : IsBlockwise full block needs first split made b m

-- The starting packets of an access are few by its flights; and so they are for writes, where all its calls are such writes.
pub record IsSparingAccess (a : AccessView) (made : List Entry) (b : Beginning) (m : BenchState) : Type 0 where
  pub sparing : SomeSparing (bounds.flight_capacity a.bench.limits) a.asks.needs made b m
  pub blocks : (size ap address : ℕ) → bounds.AreNextWrites (address / 1024) size ap address a.asks.calls → address < 2 ^ 32 → a.asks.needs ≤ 2 →
      SomeBlockwise (bounds.block_words a.bench.limits) a.asks.needs made b m

-- So the bounds of the contract of accesses are kept.
abbrev pub SparingKeeps : Type 0
SparingKeeps = (p : Planner) (t : TargetState) (a : AccessView) (made more : List Entry) (b : Beginning) (m : BenchState) →
    issued_entries p t a.asks.calls ≡ made ++ more → IsSparingAccess a made b m →
    bounds.KeepsBounds (issued_entries p t a.asks.calls) a b m
