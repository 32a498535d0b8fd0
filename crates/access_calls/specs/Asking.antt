-- The frame of a function that asks calls of an access: when it may be called, and how it ends.
use Rattle.std.specs.Prelude.{◌≡◌, ℕ, ◌+◌, ◌≤◌, false, length, Option, Some, None, Result, Ok, Err}
use Rattle.target_machine.specs.Sound.{IsSound}
use Rattle.target_machine.specs.declared.unit.Unit.{Unit as AccessUnit}
use Rattle.probe_core.specs.Bench.{BenchState}
use Rattle.target_calls.specs.Asks.{is_wide}
use Rattle.access_calls.specs.Keeps.{KeepsAccess}
use Rattle.access_calls.specs.Reported.{AccessView}
use Rattle.access_calls.specs.declared.stop.Stop.{Stop}
use Rattle.access_calls.specs.declared.stop.Stop.TheVariants.{Cut, BenchFault, ReplyBad, OutOfMemory}

-- Calls may be asked: the access has no end, and at most so many calls were asked of it.
pub record MayAsk (most : ℕ) (a : AccessView) : Type 0 where
  pub few : length a.asks.calls ≤ most
  pub no_end : a.end ≡ None

-- So many calls more may be asked: the access has no end, and with them it was asked at most so many calls.
pub record MayAskMore (count most : ℕ) (a : AccessView) : Type 0 where
  pub few : length a.asks.calls + count ≤ most
  pub no_end : a.end ≡ None

-- The unit may be asked, and is no memory access of an address over 0xFFFFFFFF.
pub record IsSoundNarrow (unit : AccessUnit) : Type 0 where
  pub sound : IsSound unit
  pub narrow : is_wide unit ≡ false

-- The end of an access that stopped so. Refused memory is no end.
abbrev pub EndsByStop : Stop → Option Stop → Type 0
EndsByStop (Cut r) end = end ≡ Some (Cut r)
EndsByStop (BenchFault issued confirmed) end = end ≡ Some (BenchFault issued confirmed)
EndsByStop ReplyBad end = end ≡ Some ReplyBad
EndsByStop OutOfMemory end = end ≡ None

-- The access has ended where it stopped, and else it goes on.
abbrev pub EndIs : {T : Type 0} → Result T Stop → Option Stop → Type 0
EndIs (Ok x) end = end ≡ None
EndIs (Err e) end = EndsByStop e end

-- How a function ends that asks calls and has no sink: the access has ended where the answer says so, and else it goes on; and what each
-- call of an access keeps is kept.
pub record EndsAsking {S T : Type 0} (begun : S → BenchState → Type 0) (reported : S → AccessView) (identity : S → ℕ) (result : Result T Stop)
    (old new : S) : Type 0 where
  pub end : EndIs result (reported new).end
  pub keeps : KeepsAccess begun reported identity old new
