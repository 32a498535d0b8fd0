-- Need points: the moments at which all that was asked has to be made before a run can go on.
use Rattle.std.specs.Prelude.{ℕ, zero, suc, ◌+◌, ◌-◌, ◌^◌, min, if◌then◌else◌, nat_lt, List, [], ◌∷◌, ◌++◌, length}
use Rattle.target_machine.specs.State.{TargetState}
use Rattle.target_calls.specs.Asks.{settled_last}
use Rattle.target_calls.specs.declared.calls.Ask.{Ask}
use Rattle.target_calls.specs.declared.calls.Slot.{Slot}
use Rattle.target_machine.specs.Lines.{grown_counter}

-- How many need points a call makes by itself: before it counts as asked, and after.
pub record Cost : Type 0 where
  pub before : ℕ
  pub after : ℕ

-- How many a call makes that is asked after others, from a target.
abbrev pub Costs : Type 0
Costs = TargetState → List Ask → Ask → Cost

-- What was asked so far, how many need points there were, and how many calls had been asked at the last of them.
pub record Asks : Type 0 where
  pub calls : List Ask
  pub needs : ℕ
  pub fence : ℕ

-- nothing was asked
abbrev pub nothing_asked : Asks
nothing_asked = record { calls = []; needs = 0; fence = 0 }

-- so many need points come now
abbrev pub needed_more : ℕ → Asks → Asks
needed_more zero asks = asks
needed_more (suc more) asks = record asks { needs = grown_counter asks.needs (suc more); fence = length asks.calls }

-- one need point comes now
abbrev pub asks_at_need : Asks → Asks
asks_at_need asks = needed_more 1 asks

-- The value of a slot is used: a need point, where its call was asked after the last one.
abbrev pub asks_at_use : Slot → Asks → Asks
asks_at_use slot asks = if nat_lt slot.index asks.fence then asks else asks_at_need asks

-- one more call is asked
abbrev pub with_call : Ask → Asks → Asks
with_call ask asks = record asks { calls = asks.calls ++ ask ∷ [] }

-- One more call is asked, which makes these need points.
abbrev pub asks_with_call : Cost → Ask → Asks → Asks
asks_with_call cost ask asks = needed_more cost.after (with_call ask (needed_more cost.before asks))

-- a `finish` is made after the last call
abbrev pub asks_at_finish : Asks → Asks
asks_at_finish asks = record asks { calls = settled_last asks.calls }
