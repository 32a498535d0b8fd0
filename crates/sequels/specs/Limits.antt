-- A sequel of which only so many calls are answered, and calls that go on from others.
use Rattle.std.specs.Prelude.{◌≡◌, ◌⊎◌, ℕ, ◌+◌, ◌≤◌, List, ◌++◌, length, Some, None}
use Rattle.target_calls.specs.Asks.{settled_last}
use Rattle.target_calls.specs.World.{World}
use Rattle.target_calls.specs.declared.calls.Ask.{Ask}
use Rattle.sequels.specs.Sequel.{Comes}

-- the same world with so many further calls answered
abbrev pub limited_world : World → ℕ → World
limited_world w m = record { target = w.target; large = w.large; answered = Some m }

-- all calls are answered
pub record SameWithin {X : Type 0} (m : ℕ) (whole short : Comes X) : Type 0 where
  pub few : length whole.calls ≤ m
  pub same : short ≡ whole

-- call m + 1 is not, and what comes before it is the same
pub record CutShort {X : Type 0} (m : ℕ) (whole short : Comes X) : Type 0 where
  pub none : short.end ≡ None
  pub count : length short.calls ≡ m + 1
  pub more : List Ask
  pub calls : whole.calls ≡ short.calls ++ more
  pub further : List ℕ
  pub written : whole.written ≡ short.written ++ further

-- a sequel is the same where m calls are answered, or it is cut at call m + 1
abbrev pub IsLimited : {X : Type 0} → ℕ → Comes X → Comes X → Type 0
IsLimited m whole short = SameWithin m whole short ⊎ CutShort m whole short

-- These calls go on from those, with or without a `finish` between.
pub record GoesOnFrom (calls all : List Ask) : Type 0 where
  pub more : List Ask
  pub so : (all ≡ calls ++ more) ⊎ (all ≡ settled_last calls ++ more)
