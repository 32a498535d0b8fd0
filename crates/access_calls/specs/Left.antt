-- How many calls are answered, as far as an access shows it.
use Rattle.std.specs.Prelude.{◌≡◌, ℕ, Option, Some, None}
use Rattle.target_calls.specs.World.{AtLeast}
use Rattle.access_calls.specs.Reported.{AccessView}
use Rattle.access_calls.specs.declared.stop.Stop.{Stop}
use Rattle.access_calls.specs.declared.stop.Stop.TheVariants.{Cut}
use Rattle.access_calls.specs.declared.stop.StopCause.{StopCause}
use Rattle.access_calls.specs.declared.stop.StopCause.TheVariants.{Faulted, NoAnswer}

-- after an ended retry exactly the calls are answered whose lines come before it; after a fault at least those that came
abbrev pub IsLeftCut : StopCause → ℕ → ℕ → Option ℕ → Type 0
IsLeftCut Faulted lines came answered = AtLeast came answered
IsLeftCut NoAnswer lines came answered = answered ≡ Some lines

-- by its end, so many calls may still be answered in a world that is left
abbrev pub IsLeftAt : Option Stop → ℕ → ℕ → Option ℕ → Type 0
IsLeftAt (Some (Cut r)) lines came answered = IsLeftCut r.cause lines came answered
IsLeftAt other lines came answered = AtLeast came answered

-- By what the access reports, so many calls may be answered: at least those that came, and after an ended retry exactly those
-- whose lines come before it.
pub record IsLeft (a : AccessView) (answered : Option ℕ) : Type 0 where
  pub so : IsLeftAt a.end a.lines a.came answered

-- after an ended retry so many calls are answered, and after a fault all may be
abbrev pub answered_cut : StopCause → ℕ → Option ℕ
answered_cut Faulted lines = None
answered_cut NoAnswer lines = Some lines

-- the same by the end of an access: without an ended retry all calls may be answered
abbrev pub answered_at_end : Option Stop → ℕ → Option ℕ
answered_at_end (Some (Cut r)) lines = answered_cut r.cause lines
answered_at_end other lines = None

-- How many calls are answered, as a caller takes it at its end: all, or after an ended retry those whose lines come before it.
abbrev pub answered_by : AccessView → Option ℕ
answered_by a = answered_at_end a.end a.lines
