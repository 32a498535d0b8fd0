-- The outcome of a run that is over has the calls and the lines of its last state.
use Rattle.std.proofs.Common.{◌≡◌, ℕ, refl}
use Rattle.sequence_rules.specs.Direct.{Now}
use Rattle.sequence_rules.specs.Machine as machine
use Rattle.sequence_rules.specs.Machine.{Over, State}
use Rattle.sequence_rules.specs.Runs.{outcome_over}

pub over_calls : (e : Over) (s : State ℕ Now) → (outcome_over e s).calls ≡ s.rest.calls
over_calls (machine.Halted cause) s = refl
over_calls (machine.Faulted call) s = refl
over_calls machine.Unanswered s = refl
over_calls machine.Lost s = refl

pub over_written : (e : Over) (s : State ℕ Now) → (outcome_over e s).written ≡ s.rest.written
over_written (machine.Halted cause) s = refl
over_written (machine.Faulted call) s = refl
over_written machine.Unanswered s = refl
over_written machine.Lost s = refl
