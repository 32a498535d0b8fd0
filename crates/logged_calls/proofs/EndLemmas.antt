-- An end goes on outwards.
use Rattle.std.proofs.Common.{ℕ, Bool, true, false, ap}
use Rattle.dap_base.specs.Outcome.{◌>>=◌}
use Rattle.sequence_rules.specs.Calls.{zero_of, if_read}
use Rattle.sequence_rules.specs.Direct.{Now, direct}
use Rattle.sequence_rules.specs.Machine.{State, Out}
use Rattle.logged_calls.specs.declared.held.LoggedEnd.{LoggedEnd}
use Rattle.logged_calls.specs.declared.held.LoggedEnd.TheVariants as end
use Rattle.logged_calls.specs.Held.{CodeEndsAs}

pub ends_on : {A B : Type 0} (e : LoggedEnd) (now : State ℕ Now) (out : Out ℕ Now A) (f : A × State ℕ Now → Out ℕ Now B) → CodeEndsAs e now out → CodeEndsAs e now (out >>= f)
ends_on (end.Halted cause) now out f h = ap (λ o. o >>= f) h
ends_on (end.Faulted u) now out f h = ap (λ o. o >>= f) h
ends_on end.OutOfMemory now out f h = tt

pub ends_zero : (e : LoggedEnd) (now : State ℕ Now) (out : Out ℕ Now ℕ) → CodeEndsAs e now out → CodeEndsAs e now (zero_of (direct false) out)
unfolding zero_of
ends_zero e now out h = ends_on e now out _ h

pub ends_if_read : (e : LoggedEnd) (now : State ℕ Now) (read : Bool) (out : Out ℕ Now ℕ) → CodeEndsAs e now out → CodeEndsAs e now (if_read (direct false) read out)
unfolding if_read
ends_if_read e now true out h = h
ends_if_read e now false out h = ends_zero e now out h
