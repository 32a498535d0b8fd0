-- What a run holds, as a state of the meaning with results that come later.
use Rattle.std.specs.Prelude.{ℕ, Bool, List, Option}
use Rattle.target_calls.specs.declared.calls.Value.{Value}
use Rattle.target_calls.specs.NeedPoints.{Asks}
use Rattle.sequence_rules.specs.declared.bindings.Binding.{Binding}
use Rattle.sequence_rules.specs.Known.{known_part}
use Rattle.sequence_rules.specs.Late.{Late, late_of}
use Rattle.sequence_rules.specs.Locals.{locals_of}
use Rattle.sequence_rules.specs.Machine.{State}
use Rattle.sequence_rules.specs.Shared.{bindings_of}
use Rattle.function_calls.specs.declared.held.Held.{Held}

-- a state with these variables and counts, of which this was asked and written
abbrev pub state_with : List (Binding Value) → List (Binding Value) → ℕ → ℕ → ℕ → Asks → Option (List ℕ) → State Value Late
state_with globals locals units lines steps asks written =
    record { globals = globals; locals = locals; units = units; lines = lines; steps = steps; rest = late_of asks written }

-- the state of a run that holds this, of which this was asked and written
abbrev pub late_state_of : Held → Asks → Option (List ℕ) → State Value Late
late_state_of held asks written = state_with (bindings_of held.globals.variables) (locals_of held.locals) held.units held.lines held.steps asks written

-- the same, with what was written where it is asked for
abbrev pub late_state_seen : Bool → Held → Asks → Option (List ℕ) → State Value Late
late_state_seen known held asks written = late_state_of held asks (known_part known written)
