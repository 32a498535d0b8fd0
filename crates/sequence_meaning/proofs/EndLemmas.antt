-- The outcome of a run, as the code comes to its end.
use Rattle.std.proofs.Common.{◌≡◌, ℕ, List, [], Ok, Err, sym, ap, ◌∙◌}
use Rattle.target_machine.specs.declared.unit.Call.TheVariants.{Access}
use Rattle.target_machine.specs.declared.unit.HaltCause.{HaltCause}
use Rattle.target_machine.specs.declared.unit.Unit.{Unit as AccessUnit}
use Rattle.sequence_rules.specs.declared.bindings.Binding.{Binding}
use Rattle.sequence_rules.specs.Direct.{Now}
use Rattle.sequence_rules.specs.Machine as machine
use Rattle.sequence_rules.specs.Machine.{State, Out, end_state}
use Rattle.sequence_rules.specs.Runs as ending
use Rattle.sequence_rules.specs.Runs.{Outcome, outcome_at, outcome_of, units_of}

O : Type 0
O = Out ℕ Now (Unit {0})

pub done_is : (s : State ℕ Now) (out : Out ℕ Now (Unit {0})) (vs : List (Binding ℕ)) → out ≡ Ok (tt, s) → vs ≡ s.globals → outcome_of out ≡ outcome_at ending.Done vs s.rest
done_is s out vs h k = ap outcome_of h ∙ ap (λ g. outcome_at ending.Done g s.rest) (sym k)

pub halted_is : (s : State ℕ Now) (out : Out ℕ Now (Unit {0})) (cause : HaltCause) (vs : List (Binding ℕ)) → out ≡ Err (machine.Halted cause, s) → vs ≡ s.globals → outcome_of out ≡ outcome_at (ending.Halted cause) vs s.rest
halted_is s out cause vs h k = ap outcome_of h ∙ ap (λ g. outcome_at (ending.Halted cause) g s.rest) (sym k)

pub faulted_is : (s : State ℕ Now) (out : Out ℕ Now (Unit {0})) (what : AccessUnit) → out ≡ Err (machine.Faulted (Access what), s) → (end_state out).units ≡ units_of (outcome_of out)
    → (outcome_of out ≡ outcome_at (ending.Faulted (Access what)) [] s.rest) × (s.units ≡ units_of (outcome_of out))
faulted_is s out what h k = (ap outcome_of h, sym (ap (λ (o : Out ℕ Now (Unit {0})). (end_state o).units) h) ∙ k)
