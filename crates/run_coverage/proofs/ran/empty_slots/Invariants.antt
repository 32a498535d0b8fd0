use Rattle.std.proofs.Common.{ℕ, Bool, List}
use Rattle.std.specs.List.{AllPass}
use Rattle.run_coverage.specs.Ran.{is_had}
use Rattle.run_coverage.proofs.ran.empty_slots.Given as goal

abbrev pub invariant-loop : goal.invariant-loop
invariant-loop l = (has : List ℕ → Bool) → AllPass (is_had has) l.slots.items
