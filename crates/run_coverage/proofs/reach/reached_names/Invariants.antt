use Rattle.std.proofs.Common.{◌≡◌}
use Rattle.seq_check.specs.Answers.{checked_trees}
use Rattle.run_coverage.specs.Reach.{reached_sequences}
use Rattle.run_coverage.proofs.reach.reached_names.Given as goal

abbrev pub invariant-loop : goal.invariant-loop
invariant-loop l = l.names ≡ reached_sequences (checked_trees l.checked) l.counter l.start
