use Rattle.seq_check.specs.Answers.{checked_trees}
use Rattle.run_coverage.proofs.ReachLemmas.{first_reached, next_reached}
use Rattle.run_coverage.proofs.reach.reached_names.Goals as goal

pub loop-init : goal.loop-init
loop-init c = first_reached (checked_trees c.args.checked.now) c.add.new.self c.new-names.result c.args.start.now c.new-names.ensures c.in_ok-add.ensures.ok

pub loop-preserved : goal.loop-preserved
loop-preserved c = next_reached (checked_trees c.args.checked.now) c.loop.names c.go_deeper.new.names c.loop.counter c.args.start.now c.loop.invariant c.in_ok-go_deeper.ensures
