use Rattle.std.proofs.Common.{arith}
use Rattle.sequence_trees.specs.SetView.{set_trees}
use Rattle.seq_check.proofs.CheckLemmas.{distinct_names}
use Rattle.set_warnings.proofs.SetLemmas.{only_list, read_list, faulty_list, only_faulty}
use Rattle.set_warnings.proofs.sets.set_warnings.Goals as goal

pub returns-then-not-branch-clause-answer : goal.returns-then-not-branch-clause-answer
returns-then-not-branch-clause-answer c = faulty_list c.args.set.now c.new.result (c.in_ok-is_valid.ensures.faulty (grind arith)) c.new.ensures

pub returns-then-not-branch-clause-only : goal.returns-then-not-branch-clause-only
returns-then-not-branch-clause-only c = only_faulty c.args.set.now c.new.result (c.in_ok-is_valid.ensures.faulty (grind arith)) c.new.ensures

pub sequences_warnings-requires : goal.sequences_warnings-requires
sequences_warnings-requires c = distinct_names c.args.set.now (set_trees c.in-Ok.read) c.in-Ok.ensures.answer c.requires

pub returns-in-Ok-clause-answer : goal.returns-in-Ok-clause-answer
returns-in-Ok-clause-answer c =
    read_list c.args.set.now (set_trees c.in-Ok.read) c.sequences_warnings.result c.in-Ok.ensures.answer (c.in_ok-is_valid.ensures.valid (grind arith)) (rw c.as_slice.ensures at c.sequences_warnings.ensures)

pub returns-in-Ok-clause-only : goal.returns-in-Ok-clause-only
returns-in-Ok-clause-only c =
    only_list c.args.set.now c.sequences_warnings.result
    (read_list c.args.set.now (set_trees c.in-Ok.read) c.sequences_warnings.result c.in-Ok.ensures.answer (c.in_ok-is_valid.ensures.valid (grind arith)) (rw c.as_slice.ensures at c.sequences_warnings.ensures))
