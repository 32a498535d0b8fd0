use Rattle.std.proofs.Common.{◌∙◌, ap}
use Rattle.expr_grammar.specs.Tree.{code_trees}
use Rattle.sequence_trees.specs.SetView.{set_trees}
use Rattle.seq_check.specs.Views.{held_view}
use Rattle.seq_check.proofs.CheckLemmas.{held_first, set_first}
use Rattle.seq_check.proofs.sets.set_fault.Goals as goal

pub returns-in-Some : goal.returns-in-Some
returns-in-Some c =
    held_first (set_trees c.args.set.now) c.in_ok-names.names c.args.sequences.now (code_trees c.as_slice.result.now) (held_view c.in-Some.faulty) c.in_ok-names.ensures c.requires
    (ap code_trees c.as_slice.ensures ∙ c.debugvars.ensures) (rw c.in-Some.is at c.in_ok-faulty.ensures.first)

pub returns : goal.returns
returns c =
    set_first (set_trees c.args.set.now) c.in_ok-names.names c.args.sequences.now c.debugvars_fault.new.names (code_trees c.as_slice.result.now) c.sequences_fault.result c.in_ok-names.ensures c.requires
    (ap code_trees c.as_slice.ensures ∙ c.debugvars.ensures) c.in_ok-faulty.ensures.names (rw c.in_default.is at c.in_ok-faulty.ensures.first) c.sequences_fault.ensures
