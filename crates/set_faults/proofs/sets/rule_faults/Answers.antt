use Rattle.set_faults.proofs.SetLemmas.{rules_of}
use Rattle.sequence_trees.specs.SetView.{set_trees}
use Rattle.set_faults.proofs.sets.rule_faults.Goals as goal

pub returns : goal.returns
returns c =
    rules_of (set_trees c.args.set.now) c.in_ok-names.names c.args.sequences.now c.add_debugvars.new.names c.new-found.result c.add_debugvars.new.found c.add_sequences.new.found c.in_ok-names.ensures c.requires
    c.in_ok-add_debugvars.ensures.names c.new-found.ensures c.in_ok-add_debugvars.ensures.list c.in_ok-add_sequences.ensures
