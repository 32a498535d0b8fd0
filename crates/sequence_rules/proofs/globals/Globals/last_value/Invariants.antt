use Rattle.sequence_rules.proofs.globals.Globals.last_value.Given as goal

abbrev pub decreases-loop-index : goal.decreases-loop-index
decreases-loop-index g l = l.index
