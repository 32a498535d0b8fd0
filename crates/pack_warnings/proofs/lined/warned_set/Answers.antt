use Rattle.pack_warnings.proofs.lined.warned_set.Goals as goal

pub returns-clause-warned : goal.returns-clause-warned
returns-clause-warned c = record { warnings = c.in_ok-warnings.ensures.answer; distinct = c.requires.distinct }
