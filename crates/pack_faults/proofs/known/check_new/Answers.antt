use Rattle.pack_faults.proofs.known.check_new.Goals as goal

pub returns-clause-found : goal.returns-clause-found
returns-clause-found c = record { faults = c.in_ok-found.ensures.answer; distinct = c.requires }
