use Rattle.access_regs.proofs.EntryLemmas.{journal_grows, journal_marks}
use Rattle.access_regs.proofs.UnitLemmas.{units_in_range}
use Rattle.access_regs.proofs.laws.entries_of_calls.Goals as goal

pub returns-clause-grows : goal.returns-clause-grows
returns-clause-grows c = journal_grows

pub returns-clause-marks : goal.returns-clause-marks
returns-clause-marks c = journal_marks

pub returns-clause-units : goal.returns-clause-units
returns-clause-units c = units_in_range
