use Rattle.target_calls.proofs.EntryLemmas.{fault_append, fault_first, none_pass, pass_before, pass_none}
use Rattle.target_calls.proofs.laws.entries.passing_entries.Goals as goal

pub returns-clause-none : goal.returns-clause-none
returns-clause-none c = pass_none

pub returns-clause-all : goal.returns-clause-all
returns-clause-all c = none_pass

pub returns-clause-first : goal.returns-clause-first
returns-clause-first c = fault_first

pub returns-clause-before : goal.returns-clause-before
returns-clause-before c = pass_before

pub returns-clause-later : goal.returns-clause-later
returns-clause-later c = fault_append
