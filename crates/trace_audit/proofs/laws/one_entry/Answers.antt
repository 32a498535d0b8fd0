use Rattle.trace_audit.proofs.TextLemmas.{entry_of_test, one_list, test_of_entry}
use Rattle.trace_audit.proofs.laws.one_entry.Goals as goal

pub returns-clause-entry : goal.returns-clause-entry
returns-clause-entry c = entry_of_test

pub returns-clause-test : goal.returns-clause-test
returns-clause-test c = test_of_entry

pub returns-clause-entries : goal.returns-clause-entries
returns-clause-entries c = one_list
