use Rattle.target_machine.proofs.ActionLists.{after_issued, issued_pass}
use Rattle.target_machine.proofs.laws.lists.what_is_issued.Goals as goal

pub returns-clause-after : goal.returns-clause-after
returns-clause-after c t xs = after_issued xs t

pub returns-clause-all : goal.returns-clause-all
returns-clause-all c t xs good = let h = issued_pass xs t good in h.0

pub returns-clause-pass : goal.returns-clause-pass
returns-clause-pass c t xs good = let h = issued_pass xs t good in h.1
