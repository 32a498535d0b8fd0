use Rattle.access_regs.proofs.LeadLemmas.{leads_are_good}
use Rattle.access_regs.proofs.laws.leads_of_forgiving_units.Goals as goal

pub returns-clause-leads : goal.returns-clause-leads
returns-clause-leads c = leads_are_good
