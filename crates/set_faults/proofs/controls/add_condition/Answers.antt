use Rattle.set_faults.proofs.AddLemmas.{adds_nowhere}
use Rattle.set_faults.proofs.controls.add_condition.Goals as goal

pub returns-in-None : goal.returns-in-None
returns-in-None c = rw c.in-None.is (adds_nowhere c.args.found.now)
