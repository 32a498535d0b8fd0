use Rattle.code_check.specs.declared.fault.FaultKind.TheVariants as k
use Rattle.seq_check.proofs.ControlLemmas.{form_where}
use Rattle.seq_check.proofs.controls.loop_fault.Goals as goal

pub returns-in-Some-None : goal.returns-in-Some-None
returns-in-Some-None c = rw (c.in-Some-None.is-0, c.in-Some-None.is-1, c.form_fault.ensures) (form_where (Unit {0}) k.UnboundedLoop tt)
