use Rattle.std.proofs.Common.{◌<◌, ◌≤◌, arith}
use Rattle.code_check.specs.declared.fault.FaultKind.TheVariants as k
use Rattle.seq_check.proofs.ControlLemmas.{form_where, form_where_not}
use Rattle.seq_check.proofs.controls.timeout_fault.Goals as goal

pub returns-in-Some : goal.returns-in-Some
returns-in-Some c = rw (c.in-Some.is, c.form_fault.ensures) (form_where (60000000 < c.in-Some.timeout) k.TimeoutTooLong c.if-timeout-gt-LONGEST_TIMEOUT.true)

pub returns-in_default : goal.returns-in_default
returns-in_default c = rw c.in-Some.is (form_where_not (60000000 < c.in-Some.timeout) k.TimeoutTooLong (λ h. (let low : c.in-Some.timeout ≤ 60000000 = c.if-timeout-gt-LONGEST_TIMEOUT.false in omega arith)))
