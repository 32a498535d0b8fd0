use Rattle.std.proofs.Common.{refl, arith}
use Rattle.faults_tool.specs.Asked.{warned}
use Rattle.faults_tool.proofs.asking.list_of.Goals as goal

pub returns-in-Ok : goal.returns-in-Ok
returns-in-Ok c = warned c.in-Ok.warnings (grind arith) c.in-Ok.ensures.answer refl
