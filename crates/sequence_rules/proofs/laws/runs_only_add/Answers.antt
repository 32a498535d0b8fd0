use Rattle.sequence_rules.specs.Direct.{direct}
use Rattle.sequence_rules.specs.Late.{late, Later}
use Rattle.sequence_rules.specs.Laws.{Adds}
use Rattle.sequence_rules.proofs.Adding.{adds_direct}
use Rattle.sequence_rules.proofs.Goes.{goes_run_of}
use Rattle.sequence_rules.proofs.LateLemmas.{steady_late}
use Rattle.sequence_rules.proofs.laws.runs_only_add.Goals as goal

pub returns-clause-direct : goal.returns-clause-direct
returns-clause-direct c = λ watchful turn_us set start s. goes_run_of (direct watchful) Adds (adds_direct watchful) turn_us set start s

pub returns-clause-late : goal.returns-clause-late
returns-clause-late c = λ cost w turn_us set start s. goes_run_of (late cost w) (Later w) (steady_late cost w) turn_us set start s
