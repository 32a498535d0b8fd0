use Rattle.std.proofs.lemmas.Result.{IfOk-weaker}
use Rattle.fault_lines.proofs.Joined.{three}
use Rattle.fault_lines.proofs.counts.with_checked.Goals as goal

pub returns : goal.returns
returns c = IfOk-weaker c.with_counted-3.result _ _ (λ l added. three _ _ _ _ _ _ _ c.in_ok-line.ensures c.in_ok-line-2.ensures added) c.with_counted-3.ensures
