use Rattle.std.proofs.lemmas.Result.{IfOk-weaker}
use Rattle.log_tool.proofs.log.run_of.Goals as goal

pub returns-clause-run : goal.returns-clause-run
returns-clause-run c =
    IfOk-weaker c.run_logged.result _ _ (λ run is. (c.run_logged.new.target, is)) (rw (c.as_str-sequence.ensures, c.in_ok-target.ensures) at c.run_logged.ensures.answer)
