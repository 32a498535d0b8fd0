use Rattle.std.proofs.Common.{arith}
use Rattle.std.proofs.lemmas.Grind.{common_steps}
use Rattle.sequence_rules.specs.Calls.{guarded_rest}
use Rattle.sequence_rules.specs.Direct.{direct}
use Rattle.sequence_rules.specs.Values.{stored_value}
use Rattle.sequence_meaning.proofs.FrameLemmas.{keeps_before}
use Rattle.sequence_meaning.proofs.runner.DirectRunner.define.Goals as goal

pub returns : goal.returns
unfolding stored_value guarded_rest direct
returns g c = record {
  gives = λ known knows. grind (arith, common_steps);
  keeps = keeps_before c.evaluate.ensures.keeps (c.store.ensures.keeps _);
  cause = c.in_ok-number.ensures.cause;
}
