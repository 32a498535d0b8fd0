use Rattle.std.proofs.Common.{◌≡◌, arith, nat_eq, refl, true}
use Rattle.std.proofs.lemmas.Grind.{common_steps}
use Rattle.sequence_rules.specs.Steps.{dropped_value, poll_result, poll_result_at}
use Rattle.sequence_meaning.proofs.FrameLemmas.{made_on, stopped_caused, stopped_means}
use Rattle.sequence_meaning.proofs.StopLemmas.{poll_ask, poll_first}
use Rattle.sequence_meaning.proofs.controls.run_poll.Goals as goal

pub returns-in_err-count_step : goal.returns-in_err-count_step
returns-in_err-count_step c =
    let counts = c.in_err-count_step.ensures c.args.target.now in record {
      gives = λ written. stopped_means _ _ _ _ c.from_residual.ensures.0 (poll_first c.count_step.new.held.end _ _ (c.args.mask, c.args.requested) c.args.count (counts.gives written));
      keeps = counts.keeps;
      cause = λ faults. stopped_caused _ _ _ _ c.from_residual.ensures.0 (counts.cause faults);
    }

pub returns-then-debug_port-ne0 : goal.returns-then-debug_port-ne0
unfolding poll_result poll_result_at
returns-then-debug_port-ne0 c =
    let counts = c.in_ok-count_step.ensures c.args.target.now in record {
      gives = λ written. grind (arith, common_steps);
      keeps = record { on = λ w made. record { world = (counts.keeps.on w made).world } };
      cause = λ faults. counts.cause faults;
    }

pub returns-in_err-ask : goal.returns-in_err-ask
returns-in_err-ask c =
    let counts = c.in_ok-count_step.ensures c.args.target.now in record {
      gives = λ written.
          let none : nat_eq c.debug_port.result 0 ≡ true = grind arith in
          stopped_means _ _ _ _ c.from_residual-in_err-ask.ensures.0
          (poll_ask c.ask.new.held.end _ _ _ (c.args.mask, c.args.requested) c.args.count c.debug_port.result (counts.gives written) (c.debug_port.ensures _ refl) none (c.in_err-ask.ensures.runs.gives written));
      keeps = made_on counts.keeps c.ask.ensures.runs.keeps;
      cause = λ faults. stopped_caused _ _ _ _ c.from_residual-in_err-ask.ensures.0 (c.in_err-ask.ensures.runs.cause faults);
    }

pub returns : goal.returns
unfolding poll_result poll_result_at dropped_value
returns c =
    let counts = c.in_ok-count_step.ensures c.args.target.now in record {
      gives = λ written. grind (arith, common_steps);
      keeps = made_on counts.keeps c.ask.ensures.runs.keeps;
      cause = λ faults. counts.cause faults;
    }
