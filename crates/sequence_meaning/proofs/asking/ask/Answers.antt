use Rattle.std.proofs.Common.{arith, refl}
use Rattle.std.proofs.lemmas.Grind.{common_steps}
use Rattle.target_calls.specs.Asks.{unit_ask}
use Rattle.sequence_rules.specs.Calls.{ask, counted_answer}
use Rattle.sequence_rules.specs.Direct.{direct, made_call}
use Rattle.sequence_meaning.proofs.StopLemmas.{one_made}
use Rattle.sequence_meaning.proofs.asking.ask.Goals as goal

pub returns-in-Answered-clause-runs : goal.returns-in-Answered-clause-runs
unfolding ask counted_answer direct made_call
returns-in-Answered-clause-runs c = record {
  gives = λ written. grind (arith, common_steps);
  keeps = record { on = λ w was. record { world = one_made w c.args.held.now.calls _ c.args.target.now _ c.args.held.now.large.items _ (unit_ask c.args.unit c.args.forgive) _ was.world c.in-Ok.ensures.added c.in-Ok-call_at_once.ensures.answer } };
  cause = λ faults. refl;
}

pub returns-in-Skipped-clause-runs : goal.returns-in-Skipped-clause-runs
unfolding ask counted_answer direct made_call
returns-in-Skipped-clause-runs c = record {
  gives = λ written. grind (arith, common_steps);
  keeps = record { on = λ w was. record { world = one_made w c.args.held.now.calls _ c.args.target.now _ c.args.held.now.large.items _ (unit_ask c.args.unit c.args.forgive) _ was.world c.in-Ok.ensures.added c.in-Ok-call_at_once.ensures.answer } };
  cause = λ faults. refl;
}

pub returns-in-Faulted-clause-runs : goal.returns-in-Faulted-clause-runs
unfolding ask counted_answer direct made_call
returns-in-Faulted-clause-runs c = record {
  gives = λ written. grind (arith, common_steps);
  keeps = record { on = λ w was. record { world = one_made w c.args.held.now.calls _ c.args.target.now _ c.args.held.now.large.items _ (unit_ask c.args.unit c.args.forgive) _ was.world c.in-Ok.ensures.added c.in-Ok-call_at_once.ensures.answer } };
  cause = λ faults. refl;
}

pub returns-in-Small-clause-runs : goal.returns-in-Small-clause-runs
unfolding ask counted_answer direct made_call
returns-in-Small-clause-runs c = record {
  gives = λ written. grind (arith, common_steps);
  keeps = record { on = λ w was. record { world = one_made w c.args.held.now.calls _ c.args.target.now _ c.args.held.now.large.items _ (unit_ask c.args.unit c.args.forgive) _ was.world c.in-Ok.ensures.added c.in-Ok-call_at_once.ensures.answer } };
  cause = λ faults. refl;
}
