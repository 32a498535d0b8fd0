use Rattle.logged_calls.proofs.PollLemmas.{polled_skipped}
use Rattle.logged_calls.proofs.asking.ask.Goals as goal

pub returns-in-Skipped-clause-polled : goal.returns-in-Skipped-clause-polled
returns-in-Skipped-clause-polled c = λ e. polled_skipped c.args.target.now _ c.args.forgive _ _ _ _ e c.in-Skipped.is c.in-Ok-call_at_once.ensures.answer
