use Rattle.logged_calls.proofs.PollLemmas.{timed_out, matched}
use Rattle.logged_calls.proofs.asking.note_end.Goals as goal

pub returns-then-value-eq0 : goal.returns-then-value-eq0
returns-then-value-eq0 c = λ spot. timed_out c.time_out.result spot c.args.turns c.args.value c.args.log.now c.time_out.new.self c.if-value-eq0.true (c.time_out.ensures spot)

pub returns-else-value-eq0 : goal.returns-else-value-eq0
returns-else-value-eq0 c = λ spot. matched c.end_poll.result spot c.args.turns c.args.value c.args.log.now c.end_poll.new.self c.if-value-eq0.false (c.end_poll.ensures spot)
