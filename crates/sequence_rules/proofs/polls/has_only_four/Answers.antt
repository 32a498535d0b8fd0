use Rattle.std.proofs.Common.{sym, ap}
use Rattle.sequence_rules.specs.Polls.{is_four_arg}
use Rattle.sequence_rules.proofs.PollLemmas.{only_one}
use Rattle.sequence_rules.proofs.polls.has_only_four.Goals as goal

pub returns-in-len2-up : goal.returns-in-len2-up
returns-in-len2-up c = sym (ap is_four_arg (only_one c.args.args.now c.in-len2-up.len_at_least))
