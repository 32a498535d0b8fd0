use Rattle.std.proofs.Common.{sym}
use Rattle.expr_grammar.specs.Tree.{tree}
use Rattle.sequence_rules.proofs.PollLemmas.{no_poll}
use Rattle.sequence_rules.proofs.polls.poll_of.Goals as goal

pub returns-in_default : goal.returns-in_default
returns-in_default c = sym (no_poll (tree c.args.expr.now) c.args.steps.now c.in_default.len_at_least)
