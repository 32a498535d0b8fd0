use Rattle.std.proofs.Common.{◌∙◌}
use Rattle.sequence_rules.specs.Locals.{locals_of}
use Rattle.sequence_rules.proofs.LoopLemmas.{back}
use Rattle.logged_runs.specs.Walk.{now}
use Rattle.logged_runs.proofs.walked.Walked.give_back.Goals as goal

pub returns : goal.returns
returns c = record {
  state = λ t. back (now c.args.self.now t) _ _ _ _ c.args.dp c.args.ap c.args.control (locals_of c.args.locals) (c.set_global.ensures.state t) (c.set_global-2.ensures.state t) (c.set_global-3.ensures.state t) (c.set_locals.ensures.state t);
  seen = c.set_locals.ensures.seen ∙ c.set_global-3.ensures.seen ∙ c.set_global-2.ensures.seen ∙ c.set_global.ensures.seen;
}
