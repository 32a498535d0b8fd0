use Rattle.sequence_rules.specs.Locals.{locals_of}
use Rattle.sequence_rules.proofs.LoopLemmas.{back}
use Rattle.function_calls.specs.Held.{late_state_of}
use Rattle.function_calls.proofs.held.Held.give_back.Goals as goal

pub returns-clause-state : goal.returns-clause-state
returns-clause-state c = λ t w. back (late_state_of c.args.self.now t w) _ _ _ _ c.args.dp c.args.ap c.args.control (locals_of c.args.locals) (c.set_dp.ensures.state t w) (c.set_ap.ensures.state t w) (c.set_control.ensures.state t w) (c.set_locals.ensures.state t w)
