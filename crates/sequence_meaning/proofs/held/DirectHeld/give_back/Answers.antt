use Rattle.sequence_rules.specs.Locals.{locals_of}
use Rattle.sequence_rules.proofs.LoopLemmas.{back}
use Rattle.sequence_meaning.specs.Held.{state_of}
use Rattle.sequence_meaning.proofs.FrameLemmas.{made_on}
use Rattle.sequence_meaning.proofs.held.DirectHeld.give_back.Goals as goal

pub returns : goal.returns
returns c = record {
  state = λ t w. back (state_of c.args.self.now t w) _ _ _ _ c.args.dp c.args.ap c.args.control (locals_of c.args.locals) (c.set_dp.ensures.state t w) (c.set_ap.ensures.state t w) (c.set_control.ensures.state t w) (c.set_locals.ensures.state t w);
  keeps = λ t. made_on (c.set_dp.ensures.keeps t) (made_on (c.set_ap.ensures.keeps t) (made_on (c.set_control.ensures.keeps t) (c.set_locals.ensures.keeps t)));
}
