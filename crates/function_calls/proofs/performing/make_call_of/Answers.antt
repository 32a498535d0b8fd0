use Rattle.function_calls.proofs.FrameLemmas.{call_same, writing_by_call}
use Rattle.function_calls.proofs.KindLemmas.{nothing_done}
use Rattle.function_calls.proofs.performing.make_call_of.Goals as goal

pub returns-in-Nothing : goal.returns-in-Nothing
returns-in-Nothing g c = rw c.in-Nothing.is (writing_by_call (call_same c.requires.ready (λ w s. nothing_done g.A.Access.cost w c.args.text.now c.args.numbers.now s)))
