use Rattle.std.proofs.Common.{refl}
use Rattle.target_machine.specs.Plain.{Answered}
use Rattle.target_machine.specs.declared.unit.Call.TheVariants.{Probe}
use Rattle.direct_calls.proofs.AtOnceLemmas.{kept_end}
use Rattle.direct_calls.proofs.at_once.call_at_once.Goals as goal

pub returns-in-Probe-clause-answer : goal.returns-in-Probe-clause-answer
returns-in-Probe-clause-answer c =
    rw c.in-Probe.is (kept_end c.args.target.now c.args.large.now.items c.args.forgive (Probe c.in-Probe.command) (Answered c.command_at_once.result) _ _ refl (c.command_at_once.ensures.answer c.args.large.now.items))
