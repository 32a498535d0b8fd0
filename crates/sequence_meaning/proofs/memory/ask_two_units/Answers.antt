use Rattle.std.proofs.Common.{false, subst}
use Rattle.sequence_rules.specs.Calls.{ask}
use Rattle.sequence_rules.specs.Direct.{direct}
use Rattle.sequence_meaning.specs.Held.{EndsDirect, state_of}
use Rattle.sequence_meaning.proofs.FrameLemmas.{stopped_caused, stopped_means}
use Rattle.sequence_meaning.proofs.StopLemmas.{ends_two_units}
use Rattle.sequence_meaning.proofs.memory.ask_two_units.Goals as goal

pub returns-in_err-low : goal.returns-in_err-low
returns-in_err-low c = record {
  gives = λ written.
      let s = state_of c.args.held.now c.args.target.now written in
      let now = state_of c.ask.new.held c.ask.new.target written in
      stopped_means _ _ _ _ c.from_residual.ensures.0
      (ends_two_units c.ask.new.held.end now s c.args.read (record { ap = c.args.ap; forgive = c.args.forgive; dp = 0 }) c.args.address c.args.value
      (subst (λ u. EndsDirect c.ask.new.held.end now (ask (direct false) u c.args.forgive s)) c.memory_unit-unit.ensures.unit (c.in_err-low.ensures.runs.gives written)));
  keeps = c.ask.ensures.runs.keeps;
  cause = λ faults. stopped_caused _ _ _ _ c.from_residual.ensures.0 (c.in_err-low.ensures.runs.cause faults);
}
