use Rattle.std.proofs.Common.{false, refl, sym, subst, ℕ}
use Rattle.direct_calls.specs.Made.{IsDone}
use Rattle.target_machine.specs.Plain.{Answered, call_done}
use Rattle.target_machine.specs.declared.unit.Call.TheVariants.{Probe}
use Rattle.target_calls.specs.Asks.{probe_ask}
use Rattle.sequence_meaning.proofs.StopLemmas.{one_made}
use Rattle.sequence_meaning.proofs.UnitLemmas.{command_at}
use Rattle.sequence_meaning.proofs.asking.command.Goals as goal

pub returns : goal.returns
returns c = record {
  gives = λ written.
      command_at _ _ _ _ _ _ _ _ _ _ c.args.call _ _ _ c.if-held-ge-MOST_UNITS.false
      (λ l. subst (λ (k : ℕ). IsDone (call_done c.args.target.now l false (Probe c.args.call)) (Answered k) c.command_at_once.new.target l) (sym c.from.ensures) (c.command_at_once.ensures.answer l)) c.in-Ok.ensures.added;
  keeps = record {
    on = λ w was. record {
      world = one_made w c.args.held.now.calls _ c.args.target.now _ c.args.held.now.large.items c.args.held.now.large.items (probe_ask c.args.call) _ was.world c.in-Ok.ensures.added (c.command_at_once.ensures.answer c.args.held.now.large.items);
    };
  };
  cause = λ faults. refl;
}
