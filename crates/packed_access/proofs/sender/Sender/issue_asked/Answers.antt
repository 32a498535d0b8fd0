use Rattle.std.proofs.Common.{◌≡◌, ◌∙◌, false, None, sym, ap}
use Rattle.target_calls.specs.Asks.{is_forgiving, is_wide}
use Rattle.target_calls.specs.World.{small_now, start_world}
use Rattle.probe_core.specs.Probe.{target_of}
use Rattle.flight_laws.proofs.SmallLemmas.{never_narrow}
use Rattle.std.specs.Prelude.{◌&&◌}
use Rattle.target_machine.specs.Plain.{may_forgive}
use Rattle.target_machine.specs.declared.unit.Call.TheVariants.{Access}
use Rattle.target_calls.specs.declared.calls.Ask.{Ask}
use Rattle.packed_access.proofs.sender.Sender.issue_asked.Goals as goal
use Rattle.access_regs.proofs.AllCalls.{strict_unless}

pub returns-in_ok-ask_poll-in-Poll-clause-small : goal.returns-in_ok-ask_poll-in-Poll-clause-small
returns-in_ok-ask_poll-in-Poll-clause-small g c = λ m0 calls ask set is h.
    sym (ap (small_now (start_world (target_of m0.probe) None) calls) is ∙ never_narrow (target_of m0.probe) calls None c.args.unit.now c.args.forgive (ap is_wide c.in-Poll.is))

pub returns-else-makes_alone : goal.returns-else-makes_alone
returns-else-makes_alone g c =
    let e = c.ask_planned.ensures in
    let mild : (c.args.forgive && may_forgive (Access c.args.unit.now)) ≡ false = strict_unless g.F.Flights.planner c.args.forgive (may_forgive (Access c.args.unit.now)) (sym c.makes_alone.ensures ∙ c.if-makes_alone.false) in
    record {
      gives = record {
        on = λ m0 calls ask this h. e.gives.on m0 calls ask (ap (λ (a : Ask). a.call) this.1, ap is_forgiving this.1 ∙ mild) h;
        spare = λ m0 calls ask left this h s. e.gives.spare m0 calls ask left (ap (λ (a : Ask). a.call) this.1, ap is_forgiving this.1 ∙ mild) h s;
        needs = λ m0 calls ask this h. e.gives.needs m0 calls ask (ap (λ (a : Ask). a.call) this.1, ap is_forgiving this.1 ∙ mild) h;
        broke = λ m0 calls ask this h. e.gives.broke m0 calls ask (ap (λ (a : Ask). a.call) this.1, ap is_forgiving this.1 ∙ mild) h;
        stops = λ m0 calls ask answered this h left. e.gives.stops m0 calls ask answered (ap (λ (a : Ask). a.call) this.1, ap is_forgiving this.1 ∙ mild) h left;
      };
      small = λ m0 calls ask set is h. e.small m0 calls ask (ap (λ (a : Ask). a.call) is) (ap is_forgiving is ∙ mild) h;
      step = e.step;
      asks = e.asks;
    }
