use Rattle.std.proofs.Common.{◌≡◌, ◌∙◌, List, ap, sym, subst}
use Rattle.target_machine.specs.declared.access.RegAccess.{RegAccess}
use Rattle.probe_core.specs.Bench.{StepsTo}
use Rattle.batch_packer.proofs.FlightLemmas.{sent_by}
use Rattle.batch_packer.specs.FlightEnds.{Flew}
use Rattle.batch_packer.specs.FlightStates.{FlightState, sent_form}
use Rattle.batch_packer.specs.Flying.{IsReady}
use Rattle.batch_packer.proofs.flight.Flight.send_now.Goals as goal

pub returns-clause-flown : goal.returns-clause-flown
returns-clause-flown g c =
    let r = g.B.Bench.reported c.args.bench.now in
    let a = g.B.Bench.state c.args.bench.now in
    let b = g.B.Bench.state c.fly-end.new.bench in
    let same : c.as_slice.result.now ≡ c.args.self.now.accesses = c.as_slice.ensures ∙ ap (λ (s : FlightState). s.accesses) c.self.view_is ∙ ap (λ (s : FlightState). s.accesses) c.begin.ensures in
    sent_by (sent_form c.args.self.now.limits c.args.self.now.accesses) c.in-Some.form c.args.self.now.accesses c.fly-end.result c.fly-end.new.slots.values r a b (sym (ap (λ (s : FlightState). sent_form s.limits s.accesses) c.begin.ensures) ∙ sym c.in-Some.ensures) c.requires.free.is_open
    (g.met.B.Bench.agrees c.args.bench.now)
    (subst (λ (ys : List RegAccess). StepsTo (λ m n. IsReady r.limits m → Flew c.in-Some.form ys c.fly-end.result c.fly-end.new.slots.values m n) a b) same c.fly-end.ensures.flown)
