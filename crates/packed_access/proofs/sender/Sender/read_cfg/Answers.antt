use Rattle.std.proofs.Common.{rules, ◌≡◌, ℕ, ◌-◌, ◌++◌, List, arith, ap, sym, subst}
use Rattle.target_machine.specs.declared.access.RegAccess.{RegAccess}
use Rattle.target_calls.specs.declared.journal.Part.TheVariants.{Leads}
use Rattle.access_regs.specs.Journal.{port_of}
use Rattle.access_regs.specs.Plan.{cfg_plan}
use Rattle.packed_access.specs.Begun.{HasIssued, strict_entries}
use Rattle.packed_access.specs.Logs.{LogState}
use Rattle.packed_access.proofs.FrameLemmas.{keeps_on}
use Rattle.packed_access.proofs.SparingLemmas.{has_paid}
use Rattle.packed_access.proofs.sender.Sender.read_cfg.Goals as goal

pub returns-clause-spare : goal.returns-clause-spare
returns-clause-spare g c = λ m0 rest left h s.
    let old = c.args.self.now in
    let plan : c.list_accesses.result.now ≡ cfg_plan old.managed (port_of c.args.unit.now) = search rules in
    let here : HasIssued g.F.Flights.planner (g.F.Flights.state old.flights) old.log (g.F.Flights.accesses old.flights) (strict_entries c.count-number.result Leads c.list_accesses.result.now ++ rest) m0 =
    subst (λ (l : List RegAccess). HasIssued g.F.Flights.planner (g.F.Flights.state old.flights) old.log (g.F.Flights.accesses old.flights) (strict_entries c.count-number.result Leads l ++ rest) m0) (sym plan)
    (subst (λ (n : ℕ). HasIssued g.F.Flights.planner (g.F.Flights.state old.flights) old.log (g.F.Flights.accesses old.flights) (strict_entries n Leads (cfg_plan old.managed (port_of c.args.unit.now)) ++ rest) m0) (sym c.count-number.ensures) h) in
    has_paid g.F.Flights.planner _ _ _ c.read_by.new.self.log c.need.new.self old.log.needs s.paid 1 (c.count-number.result - 1) left m0 (c.in_ok-cfg.ensures.gives.spare m0 rest s.paid here s.spared) s.covers c.in_ok-cfg.ensures.further.so.needs c.need.ensures.answer.so

pub returns-clause-fenced : goal.returns-clause-fenced
returns-clause-fenced g c =
    let fence = ap (λ (l : LogState). l.fence) c.need.ensures.answer.so in
    let known = ap (λ (l : LogState). l.known) c.need.ensures.answer.so in
    let came = c.in_ok-cfg.ensures.came in
    let same = c.in_ok-cfg.ensures.further.so.whole in
    let whole = c.requires.ready.whole in
    let count = c.count-number.ensures in
    omega (arith, fence, known, came, same, whole, count)

pub returns-clause-issues : goal.returns-clause-issues
returns-clause-issues g c = record {
  step = search (rules, keeps_on);
  entries = search rules;
  whole = search rules;
  room = search rules;
  fenced =
      let fence = ap (λ (l : LogState). l.fence) c.need.ensures.answer.so in
      let known = ap (λ (l : LogState). l.known) c.need.ensures.answer.so in
      let came = c.in_ok-cfg.ensures.came in
      let same = c.in_ok-cfg.ensures.further.so.whole in
      let whole = c.requires.ready.whole in
      let count = c.count-number.ensures in
      λ past. absurd (omega (arith, past, fence, known, came, same, whole, count));
}
