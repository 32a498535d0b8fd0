use Rattle.std.proofs.Common.{rules, ◌≡◌, ◌∙◌, ◌<◌, ◌++◌, [], List, length, true, false, Ok, Err, arith, sym, ap, subst}
use Rattle.std.proofs.lemmas.Result.{err_from_is_err_and}
use Rattle.std.specs.Prelude.{IfErr, OnOk}
use Rattle.target_calls.specs.Journal.{Entry}
use Rattle.target_calls.specs.declared.calls.Ask.{Ask}
use Rattle.target_calls.specs.declared.journal.Part.TheVariants.{Leads}
use Rattle.access_regs.specs.Journal.{by_csw, gives, port_of}
use Rattle.access_regs.specs.Kept.{Kept}
use Rattle.access_regs.specs.Plan.{first_plan, kept_after_csw, kept_after_plan, needs_csw}
use Rattle.packed_access.specs.Begun.{HasIssued, StopsAfterLines, strict_entries, target_issued}
use Rattle.packed_access.proofs.FrameLemmas.{keeps_on}
use Rattle.packed_access.proofs.PlannedLemmas.{csw_left, csw_steps, plain_left, plan_entries, plan_now}
use Rattle.packed_access.proofs.SparingLemmas.{never_past, spared_further, still_past}
use Rattle.packed_access.proofs.sender.Sender.issue_by_csw.Goals as goal

pub returns-then-not-needs_csw-clause-gives : goal.returns-then-not-needs_csw-clause-gives
returns-then-not-needs_csw-clause-gives g c =
    let old = c.args.self.now in
    let some : 0 < length old.log.calls = (let w = c.requires.ready.whole in omega (arith, w)) in
    let needs : needs_csw old.managed c.args.unit.now ≡ false = search rules in
    record {
      on = λ m0 h.
          c.issue_unit.ensures.gives.on m0 [] (subst (λ (l : List Entry). HasIssued g.F.Flights.planner (g.F.Flights.state old.flights) old.log (g.F.Flights.accesses old.flights) l m0) (plain_left (length old.log.calls) (target_issued g.F.Flights.planner old.log m0) old.managed c.args.unit.now some c.requires.sound.no_poll needs) h);
      spare = λ m0 left h s.
          spared_further g.F.Flights.planner _ _ _ old.log c.issue_unit.new.self.log s.paid left c.issue_unit.result m0 s.covers c.issue_unit.ensures.further.so
          (c.issue_unit.ensures.gives.spare m0 [] s.paid (subst (λ (l : List Entry). HasIssued g.F.Flights.planner (g.F.Flights.state old.flights) old.log (g.F.Flights.accesses old.flights) l m0) (plain_left (length old.log.calls) (target_issued g.F.Flights.planner old.log m0) old.managed c.args.unit.now some c.requires.sound.no_poll needs) h) s.spared);
      broke = λ m0 h.
          c.issue_unit.ensures.gives.broke m0 [] (subst (λ (l : List Entry). HasIssued g.F.Flights.planner (g.F.Flights.state old.flights) old.log (g.F.Flights.accesses old.flights) l m0) (plain_left (length old.log.calls) (target_issued g.F.Flights.planner old.log m0) old.managed c.args.unit.now some c.requires.sound.no_poll needs) h);
      stops = λ m0 answered h left.
          c.issue_unit.ensures.gives.stops m0 [] answered (subst (λ (l : List Entry). HasIssued g.F.Flights.planner (g.F.Flights.state old.flights) old.log (g.F.Flights.accesses old.flights) l m0) (plain_left (length old.log.calls) (target_issued g.F.Flights.planner old.log m0) old.managed c.args.unit.now some c.requires.sound.no_poll needs) h) left;
    }

pub returns-in_err-read_csw-clause-gives : goal.returns-in_err-read_csw-clause-gives
returns-in_err-read_csw-clause-gives g c =
    let old = c.args.self.now in
    let some : 0 < length old.log.calls = (let w = c.requires.ready.whole in omega (arith, w)) in
    let needs : needs_csw old.managed c.args.unit.now ≡ true = search rules in
    let p = err_from_is_err_and c.from_residual.result c.from_residual.ensures.1 in
    rw (p.1, p.2) (record {
      on = λ m0 h. tt;
      spare = λ m0 left h s. tt;
      broke = λ m0 h.
          c.in_err-read_csw.ensures.gives.broke m0 _ (subst (λ (l : List Entry). HasIssued g.F.Flights.planner (g.F.Flights.state old.flights) old.log (g.F.Flights.accesses old.flights) l m0) (csw_left (length old.log.calls) (target_issued g.F.Flights.planner old.log m0) old.managed c.args.unit.now some c.requires.sound.no_poll needs) h);
      stops = λ m0 answered h left.
          c.in_err-read_csw.ensures.gives.stops m0 _ answered (subst (λ (l : List Entry). HasIssued g.F.Flights.planner (g.F.Flights.state old.flights) old.log (g.F.Flights.accesses old.flights) l m0) (csw_left (length old.log.calls) (target_issued g.F.Flights.planner old.log m0) old.managed c.args.unit.now some c.requires.sound.no_poll needs) h) left;
    })

pub returns-clause-gives : goal.returns-clause-gives
returns-clause-gives g c =
    let old = c.args.self.now in
    let mid = c.read_csw.new.self in
    let some : 0 < length old.log.calls = (let w = c.requires.ready.whole in omega (arith, w)) in
    let needs : needs_csw old.managed c.args.unit.now ≡ true = search rules in
    record {
      on = λ m0 h.
          let k : Kept = kept_after_csw old.managed (port_of c.args.unit.now) (gives (target_issued g.F.Flights.planner old.log m0) (first_plan old.managed (port_of c.args.unit.now))) in
          let first : HasIssued g.F.Flights.planner (g.F.Flights.state old.flights) old.log (g.F.Flights.accesses old.flights) (strict_entries (length old.log.calls) Leads (first_plan old.managed (port_of c.args.unit.now)) ++ plan_entries (length old.log.calls) k c.args.unit.now) m0 =
          subst (λ (l : List Entry). HasIssued g.F.Flights.planner (g.F.Flights.state old.flights) old.log (g.F.Flights.accesses old.flights) l m0) (csw_left (length old.log.calls) (target_issued g.F.Flights.planner old.log m0) old.managed c.args.unit.now some c.requires.sound.no_poll needs) h in
          c.issue_unit-2.ensures.gives.on m0 [] (plan_now g.F.Flights.planner _ mid.log _ _ k mid.managed c.args.unit.now (length old.log.calls) m0 (c.in_ok-read_csw.ensures.gives.on m0 _ first) c.in_ok-read_csw.ensures.empty (c.in_ok-read_csw.ensures.gives.kept m0 _ first) (ap length c.read_csw.ensures.issues.step.keeps.calls));
      spare = λ m0 left h s.
          let k : Kept = kept_after_csw old.managed (port_of c.args.unit.now) (gives (target_issued g.F.Flights.planner old.log m0) (first_plan old.managed (port_of c.args.unit.now))) in
          let first : HasIssued g.F.Flights.planner (g.F.Flights.state old.flights) old.log (g.F.Flights.accesses old.flights) (strict_entries (length old.log.calls) Leads (first_plan old.managed (port_of c.args.unit.now)) ++ plan_entries (length old.log.calls) k c.args.unit.now) m0 =
          subst (λ (l : List Entry). HasIssued g.F.Flights.planner (g.F.Flights.state old.flights) old.log (g.F.Flights.accesses old.flights) l m0) (csw_left (length old.log.calls) (target_issued g.F.Flights.planner old.log m0) old.managed c.args.unit.now some c.requires.sound.no_poll needs) h in
          let there = plan_now g.F.Flights.planner _ mid.log _ _ k mid.managed c.args.unit.now (length old.log.calls) m0 (c.in_ok-read_csw.ensures.gives.on m0 _ first) c.in_ok-read_csw.ensures.empty (c.in_ok-read_csw.ensures.gives.kept m0 _ first) (ap length c.read_csw.ensures.issues.step.keeps.calls) in
          let read = c.in_ok-read_csw.ensures.spare m0 _ left first s in
          spared_further g.F.Flights.planner _ _ _ mid.log c.issue_unit-2.new.self.log read.paid left c.issue_unit-2.result m0 read.covers c.issue_unit-2.ensures.further.so
          (c.issue_unit-2.ensures.gives.spare m0 [] read.paid there read.spared);
      broke = λ m0 h.
          let k : Kept = kept_after_csw old.managed (port_of c.args.unit.now) (gives (target_issued g.F.Flights.planner old.log m0) (first_plan old.managed (port_of c.args.unit.now))) in
          let first : HasIssued g.F.Flights.planner (g.F.Flights.state old.flights) old.log (g.F.Flights.accesses old.flights) (strict_entries (length old.log.calls) Leads (first_plan old.managed (port_of c.args.unit.now)) ++ plan_entries (length old.log.calls) k c.args.unit.now) m0 =
          subst (λ (l : List Entry). HasIssued g.F.Flights.planner (g.F.Flights.state old.flights) old.log (g.F.Flights.accesses old.flights) l m0) (csw_left (length old.log.calls) (target_issued g.F.Flights.planner old.log m0) old.managed c.args.unit.now some c.requires.sound.no_poll needs) h in
          c.issue_unit-2.ensures.gives.broke m0 [] (plan_now g.F.Flights.planner _ mid.log _ _ k mid.managed c.args.unit.now (length old.log.calls) m0 (c.in_ok-read_csw.ensures.gives.on m0 _ first) c.in_ok-read_csw.ensures.empty (c.in_ok-read_csw.ensures.gives.kept m0 _ first) (ap length c.read_csw.ensures.issues.step.keeps.calls));
      stops = λ m0 answered h left.
          let k : Kept = kept_after_csw old.managed (port_of c.args.unit.now) (gives (target_issued g.F.Flights.planner old.log m0) (first_plan old.managed (port_of c.args.unit.now))) in
          let first : HasIssued g.F.Flights.planner (g.F.Flights.state old.flights) old.log (g.F.Flights.accesses old.flights) (strict_entries (length old.log.calls) Leads (first_plan old.managed (port_of c.args.unit.now)) ++ plan_entries (length old.log.calls) k c.args.unit.now) m0 =
          subst (λ (l : List Entry). HasIssued g.F.Flights.planner (g.F.Flights.state old.flights) old.log (g.F.Flights.accesses old.flights) l m0) (csw_left (length old.log.calls) (target_issued g.F.Flights.planner old.log m0) old.managed c.args.unit.now some c.requires.sound.no_poll needs) h in
          subst (λ (calls : List Ask). IfErr c.issue_unit-2.result (StopsAfterLines m0 answered calls c.issue_unit-2.new.self.log.lines)) c.read_csw.ensures.issues.step.keeps.calls
          (c.issue_unit-2.ensures.gives.stops m0 [] answered (plan_now g.F.Flights.planner _ mid.log _ _ k mid.managed c.args.unit.now (length old.log.calls) m0 (c.in_ok-read_csw.ensures.gives.on m0 _ first) c.in_ok-read_csw.ensures.empty (c.in_ok-read_csw.ensures.gives.kept m0 _ first) (ap length c.read_csw.ensures.issues.step.keeps.calls)) left);
    }

pub returns-clause-kept : goal.returns-clause-kept
returns-clause-kept g c = λ m0 h.
    let old = c.args.self.now in
    let mid = c.read_csw.new.self in
    let some : 0 < length old.log.calls = (let w = c.requires.ready.whole in omega (arith, w)) in
    let needs : needs_csw old.managed c.args.unit.now ≡ true = search rules in
    let k : Kept = kept_after_csw old.managed (port_of c.args.unit.now) (gives (target_issued g.F.Flights.planner old.log m0) (first_plan old.managed (port_of c.args.unit.now))) in
    let first : HasIssued g.F.Flights.planner (g.F.Flights.state old.flights) old.log (g.F.Flights.accesses old.flights) (strict_entries (length old.log.calls) Leads (first_plan old.managed (port_of c.args.unit.now)) ++ plan_entries (length old.log.calls) k c.args.unit.now) m0 =
    subst (λ (l : List Entry). HasIssued g.F.Flights.planner (g.F.Flights.state old.flights) old.log (g.F.Flights.accesses old.flights) l m0) (csw_left (length old.log.calls) (target_issued g.F.Flights.planner old.log m0) old.managed c.args.unit.now some c.requires.sound.no_poll needs) h in
    let is : c.issue_unit-2.new.self.managed ≡ (by_csw (target_issued g.F.Flights.planner old.log m0) old.managed c.args.unit.now).kept =
    c.issue_unit-2.ensures.further.managed ∙ ap (λ (q : Kept). kept_after_plan q c.args.unit.now) (c.in_ok-read_csw.ensures.gives.kept m0 _ first) ∙ sym (csw_steps 0 (target_issued g.F.Flights.planner old.log m0) old.managed c.args.unit.now needs).1 in
    elim c.issue_unit-2.result as (λ r. OnOk r (c.issue_unit-2.new.self.managed ≡ (by_csw (target_issued g.F.Flights.planner old.log m0) old.managed c.args.unit.now).kept)) [ Ok done ↦ is | Err s ↦ tt ]

pub returns-clause-issues : goal.returns-clause-issues
returns-clause-issues g c = record {
  step = search (rules, keeps_on);
  entries = search rules;
  whole = search rules;
  room = search rules;
  fenced = never_past _ c.read_csw.new.self.log c.issue_unit-2.new.self.log c.issue_unit-2.result c.issue_unit-2.ensures.further.so c.issue_unit-2.ensures.further.step.keeps.goes.known c.in_ok-read_csw.ensures.fenced;
}

pub returns-then-not-needs_csw-clause-issues : goal.returns-then-not-needs_csw-clause-issues
returns-then-not-needs_csw-clause-issues g c = record {
  step = search (rules, keeps_on);
  entries = search rules;
  whole = search rules;
  room = search rules;
  fenced = still_past c.args.self.now.log c.issue_unit.new.self.log c.issue_unit.result c.issue_unit.ensures.further.so c.issue_unit.ensures.further.step.keeps.goes.known;
}
