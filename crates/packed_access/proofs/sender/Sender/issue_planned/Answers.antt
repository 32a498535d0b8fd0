use Rattle.std.proofs.Common.{rules, ◌≡◌, ◌∙◌, ℕ, ◌-◌, List, length, true, false, arith, refl, sym, ap, subst}
use Rattle.std.proofs.lemmas.Result.{err_from_is_err_and}
use Rattle.std.specs.Prelude.{IfErr}
use Rattle.target_calls.specs.declared.calls.Ask.{Ask}
use Rattle.access_regs.specs.Plan.{needs_settle}
use Rattle.packed_access.specs.Begun.{StopsAfterLines}
use Rattle.packed_access.proofs.FrameLemmas.{keeps_on}
use Rattle.packed_access.proofs.AskedLemmas.{at_ok_then, first_calm, kept_is, needs_is, ok_then, plain_ready, planned_left, settle_left, settled_ready, small_is}
use Rattle.packed_access.proofs.SparingLemmas.{past_before, spared_same}
use Rattle.packed_access.proofs.sender.Sender.issue_planned.Goals as goal
use Rattle.packed_access.proofs.sender.Sender.issue_planned.Goals.{then-before-eq0-via-then-before-eq0, then-before-eq0-via-else-before-eq0+then-not-needs_settle}

pub returns-then-before-eq0-clause-gives : goal.returns-then-before-eq0-clause-gives
returns-then-before-eq0-clause-gives g c =
    let old = c.args.self.now in
    let new = c.issue_by_cfg.new.self in
    record {
      on = λ m0 calls ask this h. let is = this.0 in let mild = this.1 in
          let asked = c.args.unit.now in
          let calm : needs_settle old.managed c.args.unit.now ≡ false = elim c.then-before-eq0.branch [
            | then-before-eq0-via-then-before-eq0 w ↦ first_calm g.F.Flights.planner _ old.log _ old.managed calls ask c.args.unit.now m0 h (let n = c.count-before.ensures in let z = w.if-before-eq0.true in omega (arith, n, z))
            | then-before-eq0-via-else-before-eq0+then-not-needs_settle w ↦ sym w.needs_settle.ensures ∙ w.if-not-needs_settle.true
          ] in
          let r = plain_ready g.F.Flights.planner _ old.log _ old.managed c.args.unit.now m0 calm (planned_left g.F.Flights.planner _ old.log _ old.managed calls ask c.args.unit.now m0 is mild c.requires.planned h) in
          c.issue_by_cfg.ensures.gives.on m0 r.left;
      spare = λ m0 calls ask left this h s. let is = this.0 in let mild = this.1 in
          let calm : needs_settle old.managed c.args.unit.now ≡ false = elim c.then-before-eq0.branch [
            | then-before-eq0-via-then-before-eq0 w ↦ first_calm g.F.Flights.planner _ old.log _ old.managed calls ask c.args.unit.now m0 h (let n = c.count-before.ensures in let z = w.if-before-eq0.true in omega (arith, n, z))
            | then-before-eq0-via-else-before-eq0+then-not-needs_settle w ↦ sym w.needs_settle.ensures ∙ w.if-not-needs_settle.true
          ] in
          let r = plain_ready g.F.Flights.planner _ old.log _ old.managed c.args.unit.now m0 calm (planned_left g.F.Flights.planner _ old.log _ old.managed calls ask c.args.unit.now m0 is mild c.requires.planned h) in
          c.issue_by_cfg.ensures.gives.spare m0 left r.left s;
      needs = λ m0 calls ask this h. let is = this.0 in let mild = this.1 in
          let asked = c.args.unit.now in
          let calm : needs_settle old.managed c.args.unit.now ≡ false = elim c.then-before-eq0.branch [
            | then-before-eq0-via-then-before-eq0 w ↦ first_calm g.F.Flights.planner _ old.log _ old.managed calls ask c.args.unit.now m0 h (let n = c.count-before.ensures in let z = w.if-before-eq0.true in omega (arith, n, z))
            | then-before-eq0-via-else-before-eq0+then-not-needs_settle w ↦ sym w.needs_settle.ensures ∙ w.if-not-needs_settle.true
          ] in
          let r = plain_ready g.F.Flights.planner _ old.log _ old.managed c.args.unit.now m0 calm (planned_left g.F.Flights.planner _ old.log _ old.managed calls ask c.args.unit.now m0 is mild c.requires.planned h) in
          ok_then _ _ c.issue_by_cfg.result (needs_is g.F.Flights.planner _ _ old.log old.log new.log _ _ old.managed old.managed calls ask asked m0 is mild c.requires.sound.no_poll c.requires.planned h r refl) (c.issue_by_cfg.ensures.asks m0 r.left);
      broke = λ m0 calls ask this h. let is = this.0 in let mild = this.1 in
          let asked = c.args.unit.now in
          let calm : needs_settle old.managed c.args.unit.now ≡ false = elim c.then-before-eq0.branch [
            | then-before-eq0-via-then-before-eq0 w ↦ first_calm g.F.Flights.planner _ old.log _ old.managed calls ask c.args.unit.now m0 h (let n = c.count-before.ensures in let z = w.if-before-eq0.true in omega (arith, n, z))
            | then-before-eq0-via-else-before-eq0+then-not-needs_settle w ↦ sym w.needs_settle.ensures ∙ w.if-not-needs_settle.true
          ] in
          let r = plain_ready g.F.Flights.planner _ old.log _ old.managed c.args.unit.now m0 calm (planned_left g.F.Flights.planner _ old.log _ old.managed calls ask c.args.unit.now m0 is mild c.requires.planned h) in
          c.issue_by_cfg.ensures.gives.broke m0 r.left;
      stops = λ m0 calls ask answered this h left. let is = this.0 in let mild = this.1 in
          let asked = c.args.unit.now in
          let calm : needs_settle old.managed c.args.unit.now ≡ false = elim c.then-before-eq0.branch [
            | then-before-eq0-via-then-before-eq0 w ↦ first_calm g.F.Flights.planner _ old.log _ old.managed calls ask c.args.unit.now m0 h (let n = c.count-before.ensures in let z = w.if-before-eq0.true in omega (arith, n, z))
            | then-before-eq0-via-else-before-eq0+then-not-needs_settle w ↦ sym w.needs_settle.ensures ∙ w.if-not-needs_settle.true
          ] in
          let r = plain_ready g.F.Flights.planner _ old.log _ old.managed c.args.unit.now m0 calm (planned_left g.F.Flights.planner _ old.log _ old.managed calls ask c.args.unit.now m0 is mild c.requires.planned h) in
          c.issue_by_cfg.ensures.gives.stops m0 answered r.left left;
    }

pub returns-then-before-eq0-clause-kept : goal.returns-then-before-eq0-clause-kept
returns-then-before-eq0-clause-kept g c = λ m0 calls ask is mild h.
    let old = c.args.self.now in
    let new = c.issue_by_cfg.new.self in
    let asked = c.args.unit.now in
    let calm : needs_settle old.managed c.args.unit.now ≡ false = elim c.then-before-eq0.branch [
      | then-before-eq0-via-then-before-eq0 w ↦ first_calm g.F.Flights.planner _ old.log _ old.managed calls ask c.args.unit.now m0 h (let n = c.count-before.ensures in let z = w.if-before-eq0.true in omega (arith, n, z))
      | then-before-eq0-via-else-before-eq0+then-not-needs_settle w ↦ sym w.needs_settle.ensures ∙ w.if-not-needs_settle.true
    ] in
    let r = plain_ready g.F.Flights.planner _ old.log _ old.managed c.args.unit.now m0 calm (planned_left g.F.Flights.planner _ old.log _ old.managed calls ask c.args.unit.now m0 is mild c.requires.planned h) in
    ok_then _ _ c.issue_by_cfg.result (kept_is g.F.Flights.planner _ _ old.log old.log _ _ old.managed old.managed _ calls ask asked m0 is mild c.requires.planned h r) (c.issue_by_cfg.ensures.kept m0 r.left)

pub returns-then-before-eq0-clause-small : goal.returns-then-before-eq0-clause-small
returns-then-before-eq0-clause-small g c = λ m0 calls ask is mild h.
    let old = c.args.self.now in
    let new = c.issue_by_cfg.new.self in
    let asked = c.args.unit.now in
    let calm : needs_settle old.managed c.args.unit.now ≡ false = elim c.then-before-eq0.branch [
      | then-before-eq0-via-then-before-eq0 w ↦ first_calm g.F.Flights.planner _ old.log _ old.managed calls ask c.args.unit.now m0 h (let n = c.count-before.ensures in let z = w.if-before-eq0.true in omega (arith, n, z))
      | then-before-eq0-via-else-before-eq0+then-not-needs_settle w ↦ sym w.needs_settle.ensures ∙ w.if-not-needs_settle.true
    ] in
    let r = plain_ready g.F.Flights.planner _ old.log _ old.managed c.args.unit.now m0 calm (planned_left g.F.Flights.planner _ old.log _ old.managed calls ask c.args.unit.now m0 is mild c.requires.planned h) in
    at_ok_then _ _ c.issue_by_cfg.result (λ v. small_is g.F.Flights.planner _ _ old.log old.log _ _ old.managed old.managed calls ask asked v m0 is h r) (c.issue_by_cfg.ensures.small m0 calls ask (h.are) r.left)

pub returns-clause-gives : goal.returns-clause-gives
returns-clause-gives g c =
    let old = c.args.self.now in
    let mid = c.settle.new.self in
    let new = c.issue_by_cfg-2.new.self in
    let needs : needs_settle old.managed c.args.unit.now ≡ true = search rules in
    let before : c.count-before.result - 1 ≡ length old.log.calls - 1 = ap (λ (n : ℕ). n - 1) c.count-before.ensures in
    record {
      on = λ m0 calls ask this h. let is = this.0 in let mild = this.1 in
          let asked = c.args.unit.now in
          let first = settle_left g.F.Flights.planner _ old.log _ _ old.managed c.args.unit.now _ m0 before needs (planned_left g.F.Flights.planner _ old.log _ old.managed calls ask c.args.unit.now m0 is mild c.requires.planned h) in
          let r = settled_ready g.F.Flights.planner _ _ old.log mid.log _ _ old.managed mid.managed c.args.unit.now _ m0 needs first (c.in_ok-settle.ensures.gives.on m0 _ first) c.in_ok-settle.ensures.further.so.calls c.settle.ensures.further.managed in
          c.issue_by_cfg-2.ensures.gives.on m0 r.left;
      spare = λ m0 calls ask left this h s. let is = this.0 in let mild = this.1 in
          let first = settle_left g.F.Flights.planner _ old.log _ _ old.managed c.args.unit.now _ m0 before needs (planned_left g.F.Flights.planner _ old.log _ old.managed calls ask c.args.unit.now m0 is mild c.requires.planned h) in
          let r = settled_ready g.F.Flights.planner _ _ old.log mid.log _ _ old.managed mid.managed c.args.unit.now _ m0 needs first (c.in_ok-settle.ensures.gives.on m0 _ first) c.in_ok-settle.ensures.further.so.calls c.settle.ensures.further.managed in
          c.issue_by_cfg-2.ensures.gives.spare m0 left r.left (spared_same g.F.Flights.planner _ _ _ old.log mid.log s.paid left m0 s.covers c.in_ok-settle.ensures.further.so (c.in_ok-settle.ensures.gives.spare m0 _ s.paid first s.spared));
      needs = λ m0 calls ask this h. let is = this.0 in let mild = this.1 in
          let asked = c.args.unit.now in
          let first = settle_left g.F.Flights.planner _ old.log _ _ old.managed c.args.unit.now _ m0 before needs (planned_left g.F.Flights.planner _ old.log _ old.managed calls ask c.args.unit.now m0 is mild c.requires.planned h) in
          let r = settled_ready g.F.Flights.planner _ _ old.log mid.log _ _ old.managed mid.managed c.args.unit.now _ m0 needs first (c.in_ok-settle.ensures.gives.on m0 _ first) c.in_ok-settle.ensures.further.so.calls c.settle.ensures.further.managed in
          ok_then _ _ c.issue_by_cfg-2.result (needs_is g.F.Flights.planner _ _ old.log mid.log new.log _ _ old.managed mid.managed calls ask asked m0 is mild c.requires.sound.no_poll c.requires.planned h r c.settle.ensures.further.asks) (c.issue_by_cfg-2.ensures.asks m0 r.left);
      broke = λ m0 calls ask this h. let is = this.0 in let mild = this.1 in
          let asked = c.args.unit.now in
          let first = settle_left g.F.Flights.planner _ old.log _ _ old.managed c.args.unit.now _ m0 before needs (planned_left g.F.Flights.planner _ old.log _ old.managed calls ask c.args.unit.now m0 is mild c.requires.planned h) in
          let r = settled_ready g.F.Flights.planner _ _ old.log mid.log _ _ old.managed mid.managed c.args.unit.now _ m0 needs first (c.in_ok-settle.ensures.gives.on m0 _ first) c.in_ok-settle.ensures.further.so.calls c.settle.ensures.further.managed in
          c.issue_by_cfg-2.ensures.gives.broke m0 r.left;
      stops = λ m0 calls ask answered this h left. let is = this.0 in let mild = this.1 in
          let asked = c.args.unit.now in
          let first = settle_left g.F.Flights.planner _ old.log _ _ old.managed c.args.unit.now _ m0 before needs (planned_left g.F.Flights.planner _ old.log _ old.managed calls ask c.args.unit.now m0 is mild c.requires.planned h) in
          let r = settled_ready g.F.Flights.planner _ _ old.log mid.log _ _ old.managed mid.managed c.args.unit.now _ m0 needs first (c.in_ok-settle.ensures.gives.on m0 _ first) c.in_ok-settle.ensures.further.so.calls c.settle.ensures.further.managed in
          subst (λ (l : List Ask). IfErr c.issue_by_cfg-2.result (StopsAfterLines m0 answered l new.log.lines)) c.in_ok-settle.ensures.further.so.calls (c.issue_by_cfg-2.ensures.gives.stops m0 answered r.left left);
    }

pub returns-clause-kept : goal.returns-clause-kept
returns-clause-kept g c = λ m0 calls ask is mild h.
    let old = c.args.self.now in
    let mid = c.settle.new.self in
    let new = c.issue_by_cfg-2.new.self in
    let asked = c.args.unit.now in
    let needs : needs_settle old.managed c.args.unit.now ≡ true = search rules in
    let before : c.count-before.result - 1 ≡ length old.log.calls - 1 = ap (λ (n : ℕ). n - 1) c.count-before.ensures in
    let first = settle_left g.F.Flights.planner _ old.log _ _ old.managed c.args.unit.now _ m0 before needs (planned_left g.F.Flights.planner _ old.log _ old.managed calls ask c.args.unit.now m0 is mild c.requires.planned h) in
    let r = settled_ready g.F.Flights.planner _ _ old.log mid.log _ _ old.managed mid.managed c.args.unit.now _ m0 needs first (c.in_ok-settle.ensures.gives.on m0 _ first) c.in_ok-settle.ensures.further.so.calls c.settle.ensures.further.managed in
    ok_then _ _ c.issue_by_cfg-2.result (kept_is g.F.Flights.planner _ _ old.log mid.log _ _ old.managed mid.managed _ calls ask asked m0 is mild c.requires.planned h r) (c.issue_by_cfg-2.ensures.kept m0 r.left)

pub returns-clause-small : goal.returns-clause-small
returns-clause-small g c = λ m0 calls ask is mild h.
    let old = c.args.self.now in
    let mid = c.settle.new.self in
    let new = c.issue_by_cfg-2.new.self in
    let asked = c.args.unit.now in
    let needs : needs_settle old.managed c.args.unit.now ≡ true = search rules in
    let before : c.count-before.result - 1 ≡ length old.log.calls - 1 = ap (λ (n : ℕ). n - 1) c.count-before.ensures in
    let first = settle_left g.F.Flights.planner _ old.log _ _ old.managed c.args.unit.now _ m0 before needs (planned_left g.F.Flights.planner _ old.log _ old.managed calls ask c.args.unit.now m0 is mild c.requires.planned h) in
    let r = settled_ready g.F.Flights.planner _ _ old.log mid.log _ _ old.managed mid.managed c.args.unit.now _ m0 needs first (c.in_ok-settle.ensures.gives.on m0 _ first) c.in_ok-settle.ensures.further.so.calls c.settle.ensures.further.managed in
    at_ok_then _ _ c.issue_by_cfg-2.result (λ v. small_is g.F.Flights.planner _ _ old.log mid.log _ _ old.managed mid.managed calls ask asked v m0 is h r) (c.issue_by_cfg-2.ensures.small m0 calls ask (c.in_ok-settle.ensures.further.so.calls ∙ h.are) r.left)

pub returns-in_err-settle-clause-gives : goal.returns-in_err-settle-clause-gives
returns-in_err-settle-clause-gives g c =
    let p = err_from_is_err_and c.from_residual.result c.from_residual.ensures.1 in
    rw (p.1, p.2) (let old = c.args.self.now in
    let needs : needs_settle old.managed c.args.unit.now ≡ true = search rules in
    let before : c.count-before.result - 1 ≡ length old.log.calls - 1 = ap (λ (n : ℕ). n - 1) c.count-before.ensures in
    record {
      on = λ m0 calls ask this h. tt;
      spare = λ m0 calls ask left this h s. tt;
      needs = λ m0 calls ask this h. tt;
      broke = λ m0 calls ask this h. let is = this.0 in let mild = this.1 in
          let first = settle_left g.F.Flights.planner _ old.log _ _ old.managed c.args.unit.now _ m0 before needs (planned_left g.F.Flights.planner _ old.log _ old.managed calls ask c.args.unit.now m0 is mild c.requires.planned h) in
          c.in_err-settle.ensures.gives.broke m0 _ first;
      stops = λ m0 calls ask answered this h left. let is = this.0 in let mild = this.1 in
          let first = settle_left g.F.Flights.planner _ old.log _ _ old.managed c.args.unit.now _ m0 before needs (planned_left g.F.Flights.planner _ old.log _ old.managed calls ask c.args.unit.now m0 is mild c.requires.planned h) in
          c.in_err-settle.ensures.gives.stops m0 _ answered first left;
    })

pub returns-clause-issues : goal.returns-clause-issues
returns-clause-issues g c = record {
  step = search (rules, keeps_on);
  entries = search rules;
  whole = search rules;
  room = search rules;
  fenced = past_before c.args.self.now.log c.settle.new.self.log c.issue_by_cfg-2.new.self.log c.issue_by_cfg-2.result c.in_ok-settle.ensures.further.so c.settle.ensures.further.step.keeps.goes.known c.issue_by_cfg-2.ensures.issues.fenced;
}
