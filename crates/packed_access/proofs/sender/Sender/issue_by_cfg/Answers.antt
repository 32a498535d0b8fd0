use Rattle.std.proofs.Common.{rules, ◌≡◌, ◌∙◌, ℕ, ◌+◌, ◌-◌, List, length, true, false, arith, sym, ap, subst}
use Rattle.std.proofs.lemmas.Result.{err_from_is_err_and}
use Rattle.dap_base.specs.Bits.{has_bit}
use Rattle.target_calls.specs.declared.calls.Ask.{Ask}
use Rattle.access_regs.specs.Journal.{gives, port_of}
use Rattle.access_regs.specs.Plan.{cfg_plan, needs_cfg, needs_csw}
use Rattle.packed_access.specs.Begun.{StopsAfterLines, target_issued}
use Rattle.packed_access.specs.Logs.{asks_of, with_needs}
use Rattle.packed_access.proofs.FrameLemmas.{keeps_on}
use Rattle.packed_access.proofs.CfgLemmas.{came_good, cfg_left, large_left, needs_both, none_kept, none_left, reads_large, reads_small, rest_whole, shown_by}
use Rattle.packed_access.proofs.sender.Sender.issue_by_cfg.Goals as goal

pub returns-in_err-large-clause-gives : goal.returns-in_err-large-clause-gives
returns-in_err-large-clause-gives g c =
    let p = err_from_is_err_and c.from_residual-in_err-large.result c.from_residual-in_err-large.ensures.1 in
    rw (p.1, p.2) (let old = c.args.self.now in
    let needs : needs_cfg old.managed c.args.unit.now ≡ true = search rules in
    record {
      on = λ m0 h. tt;
      spare = λ m0 left h s. tt;
      broke = λ m0 h.
          c.in_err-large.ensures.gives.broke m0 _ (cfg_left g.F.Flights.planner _ old.log _ (target_issued g.F.Flights.planner old.log m0) old.managed c.args.unit.now m0 c.requires.ready.whole needs h);
      stops = λ m0 answered h left.
          c.in_err-large.ensures.gives.stops m0 _ answered (cfg_left g.F.Flights.planner _ old.log _ (target_issued g.F.Flights.planner old.log m0) old.managed c.args.unit.now m0 c.requires.ready.whole needs h) left;
    })

pub returns-then-not-large-clause-gives : goal.returns-then-not-large-clause-gives
returns-then-not-large-clause-gives g c =
    let old = c.args.self.now in
    let needs : needs_cfg old.managed c.args.unit.now ≡ true = search rules in
    record {
      on = λ m0 h.
          let first = cfg_left g.F.Flights.planner _ old.log _ (target_issued g.F.Flights.planner old.log m0) old.managed c.args.unit.now m0 c.requires.ready.whole needs h in
          let bit : has_bit (gives (target_issued g.F.Flights.planner old.log m0) (cfg_plan old.managed (port_of c.args.unit.now))) 2 ≡ false = sym (c.in_ok-large.ensures.large m0 _ first) ∙ c.if-not-large.true in
          none_left g.F.Flights.planner _ old.log c.read_cfg.new.self.log _ (target_issued g.F.Flights.planner old.log m0) old.managed c.args.unit.now m0 bit c.in_ok-large.ensures.empty (c.in_ok-large.ensures.gives.on m0 _ first);
      spare = λ m0 left h s.
          c.in_ok-large.ensures.spare m0 _ left (cfg_left g.F.Flights.planner _ old.log _ (target_issued g.F.Flights.planner old.log m0) old.managed c.args.unit.now m0 c.requires.ready.whole needs h) s;
      broke = λ m0 h. tt;
      stops = λ m0 answered h left. tt;
    }

pub returns-then-not-large-clause-kept : goal.returns-then-not-large-clause-kept
returns-then-not-large-clause-kept g c = λ m0 h.
    let old = c.args.self.now in
    let needs : needs_cfg old.managed c.args.unit.now ≡ true = search rules in
    let first = cfg_left g.F.Flights.planner _ old.log _ (target_issued g.F.Flights.planner old.log m0) old.managed c.args.unit.now m0 c.requires.ready.whole needs h in
    let bit : has_bit (gives (target_issued g.F.Flights.planner old.log m0) (cfg_plan old.managed (port_of c.args.unit.now))) 2 ≡ false = sym (c.in_ok-large.ensures.large m0 _ first) ∙ c.if-not-large.true in
    none_kept (target_issued g.F.Flights.planner old.log m0) old.managed _ c.args.unit.now needs bit (c.in_ok-large.ensures.gives.kept m0 _ first)

pub returns-then-not-large-clause-small : goal.returns-then-not-large-clause-small
returns-then-not-large-clause-small g c = λ m0 calls ask are h.
    let old = c.args.self.now in
    let mid = c.read_cfg.new.self in
    let needs : needs_cfg old.managed c.args.unit.now ≡ true = search rules in
    let first = cfg_left g.F.Flights.planner _ old.log _ (target_issued g.F.Flights.planner old.log m0) old.managed c.args.unit.now m0 c.requires.ready.whole needs h in
    let there = c.in_ok-large.ensures.gives.on m0 _ first in
    let whole : mid.log.whole + 1 ≡ length mid.log.calls = (let w = c.requires.ready.whole in let s = c.in_ok-large.ensures.issues.whole in let k = ap length c.in_ok-large.ensures.issues.step.keeps.calls in omega (arith, w, s, k)) in
    shown_by _ calls (target_issued g.F.Flights.planner old.log m0) old.managed c.args.unit.now false needs (sym c.if-not-large.true ∙ c.in_ok-large.ensures.large m0 _ first)
    (came_good g.F.Flights.planner _ _ old.log mid.log _ _ _ (cfg_plan old.managed (port_of c.args.unit.now)) _ m0 first there c.in_ok-large.ensures.issues.step.keeps.calls)
    (rest_whole g.F.Flights.planner _ mid.log _ calls ask m0 there (c.in_ok-large.ensures.issues.step.keeps.calls ∙ are) whole)

pub returns-then-not-large-clause-asks : goal.returns-then-not-large-clause-asks
returns-then-not-large-clause-asks g c = λ m0 h.
    let old = c.args.self.now in
    let needs : needs_cfg old.managed c.args.unit.now ≡ true = search rules in
    let first = cfg_left g.F.Flights.planner _ old.log _ (target_issued g.F.Flights.planner old.log m0) old.managed c.args.unit.now m0 c.requires.ready.whole needs h in
    let bit : has_bit (gives (target_issued g.F.Flights.planner old.log m0) (cfg_plan old.managed (port_of c.args.unit.now))) 2 ≡ false = sym (c.in_ok-large.ensures.large m0 _ first) ∙ c.if-not-large.true in
    c.in_ok-large.ensures.asks ∙ ap (λ (n : ℕ). asks_of (with_needs old.log n (length old.log.calls - 1))) (sym (reads_small (target_issued g.F.Flights.planner old.log m0) old.managed c.args.unit.now needs bit))

pub returns-clause-gives : goal.returns-clause-gives
returns-clause-gives g c =
    let old = c.args.self.now in
    let mid = c.read_cfg.new.self in
    let needs : needs_cfg old.managed c.args.unit.now ≡ true = search rules in
    record {
      on = λ m0 h.
          let first = cfg_left g.F.Flights.planner _ old.log _ (target_issued g.F.Flights.planner old.log m0) old.managed c.args.unit.now m0 c.requires.ready.whole needs h in
          let bit : has_bit (gives (target_issued g.F.Flights.planner old.log m0) (cfg_plan old.managed (port_of c.args.unit.now))) 2 ≡ true = sym (c.in_ok-large.ensures.large m0 _ first) ∙ c.if-not-large.false in
          let l = large_left g.F.Flights.planner _ _ old.log mid.log _ _ old.managed mid.managed c.args.unit.now m0 needs bit first (c.in_ok-large.ensures.gives.on m0 _ first) c.in_ok-large.ensures.issues.step.keeps.calls c.in_ok-large.ensures.empty (c.in_ok-large.ensures.gives.kept m0 _ first) in
          c.in_ok-issue_by_csw-2.ensures.gives.on m0 l.left;
      spare = λ m0 left h s.
          let first = cfg_left g.F.Flights.planner _ old.log _ (target_issued g.F.Flights.planner old.log m0) old.managed c.args.unit.now m0 c.requires.ready.whole needs h in
          let bit : has_bit (gives (target_issued g.F.Flights.planner old.log m0) (cfg_plan old.managed (port_of c.args.unit.now))) 2 ≡ true = sym (c.in_ok-large.ensures.large m0 _ first) ∙ c.if-not-large.false in
          let l = large_left g.F.Flights.planner _ _ old.log mid.log _ _ old.managed mid.managed c.args.unit.now m0 needs bit first (c.in_ok-large.ensures.gives.on m0 _ first) c.in_ok-large.ensures.issues.step.keeps.calls c.in_ok-large.ensures.empty (c.in_ok-large.ensures.gives.kept m0 _ first) in
          c.in_ok-issue_by_csw-2.ensures.gives.spare m0 left l.left (c.in_ok-large.ensures.spare m0 _ left first s);
      broke = λ m0 h. tt;
      stops = λ m0 answered h left. tt;
    }

pub returns-clause-kept : goal.returns-clause-kept
returns-clause-kept g c = λ m0 h.
    let old = c.args.self.now in
    let mid = c.read_cfg.new.self in
    let needs : needs_cfg old.managed c.args.unit.now ≡ true = search rules in
    let first = cfg_left g.F.Flights.planner _ old.log _ (target_issued g.F.Flights.planner old.log m0) old.managed c.args.unit.now m0 c.requires.ready.whole needs h in
    let bit : has_bit (gives (target_issued g.F.Flights.planner old.log m0) (cfg_plan old.managed (port_of c.args.unit.now))) 2 ≡ true = sym (c.in_ok-large.ensures.large m0 _ first) ∙ c.if-not-large.false in
    let l = large_left g.F.Flights.planner _ _ old.log mid.log _ _ old.managed mid.managed c.args.unit.now m0 needs bit first (c.in_ok-large.ensures.gives.on m0 _ first) c.in_ok-large.ensures.issues.step.keeps.calls c.in_ok-large.ensures.empty (c.in_ok-large.ensures.gives.kept m0 _ first) in
    c.in_ok-issue_by_csw-2.ensures.kept m0 l.left ∙ l.kept

pub returns-clause-small : goal.returns-clause-small
returns-clause-small g c = λ m0 calls ask are h.
    let old = c.args.self.now in
    let mid = c.read_cfg.new.self in
    let needs : needs_cfg old.managed c.args.unit.now ≡ true = search rules in
    let first = cfg_left g.F.Flights.planner _ old.log _ (target_issued g.F.Flights.planner old.log m0) old.managed c.args.unit.now m0 c.requires.ready.whole needs h in
    let there = c.in_ok-large.ensures.gives.on m0 _ first in
    let whole : mid.log.whole + 1 ≡ length mid.log.calls = (let w = c.requires.ready.whole in let s = c.in_ok-large.ensures.issues.whole in let k = ap length c.in_ok-large.ensures.issues.step.keeps.calls in omega (arith, w, s, k)) in
    shown_by _ calls (target_issued g.F.Flights.planner old.log m0) old.managed c.args.unit.now true needs (sym c.if-not-large.false ∙ c.in_ok-large.ensures.large m0 _ first)
    (came_good g.F.Flights.planner _ _ old.log mid.log _ _ _ (cfg_plan old.managed (port_of c.args.unit.now)) _ m0 first there c.in_ok-large.ensures.issues.step.keeps.calls)
    (rest_whole g.F.Flights.planner _ mid.log _ calls ask m0 there (c.in_ok-large.ensures.issues.step.keeps.calls ∙ are) whole)

pub returns-clause-asks : goal.returns-clause-asks
returns-clause-asks g c = λ m0 h.
    let old = c.args.self.now in
    let mid = c.read_cfg.new.self in
    let needs : needs_cfg old.managed c.args.unit.now ≡ true = search rules in
    let first = cfg_left g.F.Flights.planner _ old.log _ (target_issued g.F.Flights.planner old.log m0) old.managed c.args.unit.now m0 c.requires.ready.whole needs h in
    let bit : has_bit (gives (target_issued g.F.Flights.planner old.log m0) (cfg_plan old.managed (port_of c.args.unit.now))) 2 ≡ true = sym (c.in_ok-large.ensures.large m0 _ first) ∙ c.if-not-large.false in
    c.in_ok-issue_by_csw-2.ensures.asks
    ∙ needs_both (needs_csw mid.managed c.args.unit.now) old.log mid.log (length mid.log.calls - 1) (length old.log.calls - 1) c.in_ok-large.ensures.asks (ap (λ (l : List Ask). length l - 1) c.in_ok-large.ensures.issues.step.keeps.calls)
    ∙ ap (λ (n : ℕ). asks_of (with_needs old.log n (length old.log.calls - 1))) (sym (reads_large (target_issued g.F.Flights.planner old.log m0) old.managed mid.managed c.args.unit.now needs bit (c.in_ok-large.ensures.gives.kept m0 _ first)))

pub returns-in_err-issue_by_csw-2-clause-gives : goal.returns-in_err-issue_by_csw-2-clause-gives
returns-in_err-issue_by_csw-2-clause-gives g c =
    let p = err_from_is_err_and c.from_residual-in_err-issue_by_csw-2.result c.from_residual-in_err-issue_by_csw-2.ensures.1 in
    rw (p.1, p.2) (let old = c.args.self.now in
    let mid = c.read_cfg.new.self in
    let needs : needs_cfg old.managed c.args.unit.now ≡ true = search rules in
    record {
      on = λ m0 h. tt;
      spare = λ m0 left h s. tt;
      broke = λ m0 h.
          let first = cfg_left g.F.Flights.planner _ old.log _ (target_issued g.F.Flights.planner old.log m0) old.managed c.args.unit.now m0 c.requires.ready.whole needs h in
          let bit : has_bit (gives (target_issued g.F.Flights.planner old.log m0) (cfg_plan old.managed (port_of c.args.unit.now))) 2 ≡ true = sym (c.in_ok-large.ensures.large m0 _ first) ∙ c.if-not-large.false in
          let l = large_left g.F.Flights.planner _ _ old.log mid.log _ _ old.managed mid.managed c.args.unit.now m0 needs bit first (c.in_ok-large.ensures.gives.on m0 _ first) c.in_ok-large.ensures.issues.step.keeps.calls c.in_ok-large.ensures.empty (c.in_ok-large.ensures.gives.kept m0 _ first) in
          c.in_err-issue_by_csw-2.ensures.gives.broke m0 l.left;
      stops = λ m0 answered h left.
          let first = cfg_left g.F.Flights.planner _ old.log _ (target_issued g.F.Flights.planner old.log m0) old.managed c.args.unit.now m0 c.requires.ready.whole needs h in
          let bit : has_bit (gives (target_issued g.F.Flights.planner old.log m0) (cfg_plan old.managed (port_of c.args.unit.now))) 2 ≡ true = sym (c.in_ok-large.ensures.large m0 _ first) ∙ c.if-not-large.false in
          let l = large_left g.F.Flights.planner _ _ old.log mid.log _ _ old.managed mid.managed c.args.unit.now m0 needs bit first (c.in_ok-large.ensures.gives.on m0 _ first) c.in_ok-large.ensures.issues.step.keeps.calls c.in_ok-large.ensures.empty (c.in_ok-large.ensures.gives.kept m0 _ first) in
          subst (λ (calls : List Ask). StopsAfterLines m0 answered calls c.issue_by_csw-2.new.self.log.lines c.in_err-issue_by_csw-2.field-0.0) c.in_ok-large.ensures.issues.step.keeps.calls (c.in_err-issue_by_csw-2.ensures.gives.stops m0 answered l.left left);
    })

pub returns-then-not-large-clause-issues : goal.returns-then-not-large-clause-issues
returns-then-not-large-clause-issues g c = record {
  step = search (rules, keeps_on);
  entries = search rules;
  whole = search rules;
  room = search rules;
  fenced = λ past. absurd (let f = c.in_ok-large.ensures.fenced in omega (arith, f, past));
}

pub returns-clause-issues : goal.returns-clause-issues
returns-clause-issues g c = record {
  step = search (rules, keeps_on);
  entries = search rules;
  whole = search rules;
  room = search rules;
  fenced = λ past. absurd (let f = c.in_ok-large.ensures.fenced in let p = c.in_ok-issue_by_csw-2.ensures.issues.fenced past in omega (arith, f, p));
}
