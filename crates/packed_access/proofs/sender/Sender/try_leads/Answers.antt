use Rattle.std.proofs.Common.{◌≡◌, ℕ, ◌∙◌, ◌+◌, ◌≤◌, ◌++◌, ◌∷◌, [], true, false, List, length, take, drop, get_or, take_all, take-append-drop, Option, sym, subst, arith}
use Rattle.std.specs.Prelude.{IfSome}
use Rattle.std.proofs.lemmas.List.{at_drop_more, drop_all, take_more}
use Rattle.target_machine.specs.Plain.{Action}
use Rattle.target_machine.specs.declared.access.RegAccess.{RegAccess}
use Rattle.flight_forms.specs.Packing.{IsTaken}
use Rattle.access_regs.specs.Journal.{making}
use Rattle.access_calls.proofs.KeepLemmas.{goes_trans}
use Rattle.packed_access.specs.Forgiving.{LogHasTried, WentTo}
use Rattle.packed_access.proofs.FrameLemmas.{further_then}
use Rattle.packed_access.proofs.LeadLemmas.{lead_came, lead_next, lead_stays}
use Rattle.packed_access.proofs.TryMemoryLemmas.{broken_calls}
use Rattle.packed_access.proofs.sender.Sender.try_leads.Goals as goal

pub returns-in-Ok-None-clause-on : goal.returns-in-Ok-None-clause-on
returns-in-Ok-None-clause-on g c = λ m0 asked k t made last ends rest more h n.
    let leads : List RegAccess = c.args.leads.now in
    let i = c.loop-lead.lead-index in
    let lead : RegAccess = get_or leads i (record { ap = false; read = false; addr = 0; value = 0 }) in
    let are : leads ≡ take i leads ++ lead ∷ drop (i + 1) leads = sym (take-append-drop i leads) ∙ at_drop_more (λ (l : List RegAccess). take i leads ++ l) leads i (record { ap = false; read = false; addr = 0; value = 0 }) c.loop-lead-test.true in
    let mid = c.loop-lead.self in
    let there = at_drop_more (λ (l : List RegAccess). making (l ++ last ∷ []) ++ more) leads i (record { ap = false; read = false; addr = 0; value = 0 }) c.loop-lead-test.true in
    let tried = subst (λ (a : List Action). LogHasTried g.F.Flights.planner c.args.forgive (g.F.Flights.state mid.flights) mid.log asked k t (made ++ take i leads) a m0) there (c.loop-lead.invariant.on m0 asked k t made last ends rest more h n) in
    let next = lead_next asked t made leads last ends rest more n (take i leads) lead (drop (i + 1) leads) are in
    let new = c.try_together.new.self in
    let went = subst (λ (w : Option ℕ). WentTo g.F.Flights.planner c.args.forgive w (g.F.Flights.state new.flights) new.log asked k t (made ++ take i leads) [] lead (making (drop (i + 1) leads ++ last ∷ []) ++ more) m0) c.in-Ok-None.field-0-is (c.in-Ok-None.ensures.gives.on m0 asked k t (made ++ take i leads) _ _ tried next) in
    lead_stays asked t made leads last ends rest more n (take i leads) lead (drop (i + 1) leads) are g.F.Flights.planner c.args.forgive _ new.log k m0 went

pub returns-in-Err-clause-broke : goal.returns-in-Err-clause-broke
returns-in-Err-clause-broke g c = λ m0 asked k t made last ends rest more h n.
    let leads : List RegAccess = c.args.leads.now in
    let i = c.loop-lead.lead-index in
    let lead : RegAccess = get_or leads i (record { ap = false; read = false; addr = 0; value = 0 }) in
    let are : leads ≡ take i leads ++ lead ∷ drop (i + 1) leads = sym (take-append-drop i leads) ∙ at_drop_more (λ (l : List RegAccess). take i leads ++ l) leads i (record { ap = false; read = false; addr = 0; value = 0 }) c.loop-lead-test.true in
    let mid = c.loop-lead.self in
    let there = at_drop_more (λ (l : List RegAccess). making (l ++ last ∷ []) ++ more) leads i (record { ap = false; read = false; addr = 0; value = 0 }) c.loop-lead-test.true in
    let tried = subst (λ (a : List Action). LogHasTried g.F.Flights.planner c.args.forgive (g.F.Flights.state mid.flights) mid.log asked k t (made ++ take i leads) a m0) there (c.loop-lead.invariant.on m0 asked k t made last ends rest more h n) in
    let next = lead_next asked t made leads last ends rest more n (take i leads) lead (drop (i + 1) leads) are in
    broken_calls g.F.Flights.planner _ _ c.try_together.new.self.log _ _ m0 c.loop-lead.invariant.further.calls (c.in-Err.ensures.gives.broke m0 asked k t (made ++ take i leads) _ _ tried next)

pub loop-lead-preserved : goal.loop-lead-preserved
loop-lead-preserved g c =
    let leads : List RegAccess = c.args.leads.now in
    let i = c.loop-lead.lead-index in
    let lead : RegAccess = get_or leads i (record { ap = false; read = false; addr = 0; value = 0 }) in
    let mid = c.loop-lead.self in
    let new = c.try_together.new.self in
    let before = c.loop-lead.invariant in
    let now = c.in-Ok-Some.ensures in
    record {
      on = λ m0 asked k t made last ends rest more h n.
          let are : leads ≡ take i leads ++ lead ∷ drop (i + 1) leads = sym (take-append-drop i leads) ∙ at_drop_more (λ (l : List RegAccess). take i leads ++ l) leads i (record { ap = false; read = false; addr = 0; value = 0 }) c.loop-lead-test.true in
          let there = at_drop_more (λ (l : List RegAccess). making (l ++ last ∷ []) ++ more) leads i (record { ap = false; read = false; addr = 0; value = 0 }) c.loop-lead-test.true in
          let tried = subst (λ (a : List Action). LogHasTried g.F.Flights.planner c.args.forgive (g.F.Flights.state mid.flights) mid.log asked k t (made ++ take i leads) a m0) there (before.on m0 asked k t made last ends rest more h n) in
          let next = lead_next asked t made leads last ends rest more n (take i leads) lead (drop (i + 1) leads) are in
          let went = subst (λ (w : Option ℕ). WentTo g.F.Flights.planner c.args.forgive w (g.F.Flights.state new.flights) new.log asked k t (made ++ take i leads) [] lead (making (drop (i + 1) leads ++ last ∷ []) ++ more) m0) c.in-Ok-Some.field-0-is (now.gives.on m0 asked k t (made ++ take i leads) _ _ tried next) in
          subst (λ (l : List RegAccess). LogHasTried g.F.Flights.planner c.args.forgive (g.F.Flights.state new.flights) new.log asked k t (made ++ l) (making (drop (i + 1) leads ++ last ∷ []) ++ more) m0) (sym (take_more leads i (record { ap = false; read = false; addr = 0; value = 0 }) c.loop-lead-test.true))
          (lead_came g.F.Flights.planner c.args.forgive _ new.log asked k t made (take i leads) lead _ m0 went.0);
      goes = goes_trans _ _ _ before.goes c.try_together.ensures.tries.step.keeps.goes;
      later = (let a = before.later in let b = now.tries.later in omega (arith, a, b));
      limits = c.try_together.ensures.tries.step.keeps.same_limits ∙ before.limits;
      further = further_then _ _ _ before.further now.tries.further;
      came = now.tries.came;
      empty = now.tries.empty;
      space = subst (λ (w : Option ℕ). IfSome w (λ v. (next : RegAccess) → IsTaken next → g.F.Flights.has_room new.flights next ≡ true)) c.in-Ok-Some.field-0-is now.space;
      asks = c.try_together.ensures.tries.asks ∙ before.asks;
      entries = (let a = before.entries in let b = subst (λ (w : Option ℕ). IfSome w (λ v. length new.log.entries ≤ length mid.log.entries + (0 + 1))) c.in-Ok-Some.field-0-is now.unskipped in omega (arith, a, b));
      managed = c.try_together.ensures.managed ∙ before.managed;
      identity = c.try_together.ensures.tries.step.keeps.same_bench ∙ before.identity;
    }

pub returns-clause-on : goal.returns-clause-on
returns-clause-on g c = λ m0 asked k t made last ends rest more h n.
    let leads : List RegAccess = c.args.leads.now in
    let i = c.loop-lead.lead-index in
    let mid = c.loop-lead.self in
    let all : length leads ≤ i = (let no = c.loop-lead-test.false in omega (arith, no)) in
    let tried = subst (λ (l : List RegAccess). LogHasTried g.F.Flights.planner c.args.forgive (g.F.Flights.state mid.flights) mid.log asked k t (made ++ take i leads) (making (l ++ last ∷ []) ++ more) m0) (drop_all i leads all) (c.loop-lead.invariant.on m0 asked k t made last ends rest more h n) in
    subst (λ (l : List RegAccess). LogHasTried g.F.Flights.planner c.args.forgive (g.F.Flights.state mid.flights) mid.log asked k t (made ++ l) (making (last ∷ []) ++ more) m0) (take_all i leads all) tried

pub returns-in-Ok-None-clause-tries : goal.returns-in-Ok-None-clause-tries
returns-in-Ok-None-clause-tries g c =
    let before = c.loop-lead.invariant in
    let keeps = c.try_together.ensures.tries.step.keeps in
    let now = c.in-Ok-None.ensures.tries in
    let within = c.loop-lead-test.true in
    record {
      step = record {
        keeps = record {
          same_bench = keeps.same_bench ∙ before.identity;
          same_limits = keeps.same_limits ∙ before.limits;
          calls = keeps.calls ∙ before.further.calls;
          goes = goes_trans _ _ _ before.goes keeps.goes;
        };
        ends = record { no_end = now.step.ends.no_end; ended = tt; memory = tt };
      };
      asks = c.try_together.ensures.tries.asks ∙ before.asks;
      further = further_then _ _ _ before.further now.further;
      entries = (let a = before.entries in let b = now.entries in omega (arith, a, b, within));
      later = (let a = before.later in let b = now.later in omega (arith, a, b));
      came = now.came;
      empty = now.empty;
    }

pub returns-in-Err-clause-tries : goal.returns-in-Err-clause-tries
returns-in-Err-clause-tries g c =
    let before = c.loop-lead.invariant in
    let keeps = c.try_together.ensures.tries.step.keeps in
    record {
      step = record {
        keeps = record {
          same_bench = keeps.same_bench ∙ before.identity;
          same_limits = keeps.same_limits ∙ before.limits;
          calls = keeps.calls ∙ before.further.calls;
          goes = goes_trans _ _ _ before.goes keeps.goes;
        };
        ends = record { no_end = tt; ended = c.in-Err.ensures.tries.step.ends.ended; memory = c.in-Err.ensures.tries.step.ends.memory };
      };
      asks = c.try_together.ensures.tries.asks ∙ before.asks;
      further = tt;
      entries = tt;
      later = tt;
      came = tt;
      empty = tt;
    }
