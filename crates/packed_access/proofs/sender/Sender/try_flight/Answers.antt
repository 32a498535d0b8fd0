use Rattle.std.proofs.Common.{Bool, subst}
use Rattle.packed_access.specs.Forgiving.{LeadsCame}
use Rattle.packed_access.proofs.LeadLemmas.{all_went, last_next}
use Rattle.packed_access.proofs.TryMemoryLemmas.{broken_calls, on_err, on_ok}
use Rattle.packed_access.proofs.sender.Sender.try_flight.Goals as goal

pub returns-in-Ok-true-clause-gives : goal.returns-in-Ok-true-clause-gives
returns-in-Ok-true-clause-gives g c =
    let mid = c.try_leads.new.self in
    record {
      on = λ m0 asked k t made rest more h n.
          let came = subst (λ (b : Bool). LeadsCame b g.F.Flights.planner c.args.forgive (g.F.Flights.state mid.flights) mid.log asked k t made c.args.leads.now c.args.last more m0) c.in-Ok-true.field-0-test (c.in-Ok-true.ensures.on m0 asked k t made c.args.last c.args.ends rest more h n) in
          on_ok c.try_together-in-Ok-true.result _ _ (λ w went. all_went g.F.Flights.planner c.args.forgive w _ c.try_together-in-Ok-true.new.self.log asked k t made c.args.leads.now c.args.last more m0 went)
          (c.try_together-in-Ok-true.ensures.gives.on m0 asked k t _ _ more came (last_next asked t made c.args.leads.now c.args.last c.args.ends rest more n));
      broke = λ m0 asked k t made rest more h n.
          let came = subst (λ (b : Bool). LeadsCame b g.F.Flights.planner c.args.forgive (g.F.Flights.state mid.flights) mid.log asked k t made c.args.leads.now c.args.last more m0) c.in-Ok-true.field-0-test (c.in-Ok-true.ensures.on m0 asked k t made c.args.last c.args.ends rest more h n) in
          on_err c.try_together-in-Ok-true.result _ _ (λ s broke. broken_calls g.F.Flights.planner s _ c.try_together-in-Ok-true.new.self.log _ _ m0 c.in-Ok-true.ensures.tries.further.calls broke)
          (c.try_together-in-Ok-true.ensures.gives.broke m0 asked k t _ _ more came (last_next asked t made c.args.leads.now c.args.last c.args.ends rest more n));
    }

pub returns-in-Ok-false-clause-gives : goal.returns-in-Ok-false-clause-gives
returns-in-Ok-false-clause-gives g c = record {
  on = λ m0 asked k t made rest more h n.
      let mid = c.try_leads.new.self in
      subst (λ (b : Bool). LeadsCame b g.F.Flights.planner c.args.forgive (g.F.Flights.state mid.flights) mid.log asked k t made c.args.leads.now c.args.last more m0) c.in-Ok-false.field-0-test (c.in-Ok-false.ensures.on m0 asked k t made c.args.last c.args.ends rest more h n);
  broke = λ m0 asked k t made rest more h n. tt;
}

pub returns-in-Err-clause-gives : goal.returns-in-Err-clause-gives
returns-in-Err-clause-gives g c = record {
  on = λ m0 asked k t made rest more h n. tt;
  broke = λ m0 asked k t made rest more h n. c.in-Err.ensures.broke m0 asked k t made c.args.last c.args.ends rest more h n;
}
