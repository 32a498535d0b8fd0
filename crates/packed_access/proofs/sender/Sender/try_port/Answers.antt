use Rattle.std.proofs.Common.{◌∷◌, [], sym, subst}
use Rattle.std.specs.Prelude.{IfOk}
use Rattle.target_machine.specs.declared.access.RegAccess.{RegAccess}
use Rattle.packed_access.specs.Forgiving.{AreNextAccesses, WentTo}
use Rattle.packed_access.proofs.sender.Sender.try_port.Goals as goal

pub returns-clause-gives : goal.returns-clause-gives
returns-clause-gives g c = record {
  on = λ m0 asked k t made rest more h n.
      let new = c.try_flight.new.self in
      subst (λ (s : RegAccess). IfOk c.try_flight.result (λ w. WentTo g.F.Flights.planner c.args.forgive w (g.F.Flights.state new.flights) new.log asked k t made (s ∷ []) c.args.access more m0)) c.select-write.ensures
      (c.try_flight.ensures.gives.on m0 asked k t made rest more h (subst (λ (s : RegAccess). AreNextAccesses asked t made (s ∷ []) c.args.access c.args.ends rest more) (sym c.select-write.ensures) n));
  broke = λ m0 asked k t made rest more h n.
      c.try_flight.ensures.gives.broke m0 asked k t made rest more h (subst (λ (s : RegAccess). AreNextAccesses asked t made (s ∷ []) c.args.access c.args.ends rest more) (sym c.select-write.ensures) n);
}
