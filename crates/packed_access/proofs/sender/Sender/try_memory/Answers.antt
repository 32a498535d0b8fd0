use Rattle.std.proofs.Common.{◌≡◌, ◌∙◌, ℕ, ◌/◌, ◌%◌, ◌^◌, ◌<◌, ◌++◌, ◌∷◌, [], true, false, List, Option, Some, sym, ap, subst, arith}
use Rattle.target_machine.specs.Lists.{after}
use Rattle.target_machine.specs.Plain.{ap_access_of, csw_for, select_of, transfer_actions}
use Rattle.target_machine.specs.declared.access.RegAccess.{RegAccess}
use Rattle.target_machine.specs.declared.unit.Unit.TheVariants as unit
use Rattle.target_calls.proofs.CallRanges.{lanes_fit}
use Rattle.access_regs.specs.Journal.{making}
use Rattle.packed_access.specs.Forgiving.{AreNextAccesses, WentTo}
use Rattle.packed_access.proofs.TryMemoryLemmas.{broken_calls, csw_given, csw_next, csw_read, drw_next, on_err, on_ok, went_came, went_skipped}
use Rattle.packed_access.proofs.WentLemmas.{went_most, went_thens}
use Rattle.packed_access.proofs.sender.Sender.try_memory.Goals as goal

pub access_drw-last-requires : goal.access_drw-last-requires
access_drw-last-requires g c = λ write. lanes_fit c.args.size c.args.address c.args.value c.requires.sound.sized c.requires.sound.aligned (c.requires.sound.fits write)

pub returns-in-Ok-None-clause-on : goal.returns-in-Ok-None-clause-on
returns-in-Ok-None-clause-on g c = λ m0 k t made rest h quiet is.
    let old = c.args.self.now in
    let lt : c.args.ap < 256 = c.ranges.ap.fits in
    let access : c.access_ap.result ≡ ap_access_of true 0 0 = c.access_ap.ensures in
    let n = csw_next g.F.Flights.planner c.args.forgive _ old.log k t made rest m0 c.args.large c.args.size c.args.read c.args.ap c.args.address c.args.value h lt quiet is in
    let n' = subst (λ (a : RegAccess). AreNextAccesses (unit.Memory c.args.size c.args.read c.args.ap c.args.address c.args.value) t made (select_of c.args.ap 0 ∷ []) a false rest (transfer_actions c.args.large c.args.size c.args.read c.args.address c.args.value (csw_read (after t (making made)) c.args.ap))) (sym access) n in
    went_skipped g.F.Flights.planner c.args.forgive _ _ c.try_port.new.self.log (unit.Memory c.args.size c.args.read c.args.ap c.args.address c.args.value) k t made (select_of c.args.ap 0 ∷ []) c.access_ap.result _ m0 c.in-Ok-None.field-0-is (c.in-Ok-None.ensures.gives.on m0 (unit.Memory c.args.size c.args.read c.args.ap c.args.address c.args.value) k t made rest _ h n')

pub returns-in-Err-clause-broke : goal.returns-in-Err-clause-broke
returns-in-Err-clause-broke g c = λ m0 k t made rest h quiet is.
    let old = c.args.self.now in
    let lt : c.args.ap < 256 = c.ranges.ap.fits in
    let access : c.access_ap.result ≡ ap_access_of true 0 0 = c.access_ap.ensures in
    let n = csw_next g.F.Flights.planner c.args.forgive _ old.log k t made rest m0 c.args.large c.args.size c.args.read c.args.ap c.args.address c.args.value h lt quiet is in
    let n' = subst (λ (a : RegAccess). AreNextAccesses (unit.Memory c.args.size c.args.read c.args.ap c.args.address c.args.value) t made (select_of c.args.ap 0 ∷ []) a false rest (transfer_actions c.args.large c.args.size c.args.read c.args.address c.args.value (csw_read (after t (making made)) c.args.ap))) (sym access) n in
    c.in-Err.ensures.gives.broke m0 (unit.Memory c.args.size c.args.read c.args.ap c.args.address c.args.value) k t made rest _ h n'

pub returns-then-large-clause-on : goal.returns-then-large-clause-on
returns-then-large-clause-on g c = λ m0 k t made rest h quiet is.
    let old = c.args.self.now in
    let lt : c.args.ap < 256 = c.ranges.ap.fits in
    let access : c.access_ap.result ≡ ap_access_of true 0 0 = c.access_ap.ensures in
    let n = csw_next g.F.Flights.planner c.args.forgive _ old.log k t made rest m0 c.args.large c.args.size c.args.read c.args.ap c.args.address c.args.value h lt quiet is in
    let n' = subst (λ (a : RegAccess). AreNextAccesses (unit.Memory c.args.size c.args.read c.args.ap c.args.address c.args.value) t made (select_of c.args.ap 0 ∷ []) a false rest (transfer_actions c.args.large c.args.size c.args.read c.args.address c.args.value (csw_read (after t (making made)) c.args.ap))) (sym access) n in
    let mid = c.try_port.new.self in
    let went = subst (λ (w : Option ℕ). WentTo g.F.Flights.planner c.args.forgive w (g.F.Flights.state mid.flights) mid.log (unit.Memory c.args.size c.args.read c.args.ap c.args.address c.args.value) k t made (select_of c.args.ap 0 ∷ []) c.access_ap.result (transfer_actions c.args.large c.args.size c.args.read c.args.address c.args.value (csw_read (after t (making made)) c.args.ap)) m0) (c.in-Ok-Some.field-0-is ∙ ap (λ (v : ℕ). Some v) (sym c.in-Ok-Some.csw-is)) (c.in-Ok-Some.ensures.gives.on m0 (unit.Memory c.args.size c.args.read c.args.ap c.args.address c.args.value) k t made rest _ h n') in
    let went' = subst (λ (a : RegAccess). WentTo g.F.Flights.planner c.args.forgive (Some c.in-Ok-Some.csw) (g.F.Flights.state mid.flights) mid.log (unit.Memory c.args.size c.args.read c.args.ap c.args.address c.args.value) k t made (select_of c.args.ap 0 ∷ []) a (transfer_actions c.args.large c.args.size c.args.read c.args.address c.args.value (csw_read (after t (making made)) c.args.ap)) m0) access went in
    let csw_is : c.in-Ok-Some.csw ≡ csw_read (after t (making made)) c.args.ap = went'.1 ∙ csw_given g.F.Flights.planner c.args.forgive _ old.log k t made rest m0 c.args.large c.args.size c.args.read c.args.ap c.args.address c.args.value h lt quiet is in
    let next = drw_next g.F.Flights.planner c.args.forgive _ old.log k t made rest m0 c.args.large c.args.size c.args.read c.args.ap c.args.address c.args.value h lt quiet is _ mid.log c.in-Ok-Some.csw went'.0 csw_is true c.if-large.true in
    let first : c.access_ap-csw.result ≡ ap_access_of false 0 (csw_for c.in-Ok-Some.csw c.args.size) = c.access_ap-csw.ensures ∙ ap (ap_access_of false 0) c.plain_csw.ensures in
    let high : c.access_ap-high.result ≡ ap_access_of false 8 (c.args.address / 2 ^ 32) = c.access_ap-high.ensures ∙ ap (ap_access_of false 8) c.high_of.ensures in
    let low : c.access_ap-low.result ≡ ap_access_of false 4 (c.args.address % 2 ^ 32) = c.access_ap-low.ensures ∙ ap (ap_access_of false 4) c.low_of.ensures in
    let next' = subst (λ (l : List RegAccess × RegAccess). AreNextAccesses (unit.Memory c.args.size c.args.read c.args.ap c.args.address c.args.value) t (made ++ (select_of c.args.ap 0 ∷ [] ++ ap_access_of true 0 0 ∷ [])) l.0 l.1 true (transfer_actions c.args.large c.args.size c.args.read c.args.address c.args.value (csw_read (after t (making made)) c.args.ap)) []) (λ j. (sym first j ∷ sym high j ∷ sym low j ∷ [], sym c.access_drw-last.ensures j)) next in
    on_ok c.try_flight.result _ _ (λ w went. went_came g.F.Flights.planner c.args.forgive w _ c.try_flight.new.self.log (unit.Memory c.args.size c.args.read c.args.ap c.args.address c.args.value) k t _ _ _ m0 went) (c.try_flight.ensures.gives.on m0 (unit.Memory c.args.size c.args.read c.args.ap c.args.address c.args.value) k t _ _ [] went'.0 next')

pub returns-then-large-clause-broke : goal.returns-then-large-clause-broke
returns-then-large-clause-broke g c = λ m0 k t made rest h quiet is.
    let old = c.args.self.now in
    let lt : c.args.ap < 256 = c.ranges.ap.fits in
    let access : c.access_ap.result ≡ ap_access_of true 0 0 = c.access_ap.ensures in
    let n = csw_next g.F.Flights.planner c.args.forgive _ old.log k t made rest m0 c.args.large c.args.size c.args.read c.args.ap c.args.address c.args.value h lt quiet is in
    let n' = subst (λ (a : RegAccess). AreNextAccesses (unit.Memory c.args.size c.args.read c.args.ap c.args.address c.args.value) t made (select_of c.args.ap 0 ∷ []) a false rest (transfer_actions c.args.large c.args.size c.args.read c.args.address c.args.value (csw_read (after t (making made)) c.args.ap))) (sym access) n in
    let mid = c.try_port.new.self in
    let went = subst (λ (w : Option ℕ). WentTo g.F.Flights.planner c.args.forgive w (g.F.Flights.state mid.flights) mid.log (unit.Memory c.args.size c.args.read c.args.ap c.args.address c.args.value) k t made (select_of c.args.ap 0 ∷ []) c.access_ap.result (transfer_actions c.args.large c.args.size c.args.read c.args.address c.args.value (csw_read (after t (making made)) c.args.ap)) m0) (c.in-Ok-Some.field-0-is ∙ ap (λ (v : ℕ). Some v) (sym c.in-Ok-Some.csw-is)) (c.in-Ok-Some.ensures.gives.on m0 (unit.Memory c.args.size c.args.read c.args.ap c.args.address c.args.value) k t made rest _ h n') in
    let went' = subst (λ (a : RegAccess). WentTo g.F.Flights.planner c.args.forgive (Some c.in-Ok-Some.csw) (g.F.Flights.state mid.flights) mid.log (unit.Memory c.args.size c.args.read c.args.ap c.args.address c.args.value) k t made (select_of c.args.ap 0 ∷ []) a (transfer_actions c.args.large c.args.size c.args.read c.args.address c.args.value (csw_read (after t (making made)) c.args.ap)) m0) access went in
    let csw_is : c.in-Ok-Some.csw ≡ csw_read (after t (making made)) c.args.ap = went'.1 ∙ csw_given g.F.Flights.planner c.args.forgive _ old.log k t made rest m0 c.args.large c.args.size c.args.read c.args.ap c.args.address c.args.value h lt quiet is in
    let next = drw_next g.F.Flights.planner c.args.forgive _ old.log k t made rest m0 c.args.large c.args.size c.args.read c.args.ap c.args.address c.args.value h lt quiet is _ mid.log c.in-Ok-Some.csw went'.0 csw_is true c.if-large.true in
    let first : c.access_ap-csw.result ≡ ap_access_of false 0 (csw_for c.in-Ok-Some.csw c.args.size) = c.access_ap-csw.ensures ∙ ap (ap_access_of false 0) c.plain_csw.ensures in
    let high : c.access_ap-high.result ≡ ap_access_of false 8 (c.args.address / 2 ^ 32) = c.access_ap-high.ensures ∙ ap (ap_access_of false 8) c.high_of.ensures in
    let low : c.access_ap-low.result ≡ ap_access_of false 4 (c.args.address % 2 ^ 32) = c.access_ap-low.ensures ∙ ap (ap_access_of false 4) c.low_of.ensures in
    let next' = subst (λ (l : List RegAccess × RegAccess). AreNextAccesses (unit.Memory c.args.size c.args.read c.args.ap c.args.address c.args.value) t (made ++ (select_of c.args.ap 0 ∷ [] ++ ap_access_of true 0 0 ∷ [])) l.0 l.1 true (transfer_actions c.args.large c.args.size c.args.read c.args.address c.args.value (csw_read (after t (making made)) c.args.ap)) []) (λ j. (sym first j ∷ sym high j ∷ sym low j ∷ [], sym c.access_drw-last.ensures j)) next in
    on_err c.try_flight.result _ _ (λ s broke. broken_calls g.F.Flights.planner s _ c.try_flight.new.self.log _ _ m0 c.in-Ok-Some.ensures.tries.further.calls broke) (c.try_flight.ensures.gives.broke m0 (unit.Memory c.args.size c.args.read c.args.ap c.args.address c.args.value) k t _ _ [] went'.0 next')

pub returns-else-large-clause-on : goal.returns-else-large-clause-on
returns-else-large-clause-on g c = λ m0 k t made rest h quiet is.
    let old = c.args.self.now in
    let lt : c.args.ap < 256 = c.ranges.ap.fits in
    let access : c.access_ap.result ≡ ap_access_of true 0 0 = c.access_ap.ensures in
    let n = csw_next g.F.Flights.planner c.args.forgive _ old.log k t made rest m0 c.args.large c.args.size c.args.read c.args.ap c.args.address c.args.value h lt quiet is in
    let n' = subst (λ (a : RegAccess). AreNextAccesses (unit.Memory c.args.size c.args.read c.args.ap c.args.address c.args.value) t made (select_of c.args.ap 0 ∷ []) a false rest (transfer_actions c.args.large c.args.size c.args.read c.args.address c.args.value (csw_read (after t (making made)) c.args.ap))) (sym access) n in
    let mid = c.try_port.new.self in
    let went = subst (λ (w : Option ℕ). WentTo g.F.Flights.planner c.args.forgive w (g.F.Flights.state mid.flights) mid.log (unit.Memory c.args.size c.args.read c.args.ap c.args.address c.args.value) k t made (select_of c.args.ap 0 ∷ []) c.access_ap.result (transfer_actions c.args.large c.args.size c.args.read c.args.address c.args.value (csw_read (after t (making made)) c.args.ap)) m0) (c.in-Ok-Some.field-0-is ∙ ap (λ (v : ℕ). Some v) (sym c.in-Ok-Some.csw-is)) (c.in-Ok-Some.ensures.gives.on m0 (unit.Memory c.args.size c.args.read c.args.ap c.args.address c.args.value) k t made rest _ h n') in
    let went' = subst (λ (a : RegAccess). WentTo g.F.Flights.planner c.args.forgive (Some c.in-Ok-Some.csw) (g.F.Flights.state mid.flights) mid.log (unit.Memory c.args.size c.args.read c.args.ap c.args.address c.args.value) k t made (select_of c.args.ap 0 ∷ []) a (transfer_actions c.args.large c.args.size c.args.read c.args.address c.args.value (csw_read (after t (making made)) c.args.ap)) m0) access went in
    let csw_is : c.in-Ok-Some.csw ≡ csw_read (after t (making made)) c.args.ap = went'.1 ∙ csw_given g.F.Flights.planner c.args.forgive _ old.log k t made rest m0 c.args.large c.args.size c.args.read c.args.ap c.args.address c.args.value h lt quiet is in
    let next = drw_next g.F.Flights.planner c.args.forgive _ old.log k t made rest m0 c.args.large c.args.size c.args.read c.args.ap c.args.address c.args.value h lt quiet is _ mid.log c.in-Ok-Some.csw went'.0 csw_is false c.if-large.false in
    let first : c.access_ap-csw.result ≡ ap_access_of false 0 (csw_for c.in-Ok-Some.csw c.args.size) = c.access_ap-csw.ensures ∙ ap (ap_access_of false 0) c.plain_csw.ensures in
    let high : c.access_ap-high.result ≡ ap_access_of false 8 (c.args.address / 2 ^ 32) = c.access_ap-high.ensures ∙ ap (ap_access_of false 8) c.high_of.ensures in
    let low : c.access_ap-low.result ≡ ap_access_of false 4 (c.args.address % 2 ^ 32) = c.access_ap-low.ensures ∙ ap (ap_access_of false 4) c.low_of.ensures in
    let next' = subst (λ (l : List RegAccess × RegAccess). AreNextAccesses (unit.Memory c.args.size c.args.read c.args.ap c.args.address c.args.value) t (made ++ (select_of c.args.ap 0 ∷ [] ++ ap_access_of true 0 0 ∷ [])) l.0 l.1 true (transfer_actions c.args.large c.args.size c.args.read c.args.address c.args.value (csw_read (after t (making made)) c.args.ap)) []) (λ j. (sym first j ∷ sym low j ∷ [], sym c.access_drw-last.ensures j)) next in
    on_ok c.try_flight-else-large.result _ _ (λ w went. went_came g.F.Flights.planner c.args.forgive w _ c.try_flight-else-large.new.self.log (unit.Memory c.args.size c.args.read c.args.ap c.args.address c.args.value) k t _ _ _ m0 went) (c.try_flight-else-large.ensures.gives.on m0 (unit.Memory c.args.size c.args.read c.args.ap c.args.address c.args.value) k t _ _ [] went'.0 next')

pub returns-else-large-clause-broke : goal.returns-else-large-clause-broke
returns-else-large-clause-broke g c = λ m0 k t made rest h quiet is.
    let old = c.args.self.now in
    let lt : c.args.ap < 256 = c.ranges.ap.fits in
    let access : c.access_ap.result ≡ ap_access_of true 0 0 = c.access_ap.ensures in
    let n = csw_next g.F.Flights.planner c.args.forgive _ old.log k t made rest m0 c.args.large c.args.size c.args.read c.args.ap c.args.address c.args.value h lt quiet is in
    let n' = subst (λ (a : RegAccess). AreNextAccesses (unit.Memory c.args.size c.args.read c.args.ap c.args.address c.args.value) t made (select_of c.args.ap 0 ∷ []) a false rest (transfer_actions c.args.large c.args.size c.args.read c.args.address c.args.value (csw_read (after t (making made)) c.args.ap))) (sym access) n in
    let mid = c.try_port.new.self in
    let went = subst (λ (w : Option ℕ). WentTo g.F.Flights.planner c.args.forgive w (g.F.Flights.state mid.flights) mid.log (unit.Memory c.args.size c.args.read c.args.ap c.args.address c.args.value) k t made (select_of c.args.ap 0 ∷ []) c.access_ap.result (transfer_actions c.args.large c.args.size c.args.read c.args.address c.args.value (csw_read (after t (making made)) c.args.ap)) m0) (c.in-Ok-Some.field-0-is ∙ ap (λ (v : ℕ). Some v) (sym c.in-Ok-Some.csw-is)) (c.in-Ok-Some.ensures.gives.on m0 (unit.Memory c.args.size c.args.read c.args.ap c.args.address c.args.value) k t made rest _ h n') in
    let went' = subst (λ (a : RegAccess). WentTo g.F.Flights.planner c.args.forgive (Some c.in-Ok-Some.csw) (g.F.Flights.state mid.flights) mid.log (unit.Memory c.args.size c.args.read c.args.ap c.args.address c.args.value) k t made (select_of c.args.ap 0 ∷ []) a (transfer_actions c.args.large c.args.size c.args.read c.args.address c.args.value (csw_read (after t (making made)) c.args.ap)) m0) access went in
    let csw_is : c.in-Ok-Some.csw ≡ csw_read (after t (making made)) c.args.ap = went'.1 ∙ csw_given g.F.Flights.planner c.args.forgive _ old.log k t made rest m0 c.args.large c.args.size c.args.read c.args.ap c.args.address c.args.value h lt quiet is in
    let next = drw_next g.F.Flights.planner c.args.forgive _ old.log k t made rest m0 c.args.large c.args.size c.args.read c.args.ap c.args.address c.args.value h lt quiet is _ mid.log c.in-Ok-Some.csw went'.0 csw_is false c.if-large.false in
    let first : c.access_ap-csw.result ≡ ap_access_of false 0 (csw_for c.in-Ok-Some.csw c.args.size) = c.access_ap-csw.ensures ∙ ap (ap_access_of false 0) c.plain_csw.ensures in
    let high : c.access_ap-high.result ≡ ap_access_of false 8 (c.args.address / 2 ^ 32) = c.access_ap-high.ensures ∙ ap (ap_access_of false 8) c.high_of.ensures in
    let low : c.access_ap-low.result ≡ ap_access_of false 4 (c.args.address % 2 ^ 32) = c.access_ap-low.ensures ∙ ap (ap_access_of false 4) c.low_of.ensures in
    let next' = subst (λ (l : List RegAccess × RegAccess). AreNextAccesses (unit.Memory c.args.size c.args.read c.args.ap c.args.address c.args.value) t (made ++ (select_of c.args.ap 0 ∷ [] ++ ap_access_of true 0 0 ∷ [])) l.0 l.1 true (transfer_actions c.args.large c.args.size c.args.read c.args.address c.args.value (csw_read (after t (making made)) c.args.ap)) []) (λ j. (sym first j ∷ sym low j ∷ [], sym c.access_drw-last.ensures j)) next in
    on_err c.try_flight-else-large.result _ _ (λ s broke. broken_calls g.F.Flights.planner s _ c.try_flight-else-large.new.self.log _ _ m0 c.in-Ok-Some.ensures.tries.further.calls broke) (c.try_flight-else-large.ensures.gives.broke m0 (unit.Memory c.args.size c.args.read c.args.ap c.args.address c.args.value) k t _ _ [] went'.0 next')

pub returns-in-Ok-None-clause-packets : goal.returns-in-Ok-None-clause-packets
returns-in-Ok-None-clause-packets g c = λ managed. went_most _ _ c.in-Ok-None.field-0 3 (omega arith) (c.in-Ok-None.ensures.packets managed)

pub returns-then-large-clause-packets : goal.returns-then-large-clause-packets
returns-then-large-clause-packets g c = λ managed. went_thens _ _ _ c.in-Ok-Some.field-0 c.in-Ok-Some.csw c.try_flight.result (c.in-Ok-Some.field-0-is ∙ ap (λ (v : ℕ). Some v) (sym c.in-Ok-Some.csw-is)) (c.in-Ok-Some.ensures.packets managed) (c.try_flight.ensures.packets managed)

pub returns-else-large-clause-packets : goal.returns-else-large-clause-packets
returns-else-large-clause-packets g c = λ managed.
    went_thens _ _ _ c.in-Ok-Some.field-0 c.in-Ok-Some.csw c.try_flight-else-large.result (c.in-Ok-Some.field-0-is ∙ ap (λ (v : ℕ). Some v) (sym c.in-Ok-Some.csw-is)) (c.in-Ok-Some.ensures.packets managed) (c.try_flight-else-large.ensures.packets managed)
