use Rattle.std.proofs.Common.{rules, ap, ◌^◌, ◌<◌, ◌∷◌, length, arith, refl, sym, subst}
use Rattle.packed_access.specs.Begun.{HasIssued}
use Rattle.packed_access.proofs.PushLemmas.{has_issued, issued_same}
use Rattle.packed_access.proofs.SparingLemmas.{has_same}
use Rattle.packed_access.specs.Logs.{LogState}
use Rattle.packed_access.specs.Sparing.{HasSpared}
use Rattle.probe_core.specs.Bench.{Reported as BenchReported}
use Rattle.packed_access.proofs.sender.Sender.issue.Goals as goal
use Rattle.packed_access.proofs.sender.Sender.issue.Goals.{then-not-room+in_ok-send, else-not-room}

pub returns-clause-on : goal.returns-clause-on
returns-clause-on g c = λ m0 e rest h makes strict kept.
    let mid = c.if-not-room.self in
    let few : length mid.log.entries < 2 ^ 32 = (let s = mid.sound in let b = s.bounded in let f = s.few in omega (arith, b, f)) in
    let there : HasIssued g.F.Flights.planner (g.F.Flights.state mid.flights) mid.log (g.F.Flights.accesses mid.flights) (e ∷ rest) m0 =
    elim c.if-not-room.branch [
      | then-not-room+in_ok-send w ↦ subst (λ s. HasIssued g.F.Flights.planner (g.F.Flights.state s.flights) s.log (g.F.Flights.accesses s.flights) (e ∷ rest) m0) (sym w.self-is) (issued_same g.F.Flights.planner _ _ _ _ _ _ (e ∷ rest) m0 refl refl w.send.ensures.empty (w.in_ok-send.ensures.gives.on m0 (e ∷ rest) h))
      | else-not-room w ↦ subst (λ s. HasIssued g.F.Flights.planner (g.F.Flights.state s.flights) s.log (g.F.Flights.accesses s.flights) (e ∷ rest) m0) (sym w.self-is) h
    ] in
    issued_same g.F.Flights.planner _ _ _ _ _ _ rest m0 c.push.ensures.keeps.same_state c.issue.ensures.answer.so c.push.ensures.accesses (has_issued g.F.Flights.planner _ mid.log _ e rest c.args.access (record { unit = c.args.unit; part = c.args.part }) m0 there makes strict (sym kept) few)

pub returns-clause-spare : goal.returns-clause-spare
returns-clause-spare g c = λ m0 e rest points h makes s.
    let mid = c.if-not-room.self in
    let there : HasSpared g.F.Flights.planner (g.F.Flights.limits mid.flights) (g.F.Flights.reported mid.flights).limits (g.F.Flights.state mid.flights) mid.log points m0 =
    elim c.if-not-room.branch [
      | then-not-room+in_ok-send w ↦ subst (λ s. HasSpared g.F.Flights.planner (g.F.Flights.limits s.flights) (g.F.Flights.reported s.flights).limits (g.F.Flights.state s.flights) s.log points m0) (sym w.self-is) (w.in_ok-send.ensures.full m0 e rest c.args.access points h makes s (λ managed. c.room.ensures.full managed (search rules)))
      | else-not-room w ↦ subst (λ s. HasSpared g.F.Flights.planner (g.F.Flights.limits s.flights) (g.F.Flights.reported s.flights).limits (g.F.Flights.state s.flights) s.log points m0) (sym w.self-is) s
    ] in
    has_same g.F.Flights.planner _ _ _ _ _ _ mid.log c.issue.new.self points m0 there c.push.ensures.keeps.same_state (ap (λ (l : LogState). l.calls) c.issue.ensures.answer.so) (ap (λ (l : LogState). l.confirmed) c.issue.ensures.answer.so) c.push.ensures.keeps.same_limits (ap (λ (r : BenchReported). r.limits) c.push.ensures.keeps.same_reported)
