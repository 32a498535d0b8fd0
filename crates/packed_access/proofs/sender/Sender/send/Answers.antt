use Rattle.std.proofs.Common.{◌≡◌, ◌∙◌, ◌^◌, ◌<◌, [], length, arith, sym, ap, subst}
use Rattle.packed_access.specs.Begun.{HasIssued}
use Rattle.packed_access.specs.Logs.{LogState, all_confirmed, all_taken}
use Rattle.packed_access.proofs.EndLemmas.{has_ended, stops_there}
use Rattle.packed_access.proofs.ReadLemmas.{last_value}
use Rattle.packed_access.proofs.WholeLemmas.{has_come}
use Rattle.packed_access.proofs.SparingLemmas.{has_filled, has_sent}
use Rattle.packed_access.proofs.sender.Sender.send.Goals as goal

pub returns-in-Ok-clause-gives : goal.returns-in-Ok-clause-gives
returns-in-Ok-clause-gives g c =
    let old = c.args.self.now in
    let few : length old.log.entries < 2 ^ 32 = (let s = old.sound in let b = s.bounded in let f = s.few in omega (arith, b, f)) in
    let is : c.confirm.new.self ≡ all_confirmed (all_taken (g.F.Flights.values c.send.new.self) old.log) = c.confirm.ensures.answer.so ∙ ap all_confirmed c.take_values.ensures.answer in
    record {
      on =
          λ m0 rest h. subst (λ (l : LogState). HasIssued g.F.Flights.planner (g.F.Flights.state c.send.new.self) l [] rest m0) (sym is)
          (has_come g.F.Flights.planner _ _ old.log _ rest _ m0 h c.in-Ok.ensures.came old.sound.results_long few);
      spare =
          λ m0 rest points h s. has_sent g.F.Flights.planner _ _ _ _ _ _ old.log c.confirm.new.self _ rest _ points m0 h s c.in-Ok.ensures.came (ap (λ (l : LogState). l.calls) is)
          (let k = ap (λ (l : LogState). l.confirmed) is in let w = old.sound.confirmed_within in omega (arith, k, w)) c.send.ensures.keeps.same_limits c.send.ensures.keeps.goes.limits;
      broke = λ m0 rest h. tt;
      stops = λ m0 rest answered h left. tt;
    }

pub returns-in-Err-clause-gives : goal.returns-in-Err-clause-gives
returns-in-Err-clause-gives g c = record {
  on = λ m0 rest h. tt;
  spare = λ m0 rest points h s. tt;
  broke = λ m0 rest h. has_ended g.F.Flights.planner _ _ _ _ _ c.args.self.now.log _ rest m0 c.in-Err.end c.stop.result c.stop.new.self c.send.ensures.held h c.in-Err.ensures.broke c.stop.ensures.answer;
  stops = λ m0 rest answered h left. stops_there g.F.Flights.planner _ _ _ _ _ c.args.self.now.log _ rest m0 c.in-Err.end c.stop.result c.stop.new.self answered c.send.ensures.held h c.in-Err.ensures.broke c.stop.ensures.answer left;
}

pub returns-in-Ok-clause-last : goal.returns-in-Ok-clause-last
returns-in-Ok-clause-last g c = λ m0 rest front e more h is at some. last_value g.F.Flights.planner _ _ c.args.self.now.log _ rest _ m0 front e more h c.in-Ok.ensures.came is at some

pub returns-in-Ok-clause-full : goal.returns-in-Ok-clause-full
returns-in-Ok-clause-full g c =
    let old = c.args.self.now in
    let is : c.confirm.new.self ≡ all_confirmed (all_taken (g.F.Flights.values c.send.new.self) old.log) = c.confirm.ensures.answer.so ∙ ap all_confirmed c.take_values.ensures.answer in
    λ m0 e rest next points h makes s is_full. has_filled g.F.Flights.planner _ _ _ _ _ _ old.log c.confirm.new.self _ e next rest _ points m0 h makes s c.in-Ok.ensures.came is_full (ap (λ (l : LogState). l.calls) is) (ap (λ (l : LogState). l.confirmed) is) c.send.ensures.keeps.same_limits c.send.ensures.keeps.goes.limits
