use Rattle.std.proofs.Common.{List, rules, ◌≡◌, ◌∙◌, length, refl, ap, arith, ◌++◌, ◌∷◌, [], sym, subst}
use Rattle.access_regs.specs.Kept.{Kept}
use Rattle.access_regs.specs.Entries.{target_by}
use Rattle.access_regs.specs.Costs.{poll_cost}
use Rattle.probe_core.specs.Probe.{target_of}
use Rattle.target_calls.specs.declared.calls.Ask.{Ask}
use Rattle.packed_access.specs.Logs.{LogState, asks_of}
use Rattle.packed_access.proofs.NeedLemmas.{begun_needs, needs_new}
use Rattle.packed_access.proofs.PollLemmas.{asked_poll, begun_polled, poll_needs}
use Rattle.target_calls.specs.NeedPoints.{Asks}
use Rattle.packed_access.proofs.SparingLemmas.{counted_spared, has_paid}
use Rattle.packed_access.proofs.sender.Sender.ask_poll.Goals as goal

pub returns-clause-gives : goal.returns-clause-gives
returns-clause-gives g c =
    let old = c.args.self.now in
    let mid = c.send.new.self in
    let new = c.poll_last.new.self in
    let needs : new.log.needs ≡ old.log.needs = ap (λ (a : Asks). a.needs) c.poll_last.ensures.exchanges.asks ∙ ap (λ (l : LogState). l.needs) c.in_ok-send.ensures.log in
    record {
      on = λ m0 calls ask this h. let set = this.0 in let call = this.1 in
          let same : mid.log.calls ≡ old.log.calls = ap (λ (l : LogState). l.calls) c.in_ok-send.ensures.log in
          let poll = asked_poll g.F.Flights.planner _ _ old.log mid.log _ old.managed mid.managed calls ask c.args.mask c.args.requested c.args.turns c.args.config.idle c.args.config.retry m0 set call h (c.in_ok-send.ensures.gives.on m0 _ h.issued) same c.send.ensures.exchanges.managed in
          let same' : new.log.calls ≡ mid.log.calls = search rules in
          begun_needs g.F.Flights.planner _ _ new.log c.need.new.self _ _ _ _ _ _ m0
          (begun_polled g.F.Flights.planner _ _ _ mid.log new.log _ _ mid.managed new.managed _ calls ask c.args.mask c.args.requested c.args.turns c.args.config.idle c.args.config.retry m0 poll (c.in_ok-points.ensures.on m0 calls ask poll) same' c.in_ok-points.ensures.exchanges.step.ends.no_end c.in_ok-points.ensures.whole c.poll_last.ensures.exchanges.managed c.in_ok-points.ensures.exchanges.empty)
          refl refl (needs_new new.log _ c.count_points.result c.count-count.result c.need.ensures.answer.so);
      spare = λ m0 calls ask left this h s. let set = this.0 in let call = this.1 in
          let same : mid.log.calls ≡ old.log.calls = ap (λ (l : LogState). l.calls) c.in_ok-send.ensures.log in
          let poll = asked_poll g.F.Flights.planner _ _ old.log mid.log _ old.managed mid.managed calls ask c.args.mask c.args.requested c.args.turns c.args.config.idle c.args.config.retry m0 set call h (c.in_ok-send.ensures.gives.on m0 _ h.issued) same c.send.ensures.exchanges.managed in
          has_paid g.F.Flights.planner _ _ _ new.log c.need.new.self old.log.needs s.paid c.count_points.result c.count-count.result left m0
          (counted_spared g.F.Flights.planner _ _ _ new.log s.paid c.in_ok-points.points c.count_points.result m0 (c.in_ok-points.ensures.spare m0 calls ask s.paid poll (c.in_ok-send.ensures.gives.spare m0 _ s.paid h.issued s.spared)) c.count_points.ensures) s.covers needs c.need.ensures.answer.so;
      needs = λ m0 calls ask this h. let set = this.0 in let call = this.1 in
          let same : mid.log.calls ≡ old.log.calls = ap (λ (l : LogState). l.calls) c.in_ok-send.ensures.log in
          let poll = asked_poll g.F.Flights.planner _ _ old.log mid.log _ old.managed mid.managed calls ask c.args.mask c.args.requested c.args.turns c.args.config.idle c.args.config.retry m0 set call h (c.in_ok-send.ensures.gives.on m0 _ h.issued) same c.send.ensures.exchanges.managed in
          let same' : new.log.calls ≡ mid.log.calls = search rules in
          let asks : asks_of new.log ≡ record { calls = calls ++ ask ∷ []; needs = old.log.needs; fence = old.log.fence } =
          c.poll_last.ensures.exchanges.asks ∙ ap asks_of c.in_ok-send.ensures.log ∙ ap (λ (l : List Ask). record { calls = l; needs = old.log.needs; fence = old.log.fence }) h.are in
          poll_needs g.F.Flights.planner (target_of m0.probe) calls ask c.args.mask c.args.requested c.args.turns c.in_ok-points.points c.count_points.result c.count-count.result old.log.needs old.log.fence new.log c.need.new.self call
          (λ managed. subst (λ (k : Kept). c.in_ok-points.points ≡ poll_cost k (target_by g.F.Flights.planner (target_of m0.probe) calls) c.args.mask c.args.requested c.args.turns) (sym poll.kept_is) (c.in_ok-points.ensures.points managed m0 calls ask poll))
          c.count_points.ensures c.need.ensures.answer.so c.count-count.ensures asks;
      broke = λ m0 calls ask this h. tt;
      stops = λ m0 calls ask answered this h left. tt;
    }

pub returns-clause-asks : goal.returns-clause-asks
returns-clause-asks g c = record {
  whole = search rules;
  settles = search rules;
  fenced =
      let new = c.poll_last.new.self in
      let is = needs_new new.log c.need.new.self c.count_points.result c.count-count.result c.need.ensures.answer.so in
      λ past. absurd (let k = ap (λ (l : LogState). l.known) is in let n = ap (λ (l : LogState). length l.calls) is in let a = c.in_ok-points.ensures.known in let w = c.need.ensures.answer.sound.fence_within in omega (arith, k, n, a, w, past));
}
