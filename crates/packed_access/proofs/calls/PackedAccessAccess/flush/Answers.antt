use Rattle.std.proofs.Common.{rules, ◌≡◌, ◌∙◌, [], length, None, refl, sym, ap}
use Rattle.std.proofs.lemmas.Result.{err_from_is_err_and}
use Rattle.probe_core.specs.Probe.{target_of}
use Rattle.packed_access.specs.Logs.{LogState, asks_of}
use Rattle.packed_access.proofs.BegunLemmas.{begun_flushed, begun_issued, flushed_whole, stops_flushed}
use Rattle.packed_access.proofs.NeedLemmas.{begun_needs, left_needs, needs_new}
use Rattle.packed_access.proofs.NeededLemmas.{needed_points}
use Rattle.packed_access.proofs.PaidLemmas.{paid_flushed, sparing_ended}
use Rattle.packed_access.specs.Sparing.{points_left}
use Rattle.packed_access.proofs.calls.PackedAccessAccess.flush.Goals as goal

pub returns-clause-ends : goal.returns-clause-ends
returns-clause-ends g c = record {
  known = search rules;
  no_end = search rules;
  memory = search rules;
  end = search rules;
  ended = search rules;
  keeps = record {
    on = λ m h.
        let old = c.args.self.now.sender in
        let none : old.log.end ≡ None = search rules in
        let there = c.in_ok-send.ensures.gives.on m [] (begun_issued g.F.Flights.planner _ _ old.log _ _ _ _ m h.sparing.begun none) in
        let mid = c.send.new.self.log in
        let paid = h.sparing.paid none in
        let noted = needs_new mid c.need.new.self 1 c.count-count.result c.need.ensures.answer.so in
        let whole : old.log.whole ≡ length old.log.calls = c.args.self.now.whole none in
        let known : mid.known ≡ length c.need.new.self.calls = ap (λ (l : LogState). l.known) c.in_ok-send.ensures.log ∙ whole ∙ sym (ap (λ (l : LogState). length l.calls) c.in_ok-send.ensures.log) ∙ sym (ap (λ (l : LogState). length l.calls) noted) in
        record {
          sparing = record {
            begun = begun_needs g.F.Flights.planner _ _ mid c.need.new.self _ _ _ _ _ _ m
                (begun_flushed g.F.Flights.planner _ _ _ _ old.log mid _ _ _ _ _ _ _ _ _ m h.sparing.begun none whole there c.in_ok-send.ensures.log c.send.ensures.empty c.send.ensures.exchanges.managed)
                refl refl noted;
            paid = λ open_. paid_flushed g.F.Flights.planner _ _ _ mid c.need.new.self old.log.needs paid.paid 1 c.count-count.result (points_left old.log) m
                (c.in_ok-send.ensures.gives.spare m [] paid.paid (begun_issued g.F.Flights.planner _ _ old.log _ _ _ _ m h.sparing.begun none) paid.spared) paid.covers (ap (λ (l : LogState). l.needs) c.in_ok-send.ensures.log) c.need.ensures.answer.so known c.need.ensures.answer.sound.fence_within (ap (λ (l : LogState). l.known) noted);
            needed = λ open_. needed_points g.F.Flights.planner (target_of m.probe) (asks_of old.log) mid c.need.new.self 1 c.count-count.result (h.sparing.needed none) (ap (λ (l : LogState). l.calls) c.in_ok-send.ensures.log) (ap (λ (l : LogState). l.needs) c.in_ok-send.ensures.log) c.need.ensures.answer.so;
          };
          set = h.set;
        };
    same_bench = search rules;
    goes = search rules;
  };
}

pub returns-clause-whole : goal.returns-clause-whole
returns-clause-whole g c = λ m answered h left.
    let old = c.args.self.now.sender in
    let none : old.log.end ≡ None = search rules in
    let there = c.in_ok-send.ensures.gives.on m [] (begun_issued g.F.Flights.planner _ _ old.log _ _ _ _ m h.sparing.begun none) in
    flushed_whole g.F.Flights.planner _ _ old.log c.send.new.self.log [] [] _ m answered none (c.args.self.now.whole none) there c.in_ok-send.ensures.log
    (left_needs _ _ c.send.new.self.log c.need.new.self [] [] _ _ answered (needs_new c.send.new.self.log _ 1 c.count-count.result c.need.ensures.answer.so) left)

pub returns-in_err-send-clause-stops : goal.returns-in_err-send-clause-stops
returns-in_err-send-clause-stops g c = λ m answered h left none.
    let p = err_from_is_err_and c.from_residual.result c.from_residual.ensures.1 in
    rw (p.1, p.2) (let old = c.args.self.now.sender in
    stops_flushed g.F.Flights.planner _ _ old.log _ _ _ _ m answered _ c.in_err-send.field-0.0 h.sparing.begun none c.in_err-send.ensures.some (c.in_err-send.ensures.gives.stops m [] answered (begun_issued g.F.Flights.planner _ _ old.log _ _ _ _ m h.sparing.begun none) left))

pub returns-in_err-send-clause-ends : goal.returns-in_err-send-clause-ends
returns-in_err-send-clause-ends g c =
    let p = err_from_is_err_and c.from_residual.result c.from_residual.ensures.1 in
    rw (p.1, p.2) (record {
      known = search rules;
      no_end = search rules;
      memory = search rules;
      end = search rules;
      ended = search rules;
      keeps = record {
        on = λ m h.
            let old = c.args.self.now.sender in
            let none : old.log.end ≡ None = search rules in
            record { sparing = sparing_ended g.F.Flights.planner _ _ _ c.send.new.self.log _ _ _ _ m c.in_err-send.field-0.0 (c.in_err-send.ensures.gives.broke m [] (begun_issued g.F.Flights.planner _ _ old.log _ _ _ _ m h.sparing.begun none)) (ap (λ (l : LogState). l.end) c.in_err-send.ensures.ended); set = h.set };
        same_bench = search rules;
        goes = search rules;
      };
    })
