use Rattle.std.proofs.Common.{rules, ◌≡◌, ◌∙◌, [], length, None, refl, sym, ap}
use Rattle.target_calls.specs.Asks.{settled_last}
use Rattle.probe_core.specs.Probe.{target_of}
use Rattle.packed_access.specs.Logs.{LogState, asks_of}
use Rattle.packed_access.proofs.FinishLemmas.{begun_finished, begun_marked, finished_whole, stops_finished}
use Rattle.packed_access.proofs.NeedLemmas.{begun_needs, left_needs, needs_new}
use Rattle.packed_access.proofs.NeededLemmas.{needed_finished}
use Rattle.packed_access.proofs.PaidLemmas.{paid_flushed, paid_marked, sparing_ended}
use Rattle.packed_access.specs.Sparing.{points_left}
use Rattle.packed_access.proofs.calls.PackedAccessAccess.finish.Goals as goal

pub returns-in-Err-clause-stops : goal.returns-in-Err-clause-stops
returns-in-Err-clause-stops g c = λ m answered h left none.
    let old = c.args.self.now.sender in
    let there = begun_marked g.F.Flights.planner _ _ old.log c.mark.new.self _ _ _ _ c.count-count.result m h.sparing.begun none c.mark.ensures.answer c.count-count.ensures in
    stops_finished m answered old.log.calls c.mark.new.self.calls _ c.in-Err.stop (ap (λ (l : LogState). l.calls) c.mark.ensures.answer) (c.in-Err.ensures.gives.stops m [] answered there left)

pub returns-in-Err-clause-ends : goal.returns-in-Err-clause-ends
returns-in-Err-clause-ends g c = record {
  known = search rules;
  no_end = search rules;
  memory = search rules;
  end = search rules;
  ended = search rules;
  keeps = record {
    on = λ m h.
        let old = c.args.self.now.sender in
        let none : old.log.end ≡ None = search rules in
        let there = begun_marked g.F.Flights.planner _ _ old.log c.mark.new.self _ _ _ _ c.count-count.result m h.sparing.begun none c.mark.ensures.answer c.count-count.ensures in
        record { sparing = sparing_ended g.F.Flights.planner _ _ _ c.settle.new.self.log _ _ _ _ m c.in-Err.stop (c.in-Err.ensures.gives.broke m [] there) c.in-Err.ensures.further.step.ends.ended; set = h.set };
    same_bench = search rules;
    goes = search rules;
  };
}

pub returns-in-Err-send-clause-stops : goal.returns-in-Err-send-clause-stops
returns-in-Err-send-clause-stops g c = λ m answered h left none.
    let old = c.args.self.now.sender in
    let there = begun_marked g.F.Flights.planner _ _ old.log c.mark.new.self _ _ _ _ c.count-count.result m h.sparing.begun none c.mark.ensures.answer c.count-count.ensures in
    let calls : c.settle.new.self.log.calls ≡ settled_last old.log.calls = c.in-Ok.ensures.further.so.calls ∙ ap (λ (l : LogState). l.calls) c.mark.ensures.answer in
    stops_finished m answered old.log.calls c.settle.new.self.log.calls _ c.in-Err-send.stop calls (c.in-Err-send.ensures.gives.stops m [] answered (c.in-Ok.ensures.gives.on m [] there) left)

pub returns-in-Err-send-clause-ends : goal.returns-in-Err-send-clause-ends
returns-in-Err-send-clause-ends g c = record {
  known = search rules;
  no_end = search rules;
  memory = search rules;
  end = search rules;
  ended = search rules;
  keeps = record {
    on = λ m h.
        let old = c.args.self.now.sender in
        let none : old.log.end ≡ None = search rules in
        let there = begun_marked g.F.Flights.planner _ _ old.log c.mark.new.self _ _ _ _ c.count-count.result m h.sparing.begun none c.mark.ensures.answer c.count-count.ensures in
        record { sparing = sparing_ended g.F.Flights.planner _ _ _ c.send.new.self.log _ _ _ _ m c.in-Err-send.stop (c.in-Err-send.ensures.gives.broke m [] (c.in-Ok.ensures.gives.on m [] there)) (ap (λ (l : LogState). l.end) c.in-Err-send.ensures.ended); set = h.set };
    same_bench = search rules;
    goes = search rules;
  };
}

pub returns-in-Ok-send-clause-whole : goal.returns-in-Ok-send-clause-whole
returns-in-Ok-send-clause-whole g c = λ m answered h left.
    let old = c.args.self.now.sender in
    let mid = c.settle.new.self in
    let new = c.send.new.self in
    let none : old.log.end ≡ None = search rules in
    let there = begun_marked g.F.Flights.planner _ _ old.log c.mark.new.self _ _ _ _ c.count-count.result m h.sparing.begun none c.mark.ensures.answer c.count-count.ensures in
    let came_there = c.in-Ok-send.ensures.gives.on m [] (c.in-Ok.ensures.gives.on m [] there) in
    let same : new.log.calls ≡ c.mark.new.self.calls = ap (λ (l : LogState). l.calls) c.in-Ok-send.ensures.log ∙ c.in-Ok.ensures.further.so.calls in
    let marked : c.mark.new.self.calls ≡ settled_last old.log.calls = ap (λ (l : LogState). l.calls) c.mark.ensures.answer in
    let end : new.log.end ≡ None = ap (λ (l : LogState). l.end) c.in-Ok-send.ensures.log ∙ c.in-Ok.ensures.further.so.end in
    let came : new.log.came ≡ length new.log.calls = search rules in
    finished_whole g.F.Flights.planner _ _ old.log new.log [] [] m answered came_there (same ∙ marked) end came
    (left_needs _ _ new.log c.need.new.self [] [] _ _ answered (needs_new new.log _ 1 c.count-count.result c.need.ensures.answer.so) left)

pub returns-in-Ok-send-clause-ends : goal.returns-in-Ok-send-clause-ends
returns-in-Ok-send-clause-ends g c = record {
  known = search rules;
  no_end = search rules;
  memory = search rules;
  end = search rules;
  ended = search rules;
  keeps = record {
    on = λ m h.
        let old = c.args.self.now.sender in
        let mid = c.settle.new.self in
        let new = c.send.new.self in
        let none : old.log.end ≡ None = search rules in
        let there = begun_marked g.F.Flights.planner _ _ old.log c.mark.new.self _ _ _ _ c.count-count.result m h.sparing.begun none c.mark.ensures.answer c.count-count.ensures in
        let came_there = c.in-Ok-send.ensures.gives.on m [] (c.in-Ok.ensures.gives.on m [] there) in
        let same : new.log.calls ≡ c.mark.new.self.calls = ap (λ (l : LogState). l.calls) c.in-Ok-send.ensures.log ∙ c.in-Ok.ensures.further.so.calls in
        let marked : c.mark.new.self.calls ≡ settled_last old.log.calls = ap (λ (l : LogState). l.calls) c.mark.ensures.answer in
        let end : new.log.end ≡ None = ap (λ (l : LogState). l.end) c.in-Ok-send.ensures.log ∙ c.in-Ok.ensures.further.so.end in
        let whole : new.log.whole ≡ length new.log.calls = search rules in
        let came : new.log.came ≡ length new.log.calls = search rules in
        let paid = paid_marked g.F.Flights.planner _ _ _ old.log c.mark.new.self (points_left old.log) m (h.sparing.paid none) c.mark.ensures.answer in
        let sent = c.in-Ok-send.ensures.gives.spare m [] paid.paid (c.in-Ok.ensures.gives.on m [] there) (c.in-Ok.ensures.gives.spare m [] paid.paid there paid.spared) in
        let noted = needs_new new.log c.need.new.self 1 c.count-count.result c.need.ensures.answer.so in
        let known : new.log.known ≡ length new.log.calls = search rules in
        record {
          sparing = record {
            begun = begun_needs g.F.Flights.planner _ _ new.log c.need.new.self _ _ _ _ _ _ m
                (begun_finished g.F.Flights.planner _ _ _ _ old.log new.log _ _ _ _ _ _ _ _ m h.sparing.begun none came_there (same ∙ marked) end whole came (c.send.ensures.exchanges.managed ∙ c.settle.ensures.further.managed) c.send.ensures.empty)
                refl refl noted;
            paid = λ open_. paid_flushed g.F.Flights.planner _ _ _ new.log c.need.new.self c.mark.new.self.needs paid.paid 1 c.count-count.result (points_left old.log) m sent paid.covers
                (ap (λ (l : LogState). l.needs) c.in-Ok-send.ensures.log ∙ c.in-Ok.ensures.further.so.needs) c.need.ensures.answer.so (known ∙ sym (ap (λ (l : LogState). length l.calls) noted)) c.need.ensures.answer.sound.fence_within (ap (λ (l : LogState). l.known) noted);
            needed = λ open_. needed_finished g.F.Flights.planner (target_of m.probe) (asks_of old.log) new.log c.need.new.self c.count-count.result (h.sparing.needed none) (same ∙ marked)
                (ap (λ (l : LogState). l.needs) c.in-Ok-send.ensures.log ∙ c.in-Ok.ensures.further.so.needs ∙ ap (λ (l : LogState). l.needs) c.mark.ensures.answer) c.need.ensures.answer.so;
          };
          set = h.set;
        };
    same_bench = search rules;
    goes = search rules;
  };
}
