use Rattle.std.proofs.Common.{rules, ◌≡◌, ◌∙◌, ◌<◌, ◌≤◌, inl, inr, [], List, length, None, arith, refl, sym, ap}
use Rattle.std.proofs.lemmas.Result.{err_from_is_err_and}
use Rattle.std.specs.Prelude.{slice_index}
use Rattle.target_calls.specs.World.{results}
use Rattle.target_calls.specs.declared.calls.Ask.{Ask}
use Rattle.access_calls.specs.Reported.{world_from}
use Rattle.probe_core.specs.Probe.{target_of}
use Rattle.packed_access.specs.Logs.{LogState, asks_of}
use Rattle.packed_access.proofs.BegunLemmas.{begun_flushed, begun_issued, known_result, stops_flushed}
use Rattle.packed_access.proofs.NeedLemmas.{begun_needs, left_needs, used_new}
use Rattle.packed_access.proofs.NeededLemmas.{needed_used}
use Rattle.packed_access.proofs.PaidLemmas.{is_past, is_under, paid_known, paid_sent, sparing_ended}
use Rattle.packed_access.proofs.calls.PackedAccessAccess.value.Goals as goal

pub returns-then-is_known-clause-value : goal.returns-then-is_known-clause-value
returns-then-is_known-clause-value g c = λ m answered h left.
    let old = c.args.self.now.sender in
    let known : c.args.slot.index < old.log.known = is_under c.args.slot.index old.log.known c.is_known.result c.is_known.ensures c.if-is_known.true in
    let within : old.log.known ≤ length old.log.results = (let s = old.sound in let k = s.known_within in let l = s.results_long in omega (arith, k, l)) in
    c.use_slot.ensures.value ∙ known_result g.F.Flights.planner _ _ old.log _ _ _ _ m answered c.args.slot.index h.sparing.begun (left_needs _ _ old.log c.use_slot.new.self _ _ _ _ answered (used_new old.log _ c.args.slot c.use_slot.ensures.answer.so) left) within (inl known)

pub returns-then-is_known-clause-ends : goal.returns-then-is_known-clause-ends
returns-then-is_known-clause-ends g c = record {
  no_end = search rules;
  memory = search rules;
  end = search rules;
  ended = search rules;
  keeps = record {
    on = λ m h.
        let old = c.args.self.now.sender in
        let known : c.args.slot.index < old.log.known = is_under c.args.slot.index old.log.known c.is_known.result c.is_known.ensures c.if-is_known.true in
        let noted = used_new old.log c.use_slot.new.self c.args.slot c.use_slot.ensures.answer.so in
        record {
          sparing = record {
            begun = begun_needs g.F.Flights.planner _ _ old.log c.use_slot.new.self _ _ _ _ _ _ m h.sparing.begun (search rules) (search rules) noted;
            paid = λ open_. paid_known g.F.Flights.planner _ _ _ old.log c.use_slot.new.self c.args.slot m (h.sparing.paid (ap (λ (l : LogState). l.end) (sym noted) ∙ open_)) c.use_slot.ensures.answer.so known;
            needed = λ open_. needed_used g.F.Flights.planner (target_of m.probe) (asks_of old.log) old.log c.use_slot.new.self c.args.slot (h.sparing.needed (ap (λ (l : LogState). l.end) (sym noted) ∙ open_)) refl refl c.use_slot.ensures.answer.so;
          };
          set = h.set;
        };
    same_bench = search rules;
    goes = search rules;
  };
}

pub returns-clause-ends : goal.returns-clause-ends
returns-clause-ends g c = record {
  no_end = search rules;
  memory = search rules;
  end = search rules;
  ended = search rules;
  keeps = record {
    on = λ m h.
        let old = c.args.self.now.sender in
        let none : old.log.end ≡ None = search rules in
        let there = c.in_ok-send.ensures.gives.on m [] (begun_issued g.F.Flights.planner _ _ old.log _ _ _ _ m h.sparing.begun none) in
        let not : old.log.known ≤ c.args.slot.index = is_past c.args.slot.index old.log.known c.is_known.result c.is_known.ensures c.if-is_known.false in
        record {
          sparing = record {
            begun = begun_needs g.F.Flights.planner _ _ c.send.new.self.log c.use_slot-2.new.self _ _ _ _ _ _ m
                (begun_flushed g.F.Flights.planner _ _ _ _ old.log c.send.new.self.log _ _ _ _ _ _ _ _ _ m h.sparing.begun none (c.args.self.now.whole none) there c.in_ok-send.ensures.log c.send.ensures.empty c.send.ensures.exchanges.managed)
                refl refl (used_new c.send.new.self.log _ c.args.slot c.use_slot-2.ensures.answer.so);
            paid = λ open_. paid_sent g.F.Flights.planner _ _ _ _ _ _ old.log c.send.new.self.log c.use_slot-2.new.self _ c.args.slot m (h.sparing.paid none) (λ points s. c.in_ok-send.ensures.gives.spare m [] points (begun_issued g.F.Flights.planner _ _ old.log _ _ _ _ m h.sparing.begun none) s)
                c.in_ok-send.ensures.log (c.args.self.now.whole none) old.sound.fence_within not c.use_slot-2.ensures.answer.so;
            needed = λ open_. needed_used g.F.Flights.planner (target_of m.probe) (asks_of old.log) c.send.new.self.log c.use_slot-2.new.self c.args.slot (h.sparing.needed none) (ap (λ (l : LogState). l.calls) c.in_ok-send.ensures.log) (ap (λ (l : LogState). l.needs) c.in_ok-send.ensures.log) c.use_slot-2.ensures.answer.so;
          };
          set = h.set;
        };
    same_bench = search rules;
    goes = search rules;
  };
}

pub returns-clause-value : goal.returns-clause-value
returns-clause-value g c = λ m answered h left.
    let old = c.args.self.now.sender in
    let mid = c.send.new.self in
    let none : old.log.end ≡ None = search rules in
    let there = c.in_ok-send.ensures.gives.on m [] (begun_issued g.F.Flights.planner _ _ old.log _ _ _ _ m h.sparing.begun none) in
    let begun = begun_flushed g.F.Flights.planner _ (g.F.Flights.reported mid.flights) _ _ old.log mid.log _ _ [] [] _ _ _ _ _ m h.sparing.begun none (c.args.self.now.whole none) there c.in_ok-send.ensures.log c.send.ensures.empty c.send.ensures.exchanges.managed in
    let calls : mid.log.calls ≡ old.log.calls = ap (λ (l : LogState). l.calls) c.in_ok-send.ensures.log in
    let known : mid.log.known ≡ old.log.whole = ap (λ (l : LogState). l.known) c.in_ok-send.ensures.log in
    let whole : old.log.whole ≡ length old.log.calls = c.args.self.now.whole none in
    let counts : length mid.log.calls ≡ length old.log.calls = ap length calls in
    let within : mid.log.known ≤ length mid.log.results = (let s = mid.sound in let k = s.known_within in let l = s.results_long in omega (arith, k, l)) in
    c.use_slot-2.ensures.value
    ∙ known_result g.F.Flights.planner _ _ mid.log [] [] _ _ m answered c.args.slot.index begun (left_needs _ _ mid.log c.use_slot-2.new.self [] [] _ _ answered (used_new mid.log _ c.args.slot c.use_slot-2.ensures.answer.so) left) within (inr (omega (arith, known, whole, counts)))
    ∙ ap (λ (l : List Ask). slice_index (results (world_from m answered) l) c.args.slot.index) calls

pub returns-in_err-send-clause-stops : goal.returns-in_err-send-clause-stops
returns-in_err-send-clause-stops g c = λ m answered h left none.
    let p = err_from_is_err_and c.from_residual.result c.from_residual.ensures.1 in
    rw (p.1, p.2) (let old = c.args.self.now.sender in
    stops_flushed g.F.Flights.planner _ _ old.log _ _ _ _ m answered _ c.in_err-send.field-0.0 h.sparing.begun none c.in_err-send.ensures.some (c.in_err-send.ensures.gives.stops m [] answered (begun_issued g.F.Flights.planner _ _ old.log _ _ _ _ m h.sparing.begun none) left))

pub returns-in_err-send-clause-ends : goal.returns-in_err-send-clause-ends
returns-in_err-send-clause-ends g c =
    let p = err_from_is_err_and c.from_residual.result c.from_residual.ensures.1 in
    rw (p.1, p.2) (record {
      no_end = search rules;
      memory = search rules;
      end = search rules;
      ended = search rules;
      keeps = record {
        on = λ m h.
            let old = c.args.self.now.sender in
            let none : old.log.end ≡ None = search rules in
            record { sparing = sparing_ended g.F.Flights.planner _ _ _ c.send.new.self.log _ _ _ _ m c.in_err-send.field-0.0 (c.in_err-send.ensures.gives.broke m [] (begun_issued g.F.Flights.planner _ _ old.log _ _ _ _ m h.sparing.begun none)) (ap (λ (l : LogState). l.end) c.in_err-send.ensures.ended); set = h.set };
        same_bench = search rules;
        goes = search rules;
      };
    })
