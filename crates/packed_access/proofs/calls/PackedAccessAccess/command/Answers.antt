use Rattle.std.proofs.Common.{rules, ◌≡◌, ◌∙◌, ℕ, ◌+◌, ◌≤◌, ◌++◌, ◌∷◌, [], inl, List, length, None, Some, arith, refl, sym, ap, subst, length-append}
use Rattle.std.specs.Prelude.{slice_get, slice_index}
use Rattle.probe_core.specs.Probe.{target_of}
use Rattle.target_calls.specs.Asks.{IsAskable, probe_ask}
use Rattle.target_calls.specs.World.{results, stop}
use Rattle.target_calls.specs.declared.calls.Ask.{Ask}
use Rattle.access_calls.specs.Reported.{world_from}
use Rattle.packed_access.specs.Begun.{StopsAfterLines}
use Rattle.packed_access.specs.Logs.{LogState, asks_of, log_with_call, result_at, result_for}
use Rattle.packed_access.proofs.AskLemmas.{begun_asked, begun_made, stops_asked}
use Rattle.packed_access.proofs.BegunLemmas.{known_result, none_stopped}
use Rattle.packed_access.proofs.CommandLemmas.{command_needs, done_result, last_there}
use Rattle.packed_access.proofs.NeedLemmas.{begun_needs, left_needs, needs_new}
use Rattle.packed_access.proofs.NeededLemmas.{needed_command}
use Rattle.packed_access.proofs.SparingLemmas.{counted_spared}
use Rattle.packed_access.proofs.PaidLemmas.{paid_asked, paid_flushed, sparing_ended, sparing_refused}
use Rattle.packed_access.specs.Sparing.{HasSpared, managed_points, points_left}
use Rattle.packed_access.proofs.calls.PackedAccessAccess.command.Goals as goal

pub returns-then-is_err-clause-ends : goal.returns-then-is_err-clause-ends
returns-then-is_err-clause-ends g c = record {
  no_end = search rules;
  memory = search rules;
  end = search rules;
  ended = search rules;
  keeps = record {
    on = λ m h. record { sparing = sparing_refused g.F.Flights.planner _ _ _ c.args.self.now.sender.log c.ask.new.self _ _ _ _ m h.sparing (search rules); set = h.set };
    same_bench = search rules;
    goes = search rules;
  };
}

pub returns-in-Err-clause-stops : goal.returns-in-Err-clause-stops
returns-in-Err-clause-stops g c = λ m answered h left none.
    let old = c.args.self.now.sender in
    let asked : c.ask.new.self ≡ log_with_call old.log (probe_ask c.args.call) c.ask.new.self.room = search rules in
    let ok : IsAskable (probe_ask c.args.call) = record { sound = c.requires.sound; range = c.points_of-points.ensures.range } in
    let there = begun_asked g.F.Flights.planner _ _ old.log c.ask.new.self _ _ _ _ (probe_ask c.args.call) m h.sparing.begun none ok refl old.sound.results_long old.sound.places_long asked in
    stops_asked m answered old.log.calls (probe_ask c.args.call) _ c.in-Err.stop refl
    (subst (λ (calls : List Ask). StopsAfterLines m answered calls c.send.new.self.log.lines c.in-Err.stop) (ap (λ (l : LogState). l.calls) asked) (c.in-Err.ensures.gives.stops m _ answered there left))

pub returns-in-Err-clause-ends : goal.returns-in-Err-clause-ends
returns-in-Err-clause-ends g c = record {
  no_end = search rules;
  memory = search rules;
  end = search rules;
  ended = search rules;
  keeps = record {
    on = λ m h.
        let old = c.args.self.now.sender in
        let none : old.log.end ≡ None = search rules in
        let asked : c.ask.new.self ≡ log_with_call old.log (probe_ask c.args.call) c.ask.new.self.room = search rules in
        let ok : IsAskable (probe_ask c.args.call) = record { sound = c.requires.sound; range = c.points_of-points.ensures.range } in
        let there = begun_asked g.F.Flights.planner _ _ old.log c.ask.new.self _ _ _ _ (probe_ask c.args.call) m h.sparing.begun none ok refl old.sound.results_long old.sound.places_long asked in
        record { sparing = sparing_ended g.F.Flights.planner _ _ _ c.send.new.self.log _ _ _ _ m c.in-Err.stop (c.in-Err.ensures.gives.broke m _ there) (ap (λ (l : LogState). l.end) c.in-Err.ensures.ended); set = h.set };
    same_bench = search rules;
    goes = search rules;
  };
}

pub returns-in-Err-make_last-clause-stops : goal.returns-in-Err-make_last-clause-stops
returns-in-Err-make_last-clause-stops g c = λ m answered h left none.
    let old = c.args.self.now.sender in
    let asked : c.ask.new.self ≡ log_with_call old.log (probe_ask c.args.call) c.ask.new.self.room = search rules in
    let ok : IsAskable (probe_ask c.args.call) = record { sound = c.requires.sound; range = c.points_of-points.ensures.range } in
    let there = begun_asked g.F.Flights.planner _ _ old.log c.ask.new.self _ _ _ _ (probe_ask c.args.call) m h.sparing.begun none ok refl old.sound.results_long old.sound.places_long asked in
    let sent = c.in-Ok.ensures.gives.on m _ there in
    let calls : c.send.new.self.log.calls ≡ old.log.calls ++ probe_ask c.args.call ∷ [] = ap (λ (l : LogState). l.calls) c.in-Ok.ensures.log ∙ ap (λ (l : LogState). l.calls) asked in
    stops_asked m answered old.log.calls (probe_ask c.args.call) _ c.in-Err-make_last.stop refl
    (subst (λ (calls : List Ask). StopsAfterLines m answered calls c.make_last.new.self.log.lines c.in-Err-make_last.stop) calls (c.in-Err-make_last.ensures.stops m old.log.calls answered calls sent left))

pub returns-in-Err-make_last-clause-ends : goal.returns-in-Err-make_last-clause-ends
returns-in-Err-make_last-clause-ends g c = record {
  no_end = search rules;
  memory = search rules;
  end = search rules;
  ended = search rules;
  keeps = record {
    on = λ m h.
        let old = c.args.self.now.sender in
        let none : old.log.end ≡ None = search rules in
        let asked : c.ask.new.self ≡ log_with_call old.log (probe_ask c.args.call) c.ask.new.self.room = search rules in
        let ok : IsAskable (probe_ask c.args.call) = record { sound = c.requires.sound; range = c.points_of-points.ensures.range } in
        let there = begun_asked g.F.Flights.planner _ _ old.log c.ask.new.self _ _ _ _ (probe_ask c.args.call) m h.sparing.begun none ok refl old.sound.results_long old.sound.places_long asked in
        let sent = c.in-Ok.ensures.gives.on m _ there in
        let calls : c.send.new.self.log.calls ≡ old.log.calls ++ probe_ask c.args.call ∷ [] = ap (λ (l : LogState). l.calls) c.in-Ok.ensures.log ∙ ap (λ (l : LogState). l.calls) asked in
        record { sparing = sparing_ended g.F.Flights.planner _ _ _ c.make_last.new.self.log _ _ _ _ m _ (c.in-Err-make_last.ensures.broke m old.log.calls calls sent) c.in-Err-make_last.ensures.exchanges.step.ends.ended; set = h.set };
    same_bench = search rules;
    goes = search rules;
  };
}

pub returns-in-Ok-make_last-clause-ends : goal.returns-in-Ok-make_last-clause-ends
returns-in-Ok-make_last-clause-ends g c = record {
  no_end = search rules;
  memory = search rules;
  end = search rules;
  ended = search rules;
  keeps = record {
    on = λ m h.
        let old = c.args.self.now.sender in
        let mid = c.send.new.self in
        let new = c.make_last.new.self in
        let none : old.log.end ≡ None = search rules in
        let asked : c.ask.new.self ≡ log_with_call old.log (probe_ask c.args.call) c.ask.new.self.room = search rules in
        let ok : IsAskable (probe_ask c.args.call) = record { sound = c.requires.sound; range = c.points_of-points.ensures.range } in
        let there = begun_asked g.F.Flights.planner _ _ old.log c.ask.new.self _ _ _ _ (probe_ask c.args.call) m h.sparing.begun none ok refl old.sound.results_long old.sound.places_long asked in
        let sent = c.in-Ok.ensures.gives.on m _ there in
        let calls : mid.log.calls ≡ old.log.calls ++ probe_ask c.args.call ∷ [] = ap (λ (l : LogState). l.calls) c.in-Ok.ensures.log ∙ ap (λ (l : LogState). l.calls) asked in
        let done = c.in-Ok-make_last.ensures.on m old.log.calls calls sent in
        let same : new.log.calls ≡ mid.log.calls = ap (λ (l : LogState). l.calls) c.in-Ok-make_last.ensures.log in
        let end : new.log.end ≡ None = ap (λ (l : LogState). l.end) c.in-Ok-make_last.ensures.log ∙ ap (λ (l : LogState). l.end) c.in-Ok.ensures.log ∙ ap (λ (l : LogState). l.end) asked ∙ none in
        let whole : new.log.whole ≡ length new.log.calls = ap (λ (l : LogState). l.whole) c.in-Ok-make_last.ensures.log ∙ ap length (sym same) in
        let paid = paid_asked g.F.Flights.planner _ _ _ old.log c.ask.new.self (probe_ask c.args.call) (points_left old.log) m (h.sparing.paid none) asked in
        let made = c.in-Ok-make_last.ensures.spare m old.log.calls paid.paid calls sent (c.in-Ok.ensures.gives.spare m _ paid.paid there paid.spared) in
        let needs : new.log.needs ≡ c.ask.new.self.needs = ap (λ (l : LogState). l.needs) c.in-Ok-make_last.ensures.log ∙ ap (λ (l : LogState). l.needs) c.in-Ok.ensures.log in
        let noted = needs_new new.log c.need.new.self c.count_points.result c.count-count.result c.need.ensures.answer.so in
        let known : new.log.known ≡ length c.need.new.self.calls = ap (λ (l : LogState). l.known) c.in-Ok-make_last.ensures.log ∙ ap length (sym same) ∙ sym (ap (λ (l : LogState). length l.calls) noted) in
        record {
          sparing = record {
            begun = begun_needs g.F.Flights.planner _ _ new.log c.need.new.self _ _ _ _ _ _ m
                (begun_made g.F.Flights.planner _ _ _ _ old.log new.log _ _ _ _ _ _ _ _ (probe_ask c.args.call) m h.sparing.begun none refl done end (same ∙ calls) whole (c.make_last.ensures.exchanges.managed ∙ c.send.ensures.exchanges.managed) c.in-Ok-make_last.ensures.exchanges.empty)
                refl refl noted;
            paid = λ open_. paid_flushed g.F.Flights.planner _ _ _ new.log c.need.new.self c.ask.new.self.needs paid.paid c.count_points.result c.count-count.result (points_left old.log) m
                (counted_spared g.F.Flights.planner _ _ _ new.log paid.paid c.points_of-points.result c.count_points.result m
                (subst (λ (n : ℕ). HasSpared g.F.Flights.planner (g.F.Flights.limits new.flights) (g.F.Flights.reported new.flights).limits (g.F.Flights.state new.flights) new.log (paid.paid + n) m) (sym c.points_of-points.ensures.answer) made) c.count_points.ensures)
                paid.covers needs c.need.ensures.answer.so known c.need.ensures.answer.sound.fence_within (ap (λ (l : LogState). l.known) noted);
            needed = λ open_. needed_command g.F.Flights.planner (target_of m.probe) (asks_of old.log) new.log c.need.new.self c.args.call c.count_points.result c.count-count.result (h.sparing.needed none) (same ∙ calls) (needs ∙ ap (λ (l : LogState). l.needs) asked) c.need.ensures.answer.so;
          };
          set = h.set;
        };
    same_bench = search rules;
    goes = search rules;
  };
}

pub returns-in-Ok-make_last-clause-whole : goal.returns-in-Ok-make_last-clause-whole
returns-in-Ok-make_last-clause-whole g c = λ m answered h left.
    let old = c.args.self.now.sender in
    let mid = c.send.new.self in
    let new = c.make_last.new.self in
    let none : old.log.end ≡ None = search rules in
    let asked : c.ask.new.self ≡ log_with_call old.log (probe_ask c.args.call) c.ask.new.self.room = search rules in
    let ok : IsAskable (probe_ask c.args.call) = record { sound = c.requires.sound; range = c.points_of-points.ensures.range } in
    let there = begun_asked g.F.Flights.planner _ _ old.log c.ask.new.self _ _ _ _ (probe_ask c.args.call) m h.sparing.begun none ok refl old.sound.results_long old.sound.places_long asked in
    let sent = c.in-Ok.ensures.gives.on m _ there in
    let calls : mid.log.calls ≡ old.log.calls ++ probe_ask c.args.call ∷ [] = ap (λ (l : LogState). l.calls) c.in-Ok.ensures.log ∙ ap (λ (l : LogState). l.calls) asked in
    let done = c.in-Ok-make_last.ensures.on m old.log.calls calls sent in
    let same : new.log.calls ≡ mid.log.calls = ap (λ (l : LogState). l.calls) c.in-Ok-make_last.ensures.log in
    let end : new.log.end ≡ None = ap (λ (l : LogState). l.end) c.in-Ok-make_last.ensures.log ∙ ap (λ (l : LogState). l.end) c.in-Ok.ensures.log ∙ ap (λ (l : LogState). l.end) asked ∙ none in
    let came : new.log.came ≡ length new.log.calls = ap (λ (l : LogState). l.came) c.in-Ok-make_last.ensures.log ∙ ap length (sym same) in
    subst (λ (calls : List Ask). stop (world_from m answered) calls ≡ None) (same ∙ calls)
    (none_stopped g.F.Flights.planner _ _ new.log [] [] [] m answered done refl end came (left_needs _ _ new.log c.need.new.self [] [] _ _ answered (needs_new new.log _ c.count_points.result c.count-count.result c.need.ensures.answer.so) left))

pub returns-in-Ok-make_last-clause-value : goal.returns-in-Ok-make_last-clause-value
returns-in-Ok-make_last-clause-value g c = λ m answered h left.
    let old = c.args.self.now.sender in
    let mid = c.send.new.self in
    let new = c.make_last.new.self in
    let none : old.log.end ≡ None = search rules in
    let asked : c.ask.new.self ≡ log_with_call old.log (probe_ask c.args.call) c.ask.new.self.room = search rules in
    let ok : IsAskable (probe_ask c.args.call) = record { sound = c.requires.sound; range = c.points_of-points.ensures.range } in
    let there = begun_asked g.F.Flights.planner _ _ old.log c.ask.new.self _ _ _ _ (probe_ask c.args.call) m h.sparing.begun none ok refl old.sound.results_long old.sound.places_long asked in
    let sent = c.in-Ok.ensures.gives.on m _ there in
    let calls : mid.log.calls ≡ old.log.calls ++ probe_ask c.args.call ∷ [] = ap (λ (l : LogState). l.calls) c.in-Ok.ensures.log ∙ ap (λ (l : LogState). l.calls) asked in
    let done = c.in-Ok-make_last.ensures.on m old.log.calls calls sent in
    let same : new.log.calls ≡ mid.log.calls = ap (λ (l : LogState). l.calls) c.in-Ok-make_last.ensures.log in
    let end : new.log.end ≡ None = ap (λ (l : LogState). l.end) c.in-Ok-make_last.ensures.log ∙ ap (λ (l : LogState). l.end) c.in-Ok.ensures.log ∙ ap (λ (l : LogState). l.end) asked ∙ none in
    let whole : new.log.whole ≡ length new.log.calls = ap (λ (l : LogState). l.whole) c.in-Ok-make_last.ensures.log ∙ ap length (sym same) in
    let begun = begun_made g.F.Flights.planner _ (g.F.Flights.reported new.flights) _ _ old.log new.log _ _ [] [] _ _ _ _ (probe_ask c.args.call) m h.sparing.begun none refl done end (same ∙ calls) whole (c.make_last.ensures.exchanges.managed ∙ c.send.ensures.exchanges.managed) c.in-Ok-make_last.ensures.exchanges.empty in
    let all_before : old.log.whole ≡ length old.log.calls = c.args.self.now.whole none in
    let came : mid.log.came ≡ length old.log.calls = ap (λ (l : LogState). l.came) c.in-Ok.ensures.log ∙ ap (λ (l : LogState). l.whole) asked ∙ all_before in
    let count : length mid.log.calls ≡ length old.log.calls + 1 = ap length calls ∙ length-append old.log.calls (probe_ask c.args.call ∷ []) in
    let last : slice_get mid.log.calls mid.log.came ≡ Some (probe_ask c.args.call) = (λ j. slice_get (calls j) (came j)) ∙ last_there old.log.calls (probe_ask c.args.call) in
    let result : result_at new.log mid.log.came ≡ c.in-Ok-make_last.word =
    done_result mid.log new.log _ mid.log.came _ c.in-Ok-make_last.ensures.log (omega (arith, came, count)) mid.sound.results_long ∙ ap (λ x. result_for x c.in-Ok-make_last.word) last in
    let known : new.log.known ≡ length mid.log.calls = ap (λ (l : LogState). l.known) c.in-Ok-make_last.ensures.log in
    let within : new.log.known ≤ length new.log.results = (let s = new.sound in let k = s.known_within in let l = s.results_long in omega (arith, k, l)) in
    let word : c.from.result ≡ c.in-Ok-make_last.word = search rules in
    word ∙ sym result
    ∙ known_result g.F.Flights.planner _ _ new.log [] [] _ _ m answered mid.log.came begun (left_needs _ _ new.log c.need.new.self [] [] _ _ answered (needs_new new.log _ c.count_points.result c.count-count.result c.need.ensures.answer.so) left) within (inl (omega (arith, known, came, count)))
    ∙ (λ j. slice_index (results (world_from m answered) ((same ∙ calls) j)) (came j))

pub returns-in-Ok-make_last-clause-needs : goal.returns-in-Ok-make_last-clause-needs
returns-in-Ok-make_last-clause-needs g c = λ m answered h left.
    let old = c.args.self.now.sender in
    let new = c.make_last.new.self in
    let asked : c.ask.new.self ≡ log_with_call old.log (probe_ask c.args.call) c.ask.new.self.room = search rules in
    let asks : asks_of new.log ≡ record { calls = old.log.calls ++ probe_ask c.args.call ∷ []; needs = old.log.needs; fence = old.log.fence } = ap asks_of c.in-Ok-make_last.ensures.log ∙ ap asks_of c.in-Ok.ensures.log ∙ ap asks_of asked in
    command_needs g.F.Flights.planner (target_of m.probe) old.log.calls c.args.call c.count_points.result c.count-count.result old.log.needs old.log.fence new.log c.need.new.self (c.count_points.ensures ∙ ap (managed_points g.F.Flights.planner) c.points_of-points.ensures.answer) c.need.ensures.answer.so c.count-count.ensures asks
