use Rattle.std.proofs.Common.{rules, ◌≡◌, ◌∙◌, List, Bool, ◌&&◌, None, arith, refl, sym, ap, subst}
use Rattle.target_calls.specs.Asks.{IsAskable, is_wide, unit_ask}
use Rattle.target_calls.specs.World.{small_now}
use Rattle.target_calls.specs.declared.calls.Ask.{Ask}
use Rattle.access_calls.specs.Answers.{IsSmallWhere}
use Rattle.access_calls.specs.Reported.{world_from}
use Rattle.probe_core.specs.Probe.{target_of}
use Rattle.target_calls.specs.NeedPoints.{asks_with_call}
use Rattle.access_regs.specs.Costs.{cost_by}
use Rattle.packed_access.specs.Begun.{StopsAfterLines}
use Rattle.packed_access.specs.Logs.{LogState, asks_of, log_with_call}
use Rattle.packed_access.proofs.AskLemmas.{stops_asked}
use Rattle.packed_access.proofs.AskedLemmas.{begins_asked}
use Rattle.packed_access.proofs.NeededLemmas.{needed_by}
use Rattle.packed_access.proofs.PaidLemmas.{paid_asked, paid_upto, sparing_ended, sparing_refused}
use Rattle.packed_access.specs.Sparing.{points_left}
use Rattle.packed_access.proofs.SmallLemmas.{small_left, small_wide}
use Rattle.packed_access.proofs.calls.PackedAccessAccess.ask.Goals as goal
use Rattle.packed_access.proofs.calls.PackedAccessAccess.ask.Goals.{then-small, else-small}

pub returns-then-is_err-clause-ends : goal.returns-then-is_err-clause-ends
returns-then-is_err-clause-ends g c = record {
  no_end = search rules;
  memory = search rules;
  end = search rules;
  ended = search rules;
  keeps = record {
    on = λ m h. record { sparing = sparing_refused g.F.Flights.planner _ _ _ c.args.self.now.sender.log c.ask.new.self _ _ _ _ m h.sparing (search rules); set = h.set };
    same_bench = search rules;
    goes = search rules;
  };
}

pub returns-after-small-clause-needs : goal.returns-after-small-clause-needs
returns-after-small-clause-needs g c = λ m answered h left.
    let none : c.args.self.now.sender.log.end ≡ None = search rules in
    let old = c.args.self.now.sender in
    let is : c.ask.new.self ≡ log_with_call old.log (unit_ask c.args.unit c.args.forgive) c.ask.new.self.room = search rules in
    let ok : IsAskable (unit_ask c.args.unit c.args.forgive) = record { sound = c.requires.sound; range = c.ask_of-ask.ensures.range } in
    let there = begins_asked g.F.Flights.planner _ _ old.log c.ask.new.self _ _ _ _ (unit_ask c.args.unit c.args.forgive) m h.sparing.begun none ok refl old.sound.results_long old.sound.places_long is in
    c.in-Ok.ensures.gives.needs m old.log.calls (unit_ask c.args.unit c.args.forgive) (h.set, refl) there ∙ ap (λ (l : LogState). asks_with_call (cost_by g.F.Flights.planner (target_of m.probe) old.log.calls (unit_ask c.args.unit c.args.forgive)) (unit_ask c.args.unit c.args.forgive) (record { calls = old.log.calls; needs = l.needs; fence = l.fence })) is

pub returns-after-small-clause-small : goal.returns-after-small-clause-small
returns-after-small-clause-small g c = λ m answered h left.
    let none : c.args.self.now.sender.log.end ≡ None = search rules in
    let old = c.args.self.now.sender in
    let is_asked : c.ask.new.self ≡ log_with_call old.log (unit_ask c.args.unit c.args.forgive) c.ask.new.self.room = search rules in
    let ok : IsAskable (unit_ask c.args.unit c.args.forgive) = record { sound = c.requires.sound; range = c.ask_of-ask.ensures.range } in
    let there = begins_asked g.F.Flights.planner _ _ old.log c.ask.new.self _ _ _ _ (unit_ask c.args.unit c.args.forgive) m h.sparing.begun none ok refl old.sound.results_long old.sound.places_long is_asked in
    let new = c.issue_asked.new.self in
    let calls = c.issue_asked.ensures.step.keeps.calls ∙ ap (λ (l : LogState). l.calls) is_asked in
    let both : c.if-small.answer ≡ (c.in-Ok.small && is_wide c.args.unit) = elim c.if-small.branch [ then-small w ↦ search rules | else-small w ↦ search rules ] in
    let is : c.if-small.answer ≡ small_now (world_from m answered) old.log.calls (unit_ask c.args.unit c.args.forgive) =
    both
    ∙ ap (λ (b : Bool). b && is_wide c.args.unit) (c.in-Ok.ensures.small m old.log.calls (unit_ask c.args.unit c.args.forgive) h.set refl there)
    ∙ small_wide (target_of m.probe) old.log.calls c.args.unit c.args.forgive
    ∙ sym (small_left g.F.Flights.planner _ _ new.log _ _ _ _ old.log.calls (unit_ask c.args.unit c.args.forgive) m answered (c.in-Ok.ensures.gives.on m old.log.calls (unit_ask c.args.unit c.args.forgive) (h.set, refl) there) c.in-Ok.ensures.step.ends.no_end calls left) in
    subst (λ (b : Bool). IsSmallWhere b c.answer.result) is c.answer.ensures.small

pub returns-after-small-clause-ends : goal.returns-after-small-clause-ends
returns-after-small-clause-ends g c = record {
  no_end = search rules;
  memory = search rules;
  end = search rules;
  ended = search rules;
  keeps = record {
    on = λ m h.
        let none : c.args.self.now.sender.log.end ≡ None = search rules in
        let old = c.args.self.now.sender in
        let is_asked : c.ask.new.self ≡ log_with_call old.log (unit_ask c.args.unit c.args.forgive) c.ask.new.self.room = search rules in
        let ok : IsAskable (unit_ask c.args.unit c.args.forgive) = record { sound = c.requires.sound; range = c.ask_of-ask.ensures.range } in
        let there = begins_asked g.F.Flights.planner _ _ old.log c.ask.new.self _ _ _ _ (unit_ask c.args.unit c.args.forgive) m h.sparing.begun none ok refl old.sound.results_long old.sound.places_long is_asked in
        record {
          sparing = record {
            begun = c.in-Ok.ensures.gives.on m old.log.calls (unit_ask c.args.unit c.args.forgive) (h.set, refl) there;
            paid = λ open_. paid_upto g.F.Flights.planner _ _ _ old.log c.issue_asked.new.self.log m
                (c.in-Ok.ensures.gives.spare m old.log.calls (unit_ask c.args.unit c.args.forgive) (points_left old.log) (h.set, refl) there (paid_asked g.F.Flights.planner _ _ _ old.log c.ask.new.self (unit_ask c.args.unit c.args.forgive) (points_left old.log) m (h.sparing.paid none) is_asked))
                (λ past. (let p = c.in-Ok.ensures.asks.fenced past in let k = ap (λ (l : LogState). l.known) is_asked in let f = ap (λ (l : LogState). l.fence) is_asked in omega (arith, p, k, f)));
            needed = λ open_. needed_by g.F.Flights.planner (target_of m.probe) (asks_of old.log) (asks_of c.issue_asked.new.self.log) (unit_ask c.args.unit c.args.forgive) (h.sparing.needed none) refl
                (c.in-Ok.ensures.gives.needs m old.log.calls (unit_ask c.args.unit c.args.forgive) (h.set, refl) there ∙ ap (λ (l : LogState). asks_with_call (cost_by g.F.Flights.planner (target_of m.probe) old.log.calls (unit_ask c.args.unit c.args.forgive)) (unit_ask c.args.unit c.args.forgive) (record { calls = old.log.calls; needs = l.needs; fence = l.fence })) is_asked);
          };
          set = h.set;
        };
    same_bench = search rules;
    goes = search rules;
  };
}

pub returns-in-Err-clause-stops : goal.returns-in-Err-clause-stops
returns-in-Err-clause-stops g c = λ m answered h left none.
    let old = c.args.self.now.sender in
    let is_asked : c.ask.new.self ≡ log_with_call old.log (unit_ask c.args.unit c.args.forgive) c.ask.new.self.room = search rules in
    let ok : IsAskable (unit_ask c.args.unit c.args.forgive) = record { sound = c.requires.sound; range = c.ask_of-ask.ensures.range } in
    let there = begins_asked g.F.Flights.planner _ _ old.log c.ask.new.self _ _ _ _ (unit_ask c.args.unit c.args.forgive) m h.sparing.begun none ok refl old.sound.results_long old.sound.places_long is_asked in
    stops_asked m answered old.log.calls (unit_ask c.args.unit c.args.forgive) _ c.in-Err.stop refl
    (subst (λ (calls : List Ask). StopsAfterLines m answered calls c.issue_asked.new.self.log.lines c.in-Err.stop) (ap (λ (l : LogState). l.calls) is_asked)
    (c.in-Err.ensures.gives.stops m old.log.calls (unit_ask c.args.unit c.args.forgive) answered (h.set, refl) there left))

pub returns-in-Err-clause-ends : goal.returns-in-Err-clause-ends
returns-in-Err-clause-ends g c = record {
  no_end = search rules;
  memory = search rules;
  end = search rules;
  ended = search rules;
  keeps = record {
    on = λ m h.
        let none : c.args.self.now.sender.log.end ≡ None = search rules in
        let old = c.args.self.now.sender in
        let is_asked : c.ask.new.self ≡ log_with_call old.log (unit_ask c.args.unit c.args.forgive) c.ask.new.self.room = search rules in
        let ok : IsAskable (unit_ask c.args.unit c.args.forgive) = record { sound = c.requires.sound; range = c.ask_of-ask.ensures.range } in
        let there = begins_asked g.F.Flights.planner _ _ old.log c.ask.new.self _ _ _ _ (unit_ask c.args.unit c.args.forgive) m h.sparing.begun none ok refl old.sound.results_long old.sound.places_long is_asked in
        record { sparing = sparing_ended g.F.Flights.planner _ _ _ c.issue_asked.new.self.log _ _ _ _ m c.in-Err.stop (c.in-Err.ensures.gives.broke m old.log.calls (unit_ask c.args.unit c.args.forgive) (h.set, refl) there) c.in-Err.ensures.step.ends.ended; set = h.set };
    same_bench = search rules;
    goes = search rules;
  };
}
