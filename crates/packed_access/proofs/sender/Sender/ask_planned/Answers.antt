use Rattle.std.proofs.Common.{rules, ◌≡◌, ◌∙◌, ◌+◌, ◌-◌, length, arith, sym, ap}
use Rattle.std.specs.Prelude.{slice_get}
use Rattle.packed_access.specs.Logs.{LogState, all_confirmed, all_issued, asks_of, result_for, with_result}
use Rattle.packed_access.proofs.WholeCallLemmas.{small_begun, whole_begun}
use Rattle.packed_access.proofs.SparingLemmas.{has_more}
use Rattle.packed_access.proofs.sender.Sender.ask_planned.Goals as goal

pub returns-in-Ok-true-clause-gives : goal.returns-in-Ok-true-clause-gives
returns-in-Ok-true-clause-gives g c =
    let mid = c.issue_planned.new.self in
    let whole : mid.log.whole + 1 ≡ length mid.log.calls = (let w = c.requires.ready.whole in let s = c.in-Ok-true.ensures.issues.whole in let l = ap length c.issue_planned.ensures.issues.step.keeps.calls in omega (arith, w, s, l)) in
    let last : (c.count-count.result - 1) + 1 ≡ length mid.log.calls = (let n = c.count-count.ensures in let l = ap (λ l. length l.calls) c.note_all_issued.ensures.answer.so in omega (arith, n, l, whole)) in
    let new : c.confirm.new.self ≡ all_confirmed (with_result (all_issued mid.log) (c.count-count.result - 1) (result_for (slice_get mid.log.calls (c.count-count.result - 1)) 0)) = search rules in
    record {
      on = λ m0 calls ask this h. let is = this.0 in let mild = this.1 in
          small_begun g.F.Flights.planner _ _ _ c.args.self.now.log mid.log c.confirm.new.self _ _ c.args.self.now.managed mid.managed _ _ calls ask _ m0 h (c.in-Ok-true.ensures.gives.on m0 calls ask (is, mild) h) c.issue_planned.ensures.issues.step.keeps.calls whole (c.in-Ok-true.ensures.kept m0 calls ask is mild h)
          (sym c.in-Ok-true.field-0-test ∙ c.in-Ok-true.ensures.small m0 calls ask is mild h) (c.in-Ok-true.ensures.empty c.in-Ok-true.field-0-test) mid.sound.results_long c.in-Ok-true.ensures.issues.step.ends.no_end last new;
      spare = λ m0 calls ask left this h s. let is = this.0 in let mild = this.1 in
          has_more g.F.Flights.planner _ _ _ mid.log c.confirm.new.self left m0 (c.in-Ok-true.ensures.gives.spare m0 calls ask left (is, mild) h s) (ap (λ (l : LogState). l.calls) new) (let k = ap (λ (l : LogState). l.confirmed) new in let w = mid.sound.confirmed_within in omega (arith, k, w)) (ap (λ (l : LogState). l.needs) new);
      needs = λ m0 calls ask this h.
          ap asks_of new ∙ c.in-Ok-true.ensures.gives.needs m0 calls ask this h;
      broke = λ m0 calls ask this h. tt;
      stops = λ m0 calls ask answered this h left. tt;
    }

pub returns-in-Ok-false-clause-gives : goal.returns-in-Ok-false-clause-gives
returns-in-Ok-false-clause-gives g c =
    let mid = c.issue_planned.new.self in
    let whole : mid.log.whole + 1 ≡ length mid.log.calls = (let w = c.requires.ready.whole in let s = c.in-Ok-false.ensures.issues.whole in let l = ap length c.issue_planned.ensures.issues.step.keeps.calls in omega (arith, w, s, l)) in
    let new : c.note_all_issued-in-Ok-false.new.self ≡ all_issued mid.log = c.note_all_issued-in-Ok-false.ensures.answer.so in
    record {
      on = λ m0 calls ask this h. let is = this.0 in let mild = this.1 in
          whole_begun g.F.Flights.planner _ _ _ c.args.self.now.log mid.log c.note_all_issued-in-Ok-false.new.self _ _ c.args.self.now.managed mid.managed _ _ calls ask m0 h (c.in-Ok-false.ensures.gives.on m0 calls ask (is, mild) h) c.issue_planned.ensures.issues.step.keeps.calls whole (c.in-Ok-false.ensures.kept m0 calls ask is mild h) mild
          (sym c.in-Ok-false.field-0-test ∙ c.in-Ok-false.ensures.small m0 calls ask is mild h) (c.in-Ok-false.ensures.pending c.in-Ok-false.field-0-test) mid.sound.places_long c.in-Ok-false.ensures.issues.step.ends.no_end c.note_all_issued-in-Ok-false.ensures.answer.so;
      spare = λ m0 calls ask left this h s. let is = this.0 in let mild = this.1 in
          has_more g.F.Flights.planner _ _ _ mid.log c.note_all_issued-in-Ok-false.new.self left m0 (c.in-Ok-false.ensures.gives.spare m0 calls ask left (is, mild) h s) (ap (λ (l : LogState). l.calls) new) (let k = ap (λ (l : LogState). l.confirmed) new in omega (arith, k)) (ap (λ (l : LogState). l.needs) new);
      needs = λ m0 calls ask this h.
          ap asks_of new ∙ c.in-Ok-false.ensures.gives.needs m0 calls ask this h;
      broke = λ m0 calls ask this h. tt;
      stops = λ m0 calls ask answered this h left. tt;
    }

pub returns-in-Ok-true-clause-asks : goal.returns-in-Ok-true-clause-asks
returns-in-Ok-true-clause-asks g c = record {
  whole = search rules;
  settles = search rules;
  fenced =
      let mid = c.issue_planned.new.self in
      let new : c.confirm.new.self ≡ all_confirmed (with_result (all_issued mid.log) (c.count-count.result - 1) (result_for (slice_get mid.log.calls (c.count-count.result - 1)) 0)) = search rules in
      λ past. c.in-Ok-true.ensures.issues.fenced (let f = ap (λ (l : LogState). l.fence) new in let k = ap (λ (l : LogState). l.known) new in let w = mid.sound.known_within in omega (arith, f, k, w, past));
}

pub returns-in-Ok-false-clause-asks : goal.returns-in-Ok-false-clause-asks
returns-in-Ok-false-clause-asks g c = record {
  whole = search rules;
  settles = search rules;
  fenced =
      let mid = c.issue_planned.new.self in
      let new : c.note_all_issued-in-Ok-false.new.self ≡ all_issued mid.log = c.note_all_issued-in-Ok-false.ensures.answer.so in
      λ past. c.in-Ok-false.ensures.issues.fenced (let f = ap (λ (l : LogState). l.fence) new in let k = ap (λ (l : LogState). l.known) new in omega (arith, f, k, past));
}
