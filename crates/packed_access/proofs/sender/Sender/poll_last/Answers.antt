use Rattle.std.proofs.Common.{rules, ◌≡◌, ◌∙◌, ℕ, ◌+◌, ◌-◌, ◌^◌, ◌<◌, ◌≤◌, ◌++◌, [], ◌∷◌, length, ap, subst, arith, length-append}
use Rattle.std.specs.Prelude.{slice_get}
use Rattle.target_machine.specs.Plain.{Polls}
use Rattle.target_calls.specs.declared.journal.Part.TheVariants.{Ends}
use Rattle.packed_access.specs.Actions.{entry_of_call, log_done}
use Rattle.bench_flights.specs.Flown.{HasDoneWhole, LeftActionOff, matched_word}
use Rattle.access_regs.specs.Journal.{Issue}
use Rattle.access_calls.specs.Issued.{kept_of}
use Rattle.packed_access.specs.Logs.{LogIsStopped, LogState, log_with_entry, result_for}
use Rattle.packed_access.proofs.ActionLemmas.{action_has_come}
use Rattle.packed_access.proofs.LeftLemmas.{has_left, stops_left}
use Rattle.packed_access.proofs.PollLemmas.{asked_log, poll_issue_of, poll_light, poll_mild, poll_not_small, poll_points, poll_steps}
use Rattle.bench_flights.specs.Flown.{SendsFew}
use Rattle.packed_access.proofs.SparingLemmas.{has_cost}
use Rattle.packed_access.proofs.sender.Sender.poll_last.Goals as goal

pub returns-in-Ok-clause-on : goal.returns-in-Ok-clause-on
returns-in-Ok-clause-on g c = λ m0 calls ask h.
    let old = c.args.self.now in
    let few : length old.log.entries < 2 ^ 32 = (let s = old.sound in let b = s.bounded in let f = s.few in omega (arith, b, f)) in
    let came : old.log.came ≡ length calls = (let l = c.requires.last in let k = ap length h.are ∙ length-append calls (ask ∷ []) in omega (arith, l, k)) in
    let is : c.confirm.new.self ≡ log_done old.log (record { unit = length old.log.calls; part = Ends }) old.log.came (result_for (slice_get old.log.calls old.log.came) (matched_word c.in-Ok.found.matched)) = search rules in
    let done = poll_steps g.F.Flights.planner _ _ old.log old.managed calls ask c.args.mask c.args.requested c.args.turns c.args.config.idle c.args.config.retry m0 h _ c.polls_by_matches-zero.ensures.zero
    (HasDoneWhole (Polls c.args.mask c.args.requested c.args.turns) (matched_word c.in-Ok.found.matched)) c.in-Ok.ensures.done in
    action_has_come g.F.Flights.planner _ _ old.log c.confirm.new.self calls ask (Polls c.args.mask c.args.requested c.args.turns) (matched_word c.in-Ok.found.matched) m0 h.issued done h.are came
    (ap (λ (i : Issue). length i.steps) (poll_issue_of g.F.Flights.planner _ _ ask c.args.mask c.args.requested c.args.turns h.call)) h.unmarked
    (poll_mild ask c.args.mask c.args.requested c.args.turns h.call) (poll_not_small _ calls ask c.args.mask c.args.requested c.args.turns h.call)
    (λ m. poll_light c.args.turns c.args.mask c.args.requested _ c.requires.sound.1) old.sound.results_long few
    (asked_log old.log c.confirm.new.self calls ask (Polls c.args.mask c.args.requested c.args.turns) (matched_word c.in-Ok.found.matched) h.are came is)

pub returns-in-Ok-clause-points : goal.returns-in-Ok-clause-points
returns-in-Ok-clause-points g c = λ managed m0 calls ask h.
    let old = c.args.self.now in
    poll_points g.F.Flights.planner _ _ old.log old.managed calls ask c.args.mask c.args.requested c.args.turns c.args.config.idle c.args.config.retry m0 h _ (c.polls_by_matches-zero.ensures.managed managed) _ c.in-Ok.ensures.points

pub returns-in-Err-clause-broke : goal.returns-in-Err-clause-broke
returns-in-Err-clause-broke g c = λ m0 calls ask h.
    let old = c.args.self.now in
    let few : length old.log.entries < 2 ^ 32 = (let s = old.sound in let b = s.bounded in let f = s.few in omega (arith, b, f)) in
    let unit_is : c.count-unit.result ≡ length calls + 1 = c.count-unit.ensures ∙ ap length h.are ∙ length-append calls (ask ∷ []) in
    let stopped : LogIsStopped c.in-Err.end (log_with_entry old.log (kept_of (entry_of_call calls (Polls c.args.mask c.args.requested c.args.turns)))) c.stop.new.self c.stop.result =
    subst (λ (l : LogState). LogIsStopped c.in-Err.end l c.stop.new.self c.stop.result) (c.issue.ensures.answer.so ∙ ap (λ (n : ℕ). log_with_entry old.log (record { unit = n; part = Ends })) unit_is) c.stop.ensures.answer in
    let left_off = poll_steps g.F.Flights.planner _ _ old.log old.managed calls ask c.args.mask c.args.requested c.args.turns c.args.config.idle c.args.config.retry m0 h _ c.polls_by_matches-zero.ensures.zero
    (LeftActionOff (Polls c.args.mask c.args.requested c.args.turns) c.in-Err.end) c.in-Err.ensures.left in
    has_left g.F.Flights.planner _ _ _ _ _ old.log (entry_of_call calls (Polls c.args.mask c.args.requested c.args.turns)) [] m0 c.in-Err.end c.stop.result c.stop.new.self h.issued left_off
    (λ m. poll_light c.args.turns c.args.mask c.args.requested _ c.requires.sound.1) few c.in-Err.ensures.none stopped

pub returns-in-Err-clause-stops : goal.returns-in-Err-clause-stops
returns-in-Err-clause-stops g c = λ m0 calls ask answered h left.
    let old = c.args.self.now in
    let few : length old.log.entries < 2 ^ 32 = (let s = old.sound in let b = s.bounded in let f = s.few in omega (arith, b, f)) in
    let unit_is : c.count-unit.result ≡ length calls + 1 = c.count-unit.ensures ∙ ap length h.are ∙ length-append calls (ask ∷ []) in
    let stopped : LogIsStopped c.in-Err.end (log_with_entry old.log (kept_of (entry_of_call calls (Polls c.args.mask c.args.requested c.args.turns)))) c.stop.new.self c.stop.result =
    subst (λ (l : LogState). LogIsStopped c.in-Err.end l c.stop.new.self c.stop.result) (c.issue.ensures.answer.so ∙ ap (λ (n : ℕ). log_with_entry old.log (record { unit = n; part = Ends })) unit_is) c.stop.ensures.answer in
    let left_off = poll_steps g.F.Flights.planner _ _ old.log old.managed calls ask c.args.mask c.args.requested c.args.turns c.args.config.idle c.args.config.retry m0 h _ c.polls_by_matches-zero.ensures.zero
    (LeftActionOff (Polls c.args.mask c.args.requested c.args.turns) c.in-Err.end) c.in-Err.ensures.left in
    stops_left g.F.Flights.planner _ _ _ _ _ old.log (entry_of_call calls (Polls c.args.mask c.args.requested c.args.turns)) [] m0 c.in-Err.end c.stop.result c.stop.new.self answered h.issued left_off
    (λ m. poll_light c.args.turns c.args.mask c.args.requested _ c.requires.sound.1) few c.in-Err.ensures.none stopped left

pub returns-in-Ok-clause-spare : goal.returns-in-Ok-clause-spare
returns-in-Ok-clause-spare g c = λ m0 calls ask paid h s.
    let old = c.args.self.now in
    let is : c.confirm.new.self ≡ log_done old.log (record { unit = length old.log.calls; part = Ends }) old.log.came (result_for (slice_get old.log.calls old.log.came) (matched_word c.in-Ok.found.matched)) = search rules in
    let grown : length (old.log.entries ++ record { unit = length old.log.calls; part = Ends } ∷ []) ≡ length old.log.entries + 1 = length-append old.log.entries (record { unit = length old.log.calls; part = Ends } ∷ []) in
    let sent = poll_steps g.F.Flights.planner _ _ old.log old.managed calls ask c.args.mask c.args.requested c.args.turns c.args.config.idle c.args.config.retry m0 h _ c.polls_by_matches-zero.ensures.zero (SendsFew (c.in-Ok.found.points - 1)) c.in-Ok.ensures.packets in
    has_cost g.F.Flights.planner _ _ _ _ _ _ old.log c.confirm.new.self [] _ paid c.in-Ok.found.points m0 h.issued s c.in-Ok.ensures.some sent (ap (λ (l : LogState). l.calls) is)
    (let k = ap (λ (l : LogState). l.confirmed) is in let w = old.sound.confirmed_within in omega (arith, k, w, grown)) c.make_poll.ensures.keeps.same_limits c.make_poll.ensures.keeps.goes.limits
