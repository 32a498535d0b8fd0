use Rattle.std.proofs.Common.{rules, ◌≡◌, ◌∙◌, ℕ, ◌+◌, ◌*◌, ◌^◌, ◌<◌, ◌≤◌, List, [], ◌∷◌, ◌++◌, length, refl, ap, subst, arith, length-append}
use Rattle.std.specs.Prelude.{slice_get}
use Rattle.target_machine.specs.Plain.{Commands}
use Rattle.target_calls.specs.Asks.{probe_ask}
use Rattle.target_calls.specs.declared.calls.Ask.{Ask}
use Rattle.target_calls.specs.declared.journal.Part.TheVariants.{Ends}
use Rattle.packed_access.specs.Actions.{entry_of_call, log_done}
use Rattle.access_calls.specs.Issued.{kept_of}
use Rattle.packed_access.specs.Logs.{LogIsStopped, LogState, log_with_entry, result_for}
use Rattle.packed_access.proofs.ActionLemmas.{action_has_come, where_flies}
use Rattle.packed_access.proofs.CommandLemmas.{command_light, command_log, command_not_small}
use Rattle.packed_access.proofs.LeftLemmas.{has_left, stops_left}
use Rattle.packed_access.proofs.SparingLemmas.{has_commanded}
use Rattle.packed_access.proofs.sender.Sender.make_last.Goals as goal

pub returns-in-Ok-clause-on : goal.returns-in-Ok-clause-on
returns-in-Ok-clause-on g c = λ m0 calls are h.
    let old = c.args.self.now in
    let few : length old.log.entries < 2 ^ 32 = (let s = old.sound in let b = s.bounded in let f = s.few in omega (arith, b, f)) in
    let came : old.log.came ≡ length calls = (let l = c.requires.may.last in let k = ap length are ∙ length-append calls (probe_ask c.args.call ∷ []) in omega (arith, l, k)) in
    let is : c.confirm.new.self ≡ log_done old.log (record { unit = length old.log.calls; part = Ends }) old.log.came (result_for (slice_get old.log.calls old.log.came) c.in-Ok.word) = search rules in
    action_has_come g.F.Flights.planner _ _ old.log c.confirm.new.self calls (probe_ask c.args.call) (Commands c.args.call) c.in-Ok.word m0 h (where_flies _ _ c.args.call _ c.in-Ok.ensures.done) are came refl refl refl
    (command_not_small _ calls c.args.call) (λ m. command_light c.args.call c.requires.may.sound) old.sound.results_long few (command_log old.log c.confirm.new.self calls c.args.call c.in-Ok.word are came is)

pub returns-in-Err-clause-broke : goal.returns-in-Err-clause-broke
returns-in-Err-clause-broke g c = λ m0 calls are h.
    let old = c.args.self.now in
    let few : length old.log.entries < 2 ^ 32 = (let s = old.sound in let b = s.bounded in let f = s.few in omega (arith, b, f)) in
    let unit_is : c.count-unit.result ≡ length calls + 1 = c.count-unit.ensures ∙ ap length are ∙ length-append calls (probe_ask c.args.call ∷ []) in
    let stopped : LogIsStopped c.in-Err.end (log_with_entry old.log (kept_of (entry_of_call calls (Commands c.args.call)))) c.stop.new.self c.stop.result =
    subst (λ (l : LogState). LogIsStopped c.in-Err.end l c.stop.new.self c.stop.result) (c.issue.ensures.answer.so ∙ ap (λ (n : ℕ). log_with_entry old.log (record { unit = n; part = Ends })) unit_is) c.stop.ensures.answer in
    has_left g.F.Flights.planner _ _ _ _ _ old.log (entry_of_call calls (Commands c.args.call)) [] m0 c.in-Err.end c.stop.result c.stop.new.self h (where_flies _ _ c.args.call _ c.in-Err.ensures.left) (λ m. command_light c.args.call c.requires.may.sound) few c.in-Err.ensures.none stopped

pub returns-in-Err-clause-stops : goal.returns-in-Err-clause-stops
returns-in-Err-clause-stops g c = λ m0 calls answered are h left.
    let old = c.args.self.now in
    let few : length old.log.entries < 2 ^ 32 = (let s = old.sound in let b = s.bounded in let f = s.few in omega (arith, b, f)) in
    let unit_is : c.count-unit.result ≡ length calls + 1 = c.count-unit.ensures ∙ ap length are ∙ length-append calls (probe_ask c.args.call ∷ []) in
    let stopped : LogIsStopped c.in-Err.end (log_with_entry old.log (kept_of (entry_of_call calls (Commands c.args.call)))) c.stop.new.self c.stop.result =
    subst (λ (l : LogState). LogIsStopped c.in-Err.end l c.stop.new.self c.stop.result) (c.issue.ensures.answer.so ∙ ap (λ (n : ℕ). log_with_entry old.log (record { unit = n; part = Ends })) unit_is) c.stop.ensures.answer in
    stops_left g.F.Flights.planner _ _ _ _ _ old.log (entry_of_call calls (Commands c.args.call)) [] m0 c.in-Err.end c.stop.result c.stop.new.self answered h (where_flies _ _ c.args.call _ c.in-Err.ensures.left) (λ m. command_light c.args.call c.requires.may.sound) few c.in-Err.ensures.none stopped left

pub returns-in-Ok-clause-spare : goal.returns-in-Ok-clause-spare
returns-in-Ok-clause-spare g c = λ m0 calls points are h s.
    let old = c.args.self.now in
    let is : c.confirm.new.self ≡ log_done old.log (record { unit = length old.log.calls; part = Ends }) old.log.came (result_for (slice_get old.log.calls old.log.came) c.in-Ok.word) = search rules in
    let grown : length (old.log.entries ++ record { unit = length old.log.calls; part = Ends } ∷ []) ≡ length old.log.entries + 1 = length-append old.log.entries (record { unit = length old.log.calls; part = Ends } ∷ []) in
    has_commanded g.F.Flights.planner _ _ _ _ _ _ old.log c.confirm.new.self [] _ c.args.call points m0 h s c.in-Ok.ensures.packets (ap (λ (l : LogState). l.calls) is)
    (let k = ap (λ (l : LogState). l.confirmed) is in let w = old.sound.confirmed_within in omega (arith, k, w, grown)) c.command.ensures.keeps.same_limits c.command.ensures.keeps.goes.limits
