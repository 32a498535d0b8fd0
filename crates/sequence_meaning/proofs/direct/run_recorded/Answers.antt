use Rattle.std.proofs.Common.{List, [], None, false, ap, subst, ◌∙◌}
use Rattle.target_calls.specs.World.{start_world}
use Rattle.expr_grammar.specs.Tree.{code_trees}
use Rattle.expr_grammar.specs.declared.code.Stmt.{Stmt}
use Rattle.seq_check.specs.Answers.{checked_trees}
use Rattle.target_machine.specs.declared.unit.Variable.{Variable}
use Rattle.sequence_rules.proofs.Made.{are_made}
use Rattle.sequence_rules.specs.Direct.{direct}
use Rattle.sequence_rules.specs.Runs.{meaning, program_of, variables_of}
use Rattle.sequence_rules.specs.Steps as m
use Rattle.sequence_rules.specs.Variables.{with_all_new}
use Rattle.sequence_rules.specs.Known.{known_part}
use Rattle.sequence_rules.proofs.StartLemmas.{start_is}
use Rattle.sequence_meaning.specs.Held.{MeansDirect, state_seen}
use Rattle.sequence_meaning.proofs.PartLemmas.{no_part, no_run_leaves, start_made}
use Rattle.sequence_meaning.proofs.direct.run_recorded.Goals as goal

pub returns-clause-answer : goal.returns-clause-answer
returns-clause-answer g c = λ known knows.
    let w = known_part known (g.K.Sink.written c.args.sink.now) in
    let w2 = known_part known (g.K.Sink.written c.run_all-ended.new.sink) in
    let set = checked_trees c.args.checked.now in
    let code = ap (λ (l : List Stmt). code_trees l) c.as_slice-2.ensures ∙ c.debugvars.ensures in
    let values = c.in_ok-globals.ensures ∙ ap (λ (l : List Variable). variables_of l) c.as_slice.ensures in
    let all = c.in_ok-add_declared.ensures ∙ ap (λ bs. with_all_new bs (m.declared_names (code_trees c.as_slice-2.result.now)) 0) values ∙ ap (λ k. with_all_new (variables_of c.args.settings.now.start) (m.declared_names k) 0) code in
    let same = c.new-held.ensures c.args.target.now w ∙ start_is c.args.settings.now.turn_us set (variables_of c.args.settings.now.start) _ c.args.target.now w all in
    let gives = subst (λ s. MeansDirect c.run_all-ended.new.held.end c.run_all-ended.result (state_seen known c.run_all-ended.new.held c.run_all-ended.new.target (g.K.Sink.written c.run_all-ended.new.sink)) (m.run_of (direct false) c.args.settings.now.turn_us set c.args.start.now s)) same
    (c.run_all-ended.ensures.gives known knows) in
    let p = program_of (checked_trees c.args.checked.now) c.args.start.now c.args.settings.now in
    let law = are_made (start_world c.args.target.now None) p w in
    c.record_run.ensures.answer c.run_all-ended.new.target w2 (meaning (start_world c.args.target.now None) p w) gives law.units

pub returns-clause-part : goal.returns-clause-part
returns-clause-part g c = λ known knows.
    let w = known_part known (g.K.Sink.written c.args.sink.now) in
    let w2 = known_part known (g.K.Sink.written c.run_all-ended.new.sink) in
    let set = checked_trees c.args.checked.now in
    let code = ap (λ (l : List Stmt). code_trees l) c.as_slice-2.ensures ∙ c.debugvars.ensures in
    let values = c.in_ok-globals.ensures ∙ ap (λ (l : List Variable). variables_of l) c.as_slice.ensures in
    let all = c.in_ok-add_declared.ensures ∙ ap (λ bs. with_all_new bs (m.declared_names (code_trees c.as_slice-2.result.now)) 0) values ∙ ap (λ k. with_all_new (variables_of c.args.settings.now.start) (m.declared_names k) 0) code in
    let same = c.new-held.ensures c.args.target.now w ∙ start_is c.args.settings.now.turn_us set (variables_of c.args.settings.now.start) _ c.args.target.now w all in
    let gives = subst (λ s. MeansDirect c.run_all-ended.new.held.end c.run_all-ended.result (state_seen known c.run_all-ended.new.held c.run_all-ended.new.target (g.K.Sink.written c.run_all-ended.new.sink)) (m.run_of (direct false) c.args.settings.now.turn_us set c.args.start.now s)) same
    (c.run_all-ended.ensures.gives known knows) in
    let p = program_of (checked_trees c.args.checked.now) c.args.start.now c.args.settings.now in
    let law = are_made (start_world c.args.target.now None) p w in
    let made = c.run_all-ended.ensures.keeps.made.on (start_world c.args.target.now None) (start_made c.new-held.result c.args.target.now w _ (c.new-held.ensures c.args.target.now w)) in
    c.record_run.ensures.part c.args.target.now c.run_all-ended.new.target w2 (meaning (start_world c.args.target.now None) p w) gives law.made made

pub returns-in_err-globals-clause-part : goal.returns-in_err-globals-clause-part
returns-in_err-globals-clause-part g c = λ known knows.
    no_run_leaves c.args.target.now _ _ _ _ c.from_residual.ensures.0 ([], no_part (program_of (checked_trees c.args.checked.now) c.args.start.now c.args.settings.now) c.args.target.now (known_part known (g.K.Sink.written c.args.sink.now)))

pub returns-in_err-add_declared-clause-part : goal.returns-in_err-add_declared-clause-part
returns-in_err-add_declared-clause-part g c = λ known knows.
    no_run_leaves c.args.target.now _ _ _ _ c.from_residual-in_err-add_declared.ensures.0 ([], no_part (program_of (checked_trees c.args.checked.now) c.args.start.now c.args.settings.now) c.args.target.now (known_part known (g.K.Sink.written c.args.sink.now)))
