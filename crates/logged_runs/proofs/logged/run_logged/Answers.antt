use Rattle.std.proofs.Common.{◌∙◌, List, None, false, ap, subst}
use Rattle.expr_grammar.specs.Tree.{code_trees}
use Rattle.expr_grammar.specs.declared.code.Stmt.{Stmt}
use Rattle.run_events.specs.OfRuns as r
use Rattle.seq_check.specs.Answers.{checked_trees}
use Rattle.target_calls.specs.World.{start_world}
use Rattle.target_machine.specs.declared.unit.Variable.{Variable}
use Rattle.sequence_rules.proofs.Made.{are_made}
use Rattle.sequence_rules.specs.Direct.{direct}
use Rattle.sequence_rules.specs.Runs.{program_of, variables_of}
use Rattle.sequence_rules.specs.Steps as m
use Rattle.sequence_rules.specs.Variables.{with_all_new}
use Rattle.sequence_rules.proofs.StartLemmas.{start_is}
use Rattle.logged_calls.specs.Held.{Means, Unless}
use Rattle.logged_runs.specs.Seen.{NotesByTurns}
use Rattle.logged_runs.specs.Walk.{now, seen_so_far}
use Rattle.logged_runs.proofs.logged.run_logged.Goals as goal

pub returns-clause-answer : goal.returns-clause-answer
returns-clause-answer c =
    let set = checked_trees c.args.checked.now in
    let code = ap (λ (l : List Stmt). code_trees l) c.as_slice-2.ensures ∙ c.debugvars.ensures in
    let values = c.in_ok-globals.ensures ∙ ap (λ (l : List Variable). variables_of l) c.as_slice.ensures in
    let all = c.in_ok-add_declared.ensures ∙ ap (λ bs. with_all_new bs (m.declared_names (code_trees c.as_slice-2.result.now)) 0) values ∙ ap (λ k. with_all_new (variables_of c.args.settings.now.start) (m.declared_names k) 0) code in
    let same = c.new-walked.ensures.state c.args.target.now ∙ start_is c.args.settings.now.turn_us set (variables_of c.args.settings.now.start) _ c.args.target.now None all in
    let gives = subst (λ s. Means c.run_all-ended.new.walked.held.end c.run_all-ended.result (now c.run_all-ended.new.walked c.run_all-ended.new.target) (m.run_of (direct false) c.args.settings.now.turn_us set c.args.start.now s)) same c.run_all-ended.ensures.gives in
    let p = program_of (checked_trees c.args.checked.now) c.args.start.now c.args.settings.now in
    let law = are_made (start_world c.args.target.now None) p None in
    c.answer_run.ensures.answer p c.args.target.now c.run_all-ended.new.target gives law.units

pub returns-clause-seen : goal.returns-clause-seen
returns-clause-seen c =
    let set = checked_trees c.args.checked.now in
    let code = ap (λ (l : List Stmt). code_trees l) c.as_slice-2.ensures ∙ c.debugvars.ensures in
    let values = c.in_ok-globals.ensures ∙ ap (λ (l : List Variable). variables_of l) c.as_slice.ensures in
    let all = c.in_ok-add_declared.ensures ∙ ap (λ bs. with_all_new bs (m.declared_names (code_trees c.as_slice-2.result.now)) 0) values ∙ ap (λ k. with_all_new (variables_of c.args.settings.now.start) (m.declared_names k) 0) code in
    let same = c.new-walked.ensures.state c.args.target.now ∙ start_is c.args.settings.now.turn_us set (variables_of c.args.settings.now.start) _ c.args.target.now None all in
    let noted = subst (λ s. Unless c.run_all-ended.new.walked.held.end c.run_all-ended.result (NotesByTurns c.args.turns (seen_so_far c.new-walked.result) (seen_so_far c.run_all-ended.new.walked) (λ shows. r.run_events shows c.args.settings.now.turn_us set c.args.start.now s))) same c.run_all-ended.ensures.noted in
    let p = program_of (checked_trees c.args.checked.now) c.args.start.now c.args.settings.now in
    let start = c.new-walked.ensures in
    c.answer_run.ensures.seen c.args.turns p c.args.target.now (seen_so_far c.new-walked.result)
    (record { log = start.log; places = start.places; coverage = start.coverage; timed_out = start.timed_out; error_shown = start.error_shown }) noted
