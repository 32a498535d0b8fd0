use Rattle.std.proofs.Common.{◌≡◌, ◌∙◌, List, [], false, Ok, Err, ap, subst}
use Rattle.expr_grammar.specs.Tree.{StmtTree, code_trees}
use Rattle.expr_grammar.specs.declared.code.Stmt.{Stmt}
use Rattle.run_events.specs.OfRuns as r
use Rattle.run_events.specs.OfSteps as os
use Rattle.seq_check.specs.Answers.{checked_trees}
use Rattle.sequence_trees.specs.Trees.{steps_tree}
use Rattle.sequence_rules.specs.Direct.{direct}
use Rattle.sequence_rules.specs.Steps as m
use Rattle.logged_calls.specs.Held.{CodeEndsAs, Unless}
use Rattle.logged_runs.specs.Seen.{NotesByTurns}
use Rattle.logged_runs.specs.Walk.{calls_in_walk, events_in_walk, now, seen_so_far, step_on_path}
use Rattle.logged_runs.proofs.NoteLemmas.{means_stopped, part_stops, unless_as, unless_ended, value_then}
use Rattle.logged_runs.proofs.RunLemmas.{run_first, run_on, run_seen}
use Rattle.logged_runs.proofs.runner.LoggedRunner.run_all.Goals as goal

pub returns-clause-gives : goal.returns-clause-gives
returns-clause-gives c =
    let code = ap (λ (l : List Stmt). code_trees l) c.as_slice.ensures ∙ c.debugvars.ensures in
    run_on c.args.self.now c.args.start.now _ _ _ c.run_steps.new.walked.held.end c.run_steps.result (steps_tree c.steps_of.result.now)
    (subst (λ (k : List StmtTree). m.debug_result (direct false) c.args.self.now.turn_us (checked_trees c.args.self.now.set.now) k (now c.args.walked.now c.args.target.now) ≡ Ok (tt, (now c.define_all.new.walked c.define_all.new.target))) code c.in_ok-define_all.ensures.gives) c.steps_of.ensures c.run_steps.ensures.gives

pub returns-in_err-define_all-clause-gives : goal.returns-in_err-define_all-clause-gives
returns-in_err-define_all-clause-gives c =
    means_stopped c.define_all.new.walked.held.end _ _ _ c.from_residual.ensures.0 (let code = ap (λ (l : List Stmt). code_trees l) c.as_slice.ensures ∙ c.debugvars.ensures in
    run_first c.args.self.now c.define_all.new.walked.held.end c.args.start.now (now c.args.walked.now c.args.target.now) (now c.define_all.new.walked c.define_all.new.target) (subst (λ (k : List StmtTree). CodeEndsAs c.define_all.new.walked.held.end (now c.define_all.new.walked c.define_all.new.target) (m.debug_result (direct false) c.args.self.now.turn_us (checked_trees c.args.self.now.set.now) k (now c.args.walked.now c.args.target.now))) code c.in_err-define_all.ensures.gives))

pub returns-clause-noted : goal.returns-clause-noted
returns-clause-noted c =
    let code = ap (λ (l : List Stmt). code_trees l) c.as_slice.ensures ∙ c.debugvars.ensures in
    unless_as c.args.self.now.turns _ _ _ _ c.run_steps.new.walked.held.end c.run_steps.result (λ shows. run_seen c.args.self.now shows c.args.start.now (now c.args.walked.now c.args.target.now) (steps_tree c.steps_of.result.now) c.steps_of.ensures)
    (value_then {A = Unit {0}} {B = Unit {0}} c.args.self.now.turns (seen_so_far c.args.walked.now) (seen_so_far c.define_all.new.walked) (seen_so_far c.run_steps.new.walked) (λ shows. r.debugged_events shows c.args.self.now.turn_us (checked_trees c.args.self.now.set.now) (checked_trees c.args.self.now.set.now).debugvars (now c.args.walked.now c.args.target.now)) (λ done q shows. os.steps_events shows c.args.self.now.turn_us (calls_in_walk c.args.self.now 31) (events_in_walk shows c.args.self.now 31) (step_on_path c.args.start.now []) 0 (steps_tree c.steps_of.result.now) q) c.run_steps.new.walked.held.end c.run_steps.result (m.debug_result (direct false) c.args.self.now.turn_us (checked_trees c.args.self.now.set.now) (checked_trees c.args.self.now.set.now).debugvars (now c.args.walked.now c.args.target.now)) tt (now c.define_all.new.walked c.define_all.new.target)
    (subst (λ (k : List StmtTree). m.debug_result (direct false) c.args.self.now.turn_us (checked_trees c.args.self.now.set.now) k (now c.args.walked.now c.args.target.now) ≡ Ok (tt, (now c.define_all.new.walked c.define_all.new.target))) code c.in_ok-define_all.ensures.gives)
    (subst (λ (k : List StmtTree). NotesByTurns c.args.self.now.turns (seen_so_far c.args.walked.now) (seen_so_far c.define_all.new.walked) (λ shows. r.debugged_events shows c.args.self.now.turn_us (checked_trees c.args.self.now.set.now) k (now c.args.walked.now c.args.target.now))) code c.in_ok-define_all.ensures.noted)
    c.run_steps.ensures.noted)

pub returns-in_err-define_all-clause-noted : goal.returns-in_err-define_all-clause-noted
unfolding r.run_events
returns-in_err-define_all-clause-noted c =
    unless_ended _ c.define_all.new.walked.held.end c.in_err-define_all.field-0.0 _ c.from_residual.ensures.0
    (let code = ap (λ (l : List Stmt). code_trees l) c.as_slice.ensures ∙ c.debugvars.ensures in
    part_stops {A = Unit {0}} (Unit {0}) c.args.self.now.turns (seen_so_far c.args.walked.now) (seen_so_far c.define_all.new.walked) (λ shows. r.debugged_events shows c.args.self.now.turn_us (checked_trees c.args.self.now.set.now) (checked_trees c.args.self.now.set.now).debugvars (now c.args.walked.now c.args.target.now)) _ c.define_all.new.walked.held.end c.in_err-define_all.field-0.0 c.in_err-define_all.field-0.0 (m.debug_result (direct false) c.args.self.now.turn_us (checked_trees c.args.self.now.set.now) (checked_trees c.args.self.now.set.now).debugvars (now c.args.walked.now c.args.target.now)) (now c.define_all.new.walked c.define_all.new.target)
    (subst (λ (k : List StmtTree). CodeEndsAs c.define_all.new.walked.held.end (now c.define_all.new.walked c.define_all.new.target) (m.debug_result (direct false) c.args.self.now.turn_us (checked_trees c.args.self.now.set.now) k (now c.args.walked.now c.args.target.now))) code c.in_err-define_all.ensures.gives)
    (subst (λ (k : List StmtTree). Unless {A = Unit {0}} c.define_all.new.walked.held.end (Err c.in_err-define_all.field-0.0) (NotesByTurns c.args.self.now.turns (seen_so_far c.args.walked.now) (seen_so_far c.define_all.new.walked) (λ shows. r.debugged_events shows c.args.self.now.turn_us (checked_trees c.args.self.now.set.now) k (now c.args.walked.now c.args.target.now)))) code c.in_err-define_all.ensures.noted))
