use Rattle.std.proofs.Common.{◌≡◌, ◌+◌, drop, get_or, Ok, Err, subst}
use Rattle.expr_grammar.specs.declared.code.Stmt.{Stmt}
use Rattle.expr_grammar.specs.Tree.{code_trees, stmt_tree}
use Rattle.run_events.specs.OfRuns as r
use Rattle.seq_check.specs.Answers.{checked_trees}
use Rattle.logged_calls.specs.Held.{CodeEndsAs, Unless}
use Rattle.logged_runs.specs.Seen.{NotesByTurns}
use Rattle.logged_runs.specs.Walk.{debug_statement_in_walk, now, one_events, seen_so_far}
use Rattle.logged_runs.proofs.NoteLemmas.{means_stopped, more_noted, over_noted, stop_noted, unless_ended}
use Rattle.logged_runs.proofs.RunLemmas.{debug_fail, debug_head, debug_none, debug_on, debug_over}
use Rattle.logged_runs.proofs.runner.LoggedRunner.define_all.Goals as goal

pub loop-one-preserved : goal.loop-one-preserved
loop-one-preserved c = record {
  same = debug_on c.args.self.now _ c.args.code.now c.loop-one.one-index _ (now c.loop-one.walked c.loop-one.target) (now c.define_one.new.walked c.define_one.new.target) c.loop-one.invariant.same c.loop-one-test.true (subst (λ (a : Stmt). debug_statement_in_walk c.args.self.now (stmt_tree a) (now c.loop-one.walked c.loop-one.target) ≡ Ok (tt, (now c.define_one.new.walked c.define_one.new.target))) c.one-item.is c.in_ok-define_one.ensures.gives);
  noted = more_noted c.args.self.now.turns (seen_so_far c.args.walked.now) (seen_so_far c.loop-one.walked) (seen_so_far c.define_one.new.walked) (λ shows. one_events shows c.args.self.now (stmt_tree (get_or c.args.code.now c.loop-one.one-index _)) (now c.loop-one.walked c.loop-one.target)) _ _ (λ g q shows. r.debugged_events shows c.args.self.now.turn_us (checked_trees c.args.self.now.set.now) (code_trees (drop (c.loop-one.one-index + 1) c.args.code.now)) q) _ tt _ c.loop-one.invariant.noted (λ shows. debug_head c.args.self.now c.args.code.now c.loop-one.one-index _ (now c.loop-one.walked c.loop-one.target) c.loop-one-test.true shows) (subst (λ (a : Stmt). debug_statement_in_walk c.args.self.now (stmt_tree a) (now c.loop-one.walked c.loop-one.target) ≡ Ok (tt, (now c.define_one.new.walked c.define_one.new.target))) c.one-item.is c.in_ok-define_one.ensures.gives)
      (subst (λ (a : Stmt). NotesByTurns c.args.self.now.turns (seen_so_far c.loop-one.walked) (seen_so_far c.define_one.new.walked) (λ shows. one_events shows c.args.self.now (stmt_tree a) (now c.loop-one.walked c.loop-one.target))) c.one-item.is c.in_ok-define_one.ensures.noted);
}

pub returns-in_err-define_one-clause-gives : goal.returns-in_err-define_one-clause-gives
returns-in_err-define_one-clause-gives c = means_stopped c.define_one.new.walked.held.end _ _ _ c.from_residual.ensures.0 (debug_fail c.args.self.now _ c.args.code.now c.loop-one.one-index _ (now c.loop-one.walked c.loop-one.target) (now c.define_one.new.walked c.define_one.new.target) c.define_one.new.walked.held.end c.loop-one.invariant.same c.loop-one-test.true
    (subst (λ (a : Stmt). CodeEndsAs c.define_one.new.walked.held.end (now c.define_one.new.walked c.define_one.new.target) (debug_statement_in_walk c.args.self.now (stmt_tree a) (now c.loop-one.walked c.loop-one.target))) c.one-item.is c.in_err-define_one.ensures.gives))

pub returns-in_err-define_one-clause-noted : goal.returns-in_err-define_one-clause-noted
returns-in_err-define_one-clause-noted c =
    unless_ended _ c.define_one.new.walked.held.end c.in_err-define_one.field-0.0 _ c.from_residual.ensures.0
    (stop_noted {A = Unit {0}} (Unit {0}) c.args.self.now.turns (seen_so_far c.args.walked.now) (seen_so_far c.loop-one.walked) (seen_so_far c.define_one.new.walked) (λ shows. one_events shows c.args.self.now (stmt_tree (get_or c.args.code.now c.loop-one.one-index _)) (now c.loop-one.walked c.loop-one.target)) _ _ (λ g q shows. r.debugged_events shows c.args.self.now.turn_us (checked_trees c.args.self.now.set.now) (code_trees (drop (c.loop-one.one-index + 1) c.args.code.now)) q)
    c.define_one.new.walked.held.end c.in_err-define_one.field-0.0 c.in_err-define_one.field-0.0 (debug_statement_in_walk c.args.self.now (stmt_tree (get_or c.args.code.now c.loop-one.one-index _)) (now c.loop-one.walked c.loop-one.target)) (now c.define_one.new.walked c.define_one.new.target) c.loop-one.invariant.noted (λ shows. debug_head c.args.self.now c.args.code.now c.loop-one.one-index _ (now c.loop-one.walked c.loop-one.target) c.loop-one-test.true shows)
    (subst (λ (a : Stmt). CodeEndsAs c.define_one.new.walked.held.end (now c.define_one.new.walked c.define_one.new.target) (debug_statement_in_walk c.args.self.now (stmt_tree a) (now c.loop-one.walked c.loop-one.target))) c.one-item.is c.in_err-define_one.ensures.gives)
    (subst (λ (a : Stmt). Unless {A = Unit {0}} c.define_one.new.walked.held.end (Err c.in_err-define_one.field-0.0) (NotesByTurns c.args.self.now.turns (seen_so_far c.loop-one.walked) (seen_so_far c.define_one.new.walked) (λ shows. one_events shows c.args.self.now (stmt_tree a) (now c.loop-one.walked c.loop-one.target)))) c.one-item.is c.in_err-define_one.ensures.noted))

pub returns-clause-gives : goal.returns-clause-gives
returns-clause-gives c = debug_over c.args.self.now _ c.args.code.now c.loop-one.one-index (now c.loop-one.walked c.loop-one.target) c.loop-one.invariant.same c.loop-one-test.false

pub returns-clause-noted : goal.returns-clause-noted
returns-clause-noted c = over_noted c.args.self.now.turns (seen_so_far c.args.walked.now) _ _ _ c.loop-one.invariant.noted (λ shows. debug_none c.args.self.now c.args.code.now c.loop-one.one-index (now c.loop-one.walked c.loop-one.target) c.loop-one-test.false shows)
