use Rattle.std.proofs.Common.{◌≡◌, ◌∙◌, [], ◌∷◌, ap, subst, sym}
use Rattle.expr_grammar.specs.declared.code.Name.{Name}
use Rattle.expr_grammar.specs.Tree as t
use Rattle.expr_grammar.specs.Tree.{StmtTree, stmt_tree, tree}
use Rattle.log_lines.specs.Places.{debug_spot}
use Rattle.run_events.specs.Events as e
use Rattle.run_events.specs.OfSteps.{statement_place}
use Rattle.logged_calls.specs.Held.{Means, Unless}
use Rattle.logged_runs.specs.Seen.{NotesByTurns}
use Rattle.logged_runs.specs.Walk.{debug_statement_in_walk, defined_events, definition_in_walk, now, one_events, seen_so_far}
use Rattle.logged_runs.proofs.NoteLemmas.{event_then}
use Rattle.logged_runs.proofs.WalkLemmas.{means_from}
use Rattle.logged_runs.proofs.runner.LoggedRunner.define_one.Goals as goal

pub returns-in_ok-begin_debug-in-Declare-clause-gives : goal.returns-in_ok-begin_debug-in-Declare-clause-gives
returns-in_ok-begin_debug-in-Declare-clause-gives c =
    let whole : stmt_tree c.args.one.now ≡ t.Declare c.deref.result.now (tree c.in-Declare.expr) = ap stmt_tree c.in-Declare.is ∙ ap (λ (x : Name). t.Declare x (tree c.in-Declare.expr)) (sym c.deref.ensures) in
    subst (λ (x : StmtTree). Means c.define.new.walked.held.end c.define.result (now c.define.new.walked c.define.new.target) (debug_statement_in_walk c.args.self.now x (now c.args.walked.now c.args.target.now))) (sym whole)
    (means_from (λ q. definition_in_walk c.args.self.now c.deref.result.now (tree c.in-Declare.expr) q) c.define.new.walked.held.end c.define.result _ (now c.args.walked.now c.args.target.now) (now c.begin_debug.new.self c.args.target.now) (c.in_ok-begin_debug-in-Declare.ensures.state _) c.define.ensures.gives)

pub returns-in_ok-begin_debug-in-Declare-clause-noted : goal.returns-in_ok-begin_debug-in-Declare-clause-noted
returns-in_ok-begin_debug-in-Declare-clause-noted c =
    let whole : stmt_tree c.args.one.now ≡ t.Declare c.deref.result.now (tree c.in-Declare.expr) = ap stmt_tree c.in-Declare.is ∙ ap (λ (x : Name). t.Declare x (tree c.in-Declare.expr)) (sym c.deref.ensures) in
    subst (λ (x : StmtTree). Unless c.define.new.walked.held.end c.define.result (NotesByTurns c.args.self.now.turns (seen_so_far c.args.walked.now) (seen_so_far c.define.new.walked) (λ shows. one_events shows c.args.self.now x (now c.args.walked.now c.args.target.now)))) (sym whole)
    (event_then c.args.self.now.turns _ _ _ _ (λ q shows. defined_events shows c.args.self.now c.deref.result.now (tree c.in-Declare.expr) q) c.define.new.walked.held.end c.define.result (now c.args.walked.now c.args.target.now) (now c.begin_debug.new.self c.args.target.now) (c.in_ok-begin_debug-in-Declare.ensures.state _)
    (subst (λ (x : StmtTree). NotesByTurns c.args.self.now.turns (seen_so_far c.args.walked.now) (seen_so_far c.begin_debug.new.self) (λ shows. e.Begins (debug_spot (statement_place x)) x ∷ [])) whole (c.in_ok-begin_debug-in-Declare.ensures.noted c.args.self.now.turns)) c.define.ensures.noted)
