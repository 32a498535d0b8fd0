use Rattle.std.proofs.Common.{◌∙◌, List, ap, sym, subst}
use Rattle.expr_grammar.specs.Tree.{StmtTree, code_trees}
use Rattle.expr_grammar.specs.declared.code.Stmt.{Stmt}
use Rattle.access_calls.specs.Reported.{world_from}
use Rattle.access_calls.proofs.KeepLemmas.{keeps_on}
use Rattle.seq_check.specs.Answers.{checked_trees}
use Rattle.sequence_trees.specs.Trees.{steps_tree}
use Rattle.sequence_rules.specs.Late.{late}
use Rattle.sequence_rules.specs.Steps.{debug_result}
use Rattle.function_calls.specs.Ends.{EndsLate}
use Rattle.function_calls.specs.Held.{late_state_seen}
use Rattle.function_calls.proofs.FrameLemmas.{ends_after, ends_passed}
use Rattle.function_calls.proofs.Leaves.{passed}
use Rattle.control_flow.proofs.DebugLemmas.{run_on, run_first}
use Rattle.control_flow.proofs.runner.Runner.run_all.Goals as goal

pub returns-in_err-define_all : goal.returns-in_err-define_all
returns-in_err-define_all g c = record {
  gives = λ m answered known b l knows.
      let w = (world_from m answered) in
      let set = checked_trees c.args.self.now.set.now in
      let code = ap (λ (l : List Stmt). code_trees l) c.as_slice.ensures ∙ c.debugvars.ensures in
      let s = late_state_seen known c.args.held.now (g.A.Access.reported c.args.access.now).asks (g.K.Sink.written c.args.sink.now) in
      let now = late_state_seen known c.define_all.new.held (g.A.Access.reported c.define_all.new.access).asks (g.K.Sink.written c.define_all.new.sink) in
      passed _ _ _ _ _ c.from_residual.result c.from_residual.ensures.1
      (run_first g.A.Access.cost w c.args.self.now.turn_us set (g.A.Access.reported c.define_all.new.access) c.args.start.now s now c.in_err-define_all.field-0.0
      (subst (λ (k : List StmtTree). EndsLate w (g.A.Access.reported c.define_all.new.access) c.in_err-define_all.field-0.0 now (debug_result (late g.A.Access.cost w) c.args.self.now.turn_us set k s)) code (c.in_err-define_all.ensures.gives m answered known b l knows)));
  keeps = c.define_all.ensures.keeps;
  ends = ends_passed _ c.from_residual.result c.from_residual.ensures.1 c.in_err-define_all.ensures.ends;
}

pub returns : goal.returns
returns g c = record {
  gives = λ m answered known b l knows.
      let w = (world_from m answered) in
      let set = checked_trees c.args.self.now.set.now in
      let code = ap (λ (l : List Stmt). code_trees l) c.as_slice.ensures ∙ c.debugvars.ensures in
      let s = late_state_seen known c.args.held.now (g.A.Access.reported c.args.access.now).asks (g.K.Sink.written c.args.sink.now) in
      run_on g.A.Access.cost w c.args.self.now.turn_us set _ c.args.start.now s _ _ c.run_steps.result (steps_tree c.steps_of.result.now)
      (ap (λ (k : List StmtTree). debug_result (late g.A.Access.cost w) c.args.self.now.turn_us set k s) (sym code) ∙ c.in_ok-define_all.ensures.gives m answered known b (c.run_steps.ensures.keeps.goes.left answered l) knows)
      c.steps_of.ensures (c.run_steps.ensures.gives m answered known (c.in_ok-define_all.ensures.keeps.on m b) l (c.in_ok-define_all.ensures.ends.knows known knows));
  keeps = keeps_on _ _ _ _ _ _ c.define_all.ensures.keeps c.run_steps.ensures.keeps;
  ends = ends_after c.in_ok-define_all.ensures.ends c.run_steps.ensures.ends;
}
