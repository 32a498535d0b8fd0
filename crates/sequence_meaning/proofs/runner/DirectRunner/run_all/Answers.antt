use Rattle.std.proofs.Common.{List, false, sym, ap, subst, ◌∙◌}
use Rattle.expr_grammar.specs.Tree.{code_trees}
use Rattle.expr_grammar.specs.declared.code.Stmt.{Stmt}
use Rattle.seq_check.specs.Answers.{checked_trees}
use Rattle.sequence_trees.specs.Trees.{steps_tree}
use Rattle.sequence_rules.specs.Direct.{direct}
use Rattle.sequence_rules.specs.Steps as m
use Rattle.sequence_meaning.specs.Held.{EndsDirect, state_seen}
use Rattle.sequence_meaning.proofs.DebugLemmas.{run_first, run_on}
use Rattle.sequence_meaning.proofs.FrameLemmas.{caused_on, keeps_on, stopped_caused, stopped_means}
use Rattle.sequence_meaning.proofs.runner.DirectRunner.run_all.Goals as goal

pub returns : goal.returns
returns g c = record {
  gives = λ known knows.
      let code = ap (λ (l : List Stmt). code_trees l) c.as_slice.ensures ∙ c.debugvars.ensures in
      run_on c.args.self.now.turn_us (checked_trees c.args.self.now.set.now) c.args.start.now _ _ _ c.run_steps.new.held.end c.run_steps.result (steps_tree c.steps_of.result.now)
      (ap (λ k. m.debug_result (direct false) c.args.self.now.turn_us (checked_trees c.args.self.now.set.now) k (state_seen known c.args.held.now c.args.target.now (g.K.Sink.written c.args.sink.now))) (sym code) ∙ c.in_ok-define_all.ensures.gives known knows)
      c.steps_of.ensures (c.run_steps.ensures.gives known (c.in_ok-define_all.ensures.keeps.knows known knows));
  keeps = keeps_on c.define_all.ensures.keeps c.run_steps.ensures.keeps;
  cause = caused_on c.run_steps.new.held.end c.run_steps.result _ _ _ c.in_ok-define_all.ensures.cause c.run_steps.ensures.cause;
}

pub returns-in_err-define_all : goal.returns-in_err-define_all
returns-in_err-define_all g c = record {
  gives = λ known knows.
      let code = ap (λ (l : List Stmt). code_trees l) c.as_slice.ensures ∙ c.debugvars.ensures in
      let s = state_seen known c.args.held.now c.args.target.now (g.K.Sink.written c.args.sink.now) in
      let now = state_seen known c.define_all.new.held c.define_all.new.target (g.K.Sink.written c.define_all.new.sink) in
      stopped_means _ _ _ _ c.from_residual.ensures.0
      (run_first c.args.self.now.turn_us (checked_trees c.args.self.now.set.now) c.define_all.new.held.end c.args.start.now s now
      (subst (λ k. EndsDirect c.define_all.new.held.end now (m.debug_result (direct false) c.args.self.now.turn_us (checked_trees c.args.self.now.set.now) k s)) code (c.in_err-define_all.ensures.gives known knows)));
  keeps = c.define_all.ensures.keeps;
  cause = stopped_caused _ _ _ _ c.from_residual.ensures.0 c.in_err-define_all.ensures.cause;
}
