use Rattle.access_calls.specs.Reported.{world_from}
use Rattle.access_calls.proofs.KeepLemmas.{keeps_on}
use Rattle.seq_check.specs.Answers.{checked_trees}
use Rattle.function_calls.proofs.FrameLemmas.{ends_after, ends_passed}
use Rattle.function_calls.proofs.Leaves.{passed}
use Rattle.control_flow.proofs.DebugLemmas.{debug_next, debug_end, debug_over}
use Rattle.control_flow.proofs.runner.Runner.define_all.Goals as goal

pub loop-one-preserved : goal.loop-one-preserved
loop-one-preserved g c =
    let i = c.loop-one.invariant in
    let e = c.in_ok-define_one.ensures in
    record {
      same = λ m answered known b l knows. debug_next g.A.Access.cost (world_from m answered) c.args.self.now.turn_us (checked_trees c.args.self.now.set.now) _ c.args.code.now c.loop-one.one-index _ c.one-item.result _ _
          (i.same m answered known b (e.keeps.goes.left answered l) knows) c.loop-one-test.true c.one-item.is (e.gives m answered known (i.keeps.on m b) l (i.ends.knows known knows));
      keeps = keeps_on _ _ _ _ _ _ i.keeps e.keeps;
      ends = ends_after i.ends e.ends;
    }

pub returns-in_err-define_one : goal.returns-in_err-define_one
returns-in_err-define_one g c =
    let i = c.loop-one.invariant in
    let e = c.in_err-define_one.ensures in
    record {
      gives = λ m answered known b l knows.
          passed _ _ _ _ _ c.from_residual.result c.from_residual.ensures.1
          (debug_end g.A.Access.cost (world_from m answered) c.args.self.now.turn_us (checked_trees c.args.self.now.set.now) _ _ c.args.code.now c.loop-one.one-index _ c.one-item.result _ _ c.in_err-define_one.field-0.0
          (i.same m answered known b (e.keeps.goes.left answered l) knows) c.loop-one-test.true c.one-item.is (e.gives m answered known (i.keeps.on m b) l (i.ends.knows known knows)));
      keeps = keeps_on _ _ _ _ _ _ i.keeps e.keeps;
      ends = ends_passed _ c.from_residual.result c.from_residual.ensures.1 (ends_after i.ends e.ends);
    }

pub returns : goal.returns
returns g c = record {
  gives = λ m answered known b l knows.
      debug_over g.A.Access.cost (world_from m answered) c.args.self.now.turn_us (checked_trees c.args.self.now.set.now) _ c.args.code.now c.loop-one.one-index _ (c.loop-one.invariant.same m answered known b l knows) c.loop-one-test.false;
  keeps = c.loop-one.invariant.keeps;
  ends = c.loop-one.invariant.ends;
}
