use Rattle.sequence_rules.proofs.start.add_declared.Goals as goal
use Rattle.sequence_rules.proofs.StartLemmas.{declared_over, declared_more}

pub loop-one-preserved : goal.loop-one-preserved
loop-one-preserved g c = declared_more g.V.VariableValue.zero c.args.code.now c.loop-one.one-index _ c.one-item.result _ _ _ c.loop-one-test.true c.one-item.is c.loop-one.invariant c.in_ok-add_one.ensures

pub returns : goal.returns
returns g c = declared_over g.V.VariableValue.zero c.args.code.now c.loop-one.one-index _ _ c.loop-one-test.false c.loop-one.invariant
