use Rattle.std.proofs.Common.{sym, rules}
use Rattle.sequence_rules.proofs.VariableLemmas.{newest_found, newest_absent}
use Rattle.sequence_rules.proofs.bindings.newest_in.Goals as goal

pub returns-then-same_name : goal.returns-then-same_name
returns-then-same_name g c =
    sym (newest_found c.args.bindings.now c.loop-index.index c.args.name.now _ c.index-bindings-index.result c.loop-index.invariant.within c.loop-index-test.true c.loop-index.invariant.none (Prim.search rules))

pub returns : goal.returns
returns g c = sym (newest_absent c.args.bindings.now c.loop-index.index c.args.name.now c.loop-index-test.false c.loop-index.invariant.none)
