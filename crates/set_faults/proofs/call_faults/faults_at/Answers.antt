use Rattle.std.proofs.Common.{sym, get_or}
use Rattle.sequence_trees.specs.SetView.{set_trees}
use Rattle.set_faults.proofs.PhaseLemmas.{no_call, one_item, faults_more, faults_all}
use Rattle.set_faults.proofs.call_faults.faults_at.Goals as goal

pub fault_at-requires-clause-call : goal.fault_at-requires-clause-call
fault_at-requires-clause-call c =
    let found = c.args.found.now in
    let i = c.loop-call.call-index in
    let at = get_or found i no_call in
    c.requires.are at (i, c.loop-call-test.true, one_item found i at c.loop-call-test.true)

pub loop-call-preserved : goal.loop-call-preserved
loop-call-preserved c =
    let found = c.args.found.now in
    let i = c.loop-call.call-index in
    let at = get_or found i no_call in
    faults_more (set_trees c.args.set.now) c.args.kind found i at c.in_ok-fault_at.field-0 c.loop-call.faults c.push.new.self c.loop-call-test.true (sym (one_item found i at c.loop-call-test.true)) c.in_ok-fault_at.ensures
    c.in_ok-push.ensures.ok c.loop-call.invariant

pub returns : goal.returns
returns c = faults_all (set_trees c.args.set.now) c.args.kind c.args.found.now c.loop-call.call-index c.loop-call.faults c.loop-call-test.false c.loop-call.invariant
