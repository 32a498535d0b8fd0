use Rattle.std.proofs.Common.{ap, sym, ◌∙◌, rules}
use Rattle.sequence_rules.specs.Variables.{has_in, set_newest}
use Rattle.sequence_rules.proofs.VariableLemmas.{has_found, has_absent, set_newest_found, set_newest_absent}
use Rattle.sequence_rules.proofs.bindings.set_newest.Goals as goal

pub returns-then-same_name-clause-found : goal.returns-then-same_name-clause-found
returns-then-same_name-clause-found g c =
    sym (ap (λ bs. has_in bs c.args.name.now) (sym c.loop-index.invariant.same)
    ∙ has_found c.loop-index.bindings c.loop-index.index c.args.name.now c.index-bindings-index.result c.loop-index.invariant.within c.loop-index-test.true (Prim.search rules))

pub returns-then-same_name-clause-set : goal.returns-then-same_name-clause-set
returns-then-same_name-clause-set g c =
    set_newest_found c.loop-index.bindings c.loop-index.index c.args.name.now c.args.value _ c.index-bindings-index.result c.loop-index.invariant.within c.loop-index-test.true c.loop-index.invariant.none (Prim.search rules)
    ∙ ap (λ bs. set_newest bs c.args.name.now c.args.value) c.loop-index.invariant.same

pub returns-clause-found : goal.returns-clause-found
returns-clause-found g c =
    sym (ap (λ bs. has_in bs c.args.name.now) (sym c.loop-index.invariant.same)
    ∙ has_absent c.loop-index.bindings c.loop-index.index c.args.name.now c.loop-index-test.false c.loop-index.invariant.none)

pub returns-clause-set : goal.returns-clause-set
returns-clause-set g c =
    set_newest_absent c.loop-index.bindings c.loop-index.index c.args.name.now c.args.value c.loop-index-test.false c.loop-index.invariant.none
    ∙ ap (λ bs. set_newest bs c.args.name.now c.args.value) c.loop-index.invariant.same
