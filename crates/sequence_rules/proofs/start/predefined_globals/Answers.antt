use Rattle.std.proofs.Common.{ap, ◌∙◌}
use Rattle.sequence_rules.specs.Shared.{bindings_of}
use Rattle.sequence_rules.specs.Variables.{with_new}
use Rattle.sequence_rules.proofs.StartLemmas.{start_more}
use Rattle.sequence_rules.proofs.start.predefined_globals.Goals as goal

pub loop-variable-preserved : goal.loop-variable-preserved
loop-variable-preserved c =
    start_more c.args.start.now c.loop-variable.variable-index _ c.variable-item.result _ _ c.requires c.loop-variable-test.true c.variable-item.is c.loop-variable.invariant
    (c.in_ok-add.ensures.answer ∙ ap (λ n. with_new (bindings_of c.loop-variable.globals) n c.variable-item.result.value) c.as_str.ensures)
