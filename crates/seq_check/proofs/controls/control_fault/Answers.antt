use Rattle.std.proofs.Common.{option_map}
use Rattle.expr_grammar.specs.Tree.{tree}
use Rattle.seq_check.proofs.ControlLemmas.{control_first}
use Rattle.seq_check.proofs.controls.control_fault.Goals as goal

pub returns : goal.returns
returns c =
    control_first c.args.around (option_map tree c.args.repeat.now) c.args.timeout c.nested_fault.result c.timeout_fault.result c.loop_fault.result c.or-bounds.result c.or.result
    c.or-bounds.ensures c.or.ensures c.nested_fault.ensures c.timeout_fault.ensures c.loop_fault.ensures
