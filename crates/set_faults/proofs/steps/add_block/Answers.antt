use Rattle.std.proofs.Common.{false}
use Rattle.std.proofs.lemmas.Result.{on_ok_weaker}
use Rattle.expr_grammar.specs.Tree.{code_trees}
use Rattle.sequence_trees.specs.declared.spot.Part.TheVariants as parts
use Rattle.code_check.specs.BlockFaults.{BlockFault}
use Rattle.set_faults.specs.Sites.{site_step}
use Rattle.set_faults.proofs.StepLemmas.{appends_part}
use Rattle.set_faults.proofs.steps.add_block.Goals as goal

pub returns-clause-list : goal.returns-clause-list
returns-clause-list c =
    let P = BlockFault (record { visible = c.args.names.now; sequences = c.args.sequences.now; in_debugvars = false }) (code_trees c.args.code.now) in
    on_ok_weaker c.add_part.result
    (λ e. appends_part (site_step c.args.site) parts.Block P c.in_ok-faults.faults c.args.found.now c.add_part.new.found c.in_ok-faults.ensures.list (rw c.as_slice.ensures at e))
    c.add_part.ensures
