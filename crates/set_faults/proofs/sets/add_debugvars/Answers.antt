use Rattle.std.proofs.Common.{true, None, [], refl}
use Rattle.std.proofs.lemmas.Result.{on_ok_weaker}
use Rattle.sequence_trees.specs.declared.spot.Part.TheVariants as parts
use Rattle.sequence_trees.specs.SetView.{set_trees}
use Rattle.code_check.specs.BlockFaults.{BlockFault}
use Rattle.seq_check.specs.declared.faulty.Holder.TheVariants as holders
use Rattle.seq_check.specs.StepFaults.{At}
use Rattle.set_faults.proofs.StepLemmas.{appends_part}
use Rattle.set_faults.proofs.SetLemmas.{appends_held}
use Rattle.set_faults.proofs.sets.add_debugvars.Goals as goal

pub returns-clause-list : goal.returns-clause-list
returns-clause-list c =
    let set = set_trees c.args.set.now in
    let P = BlockFault (record { visible = c.args.names.now; sequences = c.args.sequences.now; in_debugvars = true }) set.debugvars in
    on_ok_weaker c.add_part.result
    (λ e. appends_held set holders.Debugvars None (At parts.Debugvars P) c.args.found.now c.add_part.new.found refl
    (appends_part (record { sequence = None; path = [] }) parts.Debugvars P c.in_ok-faults.faults c.args.found.now c.add_part.new.found (rw (c.as_slice.ensures, c.debugvars.ensures) at c.in_ok-faults.ensures.list) (rw c.as_slice-2.ensures at e)))
    c.add_part.ensures
