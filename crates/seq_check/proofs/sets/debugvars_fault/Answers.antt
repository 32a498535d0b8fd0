use Rattle.std.proofs.Common.{sym, subst, Some, true}
use Rattle.expr_grammar.specs.Tree.{code_trees}
use Rattle.sequence_trees.specs.declared.spot.Part.TheVariants as parts
use Rattle.code_check.specs.First.{IsFirst}
use Rattle.code_check.specs.BlockFaults.{BlockFault}
use Rattle.seq_check.specs.declared.faulty.Holder.TheVariants as holders
use Rattle.seq_check.specs.StepFaults.{At}
use Rattle.seq_check.specs.SetFaults.{is_set_before, Of}
use Rattle.seq_check.specs.Views.{own_view}
use Rattle.seq_check.proofs.ControlLemmas.{first_in_part}
use Rattle.seq_check.proofs.SetLemmas.{held, first_held}
use Rattle.seq_check.proofs.sets.debugvars_fault.Goals as goal

pub returns-in-Some-clause-first : goal.returns-in-Some-clause-first
returns-in-Some-clause-first c =
    let P = BlockFault (record { visible = c.args.names.now; sequences = c.args.sequences.now; in_debugvars = true }) (code_trees c.args.code.now) in
    let h = first_in_part parts.Debugvars P c.in_ok-fault.fault c.in_part.result c.in_part.ensures c.in_ok-fault.ensures.first in
    subst (λ v. IsFirst is_set_before (Of holders.Debugvars (At parts.Debugvars P)) (Some (held holders.Debugvars v))) (sym c.at_own_step.ensures) (first_held holders.Debugvars (At parts.Debugvars P) (Some (own_view c.in-Some.fault)) (rw c.in-Some.is at h))
