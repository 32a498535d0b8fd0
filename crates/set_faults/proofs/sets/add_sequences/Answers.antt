use Rattle.std.proofs.Common.{◌≡◌, ◌∙◌, ◌≤◌, Some, map, take, length, false, sym, subst, arith}
use Rattle.std.proofs.lemmas.List.{take_all, length-map}
use Rattle.sequence_trees.specs.Trees.{steps_tree}
use Rattle.sequence_trees.specs.SetView.{set_trees}
use Rattle.code_check.specs.ExprFaults.{Scope}
use Rattle.seq_check.specs.declared.faulty.Holder.TheVariants as holders
use Rattle.seq_check.specs.StepFaults.{FaultInSteps}
use Rattle.seq_check.specs.SetFaults.{is_set_before, FaultInSequences}
use Rattle.set_faults.specs.Sites.{Appends}
use Rattle.set_faults.specs.Rules.{fault_of}
use Rattle.set_faults.proofs.SetLemmas.{appends_held, sequences_more}
use Rattle.set_faults.proofs.sets.add_sequences.Goals as goal

pub loop-index-preserved : goal.loop-index-preserved
loop-index-preserved c =
    let s : Scope = record { visible = c.args.names.now; sequences = c.args.sequences.now; in_debugvars = false } in
    let set = set_trees c.args.set.now in
    let all = map (λ s. s.steps) set.sequences in
    let i = c.loop-index.index in
    let steps = steps_tree c.steps_of-steps.result.now in
    let inv = c.loop-index.invariant in record {
      list = sequences_more set s all i steps c.args.found.now c.loop-index.found c.add_inner.new.found c.steps_of-steps.ensures inv.list
          (appends_held set (holders.Sequence i) (Some c.name_of.result.now) (FaultInSteps s 0 0 steps) c.loop-index.found c.add_inner.new.found (sym c.name_of.ensures) (rw (c.as_slice.ensures, inv.names) at c.in_ok-add_inner.ensures.list));
      names = c.in_ok-add_inner.ensures.names ∙ inv.names;
    }

pub returns : goal.returns
returns c =
    let s : Scope = record { visible = c.args.names.now; sequences = c.args.sequences.now; in_debugvars = false } in
    let set = set_trees c.args.set.now in
    let all = map (λ s. s.steps) set.sequences in
    let past : length all ≤ c.loop-index.index = omega (arith, length-map set.sequences (λ s. s.steps), c.len-index-end.ensures, c.loop-index-test.false) in
    let whole : take c.loop-index.index all ≡ all = take_all c.loop-index.index all past in
    subst (λ steps. Appends is_set_before (fault_of set) (FaultInSequences s 0 steps) c.args.found.now c.loop-index.found) whole c.loop-index.invariant.list
