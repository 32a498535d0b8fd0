use Rattle.std.proofs.Common.{◌≡◌, ◌<◌, ◌+◌, length, take, get_or, sym, subst}
use Rattle.std.proofs.lemmas.Result.{err_from_is_err_and}
use Rattle.sequence_trees.specs.Trees.{SetTrees, steps_tree, with_sequence}
use Rattle.sequence_trees.specs.Texts.{IsCodeOf}
use Rattle.sequence_trees.specs.Reading.{ReadsEntries}
use Rattle.sequence_trees.specs.SetView.{set_trees}
use Rattle.sequence_trees.proofs.SetLemmas.{reported, fault_first, fault_at, fresh, one_more}
use Rattle.sequence_trees.proofs.set_reader.set_of.Goals as goal

pub returns-in_err-debugvars : goal.returns-in_err-debugvars
returns-in_err-debugvars c =
    let p = err_from_is_err_and c.from_residual.result c.from_residual.ensures.1 in
    rw (p.1, p.2) (reported c.args.set.now c.in_err-debugvars.field-0.0 (fault_first c.args.set.now c.in_err-debugvars.field-0.0 c.in_err-debugvars.ensures))

pub returns-in_err-steps : goal.returns-in_err-steps
returns-in_err-steps c =
    let set = c.args.set.now in
    let i = c.loop-entry.entry-index in
    let e = c.entry-item.result in
    let fault = c.in_err-steps.field-0.0 in
    let lt : i < length set.entries = rw c.as_slice-entry-items.ensures at c.loop-entry-test.true in
    let at : e ≡ get_or set.entries i e = rw c.as_slice-entry-items.ensures at c.entry-item.is in
    let read = set_trees c.loop-entry.read in
    let p = err_from_is_err_and c.from_residual-in_err-steps.result c.from_residual-in_err-steps.ensures.1 in
    rw (p.1, p.2)
    (reported set fault (fault_at set read.debugvars i e read.sequences fault lt at c.loop-entry.invariant.debugvars c.loop-entry.invariant.sequences c.in_err-steps.ensures))

pub add_sequence-requires : goal.add_sequence-requires
add_sequence-requires c =
    let set = c.args.set.now in
    let i = c.loop-entry.entry-index in
    let e = c.entry-item.result in
    let lt : i < length set.entries = rw c.as_slice-entry-items.ensures at c.loop-entry-test.true in
    let at : e ≡ get_or set.entries i e = rw c.as_slice-entry-items.ensures at c.entry-item.is in
    fresh set.entries i e (set_trees c.loop-entry.read).sequences c.requires lt at c.loop-entry.invariant.sequences

pub loop-entry-preserved : goal.loop-entry-preserved
loop-entry-preserved c =
    let set = c.args.set.now in
    let i = c.loop-entry.entry-index in
    let e = c.entry-item.result in
    let lt : i < length set.entries = rw c.as_slice-entry-items.ensures at c.loop-entry-test.true in
    let at : e ≡ get_or set.entries i e = rw c.as_slice-entry-items.ensures at c.entry-item.is in
    let read = set_trees c.loop-entry.read in
    let steps = steps_tree c.in_ok-steps.steps in
    let grown : set_trees c.add_sequence.new.read ≡ with_sequence e.name steps read = c.in_ok-add_sequence.ensures in
    record {
      debugvars = subst (λ (t : SetTrees). IsCodeOf set.debugvars t.debugvars) (sym grown) c.loop-entry.invariant.debugvars;
      sequences = subst (λ (t : SetTrees). ReadsEntries (take (i + 1) set.entries) t.sequences) (sym grown)
          (one_more set.entries i e read.sequences steps lt at c.loop-entry.invariant.sequences c.in_ok-steps.ensures);
    }
