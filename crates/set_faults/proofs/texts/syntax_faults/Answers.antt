use Rattle.std.proofs.Common.{◌≡◌, ◌++◌, ◌≤◌, [], take, length, subst}
use Rattle.std.proofs.lemmas.List.{take_all}
use Rattle.sequence_trees.specs.Order.{debugvars_texts, entries_texts}
use Rattle.set_faults.specs.Syntax.{AddsFaultsOf}
use Rattle.set_faults.proofs.TextLemmas.{added_debugvars, added_entry, all_added}
use Rattle.set_faults.proofs.texts.syntax_faults.Goals as goal

pub loop-entry-preserved : goal.loop-entry-preserved
loop-entry-preserved c =
    added_entry (debugvars_texts c.args.set.now.debugvars) c.args.set.now.entries c.loop-entry.entry-index c.entry-item.result [] c.loop-entry.found c.add_entry.new.found
    (rw c.as_slice-entry-items.ensures at c.loop-entry-test.true) (rw c.as_slice-entry-items.ensures at c.entry-item.is) c.loop-entry.invariant c.in_ok-add_entry.ensures

pub loop-entry-init : goal.loop-entry-init
loop-entry-init c = added_debugvars c.args.set.now.debugvars c.in_ok-place.place [] c.add_syntax.new.found c.in_ok-place.ensures (rw c.new-found.ensures at c.in_ok-add_syntax.ensures)

pub returns : goal.returns
returns c =
    let past : length c.args.set.now.entries ≤ c.loop-entry.entry-index = rw c.as_slice-entry-items.ensures at c.loop-entry-test.false in
    let all : take c.loop-entry.entry-index c.args.set.now.entries ≡ c.args.set.now.entries = take_all c.loop-entry.entry-index c.args.set.now.entries past in
    all_added (debugvars_texts c.args.set.now.debugvars ++ entries_texts c.args.set.now.entries) c.loop-entry.found
    (subst (λ es. AddsFaultsOf (debugvars_texts c.args.set.now.debugvars ++ entries_texts es) [] c.loop-entry.found) all c.loop-entry.invariant)
