use Rattle.std.proofs.Common.{◌≡◌, ◌∙◌, ◌++◌, false, ap, sym, length}
use Rattle.std.proofs.lemmas.List.{get_or_read_under}
use Rattle.sequence_trees.specs.SetView.{set_trees}
use Rattle.seq_check.specs.Calls.{set_calls}
use Rattle.set_warnings.specs.Sequences.{is_called, entry_warnings}
use Rattle.set_warnings.proofs.SetLemmas.{entries_more}
use Rattle.set_warnings.proofs.sequences.sequences_warnings.Goals as goal

pub loop-number-preserved : goal.loop-number-preserved
loop-number-preserved c =
    let trees = set_trees c.args.set.now in
    let xs = c.args.entries.now in
    let i = c.loop-number.number in
    let x = c.index-entries-number.result in
    let flag : c.index.result.now ≡ is_called (set_calls trees) i = get_or_read_under c.in_ok-called.called.items i (length xs) c.index.result.now false c.index.ensures c.loop-number-test.true (sym c.in_ok-called.ensures.len) ∙ c.in_ok-called.ensures.flag i c.loop-number-test.true in
    c.in_ok-add_entry.ensures ∙ ap (λ b. c.loop-number.found ++ entry_warnings trees b x) flag ∙ ap (λ ws. ws ++ entry_warnings trees (is_called (set_calls trees) i) x) c.loop-number.invariant
    ∙ sym (rw (← c.index-entries-number.is) at (entries_more trees xs i x c.loop-number-test.true))
