use Rattle.std.proofs.Common.{◌∙◌, ◌+◌, ◌≤◌, sym, ap, drop, length, arith}
use Rattle.std.proofs.lemmas.List.{length-map}
use Rattle.sequence_trees.specs.SetView.{set_trees}
use Rattle.seq_check.specs.SetFaults.{names_of}
use Rattle.seq_check.proofs.SetLemmas.{added, added-distinct, drop-at, drop-past}
use Rattle.seq_check.proofs.sequences.sequence_names.Goals as goal

pub loop-index-preserved : goal.loop-index-preserved
loop-index-preserved c =
    let all = names_of (set_trees c.args.set.now) in
    let i = c.loop-index.index in
    ap (λ ns. added ns (drop (i + 1) all)) c.in_ok-add.ensures.ok ∙ ap (added c.loop-index.names) (sym (drop-at all i c.name_of.result.now c.name_of.ensures)) ∙ c.loop-index.invariant

pub returns : goal.returns
returns c =
    let set = set_trees c.args.set.now in
    let all = names_of set in
    let past : length all ≤ c.loop-index.index = omega (arith, length-map set.sequences (λ s. s.name), c.len-index-end.ensures, c.loop-index-test.false) in
    ap (added c.loop-index.names) (sym (drop-past all c.loop-index.index past)) ∙ c.loop-index.invariant ∙ added-distinct all c.requires
