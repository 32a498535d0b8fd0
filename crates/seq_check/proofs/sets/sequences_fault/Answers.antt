use Rattle.std.proofs.Common.{◌∙◌, ◌≤◌, map, length, false, arith}
use Rattle.std.proofs.lemmas.List.{length-map}
use Rattle.sequence_trees.specs.Trees.{steps_tree}
use Rattle.sequence_trees.specs.SetView.{set_trees}
use Rattle.code_check.specs.ExprFaults.{Scope}
use Rattle.seq_check.specs.Views.{faulty_view}
use Rattle.seq_check.proofs.SetLemmas.{carries_on, found_there, none_at_end}
use Rattle.seq_check.proofs.sets.sequences_fault.Goals as goal

pub returns-in-Some : goal.returns-in-Some
returns-in-Some c =
    let s : Scope = record { visible = c.args.names.now; sequences = c.args.sequences.now; in_debugvars = false } in
    let all = map (λ s. s.steps) (set_trees c.args.set.now).sequences in
    let inv = c.loop-index.invariant in
    let found = rw c.in-Some.is at c.in_ok-faulty.ensures.first in
    found_there s c.loop-index.index all (steps_tree c.steps_of-steps.result.now) (faulty_view c.in-Some.faulty) c.steps_of-steps.ensures inv.carries (rw (← c.as_slice.ensures, ← inv.names) found)

pub loop-index-preserved : goal.loop-index-preserved
loop-index-preserved c =
    let s : Scope = record { visible = c.args.names.now; sequences = c.args.sequences.now; in_debugvars = false } in
    let all = map (λ s. s.steps) (set_trees c.args.set.now).sequences in
    let inv = c.loop-index.invariant in
    let none = rw c.in_default.is at c.in_ok-faulty.ensures.first in
    let names = rw c.in_default.is at c.in_ok-faulty.ensures.names in record {
      carries = carries_on s c.loop-index.index all (steps_tree c.steps_of-steps.result.now) c.steps_of-steps.ensures inv.carries (rw (← c.as_slice.ensures, ← inv.names) none);
      names = names ∙ inv.names;
    }

pub returns : goal.returns
returns c =
    let s : Scope = record { visible = c.args.names.now; sequences = c.args.sequences.now; in_debugvars = false } in
    let set = set_trees c.args.set.now in
    let all = map (λ s. s.steps) set.sequences in
    let past : length all ≤ c.loop-index.index = omega (arith, length-map set.sequences (λ s. s.steps), c.len-index-end.ensures, c.loop-index-test.false) in
    none_at_end s c.loop-index.index all past c.loop-index.invariant.carries
