use Rattle.std.proofs.Common.{◌≤◌, ◌∙◌, ap, length, fold, replicate, false}
use Rattle.std.proofs.lemmas.List.{take_all}
use Rattle.set_warnings.specs.Sequences.{all_marked}
use Rattle.set_warnings.proofs.CalledLemmas.{are_flags}
use Rattle.set_warnings.proofs.called.called_flags.Goals as goal

pub returns : goal.returns
returns c =
    let calls = c.args.calls.now in
    let past : length calls ≤ c.loop-list.list-index = c.loop-list-test.false in
    are_flags calls c.args.count c.loop-list.flags.items (c.loop-list.invariant ∙ ap (fold all_marked (replicate c.args.count false)) (take_all c.loop-list.list-index calls past))
