use Rattle.std.proofs.Common.{◌≡◌, [], drop, map, option_map}
use Rattle.sequence_resolve.specs.Effective.{candidates}
use Rattle.sequence_resolve.specs.Winners.{with_all, Knows}
use Rattle.sequence_resolve.specs.Views.{level_view, winner_view}
use Rattle.sequence_resolve.proofs.winners.winners_of.Given as goal

abbrev pub invariant-loop-depth : goal.invariant-loop-depth
invariant-loop-depth l =
    let requested = option_map (λ w. w.now) l.requested in
    (with_all (map winner_view l.winners.list.items) (candidates requested l.depth (map level_view (drop l.depth l.levels))) ≡ with_all [] (candidates requested 0 (map level_view l.levels)))
    × Knows l.winners.places (map winner_view l.winners.list.items)
