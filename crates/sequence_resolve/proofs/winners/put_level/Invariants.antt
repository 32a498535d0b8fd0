use Rattle.std.proofs.Common.{◌≡◌, drop, map, option_map}
use Rattle.sequence_resolve.specs.Effective.{candidates_at}
use Rattle.sequence_resolve.specs.Winners.{with_all, Knows}
use Rattle.sequence_resolve.specs.Views.{winner_view}
use Rattle.sequence_resolve.proofs.winners.put_level.Given as goal

abbrev pub invariant-loop-sequence : goal.invariant-loop-sequence
invariant-loop-sequence l =
    let requested = option_map (λ w. w.now) l.requested in
    (with_all (map winner_view l.winners.list.items) (candidates_at requested l.level.kind l.depth (drop l.sequence-index l.sequence-items))
    ≡ with_all (map winner_view l.fn.winners.list.items) (candidates_at requested l.level.kind l.depth l.level.level.now.sequences))
    × Knows l.winners.places (map winner_view l.winners.list.items)
