use Rattle.std.proofs.Common.{sym, ◌∙◌, map, option_map}
use Rattle.sequence_resolve.specs.Views.{winner_view}
use Rattle.sequence_resolve.proofs.WinnerLemmas.{next_level}
use Rattle.sequence_resolve.proofs.winners.winners_of.Goals as goal

pub loop-depth-preserved : goal.loop-depth-preserved
loop-depth-preserved c =
    let requested = option_map (λ w. w.now) c.args.requested in
    let next = next_level requested (map winner_view c.loop-depth.winners.list.items) c.loop-depth.depth c.args.levels.now c.index-levels-depth.result c.loop-depth-test.true c.index-levels-depth.is in (
      rw c.in_ok-put_level.ensures.ok (sym next ∙ c.loop-depth.invariant.0),
      c.in_ok-put_level.ensures.knows,
    )
