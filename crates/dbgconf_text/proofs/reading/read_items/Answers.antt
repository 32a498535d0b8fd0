use Rattle.dbgconf_text.proofs.Turns.{starts, stands_on}
use Rattle.std.proofs.Common.{refl}
use Rattle.dbgconf_text.proofs.reading.read_items.Goals as goal

pub loop-index-init : goal.loop-index-init
loop-index-init c = starts c.args.tokens.now c.new-found.result c.new-found.ensures

pub loop-index-preserved : goal.loop-index-preserved
loop-index-preserved c =
    stands_on c.args.tokens.now c.loop-index.index _ c.loop-index.found c.in_ok-found.found c.in_ok-item.item c.loop-index.invariant c.in_ok-item.ensures.next c.in_ok-found.ensures refl
