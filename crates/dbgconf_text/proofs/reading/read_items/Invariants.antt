use Rattle.std.proofs.Common.{◌-◌, length}
use Rattle.dbgconf_text.specs.Turns.{Stands}
use Rattle.dbgconf_text.proofs.reading.read_items.Given as goal

abbrev pub invariant-loop-index : goal.invariant-loop-index
invariant-loop-index l = Stands l.tokens l.index l.found

abbrev pub decreases-loop-index : goal.decreases-loop-index
decreases-loop-index l = length l.tokens - l.index
