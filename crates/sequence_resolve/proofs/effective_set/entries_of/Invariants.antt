use Rattle.std.proofs.Common.{◌≡◌, map, take}
use Rattle.sequence_resolve.specs.Effective.{entry_of}
use Rattle.sequence_resolve.specs.Views.{winner_view}
use Rattle.sequence_resolve.proofs.effective_set.entries_of.Given as goal

abbrev pub invariant-loop-winner : goal.invariant-loop-winner
invariant-loop-winner l = l.entries ≡ map entry_of (map winner_view (take l.winner-index l.winners))
