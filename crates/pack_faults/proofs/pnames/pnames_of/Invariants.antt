use Rattle.std.proofs.Common.{◌≡◌, [], drop, map}
use Rattle.sequence_resolve.specs.Views.{level_view}
use Rattle.pack_faults.specs.Sets.{pnames_along}
use Rattle.pack_faults.specs.Views.{names_view}
use Rattle.pack_faults.proofs.pnames.pnames_of.Given as goal

abbrev pub invariant-loop-level : goal.invariant-loop-level
invariant-loop-level l = pnames_along (names_view l.names.items) (map level_view (drop l.level-index l.levels)) ≡ pnames_along [] (map level_view l.levels)
