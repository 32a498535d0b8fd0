use Rattle.std.proofs.Common.{map, take}
use Rattle.std.specs.List.{All}
use Rattle.device_tree.specs.declared.pack.Pack.{Pack}
use Rattle.pack_faults.specs.Keys.{KnowsFaultPlaces}
use Rattle.pack_faults.specs.Lined.{IsCheckedAt}
use Rattle.pack_faults.specs.Views.{set_view}
use Rattle.pack_faults.specs.Steps.{AreDone}
use Rattle.pack_faults.proofs.checking.faults_at.Given as goal

abbrev pub invariant-loop-at : goal.invariant-loop-at
invariant-loop-at l = record {
  done : (pack : Pack) → All (IsCheckedAt pack l.found) l.sets → AreDone pack (map set_view (take l.at-index l.sets)) l.checking;
  knows : KnowsFaultPlaces l.checking.faults.places l.checking.faults.list.items;
}
