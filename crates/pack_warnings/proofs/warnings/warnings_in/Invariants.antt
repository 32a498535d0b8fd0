use Rattle.std.proofs.Common.{map, take}
use Rattle.std.specs.List.{All}
use Rattle.device_tree.specs.declared.pack.Pack.{Pack}
use Rattle.pack_faults.specs.Views.{set_view}
use Rattle.pack_warnings.specs.Answers.{AreMerged}
use Rattle.pack_warnings.specs.Keys.{KnowsWarningPlaces}
use Rattle.pack_warnings.specs.Lined.{IsFoundAt}
use Rattle.pack_warnings.proofs.warnings.warnings_in.Given as goal

abbrev pub invariant-loop-number : goal.invariant-loop-number
invariant-loop-number l = record {
  done : (pack : Pack) → All (IsFoundAt pack l.found) l.sets → AreMerged pack (map set_view (take l.number l.sets)) l.warnings.list.items;
  knows : KnowsWarningPlaces l.warnings.places l.warnings.list.items;
}
