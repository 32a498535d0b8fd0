use Rattle.std.proofs.Common.{◌≡◌, drop, map}
use Rattle.pack_warnings.specs.Lined.{lined_warning_view}
use Rattle.pack_warnings.specs.Keys.{KnowsWarningPlaces}
use Rattle.pack_warnings.specs.Merged.{with_each_warning}
use Rattle.pack_warnings.proofs.merging.add_warnings.Given as goal

abbrev pub invariant-loop-one : goal.invariant-loop-one
invariant-loop-one l = record {
  list :
      with_each_warning l.number (map lined_warning_view (drop l.one-index l.found)) l.warnings.list.items
      ≡ with_each_warning l.number (map lined_warning_view l.found) l.fn.warnings.list.items;
  knows : KnowsWarningPlaces l.warnings.places l.warnings.list.items;
}
