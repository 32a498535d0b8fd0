use Rattle.std.proofs.Common.{◌≡◌, drop, map}
use Rattle.pack_faults.specs.Lined.{lined_view}
use Rattle.pack_faults.specs.Keys.{KnowsFaultPlaces}
use Rattle.pack_faults.specs.Steps.{with_each}
use Rattle.pack_faults.proofs.merging.add_faults.Given as goal

abbrev pub invariant-loop-one : goal.invariant-loop-one
invariant-loop-one l = record {
  list :
      with_each l.number (map lined_view (drop l.one-index l.found)) l.faults.list.items
      ≡ with_each l.number (map lined_view l.found) l.fn.faults.list.items;
  knows : KnowsFaultPlaces l.faults.places l.faults.list.items;
}
