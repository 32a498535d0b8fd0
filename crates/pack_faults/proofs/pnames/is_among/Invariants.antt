use Rattle.std.proofs.Common.{◌≡◌, drop, bytes_eq}
use Rattle.std.specs.List.{list_any}
use Rattle.pack_faults.specs.Views.{names_view}
use Rattle.pack_faults.proofs.pnames.is_among.Given as goal

abbrev pub invariant-loop-other : goal.invariant-loop-other
invariant-loop-other l = list_any (bytes_eq l.name) (names_view (drop l.other-index l.names)) ≡ list_any (bytes_eq l.name) (names_view l.names)
