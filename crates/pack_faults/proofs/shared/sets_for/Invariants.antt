use Rattle.std.proofs.Common.{◌≡◌, map, take, option_map}
use Rattle.std.specs.List.{All}
use Rattle.sequence_resolve.specs.Levels.{path_of}
use Rattle.sequence_resolve.specs.Views.{place_view}
use Rattle.pack_faults.specs.Known.{IsKnown}
use Rattle.pack_faults.specs.Shared.{pname_view, IsKnownSetOf, Grown}
use Rattle.pack_faults.specs.Views.{options_view}
use Rattle.pack_faults.proofs.shared.sets_for.Given as goal

abbrev pub invariant-loop-pname : goal.invariant-loop-pname
invariant-loop-pname l = record {
  pnames : map pname_view l.sets ≡ options_view (take l.pname-index l.pnames);
  each : All (λ m. IsKnownSetOf l.known (path_of l.pack (place_view l.place) (option_map (λ v. v.now) l.variant)) (pname_view m) m.number) l.sets;
  known : All IsKnown l.known;
  grown : Grown l.fn.known l.known;
}
