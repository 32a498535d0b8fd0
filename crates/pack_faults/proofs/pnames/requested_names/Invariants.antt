use Rattle.std.proofs.Common.{◌≡◌, ◌++◌, drop, map, filter, Some, option_map}
use Rattle.pack_faults.specs.Sets.{is_requested}
use Rattle.pack_faults.specs.Views.{names_view, options_view}
use Rattle.pack_faults.proofs.pnames.requested_names.Given as goal

abbrev pub invariant-loop-name : goal.invariant-loop-name
invariant-loop-name l =
    let is = is_requested (option_map (λ w. w.now) l.requested) in
    options_view l.pnames ++ map (λ name. Some name) (filter is (names_view (drop l.name-index l.names))) ≡ map (λ name. Some name) (filter is (names_view l.names))
