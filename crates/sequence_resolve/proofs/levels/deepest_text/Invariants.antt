use Rattle.std.proofs.Common.{◌≡◌, [], drop, map, option_map, unwrap_or}
use Rattle.sequence_resolve.specs.Levels.{deepest}
use Rattle.sequence_resolve.specs.Views.{level_view}
use Rattle.sequence_resolve.proofs.levels.deepest_text.Given as goal

abbrev pub invariant-loop-level : goal.invariant-loop-level
invariant-loop-level l = deepest (unwrap_or (option_map (λ t. t.now) l.found) []) (map level_view (drop l.level-index l.levels)) ≡ deepest [] (map level_view l.levels)
