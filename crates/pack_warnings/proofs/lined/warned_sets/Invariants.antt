use Rattle.std.proofs.Common.{◌≡◌, map, take}
use Rattle.std.specs.List.{All}
use Rattle.pack_warnings.specs.Lined.{IsWarned}
use Rattle.pack_warnings.proofs.lined.warned_sets.Given as goal

abbrev pub invariant-loop-one : goal.invariant-loop-one
invariant-loop-one l = record {
  sets : map (λ s. s.set.now) l.sets ≡ map (λ k. k.set) (take l.one-index l.known);
  warned : All IsWarned l.sets;
}
