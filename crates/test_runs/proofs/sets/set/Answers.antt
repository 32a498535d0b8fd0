use Rattle.std.proofs.Common.{rules, ◌≡◌, map, [], ◌∷◌, codes, refl}
use Rattle.std.specs.List.{IsDistinct}
use Rattle.test_runs.proofs.sets.set.Goals as goal

pub returns : goal.returns
unfolding IsDistinct
returns c =
    let names : map (λ e. e.name) c.push-2.new.self ≡ codes "Main" ∷ codes "Sub" ∷ [] = search rules in
    rw (names) ((refl, tt), (tt, tt))
