use Rattle.std.proofs.Common.{rules, ◌≡◌, map, [], ◌∷◌, codes, refl}
use Rattle.std.specs.List.{IsDistinct}
use Rattle.test_language.proofs.sets.entries.Goals as goal

pub returns : goal.returns
unfolding IsDistinct
returns c =
    let names : map (λ e. e.name) c.push-2.new.self ≡ codes "Off" ∷ codes "Main" ∷ [] = search rules in
    rw (names) ((refl, tt), (tt, tt))
