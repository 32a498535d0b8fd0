-- The devices of a name, part by part.
use Rattle.std.proofs.Common.{◌≡◌, Bool, true, false, cond, List, [], ◌∷◌, ◌++◌, append_assoc, refl, ap}
use Rattle.std.specs.Prelude.{filter}
use Rattle.sequence_resolve.specs.Places.{DevicePlace}

filter_at : (p : DevicePlace → Bool) (b : Bool) (x : DevicePlace) (xs ys : List DevicePlace) → cond b (x ∷ (xs ++ ys)) (xs ++ ys) ≡ cond b (x ∷ xs) xs ++ ys
filter_at p true x xs ys = refl
filter_at p false x xs ys = refl

pub filter-parts : (p : DevicePlace → Bool) (xs ys : List DevicePlace) → filter p (xs ++ ys) ≡ filter p xs ++ filter p ys
filter-parts p [] ys = refl
filter-parts p (x ∷ xs) ys = rw (filter-parts p xs ys) (filter_at p (p x) x (filter p xs) (filter p ys))

pub ruleset parts = (filter-parts, append_assoc)
