-- Names by their bytes.
use Rattle.std.proofs.Common.{◌≡◌, ◌∙◌, ◌+◌, ◌||◌, ℕ, Bool, true, false, not, cond, List, [], ◌∷◌, ◌++◌, map, take, position, refl, ap, sym, String, Global, bytes_eq, string_bytes}
use Rattle.std.proofs.lemmas.List.{map-append, length-map, take-map}
use Rattle.std.specs.List.{prefix_len, list_any}
use Rattle.std.specs.String.{string_eq}
use Rattle.indexmap.specs.IndexSet.{insert_key}
use Rattle.expr_grammar.specs.Names.{with_name}

prefix_len-map : {X Y : Type 0} (f : X → Y) (q : Y → Bool) (xs : List X) → prefix_len q (map f xs) ≡ prefix_len (λ x. q (f x)) xs
prefix_len-map f q [] = refl
prefix_len-map f q (x ∷ xs) = ap (λ n. cond (q (f x)) (1 + n) 0) (prefix_len-map f q xs)

pub position-map : {X Y : Type 0} (f : X → Y) (p : Y → Bool) (xs : List X) → position p (map f xs) ≡ position (λ x. p (f x)) xs
position-map f p xs = rw (prefix_len-map f (λ y. not (p y)) xs, length-map xs f) refl

pub list_any-map : {X Y : Type 0} (f : X → Y) (p : Y → Bool) (xs : List X) → list_any p (map f xs) ≡ list_any (λ x. p (f x)) xs
list_any-map f p [] = refl
list_any-map f p (x ∷ xs) = ap (λ b. p (f x) || b) (list_any-map f p xs)

inserted_at : (b : Bool) (ks : List (String Global)) (k : String Global) → map string_bytes (cond b ks (ks ++ k ∷ [])) ≡ cond b (map string_bytes ks) (map string_bytes ks ++ string_bytes k ∷ [])
inserted_at true ks k = refl
inserted_at false ks k = map-append string_bytes ks (k ∷ [])

pub map-insert_key : (ks : List (String Global)) (k : String Global) → map string_bytes (insert_key string_eq ks k) ≡ with_name (map string_bytes ks) (string_bytes k)
map-insert_key ks k = inserted_at (list_any (string_eq k) ks) ks k ∙ ap (λ b. cond b (map string_bytes ks) (map string_bytes ks ++ string_bytes k ∷ [])) (sym (list_any-map string_bytes (bytes_eq (string_bytes k)) ks))

pub map-take : {X Y : Type 0} (f : X → Y) (n : ℕ) (xs : List X) → map f (take n xs) ≡ take n (map f xs)
map-take f n xs = sym (take-map f n xs)

pub ruleset naming = (position-map, list_any-map, map-insert_key, map-take)
