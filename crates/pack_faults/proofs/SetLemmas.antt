-- Devices, variants and processors that are requested.
use Rattle.std.proofs.Common.{◌≡◌, ◌∙◌, ℕ, ◌+◌, ◌<◌, nat_lt, lt-ltb, le-ltb, append_assoc, not, List, [], ◌∷◌, ◌++◌, map, filter, length, Option, Some, None, option_map, Bor, refl, ap, sym, subst, arith}
use Rattle.std.proofs.lemmas.List.{length-append, length-map}
use Rattle.device_tree.specs.declared.pack.Variant.{Variant}
use Rattle.device_tree.specs.declared.pack.Pack.{Pack}
use Rattle.sequence_resolve.specs.Places as spec
use Rattle.pack_faults.specs.declared.request.PackRequest.{PackRequest}
use Rattle.pack_faults.specs.declared.sets.SetRef.{SetRef}
use Rattle.pack_faults.specs.Sets.{SetAt, is_requested, variants_of, processors_of, sets_at, sets_with, device_sets, is_empty, has_set}
use Rattle.pack_faults.specs.Views.{set_view, names_view}

-- where none is requested, each is meant
names_all : (names : List (List ℕ)) → filter (is_requested None) names ≡ names
names_all [] = refl
names_all (name ∷ names) = ap (λ ns. name ∷ ns) (names_all names)

variants_all : (variants : List Variant) → filter (λ v. is_requested None v.name) variants ≡ variants
variants_all [] = refl
variants_all (v ∷ variants) = ap (λ vs. v ∷ vs) (variants_all variants)

pub processors_all : (names : List (Bor (List ℕ))) → 0 < length names → map (λ name. Some name) (filter (is_requested None) (names_view names)) ≡ processors_of None (names_view names)
processors_all [] some = absurd (omega arith)
processors_all (p ∷ names) some = ap (map (λ name. Some name)) (names_all (names_view (p ∷ names)))

-- the sets of the processors that are requested
pub processors_some : (requested : Option (Bor (List ℕ))) (name : Bor (List ℕ)) (names : List (List ℕ)) → requested ≡ Some name
    → map (λ n. Some n) (filter (is_requested (option_map (λ w. w.now) requested)) names) ≡ processors_of (option_map (λ w. w.now) requested) names
processors_some requested name names is =
    subst (λ (o : Option (Bor (List ℕ))). map (λ n. Some n) (filter (is_requested (option_map (λ w. w.now) o)) names) ≡ processors_of (option_map (λ w. w.now) o) names) (sym is) refl

pub variants_some : (requested : Option (List ℕ)) (name : List ℕ) (variants : List Variant) → requested ≡ Some name
    → map (λ v. Some v) (filter (λ v. is_requested requested v.name) variants) ≡ variants_of requested variants
variants_some requested name variants is =
    subst (λ (o : Option (List ℕ)). map (λ v. Some v) (filter (λ v. is_requested o v.name) variants) ≡ variants_of o variants) (sym is) refl

pub variants_none : (requested : Option (List ℕ)) (variants : List Variant) → requested ≡ None
    → None ∷ map (λ v. Some v) (filter (λ v. is_requested requested v.name) variants) ≡ variants_of requested variants
variants_none requested variants is =
    subst (λ (o : Option (List ℕ)). None ∷ map (λ v. Some v) (filter (λ v. is_requested o v.name) variants) ≡ variants_of o variants) (sym is)
    (ap (λ vs. None ∷ map (λ v. Some v) vs) (variants_all variants))

-- a device without a variant, and then with each
pub each_variant : (pack : Pack) (r : PackRequest) (place : spec.DevicePlace) (old mid new : List SetAt) (variants : List Variant) → r.variant ≡ None → variants ≡ place.device.variants
    → mid ≡ old ++ sets_at pack r place None → new ≡ mid ++ sets_with pack r place (map (λ v. Some v) (filter (λ v. is_requested r.variant v.name) variants))
    → new ≡ old ++ device_sets pack r place
each_variant pack r place old mid new variants none all first rest =
    let vs : List (Option Variant) = map (λ v. Some v) (filter (λ v. is_requested r.variant v.name) variants) in
    rest ∙ ap (λ ss. ss ++ sets_with pack r place vs) first ∙ append_assoc old (sets_at pack r place None) (sets_with pack r place vs)
    ∙ ap (λ xs. old ++ sets_with pack r place xs) (variants_none r.variant variants none) ∙ ap (λ xs. old ++ sets_with pack r place (variants_of r.variant xs)) all

pub one_variant : (pack : Pack) (r : PackRequest) (place : spec.DevicePlace) (name : List ℕ) (old new : List SetAt) (variants : List Variant) → r.variant ≡ Some name → variants ≡ place.device.variants
    → new ≡ old ++ sets_with pack r place (map (λ v. Some v) (filter (λ v. is_requested r.variant v.name) variants)) → new ≡ old ++ device_sets pack r place
one_variant pack r place name old new variants some all e =
    e ∙ ap (λ xs. old ++ sets_with pack r place xs) (variants_some r.variant name variants some) ∙ ap (λ xs. old ++ sets_with pack r place (variants_of r.variant xs)) all

-- ---- the devices with a set

pub grown : {A : Type 0} (ds : List A) (m n : ℕ) → n ≡ m + length ds → nat_lt m n ≡ not (is_empty ds)
grown [] m n e = le-ltb m n (omega arith)
grown (d ∷ ds) m n e = lt-ltb m n (omega arith)

-- a device is counted where the sets have grown
pub has_grown : (pack : Pack) (r : PackRequest) (place : spec.DevicePlace) (old new : List SetRef) → map set_view new ≡ map set_view old ++ device_sets pack r place
    → nat_lt (length old) (length new) ≡ has_set pack r place
has_grown pack r place old new e =
    let ds = device_sets pack r place in
    let sizes : length new ≡ length old + length ds =
    sym (length-map new set_view) ∙ ap length e ∙ length-append (map set_view old) ds ∙ ap (λ n. n + length ds) (length-map old set_view) in
    grown ds (length old) (length new) sizes
