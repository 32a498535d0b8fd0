-- Sets that are added, those of one device after another.
use Rattle.std.proofs.Common.{◌≡◌, ◌∙◌, ℕ, zero, suc, ◌+◌, ◌<◌, ◌≤◌, nat_lt, ltb-true, Bool, true, false, cond, List, [], ◌∷◌, ◌++◌, map, filter, length, take, get_or, Option, Some, None, option_map, Bor, Result, Ok, Err, OnOk, append_assoc, append-nil, refl, ap, sym, subst, arith}
use Rattle.std.proofs.Math.Nat.{add-zero, zero-add}
use Rattle.std.specs.Prelude.{count_by}
use Rattle.std.specs.List.{All, flat_map}
use Rattle.std.proofs.lemmas.List.{length-append, length-map}
use Rattle.std.proofs.lemmas.List.Sums.{sum_by-cons}
use Rattle.std.proofs.lemmas.List.Elements.{filter-append}
use Rattle.std.proofs.lemmas.Grind.{flat_map-append}
use Rattle.device_tree.specs.declared.pack.Variant.{Variant}
use Rattle.device_tree.specs.declared.pack.Device.{Device}
use Rattle.device_tree.specs.declared.pack.SubFamily.{SubFamily}
use Rattle.device_tree.specs.declared.pack.Family.{Family}
use Rattle.device_tree.specs.declared.pack.Pack.{Pack}
use Rattle.sequence_resolve.specs.declared.place.DevicePlace as code
use Rattle.sequence_resolve.specs.Places.{DevicePlace, places_of}
use Rattle.sequence_resolve.specs.Levels.{LevelAt, path_of}
use Rattle.sequence_resolve.specs.Views.{place_view}
use Rattle.pack_faults.specs.declared.request.PackRequest.{PackRequest}
use Rattle.pack_faults.specs.declared.groups.Group.{Group}
use Rattle.pack_faults.specs.declared.known.KnownSet.{KnownSet}
use Rattle.pack_faults.specs.declared.shared.PnameSet.{PnameSet}
use Rattle.pack_faults.specs.declared.sets.SetRef.{SetRef}
use Rattle.pack_faults.specs.declared.sets.DeviceSets.{DeviceSets}
use Rattle.pack_faults.specs.Sets.{SetAt, is_requested, sets_at, sets_with, device_sets, devices_sets, has_set}
use Rattle.pack_faults.specs.Known.{IsKnown}
use Rattle.pack_faults.specs.Shared.{trimmed_levels, places_in_group, set_ref, AreSetsOf, AreShared, Grown, AreFine, IsFineWithShared, AreAdded, DevicesAreCounted}
use Rattle.pack_faults.specs.Views.{set_view}
use Rattle.pack_faults.proofs.SetLemmas.{variants_none, variants_some, has_grown}
use Rattle.pack_faults.proofs.SharedLemmas.{to_trimmed, from_trimmed, grown_itself, grown_then, shared_grown, found_grown, pushed_sets, pushed_found}

pub on_ok : {T E : Type 0} (r : Result T E) (P Q : Type 0) → OnOk r P → (P → Q) → OnOk r Q
on_ok (Ok x) P Q h f = f h
on_ok (Err e) P Q h f = tt

-- ---- the sets of a device and variant

few_more : (d : ℕ) (old more new : List SetRef) → new ≡ old ++ more → d ≤ length old → d ≤ length new
few_more d old more new e le = let size : length new ≡ length old + length more = ap length e ∙ length-append old more in omega arith

pub added_new : (pack : Pack) (r : PackRequest) (place : code.DevicePlace) (variant : Option (Bor Variant)) (each : List PnameSet) (old : DeviceSets) (known : List KnownSet) (new : List SetRef)
    → AreFine pack old → All IsKnown known → Grown old.known known → AreSetsOf r known (path_of pack (place_view place) (option_map (λ v. v.now) variant)) each
    → new ≡ old.sets ++ map (set_ref place variant) each
    → AreAdded pack r (path_of pack (place_view place) (option_map (λ v. v.now) variant)) (sets_at pack r (place_view place) (option_map (λ v. v.now) variant)) old (Some each)
    (record { sets = new; devices = old.devices; known = known })
added_new pack r place variant each old known new fine all grown are e = record {
  sets = pushed_sets pack r known place variant each old.sets new are e;
  devices = refl;
  grown = grown;
  ready = record {
    fine = record {
      few = few_more old.devices old.sets (map (set_ref place variant) each) new e fine.few;
      known = all;
      found = pushed_found pack r known place variant each old.sets new are e (found_grown pack old.known known old.sets grown fine.found);
    };
    along = to_trimmed r known (path_of pack (place_view place) (option_map (λ v. v.now) variant)) each are;
  };
}

pub added_shared : (pack : Pack) (r : PackRequest) (place : code.DevicePlace) (variant : Option (Bor Variant)) (shared : Option (List PnameSet)) (each : List PnameSet) (old : DeviceSets) (new : List SetRef)
    → IsFineWithShared pack r (path_of pack (place_view place) (option_map (λ v. v.now) variant)) shared old → shared ≡ Some each → new ≡ old.sets ++ map (set_ref place variant) each
    → AreAdded pack r (path_of pack (place_view place) (option_map (λ v. v.now) variant)) (sets_at pack r (place_view place) (option_map (λ v. v.now) variant)) old shared
    (record { sets = new; devices = old.devices; known = old.known })
added_shared pack r place variant shared each old new ready is e =
    let levels = path_of pack (place_view place) (option_map (λ v. v.now) variant) in
    let are : AreSetsOf r old.known (trimmed_levels levels) each = subst (λ (s : Option (List PnameSet)). AreShared r old.known (trimmed_levels levels) s) is ready.along in
    subst (λ (s : Option (List PnameSet)). AreAdded pack r levels (sets_at pack r (place_view place) (option_map (λ v. v.now) variant)) old s (record { sets = new; devices = old.devices; known = old.known })) (sym is)
    (added_new pack r place variant each old old.known new ready.fine ready.fine.known (grown_itself old.known) (from_trimmed r old.known levels each are) e)

-- ---- along other levels

pub ready_along : (pack : Pack) (r : PackRequest) (levels other : List LevelAt) (shared : Option (List PnameSet)) (f : DeviceSets) → trimmed_levels levels ≡ trimmed_levels other
    → IsFineWithShared pack r levels shared f → IsFineWithShared pack r other shared f
ready_along pack r levels other shared f same ready = record {
  fine = ready.fine;
  along = subst (λ (ls : List LevelAt). AreShared r f.known ls shared) same ready.along;
}

pub added_along : (pack : Pack) (r : PackRequest) (levels other : List LevelAt) (added : List SetAt) (old : DeviceSets) (shared : Option (List PnameSet)) (new : DeviceSets)
    → trimmed_levels levels ≡ trimmed_levels other → AreAdded pack r levels added old shared new → AreAdded pack r other added old shared new
added_along pack r levels other added old shared new same are = record {
  sets = are.sets;
  devices = are.devices;
  grown = are.grown;
  ready = ready_along pack r levels other shared new same are.ready;
}

-- what others share stays
pub added_apart : (pack : Pack) (r : PackRequest) (levels other : List LevelAt) (added : List SetAt) (old : DeviceSets) (own shared : Option (List PnameSet)) (new : DeviceSets)
    → IsFineWithShared pack r other shared old → AreAdded pack r levels added old own new → AreAdded pack r other added old shared new
added_apart pack r levels other added old own shared new ready are = record {
  sets = are.sets;
  devices = are.devices;
  grown = are.grown;
  ready = record { fine = are.ready.fine; along = shared_grown r old.known new.known (trimmed_levels other) shared are.grown ready.along };
}

-- ---- one after another

pub added_as : (pack : Pack) (r : PackRequest) (levels : List LevelAt) (added other : List SetAt) (old : DeviceSets) (shared : Option (List PnameSet)) (new : DeviceSets)
    → added ≡ other → AreAdded pack r levels added old shared new → AreAdded pack r levels other old shared new
added_as pack r levels added other old shared new same are = subst (λ (ss : List SetAt). AreAdded pack r levels ss old shared new) same are

pub added_none : (pack : Pack) (r : PackRequest) (levels : List LevelAt) (old : DeviceSets) (shared : Option (List PnameSet)) → IsFineWithShared pack r levels shared old → AreAdded pack r levels [] old shared old
added_none pack r levels old shared ready = record { sets = sym (append-nil (map set_view old.sets)); devices = refl; grown = grown_itself old.known; ready = ready }

pub added_then : (pack : Pack) (r : PackRequest) (levels : List LevelAt) (first second : List SetAt) (a b c : DeviceSets) (one two : Option (List PnameSet))
    → AreAdded pack r levels first a one b → AreAdded pack r levels second b two c → AreAdded pack r levels (first ++ second) a two c
added_then pack r levels first second a b c one two p q = record {
  sets = q.sets ∙ ap (λ ss. ss ++ second) p.sets ∙ append_assoc (map set_view a.sets) first second;
  devices = q.devices ∙ p.devices;
  grown = grown_then a.known b.known c.known p.grown q.grown;
  ready = q.ready;
}

-- ---- variants

sets_with-append : (pack : Pack) (r : PackRequest) (place : DevicePlace) (vs ws : List (Option Variant)) → sets_with pack r place (vs ++ ws) ≡ sets_with pack r place vs ++ sets_with pack r place ws
sets_with-append pack r place [] ws = refl
sets_with-append pack r place (v ∷ vs) ws =
    ap (λ ss. sets_at pack r place v ++ ss) (sets_with-append pack r place vs ws) ∙ sym (append_assoc (sets_at pack r place v) (sets_with pack r place vs) (sets_with pack r place ws))

pub taken_more : {A : Type 0} (xs : List A) (i : ℕ) (x : A) → i < length xs → x ≡ get_or xs i x → take (i + 1) xs ≡ take i xs ++ x ∷ []
taken_more [] i x lt is = absurd (omega arith)
taken_more (y ∷ xs) zero x lt is = ap (λ z. z ∷ []) (sym is)
taken_more (y ∷ xs) (suc i) x lt is =
    let e : suc i + 1 ≡ suc (i + 1) = omega arith in
    rw e (ap (λ ys. y ∷ ys) (taken_more xs i x (omega arith) is))

map_some-append : (vs ws : List Variant) → map (λ v. Some v) (vs ++ ws) ≡ map (λ v. Some v) vs ++ map (λ v. Some v) ws
map_some-append [] ws = refl
map_some-append (v ∷ vs) ws = ap (λ os. Some v ∷ os) (map_some-append vs ws)

one_with : (pack : Pack) (r : PackRequest) (place : DevicePlace) (v : Variant) (b : Bool) → sets_with pack r place (map (λ v. Some v) (cond b (v ∷ []) [])) ≡ cond b (sets_at pack r place (Some v)) []
one_with pack r place v true = append-nil (sets_at pack r place (Some v))
one_with pack r place v false = refl

pub variants_more : (pack : Pack) (r : PackRequest) (place : DevicePlace) (is : Variant → Bool) (vs : List Variant) (i : ℕ) (v : Variant) → i < length vs → v ≡ get_or vs i v
    → sets_with pack r place (map (λ v. Some v) (filter is (take i vs))) ++ cond (is v) (sets_at pack r place (Some v)) []
    ≡ sets_with pack r place (map (λ v. Some v) (filter is (take (i + 1) vs)))
variants_more pack r place is vs i v lt at =
    sym (ap (λ ws. sets_with pack r place (map (λ v. Some v) (filter is ws))) (taken_more vs i v lt at)
    ∙ ap (λ ws. sets_with pack r place (map (λ v. Some v) ws)) (filter-append is (take i vs) (v ∷ []))
    ∙ ap (sets_with pack r place) (map_some-append (filter is (take i vs)) (filter is (v ∷ [])))
    ∙ sets_with-append pack r place (map (λ v. Some v) (filter is (take i vs))) (map (λ v. Some v) (filter is (v ∷ [])))
    ∙ ap (λ ss. sets_with pack r place (map (λ v. Some v) (filter is (take i vs))) ++ ss) (one_with pack r place v (is v)))

pub every_variant : (pack : Pack) (r : PackRequest) (place : DevicePlace) → r.variant ≡ None
    → sets_at pack r place None ++ sets_with pack r place (map (λ v. Some v) (filter (λ v. is_requested r.variant v.name) place.device.variants)) ≡ device_sets pack r place
every_variant pack r place none = ap (sets_with pack r place) (variants_none r.variant place.device.variants none)

pub one_variant : (pack : Pack) (r : PackRequest) (place : DevicePlace) (name : List ℕ) → r.variant ≡ Some name
    → sets_with pack r place (map (λ v. Some v) (filter (λ v. is_requested r.variant v.name) place.device.variants)) ≡ device_sets pack r place
one_variant pack r place name some = ap (sets_with pack r place) (variants_some r.variant name place.device.variants some)

-- ---- devices

few_counted : (b : Bool) (d n m : ℕ) → nat_lt n m ≡ b → d ≤ n → n ≤ m → d + cond b 1 0 ≤ m
few_counted true d n m is le most = let less : n < m = ltb-true n m is in omega arith
few_counted false d n m is le most = omega arith

count_one : (p : DevicePlace → Bool) (x : DevicePlace) → count_by p (x ∷ []) ≡ cond (p x) 1 0
count_one p x = let e = sum_by-cons (λ y. cond (p y) 1 0) x [] in e ∙ add-zero (cond (p x) 1 0)

-- a device was counted where the sets have grown
pub counted_one : (pack : Pack) (r : PackRequest) (levels : List LevelAt) (place : DevicePlace) (old new : DeviceSets) (shared : Option (List PnameSet)) (n before after : ℕ)
    → AreFine pack old → AreAdded pack r levels (device_sets pack r place) old shared new → before ≡ length old.sets → after ≡ length new.sets → n ≡ new.devices + cond (nat_lt before after) 1 0
    → DevicesAreCounted pack r (place ∷ []) old (record { sets = new.sets; devices = n; known = new.known })
counted_one pack r levels place old new shared n before after fine are p q e =
    let same : nat_lt before after ≡ has_set pack r place =
    ap (λ k. nat_lt k after) p ∙ ap (nat_lt (length old.sets)) q ∙ has_grown pack r place old.sets new.sets are.sets in
    let size : length new.sets ≡ length old.sets + length (device_sets pack r place) =
    sym (length-map new.sets set_view) ∙ ap length are.sets ∙ length-append (map set_view old.sets) (device_sets pack r place)
    ∙ ap (λ k. k + length (device_sets pack r place)) (length-map old.sets set_view) in
    let most : length old.sets ≤ length new.sets = omega arith in
    let count : n ≡ old.devices + cond (nat_lt before after) 1 0 = e ∙ ap (λ k. k + cond (nat_lt before after) 1 0) are.devices in
    let few : old.devices + cond (nat_lt (length old.sets) (length new.sets)) 1 0 ≤ length new.sets =
    few_counted (nat_lt (length old.sets) (length new.sets)) old.devices (length old.sets) (length new.sets) refl fine.few most in
    let here : nat_lt before after ≡ nat_lt (length old.sets) (length new.sets) = ap (λ k. nat_lt k after) p ∙ ap (nat_lt (length old.sets)) q in
    record {
      sets = are.sets ∙ ap (λ ss. map set_view old.sets ++ ss) (sym (append-nil (device_sets pack r place)));
      devices = count ∙ ap (λ b. old.devices + cond b 1 0) same ∙ ap (λ k. old.devices + k) (sym (count_one (has_set pack r) place));
      fine = record {
        few = subst (λ k. k ≤ length new.sets) (sym (count ∙ ap (λ b. old.devices + cond b 1 0) here)) few;
        known = are.ready.fine.known;
        found = are.ready.fine.found;
      };
    }

pub counted_none : (pack : Pack) (r : PackRequest) (old : DeviceSets) → AreFine pack old → DevicesAreCounted pack r [] old old
counted_none pack r old fine = record { sets = sym (append-nil (map set_view old.sets)); devices = (let e : old.devices + 0 ≡ old.devices = omega arith in sym e); fine = fine }

pub devices_sets-append : (pack : Pack) (r : PackRequest) (ps qs : List DevicePlace) → devices_sets pack r (ps ++ qs) ≡ devices_sets pack r ps ++ devices_sets pack r qs
devices_sets-append pack r [] qs = refl
devices_sets-append pack r (p ∷ ps) qs =
    ap (λ ss. device_sets pack r p ++ ss) (devices_sets-append pack r ps qs) ∙ sym (append_assoc (device_sets pack r p) (devices_sets pack r ps) (devices_sets pack r qs))

pub count_append : (p : DevicePlace → Bool) (xs ys : List DevicePlace) → count_by p (xs ++ ys) ≡ count_by p xs + count_by p ys
count_append p [] ys = sym (zero-add (count_by p ys))
count_append p (x ∷ xs) ys =
    let new = sum_by-cons (λ y. cond (p y) 1 0) x (xs ++ ys) in
    let old = sum_by-cons (λ y. cond (p y) 1 0) x xs in
    let rest = count_append p xs ys in
    omega (arith, new, old, rest)

pub counted_then : (pack : Pack) (r : PackRequest) (ps qs : List DevicePlace) (a b c : DeviceSets) → DevicesAreCounted pack r ps a b → DevicesAreCounted pack r qs b c → DevicesAreCounted pack r (ps ++ qs) a c
counted_then pack r ps qs a b c p q = record {
  sets =
      q.sets ∙ ap (λ ss. ss ++ devices_sets pack r qs) p.sets ∙ append_assoc (map set_view a.sets) (devices_sets pack r ps) (devices_sets pack r qs)
      ∙ ap (λ ss. map set_view a.sets ++ ss) (sym (devices_sets-append pack r ps qs));
  devices = (let sum = count_append (has_set pack r) ps qs in let first = p.devices in let second = q.devices in omega (arith, sum, first, second));
  fine = q.fine;
}

pub counted_as : (pack : Pack) (r : PackRequest) (ps qs : List DevicePlace) (a b : DeviceSets) → ps ≡ qs → DevicesAreCounted pack r ps a b → DevicesAreCounted pack r qs a b
counted_as pack r ps qs a b same are = subst (λ (xs : List DevicePlace). DevicesAreCounted pack r xs a b) same are

places_append : (family : Family) (sub : Option SubFamily) (ds es : List Device) → places_of family sub (ds ++ es) ≡ places_of family sub ds ++ places_of family sub es
places_append family sub [] es = refl
places_append family sub (d ∷ ds) es = ap (λ ps. record { family = family; sub_family = sub; device = d } ∷ ps) (places_append family sub ds es)

pub devices_more : (is : DevicePlace → Bool) (family : Family) (sub : Option SubFamily) (ds : List Device) (i : ℕ) (d : Device) → i < length ds → d ≡ get_or ds i d
    → filter is (places_of family sub (take i ds)) ++ cond (is (record { family = family; sub_family = sub; device = d })) (record { family = family; sub_family = sub; device = d } ∷ []) []
    ≡ filter is (places_of family sub (take (i + 1) ds))
devices_more is family sub ds i d lt at =
    sym (ap (λ es. filter is (places_of family sub es)) (taken_more ds i d lt at) ∙ ap (filter is) (places_append family sub (take i ds) (d ∷ []))
    ∙ filter-append is (places_of family sub (take i ds)) (places_of family sub (d ∷ [])))

flat_more : (gs : List Group) (g : Group) → flat_map places_in_group (gs ++ g ∷ []) ≡ flat_map places_in_group gs ++ places_in_group g
flat_more gs g = flat_map-append places_in_group gs (g ∷ []) ∙ ap (λ ps. flat_map places_in_group gs ++ ps) (append-nil (places_in_group g))

pub groups_more : (is : DevicePlace → Bool) (gs : List Group) (i : ℕ) (g : Group) → i < length gs → g ≡ get_or gs i g
    → filter is (flat_map places_in_group (take i gs)) ++ filter is (places_in_group g) ≡ filter is (flat_map places_in_group (take (i + 1) gs))
groups_more is gs i g lt at =
    sym (ap (λ hs. filter is (flat_map places_in_group hs)) (taken_more gs i g lt at) ∙ ap (filter is) (flat_more (take i gs) g)
    ∙ filter-append is (flat_map places_in_group (take i gs)) (places_in_group g))
