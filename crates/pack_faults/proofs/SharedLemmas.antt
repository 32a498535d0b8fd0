-- Levels with nothing of their own add nothing to a set, and known sets keep their numbers.
use Rattle.std.proofs.Common.{◌≡◌, ◌∙◌, ℕ, zero, suc, ◌+◌, ◌-◌, ◌<◌, Bool, true, false, cond, ◌&&◌, List, [], ◌∷◌, ◌++◌, map, length, take, drop, get_or, position, is_none, Option, Some, None, Result, Ok, Err, option_map, unwrap_or, append-nil, refl, ap, sym, subst, true≢false, arith}
use Rattle.std.specs.Prelude.{slice_get, IfOk}
use Rattle.std.specs.Borrow.{Bor}
use Rattle.std.specs.List.{All}
use Rattle.std.proofs.lemmas.Option.{slice_get-get_or, same_Some}
use Rattle.std.proofs.lemmas.List.{map-append}
use Rattle.std.proofs.lemmas.List.Elements.{All-weaker, All-push, All-append, All-map}
use Rattle.std.proofs.lemmas.List.Quantifiers.{position-Some}
use Rattle.std.proofs.lemmas.Bool.{and_parts}
use Rattle.device_tree.specs.declared.pack.Level.{Level}
use Rattle.device_tree.specs.declared.pack.Variant.{Variant}
use Rattle.device_tree.specs.declared.pack.Pack.{Pack}
use Rattle.sequence_resolve.specs.declared.entry.LevelKind.TheVariants as kinds
use Rattle.sequence_resolve.specs.declared.entry.SeqSet.{SeqSet}
use Rattle.sequence_resolve.specs.declared.place.DevicePlace as code
use Rattle.sequence_resolve.specs.Places.{DevicePlace}
use Rattle.sequence_resolve.specs.Levels.{LevelAt, path_of, deepest}
use Rattle.sequence_resolve.specs.Effective.{Candidate, candidates_at, candidates, AreWinners}
use Rattle.sequence_resolve.specs.Resolving.{IsSetAlong}
use Rattle.sequence_resolve.specs.Views.{place_view}
use Rattle.pack_faults.specs.declared.request.PackRequest.{PackRequest}
use Rattle.pack_faults.specs.declared.known.KnownSet.{KnownSet}
use Rattle.pack_faults.specs.declared.shared.PnameSet.{PnameSet}
use Rattle.pack_faults.specs.declared.sets.SetRef.{SetRef}
use Rattle.pack_faults.specs.Sets.{is_empty, pnames_after, pnames_along, processors_of, set_at, sets_at}
use Rattle.pack_faults.specs.Equal.{same_set}
use Rattle.pack_faults.specs.Shared.{is_bare, trimmed_levels, levels_above, IsSetOf, IsThere, IsKnownSetOf, pname_view, AreSetsOf, AreShared, set_ref, HasNumberOfSet, Grown}
use Rattle.pack_faults.specs.Views.{set_view}
use Rattle.pack_faults.proofs.EqualLemmas.{set_equal}

-- ---- levels with nothing of their own

none_left : {A : Type 0} (xs : List A) → is_empty xs ≡ true → xs ≡ []
none_left [] e = refl
none_left (x ∷ xs) e = absurd (true≢false (sym e))

no_text : {A : Type 0} (o : Option A) → is_none o ≡ true → o ≡ None
no_text None e = refl
no_text (Some x) e = absurd (true≢false (sym e))

sequences_of : (level : Level) → is_bare level ≡ true → level.sequences ≡ []
sequences_of level e = none_left level.sequences (and_parts (is_empty level.sequences) (is_none level.debugvars) e).0

debugvars_of : (level : Level) → is_bare level ≡ true → level.debugvars ≡ None
debugvars_of level e = no_text level.debugvars (and_parts (is_empty level.sequences) (is_none level.debugvars) e).1

-- what is left of levels after a first one, which is left out where it and all after it have nothing
candidates_at_first : (pname : Option (List ℕ)) (depth : ℕ) (l : LevelAt) (rest ls : List LevelAt) (b : Bool) → (is_bare l.level && is_empty rest) ≡ b
    → candidates pname (depth + 1) rest ≡ candidates pname (depth + 1) ls → candidates pname depth (cond b [] (l ∷ rest)) ≡ candidates pname depth (l ∷ ls)
candidates_at_first pname depth l rest ls true is e =
    let parts = and_parts (is_bare l.level) (is_empty rest) is in
    let own : candidates_at pname l.kind depth l.level.sequences ≡ [] = ap (candidates_at pname l.kind depth) (sequences_of l.level parts.0) in
    let below : candidates pname (depth + 1) ls ≡ [] = sym e ∙ ap (candidates pname (depth + 1)) (none_left rest parts.1) in
    sym (ap (λ cs. cs ++ candidates pname (depth + 1) ls) own ∙ below)
candidates_at_first pname depth l rest ls false is e = ap (λ cs. candidates_at pname l.kind depth l.level.sequences ++ cs) e

candidates_trimmed : (pname : Option (List ℕ)) (depth : ℕ) (ls : List LevelAt) → candidates pname depth (trimmed_levels ls) ≡ candidates pname depth ls
candidates_trimmed pname depth [] = refl
candidates_trimmed pname depth (l ∷ ls) =
    candidates_at_first pname depth l (trimmed_levels ls) ls (is_bare l.level && is_empty (trimmed_levels ls)) refl (candidates_trimmed pname (depth + 1) ls)

deepest_at_first : (found : List ℕ) (l : LevelAt) (rest ls : List LevelAt) (b : Bool) → (is_bare l.level && is_empty rest) ≡ b
    → ((text : List ℕ) → deepest text rest ≡ deepest text ls) → deepest found (cond b [] (l ∷ rest)) ≡ deepest found (l ∷ ls)
deepest_at_first found l rest ls true is e =
    let parts = and_parts (is_bare l.level) (is_empty rest) is in
    sym (ap (λ text. deepest (unwrap_or text found) ls) (debugvars_of l.level parts.0) ∙ sym (e found) ∙ ap (deepest found) (none_left rest parts.1))
deepest_at_first found l rest ls false is e = e (unwrap_or l.level.debugvars found)

deepest_trimmed : (found : List ℕ) (ls : List LevelAt) → deepest found (trimmed_levels ls) ≡ deepest found ls
deepest_trimmed found [] = refl
deepest_trimmed found (l ∷ ls) = deepest_at_first found l (trimmed_levels ls) ls (is_bare l.level && is_empty (trimmed_levels ls)) refl (λ text. deepest_trimmed text ls)

pnames_at_first : (names : List (List ℕ)) (l : LevelAt) (rest ls : List LevelAt) (b : Bool) → (is_bare l.level && is_empty rest) ≡ b
    → ((more : List (List ℕ)) → pnames_along more rest ≡ pnames_along more ls) → pnames_along names (cond b [] (l ∷ rest)) ≡ pnames_along names (l ∷ ls)
pnames_at_first names l rest ls true is e =
    let parts = and_parts (is_bare l.level) (is_empty rest) is in
    sym (ap (λ ss. pnames_along (pnames_after names ss) ls) (sequences_of l.level parts.0) ∙ sym (e names) ∙ ap (pnames_along names) (none_left rest parts.1))
pnames_at_first names l rest ls false is e = e (pnames_after names l.level.sequences)

pnames_trimmed : (names : List (List ℕ)) (ls : List LevelAt) → pnames_along names (trimmed_levels ls) ≡ pnames_along names ls
pnames_trimmed names [] = refl
pnames_trimmed names (l ∷ ls) = pnames_at_first names l (trimmed_levels ls) ls (is_bare l.level && is_empty (trimmed_levels ls)) refl (λ more. pnames_trimmed more ls)

-- a last level with nothing of its own
trimmed_bare : (ls : List LevelAt) (l : LevelAt) → is_bare l.level ≡ true → trimmed_levels (ls ++ l ∷ []) ≡ trimmed_levels ls
trimmed_bare [] l bare = ap (λ b. cond (b && true) [] (l ∷ [])) bare
trimmed_bare (x ∷ ls) l bare = ap (λ rest. cond (is_bare x.level && is_empty rest) [] (x ∷ rest)) (trimmed_bare ls l bare)

-- a variant with nothing of its own has the levels of its device
pub variant_trimmed : (pack : Pack) (place : DevicePlace) (v : Variant) → is_bare v.level ≡ true → trimmed_levels (path_of pack place (Some v)) ≡ trimmed_levels (path_of pack place None)
variant_trimmed pack place v bare =
    let path = path_of pack place None in
    let whole : path_of pack place (Some v) ≡ path ++ record { kind = kinds.Variant; level = v.level } ∷ [] =
    sym (ap (λ ls. ls ++ record { kind = kinds.Variant; level = v.level } ∷ []) (append-nil _)) in
    ap trimmed_levels whole ∙ trimmed_bare path (record { kind = kinds.Variant; level = v.level }) bare

-- a device with nothing of its own has the levels above it
pub device_trimmed : (pack : Pack) (place : DevicePlace) → is_bare place.device.level ≡ true → trimmed_levels (path_of pack place None) ≡ trimmed_levels (levels_above pack place.family place.sub_family)
device_trimmed pack place bare =
    ap trimmed_levels (append-nil (levels_above pack place.family place.sub_family ++ record { kind = kinds.Device; level = place.device.level } ∷ []))
    ∙ trimmed_bare (levels_above pack place.family place.sub_family) (record { kind = kinds.Device; level = place.device.level }) bare

-- ---- the set of levels

pub set_of_path : (pack : Pack) (place : DevicePlace) (variant : Option Variant) (pname : Option (List ℕ)) (set : SeqSet)
    → IsSetAlong pack place variant pname set → IsSetOf (path_of pack place variant) pname set
set_of_path pack place variant pname set s = record { winners = s.winners; greatest = s.greatest; entries = s.entries; debugvars = s.debugvars }

pub set_along_path : (pack : Pack) (place : DevicePlace) (variant : Option Variant) (pname : Option (List ℕ)) (set : SeqSet)
    → IsSetOf (path_of pack place variant) pname set → IsSetAlong pack place variant pname set
set_along_path pack place variant pname set s = record { winners = s.winners; greatest = s.greatest; entries = s.entries; debugvars = s.debugvars }

-- levels with the same candidates and the same debug variables have the same set
set_of_same : (ls ms : List LevelAt) (pname : Option (List ℕ)) (set : SeqSet) → candidates pname 0 ls ≡ candidates pname 0 ms → deepest [] ls ≡ deepest [] ms
    → IsSetOf ls pname set → IsSetOf ms pname set
set_of_same ls ms pname set p q s = record {
  winners = s.winners;
  greatest = subst (λ (cs : List Candidate). AreWinners cs s.winners) p s.greatest;
  entries = s.entries;
  debugvars = s.debugvars ∙ q;
}

numbered_of_same : (known : List KnownSet) (ls ms : List LevelAt) (pname : Option (List ℕ)) (n : ℕ) → candidates pname 0 ls ≡ candidates pname 0 ms → deepest [] ls ≡ deepest [] ms
    → IsKnownSetOf known ls pname n → IsKnownSetOf known ms pname n
numbered_of_same known ls ms pname n p q s = record { one = s.one; there = s.there; is = set_of_same ls ms pname s.one.set p q s.is }

pub to_trimmed : (r : PackRequest) (known : List KnownSet) (ls : List LevelAt) (sets : List PnameSet) → AreSetsOf r known ls sets → AreSetsOf r known (trimmed_levels ls) sets
to_trimmed r known ls sets are = record {
  pnames = are.pnames ∙ ap (processors_of r.pname) (sym (pnames_trimmed [] ls));
  each =
      All-weaker (λ (m : PnameSet). IsKnownSetOf known ls (pname_view m) m.number) (λ (m : PnameSet). IsKnownSetOf known (trimmed_levels ls) (pname_view m) m.number)
      (λ m is. numbered_of_same known ls (trimmed_levels ls) (pname_view m) m.number (sym (candidates_trimmed (pname_view m) 0 ls)) (sym (deepest_trimmed [] ls)) is) sets are.each;
}

pub from_trimmed : (r : PackRequest) (known : List KnownSet) (ls : List LevelAt) (sets : List PnameSet) → AreSetsOf r known (trimmed_levels ls) sets → AreSetsOf r known ls sets
from_trimmed r known ls sets are = record {
  pnames = are.pnames ∙ ap (processors_of r.pname) (pnames_trimmed [] ls);
  each =
      All-weaker (λ (m : PnameSet). IsKnownSetOf known (trimmed_levels ls) (pname_view m) m.number) (λ (m : PnameSet). IsKnownSetOf known ls (pname_view m) m.number)
      (λ m is. numbered_of_same known (trimmed_levels ls) ls (pname_view m) m.number (candidates_trimmed (pname_view m) 0 ls) (deepest_trimmed [] ls) is) sets are.each;
}

-- ---- more known sets

pub grown_itself : (known : List KnownSet) → Grown known known
grown_itself known = λ n k there. there

pub grown_then : (a b c : List KnownSet) → Grown a b → Grown b c → Grown a c
grown_then a b c p q = λ n k there. q n k (p n k there)

get_pushed : {A : Type 0} (xs : List A) (y : A) (n : ℕ) (x : A) → slice_get xs n ≡ Some x → slice_get (xs ++ y ∷ []) n ≡ Some x
get_pushed [] y n x e = absurd cc
get_pushed (z ∷ xs) y zero x e = e
get_pushed (z ∷ xs) y (suc n) x e = get_pushed xs y n x e

pub get_last : {A : Type 0} (xs : List A) (y : A) → slice_get (xs ++ y ∷ []) (length xs) ≡ Some y
get_last [] y = refl
get_last (z ∷ xs) y = get_last xs y

pub grown_push : (known : List KnownSet) (k : KnownSet) → Grown known (known ++ k ∷ [])
grown_push known k = λ n x there. get_pushed known k n x there

numbered_grown : (old new : List KnownSet) (ls : List LevelAt) (pname : Option (List ℕ)) (n : ℕ) → Grown old new → IsKnownSetOf old ls pname n → IsKnownSetOf new ls pname n
numbered_grown old new ls pname n grown s = record { one = s.one; there = grown n s.one s.there; is = s.is }

pub each_grown : (old new : List KnownSet) (ls : List LevelAt) (sets : List PnameSet) → Grown old new
    → All (λ (m : PnameSet). IsKnownSetOf old ls (pname_view m) m.number) sets → All (λ (m : PnameSet). IsKnownSetOf new ls (pname_view m) m.number) sets
each_grown old new ls sets grown all =
    All-weaker (λ (m : PnameSet). IsKnownSetOf old ls (pname_view m) m.number) (λ (m : PnameSet). IsKnownSetOf new ls (pname_view m) m.number)
    (λ m is. numbered_grown old new ls (pname_view m) m.number grown is) sets all

pub shared_grown : (r : PackRequest) (old new : List KnownSet) (ls : List LevelAt) (shared : Option (List PnameSet)) → Grown old new → AreShared r old ls shared → AreShared r new ls shared
shared_grown r old new ls None grown are = tt
shared_grown r old new ls (Some sets) grown are = record { pnames = are.pnames; each = each_grown old new ls sets grown are.each }

pub found_grown : (pack : Pack) (old new : List KnownSet) (sets : List SetRef) → Grown old new → All (HasNumberOfSet pack old) sets → All (HasNumberOfSet pack new) sets
found_grown pack old new sets grown all =
    All-weaker (HasNumberOfSet pack old) (HasNumberOfSet pack new) (λ s is. numbered_grown old new _ _ s.number grown is) sets all

-- an equal set stands among the known ones
drop_get : {A : Type 0} (xs : List A) (m i : ℕ) (x : A) → slice_get (drop m xs) i ≡ Some x → slice_get xs (m + i) ≡ Some x
drop_get xs zero i x e = let same : zero + i ≡ i = omega arith in rw same e
drop_get [] (suc m) i x e = absurd cc
drop_get (y ∷ xs) (suc m) i x e = let same : suc m + i ≡ suc (m + i) = omega arith in rw same (drop_get xs m i x e)

first_there : (set : SeqSet) (known : List KnownSet) (i : ℕ) → position (λ (k : KnownSet). same_set set k.set) known ≡ Some i
    → (k : KnownSet) × (slice_get known i ≡ Some k) × (same_set set k.set ≡ true)
first_there set [] i e = absurd cc
first_there set (k ∷ known) i e =
    let at = position-Some (λ (x : KnownSet). same_set set x.set) (k ∷ known) i k e in
    (get_or (k ∷ known) i k, slice_get-get_or (k ∷ known) i k at.0, at.1)

there_at : (set : SeqSet) (known : List KnownSet) (m n : ℕ) (found : Option ℕ) → position (λ (k : KnownSet). same_set set k.set) (drop m known) ≡ found
    → Some n ≡ option_map (λ place. m + place) found → IsThere set known n
there_at set known m n None is e = absurd cc
there_at set known m n (Some i) is e =
    let one = first_there set (drop m known) i is in
    let here : n ≡ m + i = same_Some n (m + i) e in
    record { one = one.0; there = subst (λ j. slice_get known j ≡ Some one.0) (sym here) (drop_get known m i one.0 one.1); is = sym (set_equal set one.0.set one.2) }

pub there_equal : (known slice : List KnownSet) (set : SeqSet) (n : ℕ) → slice ≡ known
    → Some n ≡ option_map (λ place. length slice - 8 + place) (position (λ (k : KnownSet). same_set set k.set) (drop (length slice - 8) slice)) → IsThere set known n
there_equal known slice set n same e =
    subst (λ (ks : List KnownSet). IsThere set ks n) same
    (there_at set slice (length slice - 8) n (position (λ (k : KnownSet). same_set set k.set) (drop (length slice - 8) slice)) refl e)

-- ---- the sets of a device and variant

views_of : (place : code.DevicePlace) (variant : Option (Bor Variant)) (each : List PnameSet)
    → map set_view (map (set_ref place variant) each) ≡ map (set_at (place_view place) (option_map (λ v. v.now) variant)) (map pname_view each)
views_of place variant [] = refl
views_of place variant (m ∷ each) = ap (λ ss. set_at (place_view place) (option_map (λ v. v.now) variant) (pname_view m) ∷ ss) (views_of place variant each)

-- the sets that were pushed are those of the definition
pub pushed_sets : (pack : Pack) (r : PackRequest) (known : List KnownSet) (place : code.DevicePlace) (variant : Option (Bor Variant)) (each : List PnameSet) (old new : List SetRef)
    → AreSetsOf r known (path_of pack (place_view place) (option_map (λ v. v.now) variant)) each → new ≡ old ++ map (set_ref place variant) each
    → map set_view new ≡ map set_view old ++ sets_at pack r (place_view place) (option_map (λ v. v.now) variant)
pushed_sets pack r known place variant each old new are e =
    ap (map set_view) e ∙ map-append set_view old (map (set_ref place variant) each) ∙ ap (λ ss. map set_view old ++ ss) (views_of place variant each)
    ∙ ap (λ ns. map set_view old ++ map (set_at (place_view place) (option_map (λ v. v.now) variant)) ns) are.pnames

pub pushed_found : (pack : Pack) (r : PackRequest) (known : List KnownSet) (place : code.DevicePlace) (variant : Option (Bor Variant)) (each : List PnameSet) (old new : List SetRef)
    → AreSetsOf r known (path_of pack (place_view place) (option_map (λ v. v.now) variant)) each → new ≡ old ++ map (set_ref place variant) each
    → All (HasNumberOfSet pack known) old → All (HasNumberOfSet pack known) new
pushed_found pack r known place variant each old new are e all =
    subst (λ (ss : List SetRef). All (HasNumberOfSet pack known) ss) (sym e)
    (All-append (HasNumberOfSet pack known) old (map (set_ref place variant) each) all (All-map (HasNumberOfSet pack known) (set_ref place variant) each are.each))

-- ---- as the code has it

pub if_ok : {T E : Type 0} (P Q : T → Type 0) (r : Result T E) → ((x : T) → P x → Q x) → IfOk r P → IfOk r Q
if_ok P Q (Ok x) f h = f x h
if_ok P Q (Err e) f h = tt

pub numbered_there : (pack : Pack) (place : DevicePlace) (variant : Option Variant) (pname : Option (List ℕ)) (set : SeqSet) (known : List KnownSet) (n : ℕ)
    → IsSetAlong pack place variant pname set → IsThere set known n → IsKnownSetOf known (path_of pack place variant) pname n
numbered_there pack place variant pname set known n along at = record {
  one = at.one;
  there = at.there;
  is = set_of_path pack place variant pname at.one.set (subst (λ (x : SeqSet). IsSetAlong pack place variant pname x) (sym at.is) along);
}

-- a set that was checked now, and its number
pub there_new : (old new : List KnownSet) (k : KnownSet) (set : SeqSet) (n : ℕ) → new ≡ old ++ k ∷ [] → n ≡ length old → k.set ≡ set → IsThere set new n
there_new old new k set n e size is = record {
  one = k;
  there = ap (λ (ks : List KnownSet). slice_get ks n) e ∙ ap (slice_get (old ++ k ∷ [])) size ∙ get_last old k;
  is = is;
}

pub grown_new : (old new : List KnownSet) (k : KnownSet) → new ≡ old ++ k ∷ [] → Grown old new
grown_new old new k e = subst (λ (ks : List KnownSet). Grown old ks) (sym e) (grown_push old k)

-- one more processor
pub each_more : (old new : List KnownSet) (path : List LevelAt) (sets : List PnameSet) (m : PnameSet) → Grown old new
    → All (λ (x : PnameSet). IsKnownSetOf old path (pname_view x) x.number) sets → IsKnownSetOf new path (pname_view m) m.number
    → All (λ (x : PnameSet). IsKnownSetOf new path (pname_view x) x.number) (sets ++ m ∷ [])
each_more old new path sets m grown all is =
    All-push (λ (x : PnameSet). IsKnownSetOf new path (pname_view x) x.number) sets m (each_grown old new path sets grown all) is

pub map_taken : {A B : Type 0} (f : A → B) (xs : List A) (i : ℕ) (x : A) → i < length xs → x ≡ get_or xs i x → map f (take (i + 1) xs) ≡ map f (take i xs) ++ f x ∷ []
map_taken f [] i x lt is = absurd (omega arith)
map_taken f (y ∷ xs) zero x lt is = ap (λ z. f z ∷ []) (sym is)
map_taken f (y ∷ xs) (suc i) x lt is =
    let e : suc i + 1 ≡ suc (i + 1) = omega arith in
    rw e (ap (λ ys. f y ∷ ys) (map_taken f xs i x (omega arith) is))
