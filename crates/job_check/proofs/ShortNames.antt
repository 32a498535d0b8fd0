-- The names of the sequences of a set are texts, with no more bytes than the job.
use Rattle.std.proofs.Common.{◌≡◌, inl, inr, ℕ, Bool, true, false, cond, List, [], ◌∷◌, ◌++◌, map, Option, Some, None, option_map, codes, ◌+◌, bytes_eq, sym, subst}
use Rattle.std.specs.Prelude.{IfSome, filter, find}
use Rattle.std.specs.List.{AllByRecursion}
use Rattle.serde_json.specs.Data.{Data, Items, no_items, item}
use Rattle.serde_json.specs.Find.{get}
use Rattle.json_form.specs.Reading.{never, repeats_by}
use Rattle.json_form.specs.Form.{IsText, Has, HasOr, MayHave, EachItem, IsListOf, Alone}
use Rattle.device_tree.specs.declared.pack.SeqText.{SeqText}
use Rattle.device_tree.specs.declared.pack.Level.{Level}
use Rattle.device_tree.specs.declared.pack.Variant.{Variant}
use Rattle.device_tree.specs.declared.pack.Device.{Device}
use Rattle.device_tree.specs.declared.pack.SubFamily.{SubFamily}
use Rattle.device_tree.specs.declared.pack.Family.{Family}
use Rattle.device_tree.specs.declared.pack.Pack.{Pack}
use Rattle.device_tree.specs.Same.{same_sequence, same_variant}
use Rattle.device_tree.specs.PackForm.{IsSequence, HasLevel, IsDefaults, IsVariant, IsDevice, IsSubFamily, IsFamily, IsPack}
use Rattle.sequence_resolve.specs.declared.entry.LevelKind.{LevelKind}
use Rattle.sequence_resolve.specs.declared.entry.SeqEntry.{SeqEntry}
use Rattle.sequence_resolve.specs.declared.entry.SeqSet.{SeqSet}
use Rattle.sequence_resolve.specs.Places.{DevicePlace, places_of, places_in_subs, places_in, is_named, requested_variant}
use Rattle.sequence_resolve.specs.Levels.{LevelAt, one, levels_if_some, path_of}
use Rattle.sequence_resolve.specs.declared.entry.LevelKind.TheVariants as kinds
use Rattle.sequence_resolve.specs.Effective.{Candidate, counts_for, candidates_at, candidates, Wins, entry_of}
use Rattle.sequence_resolve.specs.Resolving.{IsEffectiveSet}
use Rattle.json_form.specs.Short.{IsShort, AreShort, ItemsShort}
use Rattle.json_form.proofs.TextValues.{get_short}

-- ---- lists

all_append : {A : Type 0} (P : A → Type 0) (xs ys : List A) → AllByRecursion P xs → AllByRecursion P ys → AllByRecursion P (xs ++ ys)
all_append P [] ys a b = b
all_append P (x ∷ xs) ys a b = (a.0, all_append P xs ys a.1 b)

all_middle : {A : Type 0} (P : A → Type 0) (xs : List A) (y : A) (ys : List A) → AllByRecursion P (xs ++ y ∷ ys) → P y
all_middle P [] y ys a = a.0
all_middle P (x ∷ xs) y ys a = all_middle P xs y ys a.1

all_mapped : {A B : Type 0} (P : A → Type 0) (Q : B → Type 0) (f : A → B) → ((x : A) → P x → Q (f x)) → (xs : List A) → AllByRecursion P xs → AllByRecursion Q (map f xs)
all_mapped P Q f to [] a = tt
all_mapped P Q f to (x ∷ xs) a = (to x a.0, all_mapped P Q f to xs a.1)

all_cond : {A : Type 0} (P : A → Type 0) (b : Bool) (x : A) (xs : List A) → P x → AllByRecursion P xs → AllByRecursion P (cond b (x ∷ xs) xs)
all_cond P true x xs p a = (p, a)
all_cond P false x xs p a = a

all_filtered : {A : Type 0} (P : A → Type 0) (f : A → Bool) (xs : List A) → AllByRecursion P xs → AllByRecursion P (filter f xs)
all_filtered P f [] a = tt
all_filtered P f (x ∷ xs) a = all_cond P (f x) x (filter f xs) a.0 (all_filtered P f xs a.1)

found_by : {A : Type 0} (P : A → Type 0) (b : Bool) (x : A) (rest : Option A) → P x → IfSome rest P → IfSome (cond b (Some x) rest) P
found_by P true x rest p q = p
found_by P false x rest p q = q

all_found : {A : Type 0} (P : A → Type 0) (f : A → Bool) (xs : List A) → AllByRecursion P xs → IfSome (find f xs) P
all_found P f [] a = tt
all_found P f (x ∷ xs) a = found_by P (f x) x (find f xs) a.0 (all_found P f xs a.1)

some_is : {A : Type 0} (P : A → Type 0) (o : Option A) (x : A) → o ≡ Some x → IfSome o P → P x
some_is P None x e p = absurd cc
some_is P (Some y) x e p = (let same : y ≡ x = cc in subst P same p)

module _ (n : ℕ) where
  -- ---- members and items

  pub has_short : {A : Type 0} (key : List ℕ) (R : Data → A → Type 0) (P : A → Type 0) → ((v : Data) (x : A) → AreShort n v → R v x → P x) → (d : Data) (x : A) → AreShort n d → Has key R d x → P x
  has_short key R P each d x all h = each h.0 x (some_is (AreShort n) (get key d) h.0 h.1 (get_short n key d all)) h.2

  or_short : {A : Type 0} (key : List ℕ) (R : Data → A → Type 0) (P : A → Type 0) (other : A) → P other → ((v : Data) (x : A) → AreShort n v → R v x → P x) → (d : Data) (x : A) → AreShort n d → HasOr key R other d x → P x
  or_short key R P other p each d x all (inl h) = has_short key R P each d x all h
  or_short key R P other p each d x all (inr h) = subst P (sym h.1) p

  may_short : {A : Type 0} (key : List ℕ) (R : Data → A → Type 0) (P : A → Type 0) → ((v : Data) (x : A) → AreShort n v → R v x → P x) → (d : Data) (o : Option A) → AreShort n d → MayHave key R d o → IfSome o P
  may_short key R P each d o all (inl h) = subst (λ o. IfSome o P) (sym h.1) (has_short key R P each d h.0 all h.2)
  may_short key R P each d o all (inr h) = subst (λ o. IfSome o P) (sym h.1) tt

  items_short : {A : Type 0} (R : List A → Data → A → Type 0) (repeats : List A → A → Bool) (P : A → Type 0) → ((earlier : List A) (v : Data) (x : A) → AreShort n v → R earlier v x → P x)
      → (earlier : List A) (ds : Items) (xs : List A) → ItemsShort n ds → AllByRecursion P earlier → EachItem R repeats earlier ds xs → AllByRecursion P xs
  items_short R repeats P each earlier no_items xs all done h = subst (AllByRecursion P) (sym h) done
  items_short R repeats P each earlier (item d ds) xs all done h =
      items_short R repeats P each (earlier ++ h.0 ∷ []) ds xs all.1 (all_append P earlier (h.0 ∷ []) done (each earlier d h.0 all.0 h.1, tt)) h.3

  list_short : {A : Type 0} (limit : Option ℕ) (R : List A → Data → A → Type 0) (repeats : List A → A → Bool) (P : A → Type 0) → ((earlier : List A) (v : Data) (x : A) → AreShort n v → R earlier v x → P x)
      → (d : Data) (xs : List A) → AreShort n d → IsListOf limit R repeats d xs → AllByRecursion P xs
  list_short limit R repeats P each d xs all h = items_short R repeats P each [] h.0 xs (subst (AreShort n) h.1 all) tt h.3

  -- ---- packs

  abbrev LevelShort : Level → Type 0
  LevelShort l = AllByRecursion (λ (s : SeqText). IsShort n s.name) l.sequences

  abbrev VariantShort : Variant → Type 0
  VariantShort v = LevelShort v.level

  abbrev DeviceShort : Device → Type 0
  DeviceShort d = LevelShort d.level × AllByRecursion VariantShort d.variants

  abbrev SubShort : SubFamily → Type 0
  SubShort s = LevelShort s.level × AllByRecursion DeviceShort s.devices

  abbrev FamilyShort : Family → Type 0
  FamilyShort f = LevelShort f.level × AllByRecursion SubShort f.sub_families × AllByRecursion DeviceShort f.devices

  abbrev pub PackShort : Pack → Type 0
  PackShort p = IfSome p.defaults LevelShort × AllByRecursion FamilyShort p.families

  text_short : (v : Data) (t : List ℕ) → AreShort n v → IsText v t → IsShort n t
  text_short v t all is = subst (AreShort n) is all

  sequence_short : (earlier : List SeqText) (d : Data) (s : SeqText) → AreShort n d → IsSequence d s → IsShort n s.name
  sequence_short earlier d s all is = has_short (codes "name") IsText (IsShort n) text_short d s.name all is.name

  level_short : (d : Data) (l : Level) → AreShort n d → HasLevel d l → LevelShort l
  level_short d l all is =
      or_short (codes "sequences") (IsListOf None (Alone IsSequence) (repeats_by same_sequence)) (AllByRecursion (λ (s : SeqText). IsShort n s.name)) [] tt
      (λ v xs short h. list_short None (Alone IsSequence) (repeats_by same_sequence) (λ (s : SeqText). IsShort n s.name) sequence_short v xs short h) d l.sequences all is.sequences

  variant_short : (earlier : List Variant) (d : Data) (v : Variant) → AreShort n d → IsVariant d v → VariantShort v
  variant_short earlier d v all is = level_short d v.level all is.level

  device_short : (earlier : List Device) (d : Data) (x : Device) → AreShort n d → IsDevice d x → DeviceShort x
  device_short earlier d x all is = (
    level_short d x.level all is.level,
    or_short (codes "variants") (IsListOf None (Alone IsVariant) (repeats_by same_variant)) (AllByRecursion VariantShort) [] tt
        (λ v xs short h. list_short None (Alone IsVariant) (repeats_by same_variant) VariantShort variant_short v xs short h) d x.variants all is.variants,
  )

  devices_short : (d : Data) (xs : List Device) → AreShort n d → HasOr (codes "devices") (IsListOf None (Alone IsDevice) never) [] d xs → AllByRecursion DeviceShort xs
  devices_short d xs all h =
      or_short (codes "devices") (IsListOf None (Alone IsDevice) never) (AllByRecursion DeviceShort) [] tt (λ v ys short g. list_short None (Alone IsDevice) never DeviceShort device_short v ys short g) d xs all h

  sub_short : (earlier : List SubFamily) (d : Data) (s : SubFamily) → AreShort n d → IsSubFamily d s → SubShort s
  sub_short earlier d s all is = (level_short d s.level all is.level, devices_short d s.devices all is.devices)

  family_short : (earlier : List Family) (d : Data) (f : Family) → AreShort n d → IsFamily d f → FamilyShort f
  family_short earlier d f all is = (
    level_short d f.level all is.level,
    or_short (codes "subFamilies") (IsListOf None (Alone IsSubFamily) never) (AllByRecursion SubShort) [] tt (λ v xs short h. list_short None (Alone IsSubFamily) never SubShort sub_short v xs short h) d f.sub_families all
        is.sub_families,
    devices_short d f.devices all is.devices,
  )

  pub pack_short : (d : Data) (p : Pack) → AreShort n d → IsPack d p → PackShort p
  pack_short d p all is = (
    may_short (codes "defaults") IsDefaults LevelShort (λ v l short h. level_short v l short h.level) d p.defaults all is.top,
    has_short (codes "families") (IsListOf None (Alone IsFamily) never) (AllByRecursion FamilyShort) (λ v xs short h. list_short None (Alone IsFamily) never FamilyShort family_short v xs short h) d p.families all is.families,
  )

  -- ---- the set of a device

  record PlaceShort (place : DevicePlace) : Type 0 where
    family : LevelShort place.family.level
    sub : IfSome place.sub_family (λ (s : SubFamily). LevelShort s.level)
    device : DeviceShort place.device

  of_devices : (f : Family) (sub : Option SubFamily) → LevelShort f.level → IfSome sub (λ (s : SubFamily). LevelShort s.level) → (ds : List Device) → AllByRecursion DeviceShort ds → AllByRecursion PlaceShort (places_of f sub ds)
  of_devices f sub p q [] all = tt
  of_devices f sub p q (d ∷ ds) all = (record { family = p; sub = q; device = all.0 }, of_devices f sub p q ds all.1)

  in_subs : (f : Family) → LevelShort f.level → (ss : List SubFamily) → AllByRecursion SubShort ss → AllByRecursion PlaceShort (places_in_subs f ss)
  in_subs f p [] all = tt
  in_subs f p (s ∷ ss) all = all_append PlaceShort (places_of f (Some s) s.devices) (places_in_subs f ss) (of_devices f (Some s) p all.0.0 s.devices all.0.1) (in_subs f p ss all.1)

  in_families : (fs : List Family) → AllByRecursion FamilyShort fs → AllByRecursion PlaceShort (places_in fs)
  in_families [] all = tt
  in_families (f ∷ fs) all =
      all_append PlaceShort (places_in_subs f f.sub_families ++ places_of f None f.devices) (places_in fs)
      (all_append PlaceShort (places_in_subs f f.sub_families) (places_of f None f.devices) (in_subs f all.0.0 f.sub_families all.0.1) (of_devices f None all.0.0 tt f.devices all.0.2)) (in_families fs all.1)

  variant_there : (name : Option (List ℕ)) (d : Device) → DeviceShort d → (v : Option Variant) → requested_variant name d ≡ Some v → IfSome v VariantShort
  variant_there None d all v is = (let same : None ≡ v = some_same None v is in subst (λ (o : Option Variant). IfSome o VariantShort) same tt) where
    some_same : (a b : Option Variant) → Some a ≡ Some b → a ≡ b
    some_same a b e = cc
  variant_there (Some name) d all v is = by_found (find (λ v. bytes_eq name v.name) d.variants) (all_found VariantShort (λ v. bytes_eq name v.name) d.variants all.1) is where
    by_found : (o : Option Variant) → IfSome o VariantShort → option_map (λ w. Some w) o ≡ Some v → IfSome v VariantShort
    by_found None p e = absurd cc
    by_found (Some w) p e = (let same : Some w ≡ v = cc in subst (λ (o : Option Variant). IfSome o VariantShort) same p)

  abbrev AtShort : LevelAt → Type 0
  AtShort l = LevelShort l.level

  levels_there : {A : Type 0} (P : A → Type 0) (f : A → List LevelAt) → ((x : A) → P x → AllByRecursion AtShort (f x)) → (o : Option A) → IfSome o P → AllByRecursion AtShort (levels_if_some f o)
  levels_there P f to None p = tt
  levels_there P f to (Some x) p = to x p

  path_short : (pack : Pack) (place : DevicePlace) (v : Option Variant) → PackShort pack → PlaceShort place → IfSome v VariantShort → AllByRecursion AtShort (path_of pack place v)
  path_short pack place v p q r =
      all_append AtShort _ (levels_if_some (λ v. one kinds.Variant v.level) v)
      (all_append AtShort _ (one kinds.Device place.device.level)
      (all_append AtShort _ (levels_if_some (λ s. one kinds.SubFamily s.level) place.sub_family)
      (all_append AtShort (levels_if_some (one kinds.Defaults) pack.defaults) (one kinds.Family place.family.level) (levels_there LevelShort (one kinds.Defaults) (λ l is. (is, tt)) pack.defaults p.0) (q.family, tt))
      (levels_there (λ (s : SubFamily). LevelShort s.level) (λ s. one kinds.SubFamily s.level) (λ s is. (is, tt)) place.sub_family q.sub)) (q.device.0, tt))
      (levels_there VariantShort (λ v. one kinds.Variant v.level) (λ w is. (is, tt)) v r)

  abbrev CandidateShort : Candidate → Type 0
  CandidateShort c = IsShort n c.sequence.name

  at_level : (requested : Option (List ℕ)) (kind : LevelKind) (depth : ℕ) (ss : List SeqText) → AllByRecursion (λ (s : SeqText). IsShort n s.name) ss → AllByRecursion CandidateShort (candidates_at requested kind depth ss)
  at_level requested kind depth [] all = tt
  at_level requested kind depth (s ∷ ss) all = all_cond CandidateShort (counts_for requested s.pname) _ (candidates_at requested kind depth ss) all.0 (at_level requested kind depth ss all.1)

  candidates_short : (requested : Option (List ℕ)) (depth : ℕ) (ls : List LevelAt) → AllByRecursion AtShort ls → AllByRecursion CandidateShort (candidates requested depth ls)
  candidates_short requested depth [] all = tt
  candidates_short requested depth (l ∷ ls) all =
      all_append CandidateShort (candidates_at requested l.kind depth l.level.sequences) _ (at_level requested l.kind depth l.level.sequences all.0) (candidates_short requested (depth + 1) ls all.1)

  winners_short : (cs ws : List Candidate) → AllByRecursion CandidateShort cs → AllByRecursion (Wins cs) ws → AllByRecursion CandidateShort ws
  winners_short cs [] all each = tt
  winners_short cs (w ∷ ws) all each = (all_middle CandidateShort each.0.before w each.0.after (subst (AllByRecursion CandidateShort) each.0.candidate all), winners_short cs ws all each.1)

  abbrev pub EntriesShort : List SeqEntry → Type 0
  EntriesShort es = AllByRecursion (λ (e : SeqEntry). IsShort n e.name) es

  pub set_short : (pack : Pack) (device : List ℕ) (variant pname : Option (List ℕ)) (set : SeqSet) → PackShort pack → IsEffectiveSet pack device variant pname set → EntriesShort set.entries
  set_short pack device variant pname set all is =
      let places = all_filtered PlaceShort (is_named device) (places_in pack.families) (in_families pack.families all.1) in
      let place : PlaceShort is.place = (subst (AllByRecursion PlaceShort) is.only places).0 in
      let path = path_short pack is.place is.variant all place (variant_there variant is.place.device place.device is.variant is.requested) in
      let winners = winners_short (candidates pname 0 (path_of pack is.place is.variant)) is.winners (candidates_short pname 0 (path_of pack is.place is.variant) path) is.greatest.each in
      subst EntriesShort (sym is.entries) (all_mapped CandidateShort (λ (e : SeqEntry). IsShort n e.name) entry_of (λ c short. short) is.winners winners)
