-- The names of an object and the items of a list, beside what the code holds.
use Rattle.std.proofs.Common.{◌≡◌, ℕ, suc, length, IfSome, Bool, true, false, cond, ◌||◌, List, [], ◌∷◌, map, Option, Some, None, Bor, String, Global, string_bytes, bytes_eq, refl, ap, sym, subst, ◌∙◌, string_cmp, nat_cmp, Less}
use Rattle.std.specs.Ordering.{is_lt}
use Rattle.std.specs.Cmp.Lexicographic.{slice_cmp}
use Rattle.std.specs.List.Sorted.{IsStrictlySortedBy}
use Rattle.std.specs.List.{list_any, AllByRecursion}
use Rattle.serde_json.specs.View.{members_view, items_view}
use Rattle.serde_json.specs.declared.value.Value.{Value}
use Rattle.json_form.specs.Names.{names, is_among, lesser, least_unknown}
use Rattle.json_form.specs.Reading.{items_len}

pub is_among-map : (name : List ℕ) (known : List (Bor (List ℕ))) → is_among (map (λ k. k.now) known) name ≡ list_any (λ k. bytes_eq name k.now) known
is_among-map name [] = refl
is_among-map name (k ∷ known) = ap (λ b. bytes_eq name k.now || b) (is_among-map name known)

pub names-members_view : (es : List (String Global × Value)) → names (members_view es) ≡ map string_bytes (map (λ e. e.0) es)
names-members_view [] = refl
names-members_view (e ∷ es) = ap (λ ks. string_bytes e.0 ∷ ks) (names-members_view es)

pub ruleset naming = (is_among-map, names-members_view)

pub items_len-items_view : (vs : List Value) → items_len (items_view vs) ≡ length vs
items_len-items_view [] = refl
items_len-items_view (v ∷ vs) = ap suc (items_len-items_view vs)

pub ruleset counting = (items_len-items_view)

-- ---- the first unknown name of names that ascend is the least

abbrev Before : List ℕ → List ℕ → Type 0
Before name other = slice_cmp nat_cmp name other ≡ Less

lesser_of : (name other : List ℕ) → Before name other → lesser name (Some other) ≡ Some name
lesser_of name other before = rw before refl

-- what holds of each name holds of the lesser of two
lesser_keeps : (P : List ℕ → Type 0) (name : List ℕ) (o : Option (List ℕ)) → P name → IfSome o P → IfSome (lesser name o) P
lesser_keeps P name None here rest = here
lesser_keeps P name (Some other) here rest = either (is_lt (slice_cmp nat_cmp name other)) where
  either : (b : Bool) → P (cond b name other)
  either true = here
  either false = rest

cond_keeps : (P : List ℕ → Type 0) (b : Bool) (x y : Option (List ℕ)) → IfSome x P → IfSome y P → IfSome (cond b x y) P
cond_keeps P true x y here rest = here
cond_keeps P false x y here rest = rest

least_among : (P : List ℕ → Type 0) (known names : List (List ℕ)) → AllByRecursion P names → IfSome (least_unknown known names) P
least_among P known [] all = tt
least_among P known (name ∷ rest) all =
    cond_keeps P (is_among known name) (least_unknown known rest) (lesser name (least_unknown known rest)) (least_among P known rest all.1)
    (lesser_keeps P name (least_unknown known rest) all.0 (least_among P known rest all.1))

lesser_first : (name : List ℕ) (o : Option (List ℕ)) → IfSome o (Before name) → lesser name o ≡ Some name
lesser_first name None before = refl
lesser_first name (Some other) before = lesser_of name other before

pub least-first : (known : List (List ℕ)) (name : List ℕ) (rest : List (List ℕ)) → is_among known name ≡ false → AllByRecursion (Before name) rest → least_unknown known (name ∷ rest) ≡ Some name
least-first known name rest unknown before = rw unknown (lesser_first name (least_unknown known rest) (least_among (Before name) known rest before))

below_names : (k : String Global) (ks : List (String Global)) → AllByRecursion (λ y. string_cmp k y ≡ Less) ks → AllByRecursion (Before (string_bytes k)) (map string_bytes ks)
below_names k [] h = tt
below_names k (x ∷ ks) h = (h.0, below_names k ks h.1)

-- the names after the first are greater
pub ascending-first : (k : String Global) (ks : List (String Global)) → IsStrictlySortedBy string_cmp (k ∷ ks) → AllByRecursion (Before (string_bytes k)) (map string_bytes ks)
unfolding IsStrictlySortedBy
ascending-first k ks h = below_names k ks h.0

pub ascending-rest : (k : String Global) (ks : List (String Global)) → IsStrictlySortedBy string_cmp (k ∷ ks) → IsStrictlySortedBy string_cmp ks
unfolding IsStrictlySortedBy
ascending-rest k ks h = h.1

-- ---- one name further

-- an unknown name is the least of the names from it on
pub unknown_here : (known : List (List ℕ)) (ks left : List (String Global)) (k : String Global) (all : Option (List ℕ)) → ks ≡ k ∷ left
    → (least_unknown known (map string_bytes ks) ≡ all) × IsStrictlySortedBy string_cmp ks → is_among known (string_bytes k) ≡ false → Some (string_bytes k) ≡ all
unknown_here known ks left k all opened h unknown =
    let same : least_unknown known (map string_bytes (k ∷ left)) ≡ all = subst (λ (xs : List (String Global)). least_unknown known (map string_bytes xs) ≡ all) opened h.0 in
    let sorted : IsStrictlySortedBy string_cmp (k ∷ left) = subst (IsStrictlySortedBy string_cmp) opened h.1 in
    sym (least-first known (string_bytes k) (map string_bytes left) unknown (ascending-first k left sorted)) ∙ same

-- a known name is passed
pub known_here : (known : List (List ℕ)) (ks left : List (String Global)) (k : String Global) (all : Option (List ℕ)) → ks ≡ k ∷ left
    → (least_unknown known (map string_bytes ks) ≡ all) × IsStrictlySortedBy string_cmp ks → is_among known (string_bytes k) ≡ true
    → (least_unknown known (map string_bytes left) ≡ all) × IsStrictlySortedBy string_cmp left
known_here known ks left k all opened h is_known =
    let same : least_unknown known (map string_bytes (k ∷ left)) ≡ all = subst (λ (xs : List (String Global)). least_unknown known (map string_bytes xs) ≡ all) opened h.0 in
    let sorted : IsStrictlySortedBy string_cmp (k ∷ left) = subst (IsStrictlySortedBy string_cmp) opened h.1 in
    let passed : least_unknown known (map string_bytes (k ∷ left)) ≡ least_unknown known (map string_bytes left) = rw is_known refl in
    (sym passed ∙ same, ascending-rest k left sorted)
