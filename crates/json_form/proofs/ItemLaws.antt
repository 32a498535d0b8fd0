-- What holds of the items of a list that a value stands for.
use Rattle.std.proofs.Common.{◌≡◌, ℕ, zero, suc, ◌+◌, ◌≤◌, Bool, false, List, [], ◌∷◌, ◌++◌, length, Option, Some, ap, sym, subst, ◌∙◌, arith, length-append}
use Rattle.std.proofs.lemmas.Bool.{leb-true, or_parts}
use Rattle.std.proofs.lemmas.List.Quantifiers.{all_pairs_push}
use Rattle.std.specs.List.{All, AllPairs, list_any}
use Rattle.serde_json.specs.Data.{Data, Items, no_items, item}
use Rattle.json_form.specs.Reading.{items_len}
use Rattle.json_form.specs.Form.{EachItem, IsListOf}

-- ---- tests of items

-- no item passes
pub none_at : {A : Type 0} (p : A → Bool) (xs : List A) → list_any p xs ≡ false → All (λ x. p x ≡ false) xs
none_at p [] none k d lt = absurd (omega arith)
none_at p (x ∷ xs) none zero d lt = (or_parts (p x) (list_any p xs) none).0
none_at p (x ∷ xs) none (suc k) d lt = none_at p xs (or_parts (p x) (list_any p xs) none).1 k d (omega arith)

pub all_push : {A : Type 0} (P : A → Type 0) (xs : List A) (x : A) → All P xs → P x → All P (xs ++ x ∷ [])
all_push P [] x all here zero d lt = here
all_push P [] x all here (suc k) d lt = absurd (omega arith)
all_push P (y ∷ xs) x all here zero d lt = all zero d (omega arith)
all_push P (y ∷ xs) x all here (suc k) d lt = all_push P xs x (λ j e h. all (suc j) e (omega arith)) here k d (omega arith)

-- ---- items one after another

-- what each item meets, holds of all
pub each_holds : {A : Type 0} (R : List A → Data → A → Type 0) (repeats : List A → A → Bool) (P : A → Type 0) (earlier : List A) (ds : Items) (xs : List A)
    → ((before : List A) (d : Data) (x : A) → R before d x → repeats before x ≡ false → P x) → All P earlier → EachItem R repeats earlier ds xs → All P xs
each_holds R repeats P earlier no_items xs law all each = subst (All P) (sym each) all
each_holds R repeats P earlier (item d ds) xs law all each =
    each_holds R repeats P (earlier ++ each.0 ∷ []) ds xs law (all_push P earlier each.0 all (law earlier d each.0 each.1 each.2)) each.3

-- what each item meets with each earlier one, holds of all pairs
pub each_pairs : {A : Type 0} (R : List A → Data → A → Type 0) (repeats : List A → A → Bool) (P : A → A → Type 0) (earlier : List A) (ds : Items) (xs : List A)
    → ((before : List A) (x : A) → repeats before x ≡ false → All (λ other. P other x) before) → AllPairs P earlier → EachItem R repeats earlier ds xs → AllPairs P xs
each_pairs R repeats P earlier no_items xs law all each = subst (AllPairs P) (sym each) all
each_pairs R repeats P earlier (item d ds) xs law all each =
    each_pairs R repeats P (earlier ++ each.0 ∷ []) ds xs law (all_pairs_push P earlier each.0 all (law earlier each.0 each.2)) each.3

-- there are as many items as values
pub each_length : {A : Type 0} (R : List A → Data → A → Type 0) (repeats : List A → A → Bool) (earlier : List A) (ds : Items) (xs : List A)
    → EachItem R repeats earlier ds xs → length xs ≡ length earlier + items_len ds
each_length R repeats earlier no_items xs each = ap length each ∙ omega arith
each_length R repeats earlier (item d ds) xs each =
    let rest = each_length R repeats (earlier ++ each.0 ∷ []) ds xs each.3 in
    let grown : length (earlier ++ each.0 ∷ []) ≡ length earlier + 1 = length-append earlier (each.0 ∷ []) in
    omega (arith, rest, grown)

-- ---- whole lists

none_pairs : {A : Type 0} (P : A → A → Type 0) → AllPairs P []
none_pairs P i j d lt below = absurd (omega arith)

none_all : {A : Type 0} (P : A → Type 0) → All P []
none_all P k d lt = absurd (omega arith)

pub list_holds : {A : Type 0} (limit : Option ℕ) (R : List A → Data → A → Type 0) (repeats : List A → A → Bool) (P : A → Type 0) (d : Data) (xs : List A)
    → ((before : List A) (d : Data) (x : A) → R before d x → repeats before x ≡ false → P x) → IsListOf limit R repeats d xs → All P xs
list_holds limit R repeats P d xs law is = each_holds R repeats P [] is.0 xs law (none_all P) is.3

pub list_pairs : {A : Type 0} (limit : Option ℕ) (R : List A → Data → A → Type 0) (repeats : List A → A → Bool) (P : A → A → Type 0) (d : Data) (xs : List A)
    → ((before : List A) (x : A) → repeats before x ≡ false → All (λ other. P other x) before) → IsListOf limit R repeats d xs → AllPairs P xs
list_pairs limit R repeats P d xs law is = each_pairs R repeats P [] is.0 xs law (none_pairs P) is.3

pub list_length : {A : Type 0} (limit : ℕ) (R : List A → Data → A → Type 0) (repeats : List A → A → Bool) (d : Data) (xs : List A) → IsListOf (Some limit) R repeats d xs → length xs ≤ limit
list_length limit R repeats d xs is = omega (arith, leb-true (items_len is.0) limit is.2, each_length R repeats [] is.0 xs is.3)
