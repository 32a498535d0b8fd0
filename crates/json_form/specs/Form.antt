-- Which JSON value stands for which value, said apart from any order of reading.
use Rattle.std.specs.Prelude.{◌≡◌, ℕ, ◌≤◌, ◌⊎◌, Bool, true, false, List, [], ◌∷◌, ◌++◌, Option, Some, None, ⊤}
use Rattle.serde_json.specs.Data.{Data, boolean, number, string, array, object, unsigned, Items, no_items, item, Members, no_members, member}
use Rattle.serde_json.specs.Find.{get}
use Rattle.dap_base.specs.Number.{number_value}
use Rattle.json_form.specs.Names.{is_among}
use Rattle.json_form.specs.Reading.{items_len, has_room}

-- the value is this JSON text
abbrev pub IsText : Data → List ℕ → Type 0
IsText d t = d ≡ string t

-- the value is `true` or `false`, as the flag says
abbrev pub IsFlag : Data → Bool → Type 0
IsFlag d b = d ≡ boolean b

-- the first text for `false`, the second for `true`
abbrev pub IsChoice : List ℕ → List ℕ → Data → Bool → Type 0
IsChoice first second d b = ((d ≡ string first) × (b ≡ false)) ⊎ ((d ≡ string second) × (b ≡ true))

-- a JSON number, or the text of a number token
abbrev pub IsAnyNumber : Data → ℕ → Type 0
IsAnyNumber d n = (d ≡ number (unsigned n)) ⊎ ((s : List ℕ) × (d ≡ string s) × (number_value s ≡ Some n))

-- the value is this number, which lies in the range, both ends included
abbrev pub IsNumber : ℕ → ℕ → Data → ℕ → Type 0
IsNumber low high d n = IsAnyNumber d n × (low ≤ n) × (n ≤ high)

-- the value stands for the number, and the number passes a further condition
abbrev pub Such : (ℕ → Bool) → (Data → ℕ → Type 0) → Data → ℕ → Type 0
Such passes R d n = R d n × (passes n ≡ true)

-- ---- objects

-- each name is one of these
abbrev pub NamesAmong : List (List ℕ) → Members → Type 0
NamesAmong known no_members = ⊤
NamesAmong known (member name d rest) = (is_among known name ≡ true) × NamesAmong known rest

-- the value is an object that has no keys other than these
abbrev pub HasOnly : List (List ℕ) → Data → Type 0
HasOnly known d = (members : Members) × (d ≡ object members) × NamesAmong known members

-- the object has the key, and its value stands for this
abbrev pub Has : {A : Type 0} → List ℕ → (Data → A → Type 0) → Data → A → Type 0
Has key R d x = (v : Data) × (get key d ≡ Some v) × R v x

-- the value of the key stands for this; without the key this is the default
abbrev pub HasOr : {A : Type 0} → List ℕ → (Data → A → Type 0) → A → Data → A → Type 0
HasOr key R other d x = Has key R d x ⊎ ((get key d ≡ None) × (x ≡ other))

-- the value of the key stands for this; without the key there is none
abbrev pub MayHave : {A : Type 0} → List ℕ → (Data → A → Type 0) → Data → Option A → Type 0
MayHave {A} key R d o = ((x : A) × (o ≡ Some x) × Has key R d x) ⊎ ((get key d ≡ None) × (o ≡ None))

-- the member is absent, or a text that is not kept
abbrev pub MayHaveText : List ℕ → Data → Type 0
MayHaveText key d = (note : Option (List ℕ)) × MayHave key IsText d note

-- ---- lists

-- the items in order, where none is the same as one before it
abbrev pub EachItem : {A : Type 0} → (List A → Data → A → Type 0) → (List A → A → Bool) → List A → Items → List A → Type 0
EachItem R repeats earlier no_items xs = xs ≡ earlier
EachItem {A} R repeats earlier (item d rest) xs = (x : A) × R earlier d x × (repeats earlier x ≡ false) × EachItem R repeats (earlier ++ x ∷ []) rest xs

-- the value is a list within its limit whose items stand for these, and no item repeats an earlier one
abbrev pub IsListOf : {A : Type 0} → Option ℕ → (List A → Data → A → Type 0) → (List A → A → Bool) → Data → List A → Type 0
IsListOf limit R repeats d xs = (items : Items) × (d ≡ array items) × (has_room limit (items_len items) ≡ true) × EachItem R repeats [] items xs

-- an item that stands for a value whatever came before it
abbrev pub Alone : {A : Type 0} → (Data → A → Type 0) → List A → Data → A → Type 0
Alone R earlier d x = R d x
