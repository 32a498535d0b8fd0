-- Reading names a fault of the value: it never gives that memory was refused.
use Rattle.std.proofs.Common.{ℕ, Bool, true, false, cond, List, [], ◌∷◌, ◌++◌, length, Option, Some, None, Result, Ok, Err}
use Rattle.std.specs.Option.{option_map_or, ok_or}
use Rattle.serde_json.specs.Data.{Data, Items, no_items, item}
use Rattle.serde_json.specs.Find.{get, as_str, as_bool, as_number, as_u64, as_array, as_object}
use Rattle.std.specs.Str.{bytes_eq}
use Rattle.std.specs.Prelude.{nat_le, ◌&&◌}
use Rattle.dap_base.specs.Number.{number_value}
use Rattle.json_form.specs.declared.fault.JobFault.{JobFault}
use Rattle.json_form.specs.declared.fault.JobFault.TheVariants.{Missing, WrongKind, UnknownKey, Repeated, BadNumber, TooMany, OutOfMemory}
use Rattle.json_form.specs.declared.path.PathStep.{PathStep}
use Rattle.json_form.specs.declared.path.PathStep.TheVariants.{Key, Index}
use Rattle.json_form.specs.Faults.{at, fault_at, IsValueFault, IsDecided}
use Rattle.dap_base.specs.Outcome.{◌>>=◌}
use Rattle.json_form.specs.Names.{names, least_unknown}
use Rattle.json_form.specs.Reading.{text, flag, one_of_two, any_number, number, such, only_keys, required_value, some_of, optional, or_else, item_after, items_after, items_len, has_room, list_of, alone}

-- ---- steps of a reading

pub bind_decided : {A B : Type 0} (r : Result A JobFault) (next : A → Result B JobFault) → IsDecided r → ((x : A) → IsDecided (next x)) → IsDecided (r >>= next)
bind_decided (Ok x) next first rest = rest x
bind_decided (Err fault) next first rest = first

fault_at_decided : (step : PathStep) (fault : JobFault) → IsValueFault fault → IsValueFault (fault_at step fault)
fault_at_decided step (Missing path) h = tt
fault_at_decided step (WrongKind path) h = tt
fault_at_decided step (UnknownKey path) h = tt
fault_at_decided step (Repeated path) h = tt
fault_at_decided step (BadNumber path) h = tt
fault_at_decided step (TooMany path) h = tt
fault_at_decided step OutOfMemory h = h

pub at_decided : {A : Type 0} (step : PathStep) (r : Result A JobFault) → IsDecided r → IsDecided (at step r)
at_decided step (Ok x) h = tt
at_decided step (Err fault) h = fault_at_decided step fault h

pub cond_decided : {A : Type 0} (b : Bool) (x y : Result A JobFault) → IsDecided x → IsDecided y → IsDecided (cond b x y)
cond_decided true x y h k = h
cond_decided false x y h k = k

pub ok_or_decided : {A : Type 0} (o : Option A) (fault : JobFault) → IsValueFault fault → IsDecided (ok_or o fault)
ok_or_decided None fault h = h
ok_or_decided (Some x) fault h = tt

pub map_or_decided : {X A : Type 0} (f : X → Result A JobFault) (o : Option X) (other : Result A JobFault) → ((x : X) → IsDecided (f x)) → IsDecided other → IsDecided (option_map_or f o other)
map_or_decided f None other each rest = rest
map_or_decided f (Some x) other each rest = each x

-- ---- leaves

pub text_decided : (d : Data) → IsDecided (text d)
text_decided d = ok_or_decided (as_str d) (WrongKind []) tt

pub flag_decided : (d : Data) → IsDecided (flag d)
flag_decided d = ok_or_decided (as_bool d) (WrongKind []) tt

pub choice_decided : (first second : List ℕ) (d : Data) → IsDecided (one_of_two first second d)
unfolding one_of_two
choice_decided first second d =
    bind_decided (text d) _ (text_decided d) (λ word. cond_decided (bytes_eq word first) _ _ tt (cond_decided (bytes_eq word second) _ _ tt tt))

any_number_decided : (d : Data) → IsDecided (any_number d)
unfolding any_number
any_number_decided d =
    map_or_decided _ (as_number d) _ (λ n. ok_or_decided (as_u64 n) (BadNumber []) tt)
    (map_or_decided _ (as_str d) _ (λ s. ok_or_decided (number_value s) (BadNumber []) tt) tt)

pub number_decided : (low high : ℕ) (d : Data) → IsDecided (number low high d)
unfolding number
number_decided low high d = bind_decided (any_number d) _ (any_number_decided d) (λ n. cond_decided (nat_le low n && nat_le n high) _ _ tt tt)

pub such_decided : (passes : ℕ → Bool) (reads : Data → Result ℕ JobFault) → ((d : Data) → IsDecided (reads d)) → (d : Data) → IsDecided (such passes reads d)
unfolding such
such_decided passes reads law d = bind_decided (reads d) _ (law d) (λ n. cond_decided (passes n) _ _ tt tt)

-- ---- objects

pub only_keys_decided : (known : List (List ℕ)) (d : Data) → IsDecided (only_keys known d)
unfolding only_keys
only_keys_decided known d = map_or_decided _ (as_object d) _ (λ members. map_or_decided _ (least_unknown known (names members)) _ (λ name. tt) tt) tt

pub required_decided : {A : Type 0} (key : List ℕ) (reads : Data → Result A JobFault) → ((d : Data) → IsDecided (reads d)) → (d : Data) → IsDecided (required_value key reads d)
unfolding required_value
required_decided key reads law d = map_or_decided _ (get key d) _ (λ v. at_decided (Key key) (reads v) (law v)) tt

some_decided : {A : Type 0} (r : Result A JobFault) → IsDecided r → IsDecided (some_of r)
some_decided (Ok x) h = tt
some_decided (Err fault) h = h

pub optional_decided : {A : Type 0} (key : List ℕ) (reads : Data → Result A JobFault) → ((d : Data) → IsDecided (reads d)) → (d : Data) → IsDecided (optional key reads d)
unfolding optional
optional_decided key reads law d = map_or_decided _ (get key d) _ (λ v. some_decided (at (Key key) (reads v)) (at_decided (Key key) (reads v) (law v))) tt

pub or_else_decided : {A : Type 0} (key : List ℕ) (reads : Data → Result A JobFault) (other : A) → ((d : Data) → IsDecided (reads d)) → (d : Data) → IsDecided (or_else key reads other d)
unfolding or_else
or_else_decided key reads other law d = map_or_decided _ (get key d) _ (λ v. at_decided (Key key) (reads v) (law v)) tt

-- ---- lists

pub item_decided : {A : Type 0} (reads : List A → Data → Result A JobFault) (repeats : List A → A → Bool) → ((earlier : List A) (d : Data) → IsDecided (reads earlier d)) → (earlier : List A) (d : Data) → IsDecided (item_after reads repeats earlier d)
item_decided reads repeats law earlier d =
    bind_decided (at (Index (length earlier)) (reads earlier d)) _ (at_decided (Index (length earlier)) (reads earlier d) (law earlier d)) (λ x. cond_decided (repeats earlier x) _ _ tt tt)

items_decided : {A : Type 0} (reads : List A → Data → Result A JobFault) (repeats : List A → A → Bool) → ((earlier : List A) (d : Data) → IsDecided (reads earlier d)) → (earlier : List A) (ds : Items) → IsDecided (items_after reads repeats earlier ds)
unfolding items_after
items_decided reads repeats law earlier no_items = tt
items_decided reads repeats law earlier (item d ds) =
    bind_decided (item_after reads repeats earlier d) _ (item_decided reads repeats law earlier d) (λ x. items_decided reads repeats law (earlier ++ x ∷ []) ds)

pub list_decided : {A : Type 0} (limit : Option ℕ) (reads : List A → Data → Result A JobFault) (repeats : List A → A → Bool) → ((earlier : List A) (d : Data) → IsDecided (reads earlier d)) → (d : Data) → IsDecided (list_of limit reads repeats d)
unfolding list_of
list_decided limit reads repeats law d =
    map_or_decided _ (as_array d) _ (λ items. cond_decided (has_room limit (items_len items)) _ _ (items_decided reads repeats law [] items) tt) tt
