-- The names that still have a value after all statements are those that are not declared.
use Rattle.std.proofs.Common.{◌≡◌, ℕ, Bool, true, false, cond, ◌||◌, List, [], ◌∷◌, ◌++◌, Option, Some, None, is_some, refl, sym, ap, ◌∙◌, append_assoc}
use Rattle.std.specs.Str.{bytes_eq}
use Rattle.std.specs.Cmp.Lexicographic.{bytes_decides}
use Rattle.dap_base.specs.declared.text.Place.{Place}
use Rattle.expr_grammar.specs.Lexeme.{Lexeme}
use Rattle.dbgconf_text.specs.declared.conf.ConfItem.{ConfItem}
use Rattle.dbgconf_text.specs.Cuts.{value_of}
use Rattle.dbgconf_text.specs.Conf.{has_item}
use Rattle.dbgconf_text.specs.Replacing.{declares, settings_of, undefined_name}
use Rattle.dbgconf_text.specs.Splicing.{first_left, pending}

some_by : (b : Bool) (v : ℕ) (o : Option ℕ) → is_some (cond b (Some v) o) ≡ (b || is_some o)
some_by true v o = refl
some_by false v o = refl

-- a name has a value where it is one of the list
value_some : (conf : List ConfItem) (name : List ℕ) → is_some (value_of name (settings_of conf)) ≡ has_item conf name
value_some [] name = refl
value_some (item ∷ more) name =
    some_by (bytes_eq item.name.text name) item.value (value_of name (settings_of more)) ∙ ap (λ (b : Bool). bytes_eq item.name.text name || b) (value_some more name)

has_own : (before : List ConfItem) (item : ConfItem) (more : List ConfItem) → has_item (before ++ item ∷ more) item.name.text ≡ true
has_own [] item more = let same : bytes_eq item.name.text item.name.text ≡ true = (bytes_decides item.name.text item.name.text).1 refl in rw same refl
has_own (b ∷ before) item more = either (bytes_eq b.name.text item.name.text) (has_item (before ++ item ∷ more) item.name.text) (has_own before item more) where
  either : (x y : Bool) → y ≡ true → (x || y) ≡ true
  either true y e = refl
  either false y e = e

one_by : (declared : Bool) (value : Option ℕ) (at : Place) (x y : Option Place) → is_some value ≡ true → x ≡ y → cond (is_some (cond declared None value)) (Some at) x ≡ cond declared y (Some at)
one_by true value at x y some e = e
one_by false value at x y some e = rw some refl

go_on : (before conf : List ConfItem) (whole : List ConfItem) (ts : List Lexeme) (value : List ℕ → Option ℕ) → whole ≡ before ++ conf → ((name : List ℕ) → value name ≡ pending (settings_of whole) ts name) → first_left value conf ≡ undefined_name ts conf
go_on before [] whole ts value e h = refl
go_on before (item ∷ more) whole ts value e h =
    let rest = go_on (before ++ item ∷ []) more whole ts value (e ∙ sym (append_assoc before (item ∷ []) more)) h in
    let some : is_some (value_of item.name.text (settings_of whole)) ≡ true = value_some whole item.name.text ∙ ap (λ (c : List ConfItem). has_item c item.name.text) e ∙ has_own before item more in
    ap (λ (o : Option ℕ). cond (is_some o) (Some item.name.at) (first_left value more)) (h item.name.text)
    ∙ one_by (declares false ts item.name.text) (value_of item.name.text (settings_of whole)) item.name.at (first_left value more) (undefined_name ts more) some rest

pub first_undefined : (conf : List ConfItem) (ts : List Lexeme) (value : List ℕ → Option ℕ) → ((name : List ℕ) → value name ≡ pending (settings_of conf) ts name) → first_left value conf ≡ undefined_name ts conf
first_undefined conf ts value h = go_on [] conf conf ts value refl h
