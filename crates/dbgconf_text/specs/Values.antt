-- Numbers that are found by their names. No public clause names these.
use Rattle.std.specs.Prelude.{◌≡◌, ℕ, List, Option, is_some}
use Rattle.indexmap.specs.IndexMap.{get_by_text}
use Rattle.dbgconf_text.specs.declared.conf.ConfItem.{ConfItem}
use Rattle.dbgconf_text.specs.declared.values.NamedValues.{NamedValues}
use Rattle.dbgconf_text.specs.Conf.{has_item}

-- the number of a name
abbrev pub value_in : NamedValues → List ℕ → Option ℕ
value_in values name = get_by_text values.numbers name

-- those that have a number are the names of the list
abbrev pub HasNames : NamedValues → List ConfItem → Type 0
HasNames values conf = (name : List ℕ) → is_some (value_in values name) ≡ has_item conf name
