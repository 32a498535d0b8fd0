-- Names and values written as a text.
use Rattle.std.specs.Prelude.{◌≡◌, ℕ, ◌^◌, ◌<◌, List, [], ◌∷◌, ◌++◌, codes, ⊤}
use Rattle.std.specs.List.{flat_map, IsDistinct}
use Rattle.std.specs.Str.{bytes_eq}
use Rattle.text_lines.specs.Hex.{hex}
use Rattle.expr_grammar.specs.Lexeme.{Lexeme}
use Rattle.expr_grammar.specs.Lexing.{AreTokensOf}
use Rattle.expr_grammar.specs.Spelling.{IsNameText}
use Rattle.dbgconf_text.specs.declared.conf.ConfItem.{ConfItem}
use Rattle.dbgconf_text.specs.Conf.{IsConf, names}
use Rattle.dbgconf_text.specs.Replacing.{settings_of}

-- a name and its value: `NAME = 0xH;` and a line feed
abbrev pub item_bytes : ConfItem → List ℕ
item_bytes item = item.name.text ++ codes " = " ++ hex item.value ++ codes ";\n"

-- names and values, one after the other
abbrev pub conf_bytes : List ConfItem → List ℕ
conf_bytes conf = flat_map item_bytes conf

-- each name is spelled as a name, and each value has 64 bits
abbrev pub AreSpelled : List ConfItem → Type 0
AreSpelled [] = ⊤
AreSpelled (item ∷ more) = IsNameText item.name.text × (item.value < 2 ^ 64) × AreSpelled more

-- Names and values as they can be read from a text: each name is spelled as one, no name stands twice, and each value has 64 bits.
pub record AreNames (conf : List ConfItem) : Type 0 where
  pub spelled : AreSpelled conf
  pub distinct : IsDistinct bytes_eq (names conf)

-- The text is that of these names and values: what is read from it are the same, at other places.
pub record IsConfText (conf : List ConfItem) (text : List ℕ) : Type 0 where
  pub tokens : List Lexeme
  pub again : List ConfItem
  pub are : AreTokensOf text tokens
  pub is : IsConf tokens again
  pub same : settings_of again ≡ settings_of conf
