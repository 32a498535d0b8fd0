-- One turn of reading names and values. No public clause names these.
use Rattle.std.specs.Prelude.{◌≡◌, ℕ, ◌+◌, ◌≤◌, Bool, true, false, List, length, take, drop, slice_get, Option, Some, None, Err, if◌then◌else◌}
use Rattle.std.specs.List.{IsDistinct}
use Rattle.std.specs.Str.{bytes_eq}
use Rattle.dap_base.specs.Number.{number_value}
use Rattle.expr_grammar.specs.declared.code.Name.{Name}
use Rattle.expr_grammar.specs.declared.token.TokenKind.{TokenKind}
use Rattle.expr_grammar.specs.declared.token.TokenKind.TheVariants as kinds
use Rattle.expr_grammar.specs.Lexeme.{Lexeme}
use Rattle.expr_grammar.specs.Grammar.{IsName}
use Rattle.expr_grammar.specs.Reading.{is_mark}
use Rattle.dbgconf_text.specs.declared.conf.ConfItem.{ConfItem}
use Rattle.dbgconf_text.specs.declared.conf.ConfFault.{ConfFault}
use Rattle.dbgconf_text.specs.declared.conf.ConfFault.TheVariants.{BadToken, OutOfMemory}
use Rattle.expr_grammar.specs.declared.token_list.TokenError.{TokenError}
use Rattle.expr_grammar.specs.declared.token_list.TokenError.TheVariants as tokens
use Rattle.dbgconf_text.specs.Conf.{AnswersTokens, IsItem, NoneRepeated, ReadsConf, has_item, names}

-- ---- tokens by their index

-- whether there is a token, which is this mark
abbrev pub is_mark_of : List ℕ → Option Lexeme → Bool
is_mark_of text None = false
is_mark_of text (Some k) = is_mark text k

-- whether a token is a number
abbrev pub is_number_kind : TokenKind → Bool
is_number_kind kinds.Number = true
is_number_kind _ = false

-- the number that the token is, if there is one
abbrev pub token_number : Option Lexeme → Option ℕ
token_number None = None
token_number (Some k) = if is_number_kind k.kind then number_value k.text else None

-- the token at this index is this name
abbrev pub IsNameAt : List Lexeme → ℕ → Name → Type 0
IsNameAt ts i n = (k : Lexeme) × (slice_get ts i ≡ Some k) × IsName n k

-- ---- turns

-- the tokens before this index are those of these names and values, of which no name stands twice
pub record Stands (ts : List Lexeme) (i : ℕ) (conf : List ConfItem) : Type 0 where
  pub within : i ≤ length ts
  pub reads : ReadsConf (take i ts) conf
  pub distinct : IsDistinct bytes_eq (names conf)
  pub none : NoneRepeated ts i

-- the four tokens from this index on are those of a name that is new, and its value
pub record IsNext (ts : List Lexeme) (i : ℕ) (conf : List ConfItem) (item : ConfItem) : Type 0 where
  pub within : i + 4 ≤ length ts
  pub item_is : IsItem item (take 4 (drop i ts))
  pub fresh : has_item conf item.name.text ≡ false

-- what is answered where nothing is read
abbrev pub IsRefusal : List Lexeme → ConfFault → Type 0
IsRefusal ts fault = AnswersTokens ts (Err fault)

-- why a text has no tokens, as a fault
abbrev pub token_fault : TokenError → ConfFault
token_fault (tokens.BadToken at) = BadToken at
token_fault tokens.OutOfMemory = OutOfMemory
