-- From statement to statement of a text in which values are replaced. No public clause names these.
use Rattle.std.specs.Prelude.{◌≡◌, ℕ, Bool, true, false, ◌&&◌, suc, ◌+◌, ◌-◌, ◌≤◌, ◌++◌, IsUtf8, length, take, drop}
use Rattle.std.specs.Prelude.{List, [], ◌∷◌, codes, option_map, is_some, Option, Some, None, if◌then◌else◌}
use Rattle.std.specs.Str.{bytes_eq, IsCharBoundary}
use Rattle.dap_base.specs.declared.text.Place.{Place}
use Rattle.text_lines.specs.Hex.{hex}
use Rattle.expr_grammar.specs.declared.parse.ParseError.{ParseError}
use Rattle.expr_grammar.specs.declared.parse.ParseError.TheVariants as parsing
use Rattle.expr_grammar.specs.Lexeme.{Lexeme}
use Rattle.expr_grammar.specs.Grammar.{ReadsCode}
use Rattle.expr_grammar.specs.Lexing.{Divides}
use Rattle.expr_grammar.specs.Reading.{is_mark}
use Rattle.expr_grammar.specs.Tree.{StmtTree}
use Rattle.dbgconf_text.specs.declared.conf.ConfItem.{ConfItem}
use Rattle.dbgconf_text.specs.Cuts.{Setting, Cut, cuts, semicolon, spliced_text, value_of}
use Rattle.dbgconf_text.specs.Replacing.{declares}

-- whether memory was refused
abbrev pub is_memory : ParseError → Bool
is_memory (parsing.Unexpected at) = false
is_memory (parsing.TooDeep at) = false
is_memory parsing.OutOfMemory = true

-- ---- statement by statement

-- how many tokens the first statement has
abbrev pub statement_len : List Lexeme → ℕ
statement_len [] = 0
statement_len (k ∷ ts) = if is_mark (codes ";") k then 1 else suc (statement_len ts)

-- the value that is set for a name, where it isn't declared before
abbrev pub pending : List Setting → List Lexeme → List ℕ → Option ℕ
pending set before name = if declares false before name then None else value_of name set

-- What is put into a statement, where names have these values.
abbrev pub cut_of : (List ℕ → Option ℕ) → List Lexeme → Option Cut
cut_of value (k ∷ n ∷ e ∷ ts) =
    if is_mark (codes "__var") k then option_map (λ v. record { from = e.start + 1; to = semicolon ts; value = v }) (value n.text) else None
cut_of value ts = None

-- the values that names have after a statement: one that is declared there has none
abbrev pub left_after : (List ℕ → Option ℕ) → List Lexeme → List ℕ → Option ℕ
left_after value (k ∷ n ∷ e ∷ ts) name = if is_mark (codes "__var") k && bytes_eq n.text name then None else value name
left_after value ts name = value name

-- the place of the first name that still has a value
abbrev pub first_left : (List ℕ → Option ℕ) → List ConfItem → Option Place
first_left value [] = None
first_left value (item ∷ more) = if is_some (value item.name.text) then Some item.name.at else first_left value more

-- The cut lies in what is left of a text, between characters.
pub record CanCut (text rest : List ℕ) (c : Cut) : Type 0 where
  pub from_low : length text - length rest ≤ c.from
  pub to_low : c.from ≤ c.to
  pub to_in : c.to ≤ length text
  pub first_cut : IsCharBoundary rest (c.from - (length text - length rest))
  pub second_cut : IsCharBoundary (drop (c.from - (length text - length rest)) rest) (c.to - c.from)

-- what is left of the text after a statement with this cut
abbrev pub rest_after : List ℕ → List ℕ → Option Cut → List ℕ
rest_after text rest None = rest
rest_after text rest (Some c) = drop (c.to - c.from) (drop (c.from - (length text - length rest)) rest)

-- what is put out by then
abbrev pub out_after : List ℕ → List ℕ → List ℕ → Option Cut → List ℕ
out_after text rest out None = out
out_after text rest out (Some c) = out ++ (take (c.from - (length text - length rest)) rest ++ 32 ∷ hex c.value)

-- whether a `__var` stands before what follows these tokens
abbrev pub flag : Bool → List Lexeme → Bool
flag after [] = after
flag after (k ∷ ts) = flag (is_mark (codes "__var") k) ts

-- The text up to a token is put out, with its values. What is left of the text begins at or before the tokens that are left, which are
-- statements.
pub record Splicing (text out rest : List ℕ) (all : List Lexeme) (n : ℕ) (set : List Setting) : Type 0 where
  pub some : n ≤ length all
  pub utf8 : IsUtf8 rest
  pub within : length rest ≤ length text
  pub back : rest ≡ drop (length text - length rest) text
  pub offset : ℕ
  pub low : length text - length rest ≤ offset
  pub divides : Divides text offset (drop n all) (length text)
  pub code : List StmtTree
  pub reads : ReadsCode (drop n all) code
  pub left : List Setting
  pub values : (name : List ℕ) → value_of name left ≡ pending set (take n all) name
  pub apart : flag false (take n all) ≡ false
  pub so_far : out ++ spliced_text text (length text - length rest) (cuts left (drop n all)) ≡ spliced_text text 0 (cuts set all)
