-- What is put in the place of the values of declarations, in a text and in its code.
use Rattle.std.specs.Prelude.{ℕ, ◌+◌, ◌-◌, ◌^◌, ◌<◌, List, [], ◌∷◌, ◌++◌, Option, Some, None, codes, take, drop, if◌then◌else◌, ⊤}
use Rattle.std.specs.Str.{bytes_eq}
use Rattle.text_lines.specs.Hex.{hex}
use Rattle.expr_grammar.specs.Lexeme.{Lexeme}
use Rattle.expr_grammar.specs.Reading.{is_mark}
use Rattle.expr_grammar.specs.Tree.{Tree, Number, StmtTree, Empty, Declare, Plain}

-- a name and its value
pub record Setting : Type 0 where
  pub name : List ℕ
  pub value : ℕ

-- each value has 64 bits
abbrev pub AreSmall : List Setting → Type 0
AreSmall [] = ⊤
AreSmall (s ∷ more) = (s.value < 2 ^ 64) × AreSmall more

-- the value that is set for a name: the first one
abbrev pub value_of : List ℕ → List Setting → Option ℕ
value_of name [] = None
value_of name (s ∷ more) = if bytes_eq s.name name then Some s.value else value_of name more

-- the settings of other names
abbrev pub without : List ℕ → List Setting → List Setting
without name [] = []
without name (s ∷ more) = if bytes_eq s.name name then without name more else s ∷ without name more

-- ---- in a text

-- A number that is put in the place of what stands from one offset of a text to another.
pub record Cut : Type 0 where
  pub from : ℕ
  pub to : ℕ
  pub value : ℕ

-- where the next `;` begins
abbrev pub semicolon : List Lexeme → ℕ
semicolon [] = 0
semicolon (k ∷ ts) = if is_mark (codes ";") k then k.start else semicolon ts

-- these cuts after that of a declaration, where its name has a value: from after its `=` to its `;`
abbrev pub cut_after : Option ℕ → Lexeme → List Lexeme → List Cut → List Cut
cut_after None equals ts more = more
cut_after (Some v) equals ts more = record { from = equals.start + 1; to = semicolon ts; value = v } ∷ more

-- The cuts in tokens, from left to right: in the first declaration of each name, from after the `=` to the `;`. A declaration begins with `__var`.
abbrev pub cuts : List Setting → List Lexeme → List Cut
cuts set [] = []
cuts set (k ∷ []) = []
cuts set (k ∷ n ∷ []) = []
cuts set (k ∷ n ∷ e ∷ ts) =
    if is_mark (codes "__var") k then cut_after (value_of n.text set) e ts (cuts (without n.text set) (n ∷ e ∷ ts)) else cuts set (n ∷ e ∷ ts)

-- the text from an offset on, with a space and the number, as `0x` and its digits, in the place of each cut
abbrev pub spliced_text : List ℕ → ℕ → List Cut → List ℕ
spliced_text text here [] = drop here text
spliced_text text here (c ∷ more) = take (c.from - here) (drop here text) ++ 32 ∷ (hex c.value ++ spliced_text text c.to more)

-- ---- in code

-- the value of a declaration: the number that is set for its name, or else what it was
abbrev pub new_value : Option ℕ → Tree → Tree
new_value None e = e
new_value (Some v) e = Number v

-- The code with the values of the first declarations of these names replaced, from left to right.
abbrev pub with_values : List Setting → List StmtTree → List StmtTree
with_values set [] = []
with_values set (Empty at ∷ more) = Empty at ∷ with_values set more
with_values set (Declare n e ∷ more) = Declare n (new_value (value_of n.text set) e) ∷ with_values (without n.text set) more
with_values set (Plain at e ∷ more) = Plain at e ∷ with_values set more
