-- Names and values that code has already.
use Rattle.std.specs.Prelude.{◌≡◌, ℕ, List, [], ◌∷◌, Option, Some, None, if◌then◌else◌}
use Rattle.std.specs.Str.{bytes_eq}
use Rattle.expr_grammar.specs.Tree.{Tree, Number, StmtTree, Empty, Declare, Plain}
use Rattle.dbgconf_text.specs.Cuts.{Setting, value_of}

-- the value of the first declaration of a name
abbrev pub first_declared : List ℕ → List StmtTree → Option Tree
first_declared name [] = None
first_declared name (Empty at ∷ more) = first_declared name more
first_declared name (Declare n e ∷ more) = if bytes_eq n.text name then Some e else first_declared name more
first_declared name (Plain at e ∷ more) = first_declared name more

-- Each number that is set for a name is the literal that the first declaration of this name has, where there is a declaration.
abbrev pub AreThere : List Setting → List StmtTree → Type 0
AreThere set code = (name : List ℕ) (value : ℕ) (e : Tree) → value_of name set ≡ Some value → first_declared name code ≡ Some e → e ≡ Number value
