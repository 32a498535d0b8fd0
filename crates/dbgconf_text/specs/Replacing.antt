-- The text of debug variables with the values of a list of names and values.
use Rattle.std.specs.Prelude.{◌≡◌, ℕ, Bool, false, ◌||◌, ◌&&◌, List, [], ◌∷◌, map, codes, Option, Some, None, Result, Ok, Err, if◌then◌else◌, ⊤}
use Rattle.std.specs.Str.{bytes_eq}
use Rattle.dap_base.specs.declared.text.Place.{Place}
use Rattle.expr_grammar.specs.Lexeme.{Lexeme}
use Rattle.expr_grammar.specs.Grammar.{ReadsCode}
use Rattle.expr_grammar.specs.Lexing.{AreTokensOf}
use Rattle.expr_grammar.specs.Reading.{is_mark}
use Rattle.expr_grammar.specs.Refusal.{IsAccepted}
use Rattle.expr_grammar.specs.Tree.{StmtTree}
use Rattle.expr_grammar.specs.Bare.{bare_code}
use Rattle.expr_grammar.specs.declared.limit.Span.TheVariants.{Statement}
use Rattle.dbgconf_text.specs.declared.conf.ConfItem.{ConfItem}
use Rattle.dbgconf_text.specs.declared.replacing.ReplaceFault.{ReplaceFault}
use Rattle.dbgconf_text.specs.declared.replacing.ReplaceFault.TheVariants.{UndefinedName, OutOfMemory}
use Rattle.dbgconf_text.specs.Cuts.{AreSmall, Setting, cuts, spliced_text, with_values}

-- a name and its value without the place of the name
abbrev pub setting_of : ConfItem → Setting
setting_of item = record { name = item.name.text; value = item.value }

-- names and values without places
abbrev pub settings_of : List ConfItem → List Setting
settings_of = map setting_of

-- Whether a `__var` of the tokens declares the name: the name is the token after it. `after` says whether a `__var` stands before these tokens.
abbrev pub declares : Bool → List Lexeme → List ℕ → Bool
declares after [] name = false
declares after (k ∷ ts) name = (after && bytes_eq k.text name) || declares (is_mark (codes "__var") k) ts name

-- the place of the first name of the list that the tokens do not declare
abbrev pub undefined_name : List Lexeme → List ConfItem → Option Place
undefined_name ts [] = None
undefined_name ts (item ∷ more) = if declares false ts item.name.text then undefined_name ts more else Some item.name.at

-- the tokens are code, of which none is too deep
abbrev pub AreCode : List Lexeme → Type 0
AreCode ts = (code : List StmtTree) × IsAccepted ReadsCode Statement ts code

-- what is answered where the tokens are code: the first name that is not declared, or else the text with the values
abbrev pub AnswersCode : List ℕ → List Lexeme → List ConfItem → Result (List ℕ) ReplaceFault → Type 0
AnswersCode text ts conf (Ok new) = (undefined_name ts conf ≡ None) × (new ≡ spliced_text text 0 (cuts (settings_of conf) ts))
AnswersCode text ts conf (Err (UndefinedName at)) = undefined_name ts conf ≡ Some at
AnswersCode text ts conf (Err OutOfMemory) = ⊤

-- What is answered: the text as it is, where it is no code; and else what is answered to code. Apart from memory there is one such answer (`laws::one_replacement`).
pub data Replaces (text : List ℕ) (conf : List ConfItem) (answer : Result (List ℕ) ReplaceFault) : Type 0 where
  code : (ts : List Lexeme) → AreTokensOf text ts → AreCode ts → AnswersCode text ts conf answer → Replaces text conf answer
  no_code : ((ts : List Lexeme) → AreTokensOf text ts → AreCode ts → ⊥) → answer ≡ Ok text → Replaces text conf answer
  no_memory : answer ≡ Err OutOfMemory → Replaces text conf answer

-- Where the text is code, the new text is code too: apart from places that of the old one, with the values of the list.
abbrev pub HasValues : List ℕ → List ConfItem → List ℕ → Type 0
HasValues text conf new = (ts : List Lexeme) (code : List StmtTree) → AreSmall (settings_of conf) → AreTokensOf text ts → IsAccepted ReadsCode Statement ts code
    → (us : List Lexeme) × (trees : List StmtTree) × AreTokensOf new us × IsAccepted ReadsCode Statement us trees
    × (bare_code trees ≡ bare_code (with_values (settings_of conf) code))
