-- Names and their values as a text: `name = number ;` any number of times.
use Rattle.std.specs.Prelude.{◌≡◌, ℕ, ◌<◌, Bool, true, List, [], ◌∷◌, map, take, codes, slice_get, Some, Result, Ok, Err, ⊤}
use Rattle.std.specs.List.{IsDistinct, list_any}
use Rattle.std.specs.Str.{bytes_eq}
use Rattle.expr_grammar.specs.declared.token.TokenKind.TheVariants as kinds
use Rattle.expr_grammar.specs.Lexeme.{Lexeme}
use Rattle.expr_grammar.specs.Grammar.{IsMark, IsName, IsNumber, Then}
use Rattle.expr_grammar.specs.Lexing.{AreTokensOf, IsFirstBad, place_at}
use Rattle.expr_grammar.specs.Refusal.{IsUnexpected, place_of}
use Rattle.dbgconf_text.specs.declared.conf.ConfItem.{ConfItem}
use Rattle.dbgconf_text.specs.declared.conf.ConfFault.{ConfFault}
use Rattle.dbgconf_text.specs.declared.conf.ConfFault.TheVariants.{BadToken, Unexpected, Repeated, OutOfMemory}

-- the tokens of one name and its value: `name = number ;`
pub record IsItem (item : ConfItem) (ts : List Lexeme) : Type 0 where
  pub name : Lexeme
  pub equals : Lexeme
  pub number : Lexeme
  pub semi : Lexeme
  pub parts : ts ≡ name ∷ equals ∷ number ∷ semi ∷ []
  pub is_name : IsName item.name name
  pub is_equals : IsMark (codes "=") equals
  pub is_number : IsNumber item.value number
  pub is_semi : IsMark (codes ";") semi

-- the tokens are those of these names and values, one after the other
abbrev pub ReadsConf : List Lexeme → List ConfItem → Type 0
ReadsConf ts [] = ts ≡ []
ReadsConf ts (item ∷ more) = Then (λ front. IsItem item front) (λ rest. ReadsConf rest more) ts

-- the bytes of a name
abbrev pub item_name : ConfItem → List ℕ
item_name item = item.name.text

-- the names, in order
abbrev pub names : List ConfItem → List (List ℕ)
names = map item_name

-- whether a name stands in the list
abbrev pub has_item : List ConfItem → List ℕ → Bool
has_item conf name = list_any (λ (i : ConfItem). bytes_eq i.name.text name) conf

-- The token at this index is a name that stands before: all before it is read as names and values, of which one has its name.
pub record IsRepeated (ts : List Lexeme) (i : ℕ) : Type 0 where
  pub before : List ConfItem
  pub reads : ReadsConf (take i ts) before
  pub here : Lexeme
  pub at : slice_get ts i ≡ Some here
  pub is_name : here.kind ≡ kinds.Name
  pub again : has_item before here.text ≡ true

-- no name before this index stands before
abbrev pub NoneRepeated : List Lexeme → ℕ → Type 0
NoneRepeated ts i = (j : ℕ) → j < i → IsRepeated ts j → ⊥

-- the tokens are those of these names and values, of which no name stands twice
pub record IsConf (ts : List Lexeme) (conf : List ConfItem) : Type 0 where
  pub reads : ReadsConf ts conf
  pub distinct : IsDistinct bytes_eq (names conf)

-- the first unexpected token, or the end, before which no name is repeated
pub record IsUnexpectedFirst (ts : List Lexeme) (i : ℕ) : Type 0 where
  pub unexpected : IsUnexpected ReadsConf ts i
  pub none : NoneRepeated ts i

-- the first repeated name; what stands before it is expected
pub record IsRepeatedFirst (ts : List Lexeme) (i : ℕ) : Type 0 where
  pub repeated : IsRepeated ts i
  pub none : NoneRepeated ts i

-- what is answered to tokens: their names and values, or the first place that is unexpected or repeated
abbrev pub AnswersTokens : List Lexeme → Result (List ConfItem) ConfFault → Type 0
AnswersTokens ts (Ok conf) = IsConf ts conf
AnswersTokens ts (Err (BadToken at)) = ⊥
AnswersTokens ts (Err (Unexpected at)) = (i : ℕ) × IsUnexpectedFirst ts i × (at ≡ place_of ts i)
AnswersTokens ts (Err (Repeated at)) = (i : ℕ) × IsRepeatedFirst ts i × (at ≡ place_of ts i)
AnswersTokens ts (Err OutOfMemory) = ⊤

-- What is answered to a text: what is answered to its tokens; or its first bad token, where it has no tokens.
pub data AnswersText (text : List ℕ) (answer : Result (List ConfItem) ConfFault) : Type 0 where
  cut : (ts : List Lexeme) → AreTokensOf text ts → AnswersTokens ts answer → AnswersText text answer
  bad : (at : ℕ) → IsFirstBad text at → answer ≡ Err (BadToken (place_at text at)) → AnswersText text answer
  no_memory : answer ≡ Err OutOfMemory → AnswersText text answer

-- these names and values, unless memory ran out
abbrev pub GivesItems : List ConfItem → Result (List ConfItem) ConfFault → Type 0
GivesItems conf (Ok given) = given ≡ conf
GivesItems conf (Err OutOfMemory) = ⊤
GivesItems conf (Err fault) = ⊥

-- this fault, unless memory ran out
abbrev pub Refuses : ConfFault → Result (List ConfItem) ConfFault → Type 0
Refuses fault (Ok conf) = ⊥
Refuses fault (Err OutOfMemory) = ⊤
Refuses fault (Err reported) = reported ≡ fault
