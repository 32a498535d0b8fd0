-- Where tokens are refused, and what a parser answers.
use Rattle.std.specs.Prelude.{◌≡◌, ℕ, zero, suc, ◌+◌, ◌-◌, ◌<◌, ◌≤◌, List, [], ◌∷◌, ◌++◌, length, take, count_by, Result, Ok, Err, codes, ⊤}
use Rattle.std.specs.List.{after_last}
use Rattle.dap_base.specs.declared.text.Place.{Place}
use Rattle.expr_grammar.specs.declared.limit.Span.{Span}
use Rattle.expr_grammar.specs.declared.limit.Span.TheVariants.{Text, Statement}
use Rattle.expr_grammar.specs.declared.parse.ParseError.{ParseError}
use Rattle.expr_grammar.specs.declared.parse.ParseError.TheVariants.{Unexpected, TooDeep, OutOfMemory}
use Rattle.expr_grammar.specs.Lexeme.{Lexeme}
use Rattle.expr_grammar.specs.Grammar.{IsMark}
use Rattle.expr_grammar.specs.Reading.{is_mark}

-- ---- unexpected tokens

-- something that R reads begins with these tokens
pub record Begins {X : Type 0} (R : List Lexeme → X → Type 0) (ts : List Lexeme) : Type 0 where
  pub more : List Lexeme
  pub made : X
  pub is : R (ts ++ more) made

-- the first token such that nothing that R reads begins with the tokens up to it, or the end
pub record IsUnexpected {X : Type 0} (R : List Lexeme → X → Type 0) (ts : List Lexeme) (i : ℕ) : Type 0 where
  pub within : i ≤ length ts
  pub begins : Begins R (take i ts)
  pub none : i < length ts → Begins R (take (i + 1) ts) → ⊥
  pub not_whole : i ≡ length ts → (x : X) → R ts x → ⊥

-- ---- tokens that are too deep

-- Of these tokens, those that are counted together with the next: all, or those after the last `;`.
abbrev pub counted_with_next : Span → List Lexeme → List Lexeme
counted_with_next Text ts = ts
counted_with_next Statement ts = after_last (is_mark (codes ";")) ts

-- how many parentheses are open after these tokens
abbrev pub open_after : List Lexeme → ℕ
open_after ts = count_by (is_mark (codes "(")) ts - count_by (is_mark (codes ")")) ts

-- after these tokens, the next is the 513th, or the 65th parenthesis open at once
pub data IsOneTooMany (before : List Lexeme) (next : Lexeme) : Type 0 where
  token : length before ≡ 512 → IsOneTooMany before next
  parenthesis : IsMark (codes "(") next → open_after before ≡ 64 → IsOneTooMany before next

-- the token at this index is too deep
pub record IsDeep (span : Span) (ts : List Lexeme) (i : ℕ) : Type 0 where
  pub before : List Lexeme
  pub here : Lexeme
  pub after : List Lexeme
  pub parts : ts ≡ before ++ here ∷ after
  pub index : length before ≡ i
  pub over : IsOneTooMany (counted_with_next span before) here

-- no token before this index is too deep
abbrev pub NoneDeepBefore : Span → List Lexeme → ℕ → Type 0
NoneDeepBefore span ts i = (j : ℕ) → j < i → IsDeep span ts j → ⊥

-- ---- places

-- the place just past a token
abbrev pub past : Lexeme → Place
past k = record { line = k.at.line; column = k.at.column + length k.text }

-- the place of the token at an index; at the end, just past the last token, or 1:1 where there is none
abbrev pub place_of : List Lexeme → ℕ → Place
place_of [] i = record { line = 1; column = 1 }
place_of (k ∷ ts) zero = k.at
place_of (k ∷ []) (suc i) = past k
place_of (k ∷ j ∷ ts) (suc i) = place_of (j ∷ ts) i

-- ---- answers

-- the tokens are those of x, and none is too deep
pub record IsAccepted {X : Type 0} (R : List Lexeme → X → Type 0) (span : Span) (ts : List Lexeme) (x : X) : Type 0 where
  pub reads : R ts x
  pub none_deep : NoneDeepBefore span ts (length ts)

-- the token at this index, or the end, is unexpected, and no token up to it is too deep
pub record IsUnexpectedFirst {X : Type 0} (R : List Lexeme → X → Type 0) (span : Span) (ts : List Lexeme) (i : ℕ) : Type 0 where
  pub unexpected : IsUnexpected R ts i
  pub none_deep : NoneDeepBefore span ts (i + 1)

-- the token at this index is the first that is too deep, and none before it is unexpected
pub record IsDeepFirst {X : Type 0} (R : List Lexeme → X → Type 0) (span : Span) (ts : List Lexeme) (i : ℕ) : Type 0 where
  pub deep : IsDeep span ts i
  pub first : NoneDeepBefore span ts i
  pub begins : Begins R (take i ts)

-- What a parser answers. R reads lists of tokens, `view` gives what a value of the program stands for.
module _ {V X : Type 0} (view : V → X) (R : List Lexeme → X → Type 0) (span : Span) (ts : List Lexeme) where
  -- the tree of the tokens, the first token that is unexpected or too deep, or that memory ran out
  abbrev pub AnswersParse : Result V ParseError → Type 0
  AnswersParse (Ok v) = IsAccepted R span ts (view v)
  AnswersParse (Err (Unexpected at)) = (i : ℕ) × IsUnexpectedFirst R span ts i × (at ≡ place_of ts i)
  AnswersParse (Err (TooDeep at)) = (i : ℕ) × IsDeepFirst R span ts i × (at ≡ place_of ts i)
  AnswersParse (Err OutOfMemory) = ⊤

-- this value, unless memory ran out
abbrev pub Accepts : {V X : Type 0} → (V → X) → X → Result V ParseError → Type 0
Accepts view x (Ok v) = view v ≡ x
Accepts view x (Err OutOfMemory) = ⊤
Accepts view x (Err (Unexpected at)) = ⊥
Accepts view x (Err (TooDeep at)) = ⊥

-- this error, unless memory ran out
abbrev pub Refuses : {V : Type 0} → ParseError → Result V ParseError → Type 0
Refuses error (Ok v) = ⊥
Refuses error (Err OutOfMemory) = ⊤
Refuses error (Err reported) = reported ≡ error
