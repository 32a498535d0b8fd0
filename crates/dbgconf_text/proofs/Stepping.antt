-- A turn from statement to statement, by the tokens and the values of the program.
use Rattle.std.proofs.Common.{◌≡◌, ℕ, ◌+◌, ◌-◌, ◌<◌, ◌≤◌, List, length, take, drop, Some, sym, ap, subst, ◌∙◌, arith}
use Rattle.std.proofs.lemmas.List.{take-map, drop-map, take_all, length-drop}
use Rattle.expr_grammar.specs.declared.token.Token.{Token}
use Rattle.expr_grammar.specs.Lexeme.{Lexeme, lexeme, lexemes}
use Rattle.expr_grammar.proofs.Limits.{lexemes_length}
use Rattle.dbgconf_text.specs.declared.values.NamedValues.{NamedValues}
use Rattle.dbgconf_text.specs.Cuts.{Setting, Cut}
use Rattle.dbgconf_text.specs.Splicing.{CanCut, Splicing, cut_of, left_after, out_after, pending, rest_after, statement_len}
use Rattle.dbgconf_text.specs.Values.{value_in}
use Rattle.dbgconf_text.proofs.Statements.{Turned, same_cut, same_left, turned}

-- the names have the values that are left after these tokens
abbrev pub Holds : NamedValues → List Setting → List Lexeme → Type 0
Holds values set before = (name : List ℕ) → value_in values name ≡ pending set before name

-- What a turn leads to: the cut of the statement can be made, and what was put and is left stands after it.
pub record Stepped (text out rest : List ℕ) (tokens own : List Token) (start : ℕ) (set : List Setting) (values : NamedValues) : Type 0 where
  pub can : (c : Cut) → cut_of (value_in values) (lexemes own) ≡ Some c → CanCut text rest c
  pub further : 0 < length own
  pub within : start + length own ≤ length tokens
  pub next : (put tail : List ℕ) → put ≡ out_after text rest out (cut_of (value_in values) (lexemes own)) → tail ≡ rest_after text rest (cut_of (value_in values) (lexemes own)) → Splicing text put tail (lexemes tokens) (start + length own) set
  pub left : (new : NamedValues) → ((name : List ℕ) → value_in new name ≡ left_after (value_in values) (lexemes own) name) → Holds new set (take (start + length own) (lexemes tokens))

module _ (text out rest : List ℕ) (tokens own : List Token) (start : ℕ) (set : List Setting) (values : NamedValues) (s : Splicing text out rest (lexemes tokens) start set) (h : Holds values set (take start (lexemes tokens))) (lt : start < length tokens)
    (own_is : own ≡ take (statement_len (lexemes (take (length tokens - start) (drop start tokens)))) (take (length tokens - start) (drop start tokens))) where
  whole : take (length tokens - start) (drop start tokens) ≡ drop start tokens
  whole = take_all (length tokens - start) (drop start tokens) (omega (arith, length-drop start tokens))

  left_lexemes : lexemes (drop start tokens) ≡ drop start (lexemes tokens)
  left_lexemes = sym (drop-map lexeme start tokens)

  own_lexemes : lexemes own ≡ take (statement_len (drop start (lexemes tokens))) (drop start (lexemes tokens))
  own_lexemes = ap lexemes (own_is ∙ ap (λ (l : List Token). take (statement_len (lexemes l)) l) whole) ∙ sym (take-map lexeme (statement_len (lexemes (drop start tokens))) (drop start tokens)) ∙ ap (λ (l : List Lexeme). take (statement_len l) l) left_lexemes

  turn : Turned text out rest (lexemes tokens) (lexemes own) start set
  turn = turned text out rest (lexemes tokens) (lexemes own) start set s (omega (arith, lexemes_length tokens, lt)) own_lexemes

  same : cut_of (value_in values) (lexemes own) ≡ cut_of (pending set (take start (lexemes tokens))) (lexemes own)
  same = same_cut (value_in values) (pending set (take start (lexemes tokens))) (lexemes own) h

  can : (c : Cut) → cut_of (value_in values) (lexemes own) ≡ Some c → CanCut text rest c
  can c e = turn.can c (sym same ∙ e)

  further : 0 < length own
  further = omega (arith, turn.some, lexemes_length own)

  within : start + length own ≤ length tokens
  within = omega (arith, turn.within, lexemes_length own, lexemes_length tokens)

  next : (put tail : List ℕ) → put ≡ out_after text rest out (cut_of (value_in values) (lexemes own)) → tail ≡ rest_after text rest (cut_of (value_in values) (lexemes own)) → Splicing text put tail (lexemes tokens) (start + length own) set
  next put tail put_is tail_is =
      let out_same : out_after text rest out (cut_of (pending set (take start (lexemes tokens))) (lexemes own)) ≡ put = ap (out_after text rest out) (sym same) ∙ sym put_is in
      let rest_same : rest_after text rest (cut_of (pending set (take start (lexemes tokens))) (lexemes own)) ≡ tail = ap (rest_after text rest) (sym same) ∙ sym tail_is in
      let at : start + length (lexemes own) ≡ start + length own = ap (λ (k : ℕ). start + k) (lexemes_length own) in
      subst (λ (k : ℕ). Splicing text put tail (lexemes tokens) k set) at
      (subst (λ (o : List ℕ). Splicing text o tail (lexemes tokens) (start + length (lexemes own)) set) out_same
      (subst (λ (r : List ℕ). Splicing text (out_after text rest out (cut_of (pending set (take start (lexemes tokens))) (lexemes own))) r (lexemes tokens) (start + length (lexemes own)) set) rest_same turn.next))

  left : (new : NamedValues) → ((name : List ℕ) → value_in new name ≡ left_after (value_in values) (lexemes own) name) → Holds new set (take (start + length own) (lexemes tokens))
  left new is name =
      let at : start + length (lexemes own) ≡ start + length own = ap (λ (k : ℕ). start + k) (lexemes_length own) in
      is name ∙ same_left (value_in values) (pending set (take start (lexemes tokens))) (lexemes own) name h ∙ turn.left name ∙ ap (λ (k : ℕ). pending set (take k (lexemes tokens)) name) at

  pub step : Stepped text out rest tokens own start set values
  step = record { can = can; further = further; within = within; next = next; left = left }
