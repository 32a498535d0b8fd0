-- Each list of tokens is names and values, or is refused.
use Rattle.std.proofs.Common.{◌≡◌, ◌≢◌, ℕ, zero, suc, ◌+◌, ◌<◌, ◌≤◌, ◌⊎◌, inl, inr, Bool, true, false, List, [], ◌∷◌, ◌++◌, length, Option, Some, None, slice_get, refl, sym, ◌∙◌, arith}
use Rattle.std.specs.Prelude.{codes}
use Rattle.std.proofs.lemmas.Bool.{cases_lt}
use Rattle.dap_base.specs.declared.text.Place.{Place}
use Rattle.expr_grammar.specs.declared.code.Name.{Name}
use Rattle.expr_grammar.specs.declared.token.TokenKind.{TokenKind}
use Rattle.expr_grammar.specs.declared.token.TokenKind.TheVariants as kinds
use Rattle.expr_grammar.specs.Lexeme.{Lexeme}
use Rattle.expr_grammar.specs.Refusal.{place_of}
use Rattle.dbgconf_text.specs.declared.conf.ConfItem.{ConfItem}
use Rattle.dbgconf_text.specs.declared.conf.ConfFault.TheVariants.{Unexpected, Repeated}
use Rattle.dbgconf_text.specs.Conf.{IsConf, IsRepeatedFirst, IsUnexpectedFirst, has_item}
use Rattle.dbgconf_text.specs.Turns.{IsNameAt, IsNext, IsRefusal, Stands, is_mark_of, token_number}
use Rattle.dbgconf_text.proofs.Turns as turns

get_some : (ts : List Lexeme) (i : ℕ) → i < length ts → (a : Lexeme) × (slice_get ts i ≡ Some a)
get_some [] i lt = absurd (omega (arith, lt))
get_some (k ∷ ts) zero lt = (k, refl)
get_some (k ∷ ts) (suc i) lt = get_some ts i (omega (arith, lt))

-- the tokens are refused
abbrev pub AreRefused : List Lexeme → Type 0
AreRefused ts = ((i : ℕ) × IsUnexpectedFirst ts i) ⊎ ((i : ℕ) × IsRepeatedFirst ts i)

unexpected_of : (ts : List Lexeme) (at : Place) → IsRefusal ts (Unexpected at) → AreRefused ts
unexpected_of ts at r = inl (r.0, r.1)

repeated_of : (ts : List Lexeme) (at : Place) → IsRefusal ts (Repeated at) → AreRefused ts
repeated_of ts at r = inr (r.0, r.1)

module _ (ts : List Lexeme) (i : ℕ) (conf : List ConfItem) (s : Stands ts i conf) where
  abbrev Turn : Type 0
  Turn = ((item : ConfItem) × IsNext ts i conf item) ⊎ AreRefused ts

  module _ (n : Name) (name : IsNameAt ts i n) (fresh : has_item conf n.text ≡ false) where
    by_semi : (v : ℕ) → is_mark_of (codes "=") (slice_get ts (i + 1)) ≡ true → token_number (slice_get ts (i + 2)) ≡ Some v → (b : Bool) → is_mark_of (codes ";") (slice_get ts (i + 3)) ≡ b → Turn
    by_semi v eq num true e = inl (record { name = n; value = v }, turns.next_item ts i conf s n name fresh eq v num e)
    by_semi v eq num false e = inr (unexpected_of ts (place_of ts (i + 3)) (turns.refused_semi ts i conf s n name fresh eq v num (place_of ts (i + 3)) e refl))

    by_number : is_mark_of (codes "=") (slice_get ts (i + 1)) ≡ true → (o : Option ℕ) → token_number (slice_get ts (i + 2)) ≡ o → Turn
    by_number eq None e = inr (unexpected_of ts (place_of ts (i + 2)) (turns.refused_number ts i conf s n name fresh eq (place_of ts (i + 2)) e refl))
    by_number eq (Some v) e = by_semi v eq e (is_mark_of (codes ";") (slice_get ts (i + 3))) refl

    by_equals : (b : Bool) → is_mark_of (codes "=") (slice_get ts (i + 1)) ≡ b → Turn
    by_equals false e = inr (unexpected_of ts (place_of ts (i + 1)) (turns.refused_equals ts i conf s n name fresh (place_of ts (i + 1)) e refl))
    by_equals true e = by_number e (token_number (slice_get ts (i + 2))) refl

  by_fresh : (a : Lexeme) → slice_get ts i ≡ Some a → a.kind ≡ kinds.Name → (b : Bool) → has_item conf a.text ≡ b → Turn
  by_fresh a at kind true e = inr (repeated_of ts (place_of ts i) (turns.refused_repeated ts i conf s a (place_of ts i) at kind e refl))
  by_fresh a at kind false e =
      let n : Name = record { text = a.text; at = a.at } in
      let name : IsNameAt ts i n = (a, at, record { kind = kind; text_is = refl; at_is = refl }) in
      by_equals n name e (is_mark_of (codes "=") (slice_get ts (i + 1))) refl

  refuse : (a : Lexeme) → slice_get ts i ≡ Some a → a.kind ≢ kinds.Name → Turn
  refuse a at other = inr (unexpected_of ts (place_of ts i) (turns.refused_name ts i conf s a (place_of ts i) at other refl))

  by_kind : (a : Lexeme) → slice_get ts i ≡ Some a → (k : TokenKind) → a.kind ≡ k → Turn
  by_kind a at kinds.Name e = by_fresh a at e (has_item conf a.text) refl
  by_kind a at kinds.Number e = refuse a at (λ is. let x : kinds.Number ≡ kinds.Name = sym e ∙ is in cc)
  by_kind a at kinds.Text e = refuse a at (λ is. let x : kinds.Text ≡ kinds.Name = sym e ∙ is in cc)
  by_kind a at kinds.Mark e = refuse a at (λ is. let x : kinds.Mark ≡ kinds.Name = sym e ∙ is in cc)

  turn : i < length ts → Turn
  turn lt = let a = get_some ts i lt in by_kind a.0 a.1 a.0.kind refl

go_on : (n : ℕ) (ts : List Lexeme) (i : ℕ) (conf : List ConfItem) → Stands ts i conf → length ts ≤ i + n → ((conf : List ConfItem) × IsConf ts conf) ⊎ AreRefused ts
go_on zero ts i conf s le = inl (conf, turns.is_conf ts i conf s (omega (arith, le)))
go_on (suc n) ts i conf s le =
    elim (cases_lt i (length ts)) [
      | inl lt ↦ elim (turn ts i conf s lt) [
        | inl next ↦ go_on n ts (i + 4) (conf ++ next.0 ∷ []) (turns.stands_on ts i (i + 4) conf (conf ++ next.0 ∷ []) next.0 s next.1 refl refl) (omega (arith, le))
        | inr refused ↦ inr refused
      ]
      | inr ge ↦ inl (conf, turns.is_conf ts i conf s ge)
    ]

pub conf_or_fault : (ts : List Lexeme) → ((conf : List ConfItem) × IsConf ts conf) ⊎ AreRefused ts
conf_or_fault ts = go_on (length ts) ts 0 [] (turns.starts ts [] refl) (omega arith)
