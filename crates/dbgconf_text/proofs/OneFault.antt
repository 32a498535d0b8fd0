-- A text has one fault at most.
use Rattle.std.proofs.Common.{◌≡◌, ◌≢◌, ◌∙◌, ℕ, List, Result, Err, Ok, ap, refl, sym, subst}
use Rattle.dap_base.specs.declared.text.Place.{Place}
use Rattle.expr_grammar.specs.declared.token_list.TokenError.TheVariants as tokens
use Rattle.expr_grammar.specs.Lexeme.{Lexeme}
use Rattle.expr_grammar.specs.Lexing.{IsFirstBad, place_at}
use Rattle.expr_grammar.specs.Refusal.{place_of}
use Rattle.expr_grammar.proofs.OneDivision.{gives_bad, gives_tokens, not_both as no_bad}
use Rattle.dbgconf_text.specs.declared.conf.ConfItem.{ConfItem}
use Rattle.dbgconf_text.specs.declared.conf.ConfFault.{ConfFault}
use Rattle.dbgconf_text.specs.declared.conf.ConfFault.TheVariants as conf
use Rattle.dbgconf_text.specs.Conf.{AnswersText, AnswersTokens, cut, bad, no_memory}
use Rattle.dbgconf_text.proofs.OneRefusal.{one_repeated, one_unexpected, not_both}

abbrev faulty : ConfFault → Result (List ConfItem) ConfFault
faulty f = Err f

same_faulty : (a b : ConfFault) → faulty a ≡ faulty b → a ≡ b
same_faulty a b e = cc

-- tokens have one fault
of_tokens : (ts : List Lexeme) (a b : ConfFault) → AnswersTokens ts (Err a) → AnswersTokens ts (Err b) → a ≢ conf.OutOfMemory → b ≢ conf.OutOfMemory → a ≡ b
of_tokens ts conf.OutOfMemory b p q x y = absurd (x refl)
of_tokens ts (conf.BadToken at) b p q x y = absurd p
of_tokens ts (conf.Unexpected at) conf.OutOfMemory p q x y = absurd (y refl)
of_tokens ts (conf.Unexpected at) (conf.BadToken there) p q x y = absurd q
of_tokens ts (conf.Unexpected at) (conf.Unexpected there) p q x y =
    ap conf.Unexpected (p.2 ∙ ap (place_of ts) (one_unexpected ts p.0 q.0 p.1.unexpected q.1.unexpected) ∙ sym q.2)
of_tokens ts (conf.Unexpected at) (conf.Repeated there) p q x y = absurd (not_both ts p.0 q.0 p.1 q.1)
of_tokens ts (conf.Repeated at) conf.OutOfMemory p q x y = absurd (y refl)
of_tokens ts (conf.Repeated at) (conf.BadToken there) p q x y = absurd q
of_tokens ts (conf.Repeated at) (conf.Unexpected there) p q x y = absurd (not_both ts q.0 p.0 q.1 p.1)
of_tokens ts (conf.Repeated at) (conf.Repeated there) p q x y = ap conf.Repeated (p.2 ∙ ap (place_of ts) (one_repeated ts p.0 q.0 p.1 q.1) ∙ sym q.2)

-- a text has one first bad token
same_bad : (text : List ℕ) (n m : ℕ) → IsFirstBad text n → IsFirstBad text m → place_at text n ≡ place_at text m
same_bad text n m first other = gives_bad text (Err (tokens.BadToken (place_at text n))) (n, first, refl) m other

pub one_fault : (text : List ℕ) (a b : ConfFault) → AnswersText text (Err a) → AnswersText text (Err b) → a ≢ conf.OutOfMemory → b ≢ conf.OutOfMemory → a ≡ b
one_fault text a b p q x y = elim p [
  | cut ts are h ↦ elim q [
    | cut us them k ↦ of_tokens ts a b h (subst (λ (l : List Lexeme). AnswersTokens l (Err b)) (gives_tokens text (Ok us) them ts are) k) x y
    | bad n first e ↦ absurd (no_bad text ts n are first)
    | no_memory e ↦ absurd (y (same_faulty b conf.OutOfMemory e))
  ]
  | bad n first e ↦ elim q [
    | cut us them k ↦ absurd (no_bad text us n them first)
    | bad m other f ↦ same_faulty a b (e ∙ ap (λ (at : Place). faulty (conf.BadToken at)) (same_bad text n m first other) ∙ sym f)
    | no_memory f ↦ absurd (y (same_faulty b conf.OutOfMemory f))
  ]
  | no_memory e ↦ absurd (x (same_faulty a conf.OutOfMemory e))
]
