-- The starting values of a job are read, or have a first fault; and they are put into a set, or it does not declare one of their names.
use Rattle.std.proofs.Common.{◌⊎◌, inl, inr, ℕ, List, [], Option, Some, None, refl}
use Rattle.dap_base.specs.declared.text.Place.{Place}
use Rattle.expr_grammar.specs.Lexeme.{Lexeme}
use Rattle.expr_grammar.specs.Lexing.{AreTokensOf, IsFirstBad, place_at}
use Rattle.expr_grammar.specs.Refusal.{place_of}
use Rattle.expr_grammar.specs.declared.limit.Span.TheVariants as spans
use Rattle.expr_grammar.specs.Grammar.{ReadsCode}
use Rattle.sequence_trees.specs.Texts.{IsFaultyCode}
use Rattle.sequence_trees.proofs.TextLaws.{exact_code, not_both}
use Rattle.sequence_resolve.specs.declared.entry.SeqSet.{SeqSet}
use Rattle.dbgconf_text.specs.declared.conf.ConfItem.{ConfItem}
use Rattle.dbgconf_text.specs.Conf.{cut, bad}
use Rattle.dbgconf_text.specs.Replacing.{AreCode, no_code}
use Rattle.dbgconf_text.proofs.OneReplacement.{some_replacement}
use Rattle.dbgconf_text.proofs.SomeConf.{conf_or_fault}
use Rattle.job_check.specs.declared.answer.DbgconfKind.TheVariants as kinds
use Rattle.job_check.specs.declared.answer.Refusal.{Refusal}
use Rattle.job_check.specs.declared.answer.Refusal.TheVariants as refusals
use Rattle.job_check.specs.Values.{HasConf, HasConfFault, HasStartingValues, NoConf, NoValues}
use Rattle.expr_grammar.proofs.SomeTokens as tokens
use Rattle.sequence_trees.proofs.SomeTexts.{read_code}

-- ---- the text of the values

module _ (text : List ℕ) where
  abbrev Conf : Type 0
  Conf = ((items : List ConfItem) × HasConf (Some text) items) ⊎ ((r : Refusal) × HasConfFault text r)

  of_tokens : (ts : List Lexeme) → AreTokensOf text ts → Conf
  of_tokens ts are = elim (conf_or_fault ts) [
    | inl is ↦ inl (is.0, (ts, are, is.1))
    | inr f ↦ elim f [
      | inl u ↦ inr (refusals.Dbgconf kinds.Unexpected (place_of ts u.0), cut ts are (u.0, u.1, refl))
      | inr r ↦ inr (refusals.Dbgconf kinds.Repeated (place_of ts r.0), cut ts are (r.0, r.1, refl))
    ]
  ]

  of_bad : (n : ℕ) → IsFirstBad text n → Conf
  of_bad n first = inr (refusals.Dbgconf kinds.BadToken (place_at text n), bad n first refl)

  of_text : Conf
  of_text = elim (tokens.cut text) [ inl c ↦ of_tokens c.0 c.1 | inr b ↦ of_bad b.0 b.1 ]

pub conf_or_none : (dbgconf : Option (List ℕ)) → ((items : List ConfItem) × HasConf dbgconf items) ⊎ ((r : Refusal) × NoConf dbgconf r)
conf_or_none None = inl ([], refl)
conf_or_none (Some text) = of_text text

-- ---- the set with the values

module _ (text : List ℕ) (items : List ConfItem) (plain : SeqSet) where
  abbrev Values : Type 0
  Values = ((set : SeqSet) × HasStartingValues (Some text) items plain set) ⊎ ((r : Refusal) × NoValues (Some text) items plain r)

  not_code : (at : Place) → IsFaultyCode plain.debugvars at → (ts : List Lexeme) → AreTokensOf plain.debugvars ts → AreCode ts → ⊥
  not_code at faulty ts are is =
      not_both ReadsCode spans.Statement exact_code plain.debugvars is.0 at (record { tokens = ts; cut = are; accepted = is.1 }) faulty

  put_in : Values
  put_in = elim (read_code plain.debugvars) [
    | inl r ↦ elim (some_replacement plain.debugvars r.1.tokens items r.1.cut (r.0, r.1.accepted)) [
      | inl new ↦ inl (record { entries = plain.entries; debugvars = new.0 }, (refl, new.1))
      | inr first ↦ inr (refusals.Dbgconf kinds.UndefinedName first.0, first.1)
    ]
    | inr f ↦ inl (plain, (refl, no_code (not_code f.0 f.1) refl))
  ]

pub values_or_none : (dbgconf : Option (List ℕ)) (items : List ConfItem) (plain : SeqSet)
    → ((set : SeqSet) × HasStartingValues dbgconf items plain set) ⊎ ((r : Refusal) × NoValues dbgconf items plain r)
values_or_none None items plain = inl (plain, refl)
values_or_none (Some text) items plain = put_in text items plain
